-- The sums of full files are exact. Terms added one by one are what their sum makes, since the turns that two words drop change none; and so many terms, none
-- above what a source can give, stay below 2 ^ 64 printed units, where neither a sum nor its figure drops anything. Assumes nothing.
use Rattle.std.proofs.Common.{◌≡◌, ℕ, zero, suc, ◌+◌, ◌*◌, ◌%◌, ◌^◌, ◌<◌, ◌≤◌, refl, ap, ◌∙◌, le_refl, lt_of_lt_of_le, mod-eq_of_lt, div-lt_iff_lt-mul, mul-le-mul, arith, lit<}
use Rattle.sums.specs.Choice.{sum_to}
use Rattle.sums.specs.Fraction.{◌over◌}
use Rattle.sums.specs.Figures.{annual_denominator, peak_denominator, units_in, words_of, parts_in, mixed_of, nearest}
use Rattle.sums.specs.Exactness.{annual_most, peak_most, sources_most, files_most, added_to, Exact}
use Rattle.sums.proofs.Choices.{sum_to_bound}
use Rattle.sums.proofs.Wrapping.{mixed_exact, words_plus, words_exact}

-- such a figure has 64 bits
figure_fits : (d : ℕ) → 0 < d → (x : ℕ) → x + d < 2 ^ 64 * d → nearest (x over d) < 2 ^ 64
unfolding nearest
figure_fits d pos x h = let p : 0 < 2 * d = omega arith in (div-lt_iff_lt-mul p).1 (omega arith)

-- a denominator that fits a word
module _ (d : ℕ) (pos : 0 < d) (word : d ≤ 2 ^ 64) where
  -- below 2 ^ 64 printed units no unit is dropped
  pub sum_exact : (x : ℕ) → x + d < 2 ^ 64 * d → units_in (words_of x) ≡ x
  sum_exact x h = let k : x < 2 ^ 64 * d = omega arith in words_exact x (lt_of_lt_of_le k (mul-le-mul (le_refl (2 ^ 64)) word))

  pub figure_exact : (x : ℕ) → x + d < 2 ^ 64 * d → nearest (units_in (words_of x) over d) % 2 ^ 64 ≡ nearest (x over d)
  figure_exact x h = rw (sum_exact x h) (mod-eq_of_lt (figure_fits d pos x h))

  -- nor by the printed units
  pub printed_exact : (x : ℕ) → x + d < 2 ^ 64 * d → parts_in d (mixed_of d (units_in (words_of x))) ≡ units_in (words_of x)
  printed_exact x h = let k : x < 2 ^ 64 * d = omega arith in rw (sum_exact x h) (mixed_exact d pos x k)

  module _ (f : ℕ → ℕ) where
    added : (n : ℕ) → added_to n f ≡ words_of (sum_to n f)
    unfolding added_to sum_to
    added zero = refl
    added (suc n) = rw (added n) (words_plus (sum_to n f) (f n))

    exact : (n : ℕ) → sum_to n f + d < 2 ^ 64 * d → Exact d n f
    exact n h = let m = added n in record { sum = ap units_in m ∙ sum_exact (sum_to n f) h; figure = rw m (figure_exact (sum_to n f) h) }

    full : (terms most : ℕ) → terms * most + d < 2 ^ 64 * d → (n : ℕ) → n ≤ terms → ((i : ℕ) → i < n → f i ≤ most) → Exact d n f
    full terms most h n l b = exact n (omega (arith, sum_to_bound most f n b, mul-le-mul l (le_refl most)))

-- the sources of 64 full files, and of one
pub full_annual : (f : ℕ → ℕ) (n : ℕ) → n ≤ files_most * sources_most → ((i : ℕ) → i < n → f i ≤ annual_most) → Exact annual_denominator n f
full_annual f = full annual_denominator (lit< tt) (omega arith) f (files_most * sources_most) annual_most (lit< tt)

pub full_peak : (f : ℕ → ℕ) (n : ℕ) → n ≤ sources_most → ((i : ℕ) → i < n → f i ≤ peak_most) → Exact peak_denominator n f
full_peak f = full peak_denominator (lit< tt) (omega arith) f sources_most peak_most (lit< tt)
