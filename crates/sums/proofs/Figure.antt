-- The figure of terms added one by one is 01's: their fractions added, and rounded once. Each term is a whole number of exact units, so the sum of
-- the fractions is as many units as the sum has; and one number has one figure, however its fraction is written. Assumes nothing.
use Rattle.std.proofs.Common.{◌≡◌, ℕ, ◌+◌, ◌*◌, ◌<◌, sym, ◌∙◌, arith, lit<}
use native.Mathlib.Nat.{mul-div-mul_right}
use Rattle.sums.specs.Choice.{sum_to}
use Rattle.sums.specs.Fraction.{Frac, ◌over◌, whole, ◌⊙◌, ◌≈◌, total_to, parts_of}
use Rattle.sums.specs.Figures.{annual_denominator, peak_denominator, nearest}
use Rattle.sums.proofs.Fractions.{≈_refl, ≈_⊙, ≈_over, total_to_parts}
use Rattle.sums.specs.Exactness.{annual_most, peak_most, sources_most, files_most, Exact, Terms, term_units, figure_of}
use Rattle.sums.proofs.Exact.{full_annual, full_peak}

pub nearest_same : {x y : Frac} → x ≈ y → nearest x ≡ nearest y
unfolding nearest
nearest_same {x} {y} e =
    let n : (2 * x.num + x.den) * y.den ≡ (2 * y.num + y.den) * x.den = omega (arith, e.cross) in
    let d : 2 * x.den * y.den ≡ 2 * y.den * x.den = omega arith in
    sym (mul-div-mul_right (2 * x.num + x.den) (2 * x.den) e.right) ∙ rw (n, d) (mul-div-mul_right (2 * y.num + y.den) (2 * y.den) e.left)

module _ (u d : ℕ) (pd : 0 < d) (pk : 0 < u * d) (x : ℕ → Frac) (n : ℕ) (same : (i : ℕ) → i < n → x i ≈ (parts_of (u * d) (x i) over (u * d))) where
  total : total_to n x ⊙ whole u ≈ (sum_to n (term_units (u * d) x) over d)
  total = ≈_over (sum_to n (term_units (u * d) x)) d pd (omega arith) (≈_⊙ (total_to_parts x (term_units (u * d) x) (u * d) pk n same) (≈_refl u 1 (lit< tt)))

  figured : Exact d n (term_units (u * d) x) → figure_of u d x n ≡ nearest (total_to n x ⊙ whole u)
  figured e = e.figure ∙ sym (nearest_same total)

-- tonnes, to the millionth
pub annual_figure_lem : (x : ℕ → Frac) (n : ℕ) → Terms (files_most * sources_most) 1000000 annual_denominator annual_most x n →
    figure_of 1000000 annual_denominator x n ≡ nearest (total_to n x ⊙ whole 1000000)
annual_figure_lem x n t = figured 1000000 annual_denominator (lit< tt) (lit< tt) x n t.same (full_annual (term_units (1000000 * annual_denominator) x) n t.few t.most)

-- grams per second, to the ten-millionth
pub peak_figure_lem : (x : ℕ → Frac) (n : ℕ) → Terms sources_most 10000000 peak_denominator peak_most x n →
    figure_of 10000000 peak_denominator x n ≡ nearest (total_to n x ⊙ whole 10000000)
peak_figure_lem x n t = figured 10000000 peak_denominator (lit< tt) (lit< tt) x n t.same (full_peak (term_units (10000000 * peak_denominator) x) n t.few t.most)
