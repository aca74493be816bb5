-- What a mixed number over any d drops is a whole number of turns of 2 ^ 64 units, and a turn more or less changes none: so sums and multiples of mixed
-- numbers, and with them of two words, are those of what they stand for, whatever was dropped on the way. Assumes nothing.
use Rattle.std.proofs.Common.{◌≡◌, ℕ, ◌+◌, ◌*◌, ◌/◌, ◌%◌, ◌^◌, ◌<◌, sym, ap, ◌∙◌, mod-eq_of_lt, div-lt_iff_lt-mul, div-add-mod', arith, lit<}
use native.Mathlib.Nat.{add-mul-div_right, add-mul-mod_self_right}
use Rattle.sums.specs.Figures.{parts_in, mixed_of, units_in, words_of}
use Rattle.sums.specs.declared.mixed.Mixed.{Mixed}
use Rattle.sums.specs.declared.words.Words.{Words}

-- a mixed number by its fields
the_mixed : {s t : Mixed} → s.whole ≡ t.whole → s.part ≡ t.part → s ≡ t
the_mixed p q = λ i. record { whole = p i; part = q i }

module _ (d : ℕ) (pos : 0 < d) where
  -- w units and p parts, of which q units can be taken and leave r
  pub gathered : (w p q r : ℕ) → p ≡ r + q * d → record { whole = (w + (q + r / d)) % 2 ^ 64; part = r % d } ≡ mixed_of d (w * d + p)
  unfolding mixed_of
  gathered w p q r e =
      let f : w * d + p ≡ r + (w + q) * d = omega (arith, e) in
      the_mixed
      (ap (λ (n : ℕ). n % 2 ^ 64) (omega (arith, ap (λ (n : ℕ). n / d) f ∙ add-mul-div_right r (w + q) pos)))
      (sym (ap (λ (n : ℕ). n % d) f ∙ add-mul-mod_self_right r (w + q) d))

  -- x less its turns
  held : (x : ℕ) → x ≡ parts_in d (mixed_of d x) + x / d / 2 ^ 64 * (2 ^ 64 * d)
  unfolding mixed_of parts_in
  held x = omega (arith, div-add-mod' x d, ap (λ (n : ℕ). n * d) (div-add-mod' (x / d) (2 ^ 64)))

  turns : (x k : ℕ) → mixed_of d (x + k * (2 ^ 64 * d)) ≡ mixed_of d x
  unfolding mixed_of
  turns x k =
      let f : x + k * (2 ^ 64 * d) ≡ x + k * 2 ^ 64 * d = omega arith in
      the_mixed
      (ap (λ (n : ℕ). n % 2 ^ 64) (ap (λ (n : ℕ). n / d) f ∙ add-mul-div_right x (k * 2 ^ 64) pos) ∙ add-mul-mod_self_right (x / d) k (2 ^ 64))
      (ap (λ (n : ℕ). n % d) f ∙ add-mul-mod_self_right x (k * 2 ^ 64) d)

  mixed_plus : (a b : ℕ) → mixed_of d (parts_in d (mixed_of d a) + parts_in d (mixed_of d b)) ≡ mixed_of d (a + b)
  mixed_plus a b = sym (turns _ (a / d / 2 ^ 64 + b / d / 2 ^ 64)) ∙ ap (mixed_of d) (omega (arith, held a, held b))

  mixed_times : (x k : ℕ) → mixed_of d (parts_in d (mixed_of d x) * k) ≡ mixed_of d (x * k)
  mixed_times x k = sym (turns _ (x / d / 2 ^ 64 * k)) ∙ ap (mixed_of d) (omega (arith, ap (λ (n : ℕ). n * k) (held x)))

  -- below 2 ^ 64 units nothing is dropped
  pub mixed_exact : (x : ℕ) → x < 2 ^ 64 * d → parts_in d (mixed_of d x) ≡ x
  unfolding mixed_of parts_in
  mixed_exact x h = rw (mod-eq_of_lt ((div-lt_iff_lt-mul pos).1 h)) (div-add-mod' x d)

-- two words are a mixed number over 2 ^ 64
abbrev pub in_words : Mixed → Words
in_words m = record { high = m.whole; low = m.part }

pub words_plus : (a b : ℕ) → words_of (units_in (words_of a) + units_in (words_of b)) ≡ words_of (a + b)
unfolding words_of units_in mixed_of parts_in
words_plus a b = ap in_words (mixed_plus (2 ^ 64) (lit< tt) a b)

pub words_times : (x k : ℕ) → words_of (units_in (words_of x) * k) ≡ words_of (x * k)
unfolding words_of units_in mixed_of parts_in
words_times x k = ap in_words (mixed_times (2 ^ 64) (lit< tt) x k)

-- what passes 128 bits passes the words too
pub wrapped : (x : ℕ) → words_of (x % 2 ^ 128) ≡ words_of x
unfolding words_of mixed_of
wrapped x = sym (ap in_words (turns (2 ^ 64) (lit< tt) (x % 2 ^ 128) (x / 2 ^ 128))) ∙ ap words_of (omega arith)

pub words_exact : (x : ℕ) → x < 2 ^ 64 * 2 ^ 64 → units_in (words_of x) ≡ x
unfolding words_of units_in mixed_of parts_in
words_exact = mixed_exact (2 ^ 64) (lit< tt)
