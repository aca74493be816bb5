-- Fractions of whole numbers, in which the papers' formulas are written.
use Rattle.std.specs.Prelude.{◌≡◌, ℕ, zero, suc, ◌+◌, ◌*◌, ◌/◌, ◌<◌}

infix 75 ◌over◌
infixl 70 ◌⊙◌
infixl 70 ◌per◌
infixl 65 ◌⊞◌
infix 50 ◌≈◌
pub record Frac : Type 0 where
  pub num : ℕ
  pub den : ℕ

-- n / d
abbrev pub ◌over◌ : ℕ → ℕ → Frac
n over d = record { num = n; den = d }

abbrev pub whole : ℕ → Frac
whole n = n over 1

-- the product, the sum, and x / k
abbrev pub ◌⊙◌ : Frac → Frac → Frac
x ⊙ y = (x.num * y.num) over (x.den * y.den)

abbrev pub ◌⊞◌ : Frac → Frac → Frac
x ⊞ y = (x.num * y.den + y.num * x.den) over (x.den * y.den)

abbrev pub ◌per◌ : Frac → ℕ → Frac
x per k = x.num over (x.den * k)

-- x and y are the same number
pub record ◌≈◌ (x y : Frac) : Type 0 where
  pub left : 0 < x.den
  pub right : 0 < y.den
  pub cross : x.num * y.den ≡ y.num * x.den

-- f 0 + .. + f (n - 1)
unfoldable pub total_to : ℕ → (ℕ → Frac) → Frac
total_to zero f = whole 0
total_to (suc n) f = total_to n f ⊞ f n

-- how many whole parts of 1 / d are in x. Of a table's entry or a source's tonnes and grams it drops nothing: they are whole numbers of the parts that
-- they are counted in, which the proofs show (`Tables.Scaled`, `Exactness.Exactly`)
unfoldable pub parts_of : ℕ → Frac → ℕ
parts_of d x = x.num * d / x.den
