-- The figure is the nearest number of units, by division alone. Assumes nothing.
use Rattle.std.proofs.Common.{◌≡◌, ℕ, ◌+◌, ◌*◌, ◌<◌, le-div_iff_mul-le, div-mul-le_self, mul-div_cancel, arith}
use native.Mathlib.Nat.{lt-div-mul-add}
use Rattle.sums.specs.Fraction.{Frac}
use Rattle.sums.specs.Figures.{nearest, Rounded}

module _ (x : Frac) (pos : 0 < x.den) where
  twice : 0 < 2 * x.den
  twice = omega arith

  half_up : (n : ℕ) → 2 * x.num + x.den ≡ 2 * (n * x.den) → nearest x ≡ n
  unfolding nearest
  half_up n e =
      let f : 2 * x.num + x.den ≡ n * (2 * x.den) = omega arith in
      rw f (mul-div_cancel n twice)

  pub rounded : Rounded (nearest x) x
  unfolding nearest
  rounded =
      let most = div-mul-le_self (2 * x.num + x.den) (2 * x.den) in
      let least = lt-div-mul-add {a = 2 * x.num + x.den} twice in
      record {
        number = pos;
        largest = λ n. le-div_iff_mul-le twice;
        above = omega (arith, most);
        below = omega (arith, least);
        half = half_up;
      }
