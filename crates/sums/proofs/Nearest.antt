-- The figure by the whole units and what is left of one: one more where that is half a unit or more. Assumes nothing.
use Rattle.std.proofs.Common.{◌≡◌, ℕ, suc, ◌+◌, ◌-◌, ◌*◌, ◌/◌, ◌%◌, ◌^◌, ◌<◌, ◌≤◌, ap, ◌∙◌, mod-lt, div-lt_iff_lt-mul, le-div_iff_mul-le, div-add-mod', arith}
use native.Mathlib.Nat.{mod-add-mod}
use Rattle.sums.specs.Fraction.{◌over◌}
use Rattle.sums.specs.Figures.{nearest}

module _ (d x : ℕ) (z : 0 < d) where
  -- the figure, by its bounds
  figure : (n : ℕ) → n * (2 * d) ≤ 2 * x + d → 2 * x + d < suc n * (2 * d) → n ≡ nearest (x over d)
  unfolding nearest
  figure n l u =
      let p : 0 < 2 * d = omega (arith, z) in
      let a : n ≤ (2 * x + d) / (2 * d) = (le-div_iff_mul-le p).1 l in
      let b : (2 * x + d) / (2 * d) < suc n = (div-lt_iff_lt-mul p).1 u in
      omega (arith, a, b)

  pub up : d - x % d ≤ x % d → (x / d % 2 ^ 64 + 1) % 2 ^ 64 ≡ nearest (x over d) % 2 ^ 64
  up h =
      mod-add-mod (x / d) (2 ^ 64) 1
      ∙ ap (λ (n : ℕ). n % 2 ^ 64) (figure (x / d + 1) (omega (arith, h, div-add-mod' x d)) (omega (arith, mod-lt x z, div-add-mod' x d)))

  pub down : x % d < d - x % d → x / d % 2 ^ 64 ≡ nearest (x over d) % 2 ^ 64
  down h = ap (λ (n : ℕ). n % 2 ^ 64) (figure (x / d) (omega (arith, div-add-mod' x d)) (omega (arith, h, div-add-mod' x d)))

  pub none : x ≡ 0 → 0 ≡ nearest (x over d) % 2 ^ 64
  unfolding nearest
  none e =
      let p : 0 < 2 * d = omega (arith, z) in
      let f : (2 * x + d) / (2 * d) < 1 = (div-lt_iff_lt-mul p).1 (omega (arith, e, z)) in
      omega (arith, f)
