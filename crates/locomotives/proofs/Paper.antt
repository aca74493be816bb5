-- That the whole numbers are the paper's fractions: each formula by a term that is written as the formula is. The modes have one factor, the hours by age and
-- zone, which leaves their sum; the larger of two fractions over one denominator is that of their numbers of parts. Assumes nothing.
use Rattle.std.proofs.Common.{ℕ, zero, suc, ◌*◌, ◌<◌, ◌≤◌, mul-pos, mul-le-mul_right, mul-lt-mul_of_pos_right, le_of_mul-le-mul_right, lt_of_mul-lt-mul_right, arith, ◌≡◌, refl, ap, Bool, true, false, leb, eqb, lit<, get_or, le-leb, leb-true, leb-false}
use borrow.Author.Tests.{lt-leb}
use Rattle.sums.specs.Choice.{if_then_else}
use Rattle.sums.specs.Fraction.{Frac, ◌over◌, ◌≈◌}
use Rattle.sums.specs.Exactness.{Counted}
use Rattle.sums.proofs.Choices.{sum_to_times}
use Rattle.sums.proofs.Fractions.{≈_refl, ≈_⊙, ≈_per, ≈_over, total_to_parts}
use Rattle.locomotive_fields.specs.Fields.{mode_count}
use Rattle.locomotive_fields.specs.declared.fields.Locomotive.{Locomotive}
use Rattle.locomotives.specs.Rules.{mode_tonnes, locomotive_tonnes, larger, greatest_hourly, locomotive_peak}
use Rattle.locomotives.specs.Parts.{hourly_parts, mean_parts, larger_parts, greatest_parts, hour_parts, year_units, peak_units}
use Rattle.locomotives.proofs.Scales.{hourly_scaled, zone_scaled, age_scaled}

-- by a test, a choice of parts is the parts of a choice
choose : (t : Bool) {x y : Frac} {a b d : ℕ} → x ≈ (a over d) → y ≈ (b over d) → if_then_else t x y ≈ (if_then_else t a b over d)
unfolding if_then_else
choose true p q = p
choose false p q = q

-- the larger of two fractions, a and b parts of 1 / d
module _ {x y : Frac} {a b d : ℕ} (p : x ≈ (a over d)) (q : y ≈ (b over d)) where
  -- a / d by the denominators of both, and b / d
  left_same : x.num * y.den * d ≡ a * (x.den * y.den)
  left_same = omega (arith, ap (λ (k : ℕ). k * y.den) p.cross)

  right_same : y.num * x.den * d ≡ b * (x.den * y.den)
  right_same = omega (arith, ap (λ (k : ℕ). k * x.den) q.cross)

  ordered : leb (x.num * y.den) (y.num * x.den) ≡ leb a b
  ordered = go (leb a b) refl
    where
      go : (t : Bool) → leb a b ≡ t → leb (x.num * y.den) (y.num * x.den) ≡ t
      go true e =
          let s : x.num * y.den * d ≤ y.num * x.den * d = omega (arith, left_same, right_same, mul-le-mul_right (x.den * y.den) (leb-true a b e)) in
          le-leb (x.num * y.den) (y.num * x.den) (le_of_mul-le-mul_right s p.right)
      go false e =
          let s : y.num * x.den * d < x.num * y.den * d = omega (arith, left_same, right_same, mul-lt-mul_of_pos_right (leb-false a b e) (mul-pos p.left q.left)) in
          lt-leb (x.num * y.den) (y.num * x.den) (lt_of_mul-lt-mul_right d s)

  larger_same : larger x y ≈ (larger_parts a b over d)
  larger_same = rw ordered (choose (leb a b) q p)

module _ (l : Locomotive) (p : ℕ) where
  greatest : (n : ℕ) → greatest_hourly l p n ≈ (greatest_parts l p n over 1000)
  unfolding greatest_hourly greatest_parts
  greatest zero = record { left = lit< tt; right = lit< tt; cross = omega arith }
  greatest (suc k) = choose (eqb (get_or l.shares k 0) 0) (greatest k) (larger_same (greatest k) (hourly_scaled l p k).same)

  mode : (k : ℕ) → mode_tonnes l p k ≈ ((hourly_parts l p k * get_or l.shares k 0 * hour_parts l) over 1000000000000)
  unfolding mode_tonnes hour_parts
  mode k =
      ≈_over _ _ (lit< tt) (omega arith)
      (≈_per 1000 (lit< tt)
      (≈_⊙ (≈_⊙ (≈_⊙ (≈_⊙ (≈_⊙ (hourly_scaled l p k).same (≈_refl (get_or l.shares k 0) 1000 (lit< tt))) (≈_refl l.hours 1 (lit< tt)))
      (age_scaled l.old).same) (zone_scaled l.zone).same) (≈_refl 7 10 (lit< tt))))

  -- a substance's tonnes and rate, in exact units
  pub locomotive_counted : Counted (locomotive_tonnes l p) (locomotive_peak l p) (mean_parts l p mode_count * hour_parts l * year_units) (greatest_parts l p mode_count * peak_units)
  unfolding locomotive_tonnes locomotive_peak mean_parts
  locomotive_counted = record {
    annual =
        ≈_over _ _ (lit< tt) (omega arith)
        (rw (sum_to_times (hour_parts l) (λ (k : ℕ). hourly_parts l p k * get_or l.shares k 0) mode_count)
        at (total_to_parts (mode_tonnes l p) (λ (k : ℕ). hourly_parts l p k * get_or l.shares k 0 * hour_parts l) 1000000000000 (lit< tt) mode_count (λ (k : ℕ) (h : k < mode_count). mode k)));
    peak = ≈_over _ _ (lit< tt) (omega arith) (≈_⊙ (greatest mode_count) (≈_refl 10 36 (lit< tt)));
  }
