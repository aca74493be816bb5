-- No locomotive in range gives a code more than a full file's sums allow, so those are exact, and its answer has exactly the rule's tonnes and grams. A
-- formula's bound is written as the formula is. Assumes nothing.
use Rattle.std.proofs.Common.{ℕ, zero, suc, ◌*◌, ◌<◌, ◌≤◌, le_refl, arith, ◌≡◌, true, leb, eqb, lit<, get_or, Ok}
use Rattle.sums.specs.Choice.{if_then_else}
use Rattle.sums.specs.Answer.{no_emission, emitted}
use Rattle.sums.specs.Exactness.{Bounded, Exactly}
use Rattle.sums.proofs.Choices.{both, list_to_at, sum_to_bound}
use Rattle.sums.proofs.Products.{◌⊗◌}
use Rattle.sums.proofs.Sources.{bounded, exactly}
use Rattle.locomotive_fields.specs.Fields.{mode_count, locomotive_in_range, shares_add_up}
use Rattle.locomotive_fields.specs.declared.fields.Locomotive.{Locomotive}
use Rattle.locomotives.specs.Rules.{substance_count, locomotive_tonnes, locomotive_peak, locomotive_contribution, locomotive_emissions, locomotive_answer}
use Rattle.locomotives.specs.Parts.{hourly_parts, mean_parts, greatest_parts, hour_parts}
use Rattle.locomotives.proofs.Scales.{hourly_scaled, zone_scaled, age_scaled}
use Rattle.locomotives.proofs.Ranges.{ranged}
use Rattle.locomotives.proofs.Paper.{locomotive_counted}

pub greatest_most : (l : Locomotive) (p n : ℕ) → greatest_parts l p n ≤ 15210
unfolding greatest_parts
greatest_most l p zero = omega arith
greatest_most l p (suc k) =
    let a = greatest_parts l p k in
    both (λ (x : ℕ). x ≤ 15210) (eqb (get_or l.shares k 0) 0) (greatest_most l p k)
    (both (λ (x : ℕ). x ≤ 15210) (leb a (hourly_parts l p k)) (hourly_scaled l p k).most (greatest_most l p k))

module _ (l : Locomotive) (h : locomotive_in_range l ≡ true) where
  hour_most : hour_parts l ≤ 8784 * 12 * 12 * 7
  unfolding hour_parts
  hour_most = (ranged l h).hours ⊗ (age_scaled l.old).most ⊗ (zone_scaled l.zone).most ⊗ le_refl 7

  pub mean_most : (p n : ℕ) → n ≤ mode_count → mean_parts l p n ≤ mode_count * (15210 * 1000)
  unfolding mean_parts
  mean_most p n f =
      let s = sum_to_bound (15210 * 1000) (λ (k : ℕ). hourly_parts l p k * get_or l.shares k 0) n (λ (k : ℕ) (q : k < n). (hourly_scaled l p k).most ⊗ (ranged l h).share k (omega arith)) in
      omega arith

  module _ (p : ℕ) where
    pub locomotive_bounded : Bounded substance_count (locomotive_tonnes l p) (locomotive_peak l p)
    locomotive_bounded =
        let a : mean_parts l p mode_count * hour_parts l ≤ 76050000 * 8854272 = mean_most p mode_count (le_refl mode_count) ⊗ hour_most in
        let b = greatest_most l p mode_count in
        bounded substance_count (locomotive_counted l p) (omega arith) (omega arith)

    -- a locomotive that is not refused is answered its emissions, and each of them
    pub locomotive_exactly : shares_add_up l ≡ true → p < substance_count
        → (locomotive_answer l ≡ Ok (locomotive_emissions l)) × Exactly (get_or (locomotive_emissions l) p no_emission) (locomotive_tonnes l p) (locomotive_peak l p)
    unfolding locomotive_answer locomotive_emissions if_then_else
    locomotive_exactly b q = (
      simp (h, b),
      rw (list_to_at no_emission substance_count (λ (m : ℕ). emitted (locomotive_contribution l m)) p q)
          (exactly (locomotive_contribution l p) (lit< tt) (locomotive_counted l p) locomotive_bounded),
    )
