-- No record in range gives more than a full file's sums allow, so those are exact: a table's test bounds its factor, and a formula's bound is
-- written as the formula is. Assumes nothing.
use Rattle.std.proofs.Common.{◌*◌, ◌≤◌, le_refl, sub-le, arith, ◌≡◌, true}
use Rattle.sums.proofs.Products.{◌⊗◌}
use Rattle.sums.specs.Exactness.{Bounded}
use Rattle.sums.proofs.Sources.{bounded}
use Rattle.store_records.specs.Fields.{handling_in_range, standing_in_range, aspiration_in_range}
use Rattle.store_records.specs.declared.records.Bulk.{Bulk}
use Rattle.store_records.specs.declared.records.Handling.{Handling}
use Rattle.store_records.specs.declared.records.Standing.{Standing}
use Rattle.store_records.specs.declared.records.Aspiration.{Aspiration}
use Rattle.stores.specs.Rules.{handling_peak, standing_peak, bulk_tonnes, aspiration_peak, aspiration_tonnes}
use Rattle.stores.specs.Parts.{exposure_parts, handling_parts, standing_parts, aspiration_parts}
use Rattle.stores.proofs.TableTests.{k1_scaled, k2_scaled, q_scaled, k3_scaled, k4_scaled, k5_scaled, k6_scaled, k7_scaled, drop_scaled}
use Rattle.stores.proofs.Ranges.{handling, standing, aspiration}
use Rattle.stores.proofs.Paper.{handling_counted, standing_counted, aspiration_counted}

pub exposure_most : (b : Bulk) → exposure_parts b ≤ 23 * 1000 * 100 * 10
unfolding exposure_parts
exposure_most b = (k3_scaled b.wind).most ⊗ (k4_scaled b.openness).most ⊗ (k5_scaled b.moisture).most ⊗ (k7_scaled b.grain).most

pub handling_bounded : (h : Handling) → handling_in_range h ≡ true → Bounded 1 (bulk_tonnes (handling_peak h)) (handling_peak h)
unfolding handling_parts
handling_bounded h p =
    let b = h.bulk in
    let m : handling_parts h ≤ 60375000000000000 =
    le_refl 5 ⊗ (k1_scaled b.material).most ⊗ (k2_scaled b.material).most ⊗ exposure_most b
    ⊗ (drop_scaled h.drop).most ⊗ (handling h p).bulk.amount in
    bounded 1 (handling_counted h) (omega arith) (omega arith)

pub standing_bounded : (s : Standing) → standing_in_range s ≡ true → Bounded 1 (bulk_tonnes (standing_peak s)) (standing_peak s)
unfolding standing_parts
standing_bounded s p =
    let r = standing s p in
    let m : standing_parts s ≤ 138000000000000000 =
    le_refl 6 ⊗ exposure_most s.bulk ⊗ (q_scaled s.bulk.material).most ⊗ (k6_scaled s.k6 r.k6).most ⊗ r.bulk.amount in
    bounded 1 (standing_counted s) (omega arith) (omega arith)

pub aspiration_bounded : (a : Aspiration) → aspiration_in_range a ≡ true → Bounded 1 (aspiration_tonnes (aspiration_peak a) a.hours) (aspiration_peak a)
unfolding aspiration_parts
aspiration_bounded a p =
    let r = aspiration a p in
    let m : aspiration_parts a ≤ 10000000000000000 = r.concentration ⊗ r.flow ⊗ sub-le 10000 a.capture in
    bounded 1 (aspiration_counted a) (omega (arith, m ⊗ r.hours)) (omega arith)
