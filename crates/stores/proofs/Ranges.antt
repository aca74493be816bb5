-- What the range tests say: each bound is one of the tests. Assumes nothing.
use Rattle.std.proofs.Common.{◌≤◌, ◌≡◌, true, leb-true}
use Rattle.sums.proofs.Choices.{nth}
use Rattle.store_records.specs.Fields.{bulk_tests, bulk_in_range, handling_tests, handling_in_range, standing_tests, standing_in_range, aspiration_tests, aspiration_in_range}
use Rattle.store_records.specs.declared.records.Bulk.{Bulk}
use Rattle.store_records.specs.declared.records.Handling.{Handling}
use Rattle.store_records.specs.declared.records.Standing.{Standing}
use Rattle.store_records.specs.declared.records.Aspiration.{Aspiration}

pub record RangedBulk (b : Bulk) : Type 0 where
  pub dust : (1 ≤ b.dust) × (b.dust ≤ 3)
  pub material : (1 ≤ b.material) × (b.material ≤ 9)
  pub openness : (1 ≤ b.openness) × (b.openness ≤ 7)
  pub amount : b.amount ≤ 1000000

pub bulk : (b : Bulk) → bulk_in_range b ≡ true → RangedBulk b
unfolding bulk_in_range
bulk b h =
    let t = nth (bulk_tests b) h in
    record {
      dust = (leb-true 1 b.dust (t 0), leb-true b.dust 3 (t 1));
      material = (leb-true 1 b.material (t 3), leb-true b.material 9 (t 4));
      openness = (leb-true 1 b.openness (t 7), leb-true b.openness 7 (t 8));
      amount = leb-true b.amount 1000000 (t 9);
    }

pub record RangedHandling (h : Handling) : Type 0 where
  pub tested : bulk_in_range h.bulk ≡ true
  pub bulk : RangedBulk h.bulk
  pub drop : (1 ≤ h.drop) × (h.drop ≤ 8)

pub handling : (h : Handling) → handling_in_range h ≡ true → RangedHandling h
unfolding handling_in_range
handling h p =
    let t = nth (handling_tests h) p in
    record { tested = t 0; bulk = bulk h.bulk (t 0); drop = (leb-true 1 h.drop (t 1), leb-true h.drop 8 (t 2)) }

pub record RangedStanding (s : Standing) : Type 0 where
  pub tested : bulk_in_range s.bulk ≡ true
  pub bulk : RangedBulk s.bulk
  pub k6 : s.k6 ≤ 200

pub standing : (s : Standing) → standing_in_range s ≡ true → RangedStanding s
unfolding standing_in_range
standing s p =
    let t = nth (standing_tests s) p in
    record { tested = t 0; bulk = bulk s.bulk (t 0); k6 = leb-true s.k6 200 (t 1) }

pub record RangedAspiration (a : Aspiration) : Type 0 where
  pub dust : (1 ≤ a.dust) × (a.dust ≤ 3)
  pub concentration : a.concentration ≤ 1000000
  pub flow : a.flow ≤ 1000000
  pub capture : a.capture ≤ 10000
  pub hours : a.hours ≤ 8784

pub aspiration : (a : Aspiration) → aspiration_in_range a ≡ true → RangedAspiration a
unfolding aspiration_in_range
aspiration a p =
    let t = nth (aspiration_tests a) p in
    record {
      dust = (leb-true 1 a.dust (t 0), leb-true a.dust 3 (t 1));
      concentration = leb-true a.concentration 1000000 (t 3);
      flow = leb-true a.flow 1000000 (t 4);
      capture = leb-true a.capture 10000 (t 5);
      hours = leb-true a.hours 8784 (t 6);
    }
