-- That nothing is lost: the answer to a record in range has exactly the rule's tonnes and grams, since they stay below what a sum holds.
-- Assumes nothing.
use Rattle.std.proofs.Common.{◌≡◌, true, lit<, Ok}
use Rattle.sums.specs.Choice.{if_then_else}
use Rattle.sums.specs.Answer.{emitted}
use Rattle.sums.specs.Exactness.{Exactly}
use Rattle.sums.proofs.Sources.{exactly}
use Rattle.store_records.specs.Fields.{handling_in_range, standing_in_range, aspiration_in_range}
use Rattle.store_records.specs.declared.records.Handling.{Handling}
use Rattle.store_records.specs.declared.records.Standing.{Standing}
use Rattle.store_records.specs.declared.records.Aspiration.{Aspiration}
use Rattle.stores.specs.Rules.{handling_peak, standing_peak, bulk_tonnes, aspiration_peak, aspiration_tonnes, handling_contribution, standing_contribution, aspiration_contribution, handling_answer, standing_answer, aspiration_answer}
use Rattle.stores.proofs.Paper.{handling_counted, standing_counted, aspiration_counted}
use Rattle.stores.proofs.Bounds.{handling_bounded, standing_bounded, aspiration_bounded}

pub handling_emitted : (h : Handling) → handling_in_range h ≡ true → handling_answer h ≡ Ok (emitted (handling_contribution h))
unfolding handling_answer if_then_else
handling_emitted h p = simp p

pub handling_exactly : (h : Handling) → handling_in_range h ≡ true → (handling_answer h ≡ Ok (emitted (handling_contribution h))) × Exactly (emitted (handling_contribution h)) (bulk_tonnes (handling_peak h)) (handling_peak h)
handling_exactly h p = (handling_emitted h p, exactly (handling_contribution h) (lit< tt) (handling_counted h) (handling_bounded h p))

pub standing_emitted : (s : Standing) → standing_in_range s ≡ true → standing_answer s ≡ Ok (emitted (standing_contribution s))
unfolding standing_answer if_then_else
standing_emitted s p = simp p

pub standing_exactly : (s : Standing) → standing_in_range s ≡ true → (standing_answer s ≡ Ok (emitted (standing_contribution s))) × Exactly (emitted (standing_contribution s)) (bulk_tonnes (standing_peak s)) (standing_peak s)
standing_exactly s p = (standing_emitted s p, exactly (standing_contribution s) (lit< tt) (standing_counted s) (standing_bounded s p))

pub aspiration_emitted : (a : Aspiration) → aspiration_in_range a ≡ true → aspiration_answer a ≡ Ok (emitted (aspiration_contribution a))
unfolding aspiration_answer if_then_else
aspiration_emitted a p = simp p

pub aspiration_exactly : (a : Aspiration) → aspiration_in_range a ≡ true → (aspiration_answer a ≡ Ok (emitted (aspiration_contribution a))) × Exactly (emitted (aspiration_contribution a)) (aspiration_tonnes (aspiration_peak a) a.hours) (aspiration_peak a)
aspiration_exactly a p = (aspiration_emitted a p, exactly (aspiration_contribution a) (lit< tt) (aspiration_counted a) (aspiration_bounded a p))
