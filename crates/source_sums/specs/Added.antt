-- What the functions of this crate promise: a file's sums after a source is added, as its rule answers. Nothing here has to be believed: the walk's proofs join it to
-- the definitions.
use Rattle.std.specs.Prelude.{ℕ, List, Result, Ok, Err}
use Rattle.sums.specs.declared.answer.Emission.{Emission}
use Rattle.sums.specs.declared.answer.Refusal.{Refusal}
use Rattle.stores.specs.Rules.{StoreAnswer, handling_answer, standing_answer, aspiration_answer}
use Rattle.slots.specs.declared.store.StoreRecord.{StoreRecord}
use Rattle.slots.specs.declared.store.StoreRecord.TheVariants.{Handling, Standing, Aspiration}
use Rattle.totals.specs.declared.Totals.{Totals}
use Rattle.totals.specs.Totals.{plus_in, plus_to_in}

-- the first n emissions that a rule answers; a refusal adds none
abbrev pub plus_answer : ℕ → Totals → Result (List Emission) Refusal → Totals
plus_answer n t (Ok es) = plus_to_in t es n
plus_answer n t (Err r) = t

-- what a store record's rule answers
unfoldable pub record_answer : StoreRecord → StoreAnswer
record_answer (Handling h) = handling_answer h
record_answer (Standing s) = standing_answer s
record_answer (Aspiration a) = aspiration_answer a

abbrev pub plus_one : Totals → StoreAnswer → Totals
plus_one t (Ok e) = plus_in t e
plus_one t (Err r) = t
