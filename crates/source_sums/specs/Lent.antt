-- What the functions of `lent` promise: the numbers of the lent memory after a source is added, where sums are wanted.
use Rattle.std.specs.Prelude.{ℕ, Bool, List, Result, Ok, Err}
use Rattle.sums.specs.Choice.{if_then_else}
use Rattle.sums.specs.declared.answer.Emission.{Emission}
use Rattle.sums.specs.declared.answer.Reason.{Reason}
use Rattle.sums.specs.declared.answer.Refusal.{Refusal}
use Rattle.stores.specs.Rules.{StoreAnswer}
use Rattle.vehicles.specs.Rules.{emission_count, GroupAnswer}
use Rattle.locomotives.specs.Rules.{substance_count, LocomotiveAnswer}
use Rattle.slots.specs.declared.store.StoreRecord.{StoreRecord}
use Rattle.totals.specs.Lent.{plus_in, plus_to_in}
use Rattle.source_sums.specs.Added.{record_answer}

-- the first n emissions that a rule answers; a refusal adds none
abbrev pub plus_answer : ℕ → List ℕ → Result (List Emission) Refusal → List ℕ
plus_answer n l (Ok es) = plus_to_in l es n
plus_answer n l (Err r) = l

abbrev pub plus_one : List ℕ → StoreAnswer → List ℕ
plus_one l (Ok e) = plus_in l e
plus_one l (Err r) = l

-- a group, and a locomotive
unfoldable pub plus_group : Bool → List ℕ → GroupAnswer → List ℕ
plus_group summing l a = if_then_else summing (plus_answer emission_count l a) l

unfoldable pub plus_locomotive : Bool → List ℕ → LocomotiveAnswer → List ℕ
plus_locomotive summing l a = if_then_else summing (plus_answer substance_count l a) l

-- a store record's read, which may be refused
abbrev pub plus_read : List ℕ → Result StoreRecord Reason → List ℕ
plus_read l (Ok r) = plus_one l (record_answer r)
plus_read l (Err e) = l

unfoldable pub plus_store : Bool → List ℕ → Result StoreRecord Reason → List ℕ
plus_store summing l r = if_then_else summing (plus_read l r) l
