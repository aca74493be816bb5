-- The slots passed are all reached, so the rest is told of the whole.
use Rattle.std.proofs.Common.{◌≤◌, ◌-◌, ◌≡◌, List, ℕ}
use Rattle.slot_file.specs.Questions.{slot_count, reach_asks}
use Rattle.slot_file.specs.Parts.{marks_of}
use Rattle.questions.specs.Told.{told_by}
use Rattle.walk.proofs.reached.ask_reached.Given as goal

abbrev pub invariant-loop-slot : goal.invariant-loop-slot
invariant-loop-slot l = (1 ≤ l.slot) × ((ls : List ℕ) → l.reached ≡ marks_of ls → told_by (reach_asks (slot_count l.file.bytes.now - 1) 1 ls) ≡ told_by (reach_asks (slot_count l.file.bytes.now - l.slot) l.slot ls))
