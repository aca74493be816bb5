-- What question 12 is told.
use Rattle.std.specs.Prelude.{ℕ, ◌-◌, ◌≡◌, Bool, List, Result}
use Rattle.sums.specs.declared.answer.Refusal.{Refusal}
use Rattle.slot_file.specs.Questions.{slot_count, reach_asks}
use Rattle.slot_file.specs.Parts.{marks_of}
use Rattle.questions.specs.Told.{told_by}

-- of every slot from 1 up, whatever slots the marks are of
abbrev pub ReachTold : List ℕ → List Bool → Result Unit Refusal → Type 0
ReachTold s marks v = (l : List ℕ) → marks ≡ marks_of l → v ≡ told_by (reach_asks (slot_count s - 1) 1 l)
