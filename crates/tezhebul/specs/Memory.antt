-- What a listing and the rule of groups answer a caller, and leave in its memory.
use Rattle.std.specs.Prelude.{ℕ, ◌≡◌, Bool, ◌&&◌, List, leb, ℤ, length, Result, Ok, Err}
use Rattle.sums.specs.Choice.{if_then_else}
use Rattle.sums.specs.declared.answer.Refusal.{Refusal}
use Rattle.vehicle_fields.specs.declared.group.Group.{Group}
use Rattle.vehicles.specs.Rules.{group_answer}
use Rattle.slot_file.specs.declared.Answer.{Answer}
use Rattle.slot_file.specs.declared.Listing.{Listing}
use Rattle.slot_file.specs.Listing.{Listed}
use Rattle.answer_numbers.specs.Numbers.{into, numbers_of, group_numbers, group_size}
use Rattle.tezhebul.specs.Fields.{lengths, rows_of, flagged}

-- "A refused listing has length 0"; and what a listing answers
abbrev pub written_of : Result Listing Refusal → ℕ
written_of (Ok l) = l.written
written_of (Err r) = 0

abbrev pub answer_of : Result Listing Refusal → Result Answer Refusal
answer_of (Ok l) = Ok l.answer
answer_of (Err r) = Err r

-- the length and the bytes of a listing, and in `out`, where there is room for them, the numbers of what it answers
abbrev pub ListingGiven : Listed → ℕ → List ℕ → List ℕ → List ℕ → Type 0
ListingGiven l r buffer before after = (r ≡ written_of l.listing) × (buffer ≡ l.buffer) × (after ≡ into (numbers_of (answer_of l.listing)) before)

-- the numbers of a group's answer, where each slice is as long as it has to be and there is room for them; else nothing
abbrev pub GroupGiven : ℕ → (List ℕ → List ℕ → Group) → List ℕ → List ℕ → List ℤ → List ℕ → List ℕ → Bool → List ℕ → Type 0
GroupGiven flags group distances days temperatures coefficients before r after =
    (r ≡ (lengths distances days temperatures coefficients && leb group_size (length before)))
    × (after
    ≡ if_then_else (lengths distances days temperatures coefficients)
    (into (group_numbers (flagged flags (group_answer (group distances days) temperatures (rows_of coefficients)))) before)
    before)
