-- What the code's marks and sums hold, by the slots passed and by what each source gives. Nothing here has to be believed.
use Rattle.std.specs.Prelude.{ℕ, Bool, true, false, List, [], ◌∷◌, eqb, set, replicate}
use Rattle.sums.specs.Choice.{if_then_else}
use Rattle.sums.specs.Fraction.{Frac, parts_of}
use Rattle.sums.specs.Figures.{tonne_parts, gram_parts}
use Rattle.sums.specs.Answer.{Contribution}
use Rattle.slot_file.specs.Questions.{most_slots}

-- the marks of the slots, and of slot 0
abbrev pub marks_of : List ℕ → List Bool
marks_of [] = set (replicate most_slots false) 0 true
marks_of (k ∷ b) = set (marks_of b) k true

-- the parts of 1 / k that a contribution gives to the code c
unfoldable pub parts_to : (Contribution → Frac) → ℕ → ℕ → Contribution → ℕ
parts_to f k c x = if_then_else (eqb x.code c) (parts_of k (f x)) 0

-- the exact units of its tonnes and of its rate
abbrev pub annual_to : ℕ → Contribution → ℕ
annual_to = parts_to (λ (x : Contribution). x.tonnes) tonne_parts

abbrev pub peak_to : ℕ → Contribution → ℕ
peak_to = parts_to (λ (x : Contribution). x.rate) gram_parts
