-- What a list of questions is told: nothing where each is answered yes, and else the refusal of the first that is answered no.
use Rattle.std.specs.Prelude.{ℕ, Bool, not, List, [], ◌∷◌, ltb, eqb, Result, Ok, Err, MatchResult}
use Rattle.sums.specs.Choice.{if_then_else}
use Rattle.sums.specs.declared.answer.Reason.{Reason}
use Rattle.sums.specs.declared.answer.Reason.TheVariants.{LinkPastEnd, Repeated, CoefficientChain}
use Rattle.sums.specs.declared.answer.Refusal.{Refusal}
use Rattle.slot_file.specs.Questions.{Question, question, slot_count}
use Rattle.slot_file.specs.Meaning.{AllYes, FirstNo}

unfoldable pub told_by : List Question → Result Unit Refusal
told_by [] = Ok tt
told_by (q ∷ qs) = if_then_else q.yes (told_by qs) (Err q.refusal)

-- the same in the words of `Meaning`, of a result that has a value where nothing is refused
abbrev pub Told : {A : Type 0} → List Question → Result A Refusal → Type 0
Told qs r = MatchResult r (λ _. AllYes qs) (FirstNo qs)

-- what a slot's read answers of questions 8 and 9, told of the slot k
abbrev pub at_slot : {A : Type 0} → ℕ → Result A Reason → Result A Refusal
at_slot k (Ok x) = Ok x
at_slot k (Err n) = Err (record { reason = n; slot = k })

-- questions 6 and 7 of a link k, by whether its slot is a source so far
abbrev pub link_asked : List ℕ → Bool → ℕ → ℕ → List Question
link_asked s known holder k = question (ltb k (slot_count s)) LinkPastEnd holder ∷ question (not known) Repeated k ∷ []

-- questions 10 and 6 of a link k to a coefficient slot
abbrev pub row_asked : List ℕ → ℕ → ℕ → List Question
row_asked s holder k = question (not (eqb k 0)) CoefficientChain holder ∷ question (ltb k (slot_count s)) LinkPastEnd holder ∷ []
