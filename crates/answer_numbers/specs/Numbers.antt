-- An answer as numbers, for a caller that has no structs of ours.
use Rattle.std.specs.Prelude.{ℕ, ◌+◌, ◌-◌, ◌*◌, ◌≡◌, Bool, List, [], ◌∷◌, ◌++◌, leb, length, drop, replicate, Result, Ok, Err}
use Rattle.sums.specs.Choice.{if_then_else}
use Rattle.sums.specs.Figures.{annual_printed, peak_printed}
use Rattle.sums.specs.Answer.{number_of}
use Rattle.sums.specs.declared.answer.Refusal.{Refusal}
use Rattle.sums.specs.declared.answer.Emission.{Emission}
use Rattle.stores.specs.Rules.{StoreAnswer}
use Rattle.vehicles.specs.Rules.{emission_count, GroupAnswer}
use Rattle.locomotives.specs.Rules.{substance_count, LocomotiveAnswer}
use Rattle.slot_file.specs.Codes.{code_count}
use Rattle.slot_file.specs.declared.Answer.{Answer}

-- a number and a slot in one, and 0 where nothing is refused
abbrev pub packed : Result Unit Refusal → ℕ
packed (Ok u) = 0
packed (Err r) = 65536 * number_of r.reason + r.slot

-- "A refusal gives its number and a slot, with every figure and count zero": so many numbers in all
abbrev pub refusal_numbers : ℕ → Refusal → List ℕ
refusal_numbers size r = number_of r.reason ∷ r.slot ∷ replicate (size - 2) 0

-- how many numbers there are of a file's answer
abbrev pub answer_size : ℕ
answer_size = 5 + 2 * code_count

-- number and slot, which are 0 of an accepted file, groups, store records, locomotives, the annual figures by code, the peak figures by code
abbrev pub numbers_of : Result Answer Refusal → List ℕ
numbers_of (Ok a) = 0 ∷ 0 ∷ a.counts.groups ∷ a.counts.stores ∷ a.counts.locomotives ∷ (a.annual ++ a.peak)
numbers_of (Err r) = refusal_numbers answer_size r

-- the numbers at the start of a buffer, where they fit, and nothing else changed
unfoldable pub into : List ℕ → List ℕ → List ℕ
into l buffer = if_then_else (leb (length l) (length buffer)) (l ++ drop (length l) buffer) buffer

-- so many numbers handed over at the start of a buffer: true where it has room for them
abbrev pub Given : ℕ → List ℕ → List ℕ → Bool → List ℕ → Type 0
Given size l before r after = (r ≡ leb size (length before)) × (after ≡ into l before)

-- an emission: the substance code, then the exact annual sum and the exact peak sum, each as whole printed units and the part of one that is left, over its denominator
abbrev pub emission_numbers : Emission → List ℕ
emission_numbers e =
    e.code ∷ (annual_printed e.annual).whole ∷ (annual_printed e.annual).part ∷ (peak_printed e.peak).whole ∷ (peak_printed e.peak).part ∷ []

abbrev pub emission_size : ℕ
emission_size = 5

-- emissions, one after the other
abbrev pub emissions_numbers : List Emission → List ℕ
emissions_numbers [] = []
emissions_numbers (e ∷ es) = emission_numbers e ++ emissions_numbers es

-- how many numbers there are of a rule's answer of n emissions
abbrev pub rule_size : ℕ → ℕ
rule_size n = 2 + emission_size * n

-- number and slot, which are 0 of a source that is not refused, and what the source gives; "such a rule answers 9, then 11 ..., with zero figures and slot 0"
abbrev pub rule_numbers : ℕ → Result (List Emission) Refusal → List ℕ
rule_numbers n (Ok es) = 0 ∷ 0 ∷ emissions_numbers es
rule_numbers n (Err r) = refusal_numbers (rule_size n) r

-- a store record gives to the code of its dust alone, a group and a locomotive to the codes of their emissions
abbrev pub store_numbers : StoreAnswer → List ℕ
store_numbers (Ok e) = rule_numbers 1 (Ok (e ∷ []))
store_numbers (Err r) = rule_numbers 1 (Err r)

abbrev pub store_size : ℕ
store_size = rule_size 1

abbrev pub group_numbers : GroupAnswer → List ℕ
group_numbers = rule_numbers emission_count

abbrev pub group_size : ℕ
group_size = rule_size emission_count

abbrev pub locomotive_numbers : LocomotiveAnswer → List ℕ
locomotive_numbers = rule_numbers substance_count

abbrev pub locomotive_size : ℕ
locomotive_size = rule_size substance_count
