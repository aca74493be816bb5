-- 01, "Figures": "The exact sum of a code, annual or peak, adds as fractions what the rules above give that code from each source, equal sources each with a term
-- of their own"; "The figure is the largest whole number of its units that isn't above the exact sum plus half a unit".
use Rattle.std.specs.Prelude.{ℕ, List, [], ◌∷◌, ◌++◌, map, eqb, ℤ, get_or, length, Result, Ok, Err}
use Rattle.sums.specs.Choice.{if_then_else, list_to}
use Rattle.sums.specs.Fraction.{Frac, whole, ◌⊙◌, ◌⊞◌}
use Rattle.sums.specs.Figures.{nearest}
use Rattle.sums.specs.Answer.{Contribution}
use Rattle.sums.specs.declared.answer.Refusal.{Refusal}
use Rattle.vehicle_fields.specs.Fields.{no_coefficients}
use Rattle.vehicles.specs.Rules.{emission_count, contribution_of}
use Rattle.stores.specs.Rules.{handling_contribution, standing_contribution, aspiration_contribution}
use Rattle.locomotive_fields.specs.declared.fields.Locomotive.{Locomotive}
use Rattle.locomotives.specs.Rules.{substance_count, locomotive_contribution}
use Rattle.slots.specs.declared.store.StoreRecord.{StoreRecord}
use Rattle.slots.specs.declared.store.StoreRecord.TheVariants.{Handling, Standing, Aspiration}
use Rattle.slot_file.specs.declared.Counts.{Counts}
use Rattle.slot_file.specs.declared.Answer.{Answer}
use Rattle.slot_file.specs.Questions.{Outcome, accepted, refused}
use Rattle.slot_file.specs.Walk.{outcome}
use Rattle.slot_file.specs.Sources.{VehicleGroup, Chains, Inventory, inventory_at}
use Rattle.slot_file.specs.Codes.{codes}

-- "Vehicle rules": what a group gives, to the code of each of its emissions
unfoldable pub group_contributions : List ℤ → VehicleGroup → List Contribution
group_contributions ts v = list_to emission_count (λ (p : ℕ). contribution_of v.group ts (get_or v.coefficients p no_coefficients) p)

-- "Store rules": what a store record gives to the code of its dust
unfoldable pub store_contributions : StoreRecord → List Contribution
store_contributions (Handling h) = handling_contribution h ∷ []
store_contributions (Standing s) = standing_contribution s ∷ []
store_contributions (Aspiration a) = aspiration_contribution a ∷ []

-- 02, U1: what a locomotive gives, to the code of each of its substances; "CO, NO2 and soot join the sums"
unfoldable pub locomotive_contributions : Locomotive → List Contribution
locomotive_contributions l = list_to substance_count (locomotive_contribution l)

-- what each of a list gives, one after the other
unfoldable pub gathered : {A : Type 0} → (A → List Contribution) → List A → List Contribution
gathered f [] = []
gathered f (x ∷ xs) = f x ++ gathered f xs

-- "what the rules above give ... from each source, equal sources each with a term of their own"
unfoldable pub contributions : Inventory → List Contribution
contributions v =
    gathered (group_contributions v.temperatures) v.groups ++ gathered store_contributions v.stores ++ gathered locomotive_contributions v.locomotives

-- the exact sum of the code c
unfoldable pub exact_sum : (Contribution → Frac) → ℕ → List Contribution → Frac
exact_sum f c [] = whole 0
exact_sum f c (x ∷ xs) = if_then_else (eqb x.code c) (f x ⊞ exact_sum f c xs) (exact_sum f c xs)

-- "Annual: whole millionths of a tonne. Peak: whole ten-millionths of a gram per second"
unfoldable pub annual_figure : List Contribution → ℕ → ℕ
annual_figure xs c = nearest (exact_sum (λ (x : Contribution). x.tonnes) c xs ⊙ whole 1000000)

unfoldable pub peak_figure : List Contribution → ℕ → ℕ
peak_figure xs c = nearest (exact_sum (λ (x : Contribution). x.rate) c xs ⊙ whole 10000000)

-- the lengths of the chains, which the counts of an accepted file are (`Demands.each_source`)
abbrev pub counts_of : Chains → Counts
counts_of c = record { groups = length c.groups; stores = length c.stores; locomotives = length c.locomotives }

-- the answer to an accepted file: the figures by code; and, by the letter, "how many vehicle groups and store records were summed", with "a third count, the length
-- of the locomotive chain"
abbrev pub summed_from : Inventory → List Contribution → Answer
summed_from v xs = record {
  annual = map (annual_figure xs) codes;
  peak = map (peak_figure xs) codes;
  counts = record { groups = length v.groups; stores = length v.stores; locomotives = length v.locomotives };
}

unfoldable pub summed : Inventory → Answer
summed v = summed_from v (contributions v)

-- "A refusal gives its number and a slot", and no figures. That they are handed over as zeros, "every figure and count zero", is said where an answer is numbers
unfoldable pub answered : List ℕ → Outcome → Result Answer Refusal
answered s (accepted c) = Ok (summed (inventory_at s c))
answered s (refused r) = Err r

unfoldable pub answer : List ℕ → Result Answer Refusal
answer s = answered s (outcome s)
