-- What was asked of a group, and what it gave, before warm-ups were timed: question 9 over 36..63, and the minutes of the table or the heated stand's 1.5. A file with
-- byte 36 zero in every group is answered so (`proofs/Untimed.as_untimed`), and so is every file that was accepted then (`accepted_as_untimed`): 02, U2, "Old files
-- read as before".
use Rattle.std.specs.Prelude.{ℕ, ◌≡◌, Bool, true, List, [], ◌∷◌, ◌++◌, leb, ℤ, get_or, Result, Ok, Err}
use Rattle.sums.specs.Choice.{all_of, list_to}
use Rattle.sums.specs.Answer.{Contribution}
use Rattle.sums.specs.declared.answer.Refusal.{Refusal}
use Rattle.vehicle_fields.specs.Fields.{pollutant_count, no_coefficients, untimed_tests}
use Rattle.vehicle_fields.specs.declared.group.Group.{Group}
use Rattle.vehicle_factors.specs.Factors.{standard_factors}
use Rattle.warmups.specs.Warmup.{untimed_at}
use Rattle.vehicles.specs.Rules.{emission_count, contribution_with}
use Rattle.slots.specs.Bytes.{byte_at, zero_from, slot_of}
use Rattle.slots.specs.Layout.{group_of, group_kind}
use Rattle.slot_file.specs.declared.Answer.{Answer}
use Rattle.slot_file.specs.Sources.{header_at, VehicleGroup, Chains, Inventory, inventory_at}
use Rattle.slot_file.specs.Questions.{most_slots, Question, Outcome, accepted, refused, head_asks, last_of, sources_of, groups_so_far, link_asks, rows_asks, closing_asks}
use Rattle.slot_file.specs.Walk.{first, chain, store_walk}
use Rattle.slot_file.specs.Figures.{store_contributions, locomotive_contributions, gathered, summed_from}

-- every slot from 1 up that is a group has zero at byte 36, "0 for untimed"
abbrev pub NoneTimed : List ℕ → Type 0
NoneTimed s = (k : ℕ) → (k ≡ 0 → ⊥) → group_kind (slot_of s k) ≡ true → byte_at (slot_of s k) 36 ≡ 0

-- question 9 of a group, as 01 asks it
abbrev pub untimed_good : List ℕ → Group → Bool
untimed_good t g = all_of (all_of (untimed_tests g) ∷ leb (byte_at t 5) 3 ∷ zero_from t 36 28 ∷ [])

unfoldable pub untimed_asks : List ℕ → Chains → ℕ → List Question
untimed_asks s c g =
    let t = slot_of s g in
    link_asks s (last_of c.groups) (sources_of c) g (group_kind t) (untimed_good t (group_of t)) ++ rows_asks s g pollutant_count ++ closing_asks s g

unfoldable pub untimed_outcome : List ℕ → Outcome
untimed_outcome s =
    first (head_asks s)
    (chain (λ (b : List ℕ). untimed_asks s (groups_so_far b)) (λ (b : List ℕ). store_walk s (groups_so_far b)) most_slots s [] (header_at s).heads.groups)

-- what a group gives with the minutes of the table or the heated stand's 1.5, and with it an accepted file
unfoldable pub untimed_contributions : List ℤ → VehicleGroup → List Contribution
untimed_contributions ts v =
    list_to emission_count (λ (p : ℕ). contribution_with (untimed_at standard_factors v.group) standard_factors v.group ts (get_or v.coefficients p no_coefficients) p)

abbrev pub untimed_summed : Inventory → Answer
untimed_summed v =
    summed_from v (gathered (untimed_contributions v.temperatures) v.groups ++ gathered store_contributions v.stores ++ gathered locomotive_contributions v.locomotives)

abbrev pub untimed_answered : List ℕ → Outcome → Result Answer Refusal
untimed_answered s (accepted c) = Ok (untimed_summed (inventory_at s c))
untimed_answered s (refused r) = Err r
