-- A source that nothing is refused of is in range, and has zero soot or lead where it must: so its rule answers what it gives, and never a refusal. Assumes
-- nothing.
use Rattle.std.proofs.Common.{ℕ, ◌<◌, ◌≡◌, ◌∙◌, Bool, true, false, List, [], ◌∷◌, ◌++◌, eqb, get_or, Ok}
use Rattle.sums.specs.Choice.{if_then_else}
use Rattle.sums.proofs.Choices.{nth, all_to_of, list_to_at}
use Rattle.store_records.specs.Fields.{handling_in_range, standing_in_range, aspiration_in_range}
use Rattle.vehicle_fields.specs.Fields.{pollutant_count, no_coefficients, group_in_range, coefficients_in_range, all_in_range, in_range}
use Rattle.vehicle_fields.specs.SootAndLead.{zero_where_due}
use Rattle.warmups.specs.Parts.{climate_of}
use Rattle.vehicles.specs.Rules.{emissions_of, group_answer}
use Rattle.vehicles.specs.Parts.{answer_in}
use Rattle.vehicles.proofs.Paper.{answered}
use Rattle.locomotive_fields.specs.Fields.{locomotive_in_range, shares_add_up}
use Rattle.locomotives.specs.Rules.{locomotive_emissions, locomotive_answer}
use Rattle.slots.specs.Bytes.{byte_at, zero_from, slot_of}
use Rattle.slots.specs.Layout.{group_of, group_good_tests, group_good, coefficients_of, coefficients_good, handling_of, handling_good, standing_of, standing_good, aspiration_of, aspiration_good, by_kind, store_of, store_good, slot_read, store_read, locomotive_of, locomotive_good_tests, locomotive_good}
use Rattle.slots.specs.declared.store.StoreRecord.{StoreRecord}
use Rattle.slots.specs.declared.store.StoreRecord.TheVariants.{Handling, Standing, Aspiration}
use Rattle.slot_file.specs.Sources.{coefficient_slot, group_at, store_at, locomotive_at, temperatures_at, Chains}
use Rattle.slot_file.specs.Questions.{Question, head_asks, link_asks, coefficient_asks, rows_asks, closing_asks, group_link_asks, group_asks, store_asks, locomotive_asks}
use Rattle.slot_file.specs.Meaning.{AllYes}
use Rattle.slot_file.proofs.Asking.{yes_at, all_left, all_right}
use Rattle.slot_file.proofs.SixRows.{row_yes}

module _ (s : List ℕ) (c : Chains) (g : ℕ) (a : AllYes (group_asks s c g)) where
  abbrev rows : List Question
  rows = rows_asks s g pollutant_count

  -- what is asked of the coefficient link at place n, and after the sixth
  pub row_asked_lem : (n : ℕ) → n < pollutant_count → AllYes (coefficient_asks s g n)
  unfolding group_asks
  row_asked_lem n h = row_yes s g pollutant_count n h (all_right (group_link_asks s c g) rows (all_left (group_link_asks s c g ++ rows) (closing_asks s g) a))

  pub closing_asked : AllYes (closing_asks s g)
  unfolding group_asks
  closing_asked = all_right (group_link_asks s c g ++ rows) (closing_asks s g) a

  pub group_in_range_lem : group_in_range (group_at s g).group ≡ true
  unfolding group_asks link_asks group_at group_good
  group_in_range_lem =
      let t = slot_of s g in
      nth (group_good_tests t (group_of t)) (yes_at (group_asks s c g) a 3) 0

  pub row_in_range : (p : ℕ) → p < pollutant_count → coefficients_in_range (get_or (group_at s g).coefficients p no_coefficients) ≡ true
  unfolding coefficient_asks group_at coefficients_good
  row_in_range p h =
      let t = slot_of s (coefficient_slot s g p) in
      rw (list_to_at no_coefficients pollutant_count (λ (n : ℕ). coefficients_of (slot_of s (coefficient_slot s g n))) p h)
      (nth (coefficients_in_range (coefficients_of t) ∷ zero_from t 32 32 ∷ []) (yes_at (coefficient_asks s g p) (row_asked_lem p h) 3) 0)

  rows_in_range : all_in_range (group_at s g).coefficients ≡ true
  unfolding all_in_range
  rows_in_range = all_to_of pollutant_count (λ (p : ℕ). coefficients_in_range (get_or (group_at s g).coefficients p no_coefficients)) row_in_range

  pub zero_where_due_lem : zero_where_due (group_at s g).group (group_at s g).coefficients ≡ true
  unfolding closing_asks
  zero_where_due_lem = yes_at (closing_asks s g) closing_asked 1

  pub all_in_range_lem : AllYes (head_asks s) → in_range (group_at s g).group (temperatures_at s) (group_at s g).coefficients ≡ true
  unfolding in_range head_asks temperatures_at
  all_in_range_lem h = simp (group_in_range_lem, yes_at (head_asks s) h 4, rows_in_range)

  -- the group's rule answers what it gives
  pub group_answered : AllYes (head_asks s)
      → group_answer (group_at s g).group (temperatures_at s) (group_at s g).coefficients
      ≡ Ok (emissions_of (group_at s g).group (temperatures_at s) (group_at s g).coefficients)
  unfolding group_answer if_then_else
  group_answered h = simp (all_in_range_lem h, zero_where_due_lem)

  -- and so it does in the file's climate
  pub climate_answered : AllYes (head_asks s)
      → answer_in (group_at s g).group (climate_of (temperatures_at s)) (group_at s g).coefficients
      ≡ Ok (emissions_of (group_at s g).group (temperatures_at s) (group_at s g).coefficients)
  unfolding head_asks temperatures_at
  climate_answered h =
      answered (group_at s g).group (temperatures_at s) (group_at s g).coefficients (yes_at (head_asks s) h 4) ∙ group_answered h

-- a store record in range
abbrev pub store_in_range : StoreRecord → Bool
store_in_range (Handling h) = handling_in_range h
store_in_range (Standing r) = standing_in_range r
store_in_range (Aspiration r) = aspiration_in_range r

good_store : (t : List ℕ) → store_good t ≡ true → store_in_range (store_of t) ≡ true
unfolding store_good store_of by_kind if_then_else handling_good standing_good aspiration_good
good_store t = go (eqb (byte_at t 2) 3) (eqb (byte_at t 2) 4)
  where
    go : (h r : Bool)
        → if_then_else h (handling_good t (handling_of t)) (if_then_else r (standing_good t (standing_of t)) (aspiration_good t (aspiration_of t))) ≡ true
        → store_in_range (if_then_else h (Handling (handling_of t)) (if_then_else r (Standing (standing_of t)) (Aspiration (aspiration_of t)))) ≡ true
    go true r e = nth (handling_in_range (handling_of t) ∷ eqb (byte_at t 7) 0 ∷ zero_from t 16 4 ∷ zero_from t 24 40 ∷ []) e 0
    go false true e = nth (standing_in_range (standing_of t) ∷ eqb (byte_at t 7) 0 ∷ eqb (byte_at t 15) 0 ∷ zero_from t 18 2 ∷ zero_from t 24 40 ∷ []) e 0
    go false false e = nth (aspiration_in_range (aspiration_of t) ∷ zero_from t 6 2 ∷ zero_from t 20 44 ∷ []) e 0

-- the read of a slot of a right kind with its tests passed is the record
pub store_answered : (s : List ℕ) (c : Chains) (k : ℕ) → AllYes (store_asks s c k) → (store_read (slot_of s k) ≡ Ok (store_at s k)) × (store_in_range (store_at s k) ≡ true)
unfolding store_asks link_asks store_at store_read slot_read if_then_else
store_answered s c k a =
    let good = yes_at (store_asks s c k) a 3 in
    (simp (yes_at (store_asks s c k) a 2, good), good_store (slot_of s k) good)

-- a locomotive that nothing is refused of
module _ (s : List ℕ) (c : Chains) (k : ℕ) (a : AllYes (locomotive_asks s c k)) where
  pub locomotive_in_range_lem : locomotive_in_range (locomotive_at s k) ≡ true
  unfolding locomotive_asks link_asks locomotive_at locomotive_good
  locomotive_in_range_lem = nth (locomotive_good_tests (slot_of s k) (locomotive_of (slot_of s k))) (yes_at (locomotive_asks s c k) a 3) 0

  pub shares_add_up_lem : shares_add_up (locomotive_at s k) ≡ true
  unfolding locomotive_asks link_asks
  shares_add_up_lem = yes_at (locomotive_asks s c k) a 4

  -- its rule answers what it gives
  pub locomotive_answered : locomotive_answer (locomotive_at s k) ≡ Ok (locomotive_emissions (locomotive_at s k))
  unfolding locomotive_answer if_then_else
  locomotive_answered = simp (locomotive_in_range_lem, shares_add_up_lem)
