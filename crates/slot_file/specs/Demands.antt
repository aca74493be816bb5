-- The letter's three demands, as what is claimed of a file. The claims are proved in `proofs/Demands`.
use Rattle.std.specs.Prelude.{ℕ, ◌+◌, ◌<◌, ◌≤◌, ◌≡◌, ◌↔◌, true, false, not, List, [], ◌∷◌, ◌++◌, ℤ, get_or, Result, Ok, Err}
use Rattle.sums.specs.Choice.{list_to}
use Rattle.sums.specs.Fraction.{whole, ◌⊙◌}
use Rattle.sums.specs.Figures.{Rounded}
use Rattle.sums.specs.Answer.{Contribution, number_of, no_emission}
use Rattle.sums.specs.Exactness.{Exactly}
use Rattle.sums.specs.declared.answer.Emission.{Emission}
use Rattle.sums.specs.declared.answer.Reason.TheVariants.{Repeated, OutOfRange, Unreached, Shares}
use Rattle.sums.specs.declared.answer.Refusal.{Refusal}
use Rattle.vehicle_fields.specs.Fields.{pollutant_count, no_coefficients}
use Rattle.vehicles.specs.Rules.{emission_count, contribution_of, group_answer}
use Rattle.stores.specs.Rules.{handling_contribution, standing_contribution, aspiration_contribution, handling_answer, standing_answer, aspiration_answer}
use Rattle.locomotive_fields.specs.Fields.{shares_add_up}
use Rattle.locomotive_fields.specs.declared.fields.Locomotive.{Locomotive}
use Rattle.locomotives.specs.Rules.{substance_count, locomotive_contribution, locomotive_answer}
use Rattle.slots.specs.Bytes.{slot_of}
use Rattle.slots.specs.Layout.{coefficients_of, pollutant_of, locomotive_of, locomotive_good}
use Rattle.slots.specs.declared.store.StoreRecord.{StoreRecord}
use Rattle.slots.specs.declared.store.StoreRecord.TheVariants.{Handling, Standing, Aspiration}
use Rattle.slot_file.specs.declared.Answer.{Answer}
use Rattle.slot_file.specs.Sources.{coefficient_slot, VehicleGroup, group_at, locomotive_at, Chains, Inventory}
use Rattle.slot_file.specs.Questions.{last_number, listing_number, Question, question, slot_count, member, reached_of}
use Rattle.slot_file.specs.Meaning.{Groups, Stores, Locomotives, Accepts, Refuses}
use Rattle.slot_file.specs.Codes.{codes}
use Rattle.slot_file.specs.Figures.{store_contributions, gathered, contributions, exact_sum, counts_of, answer}

-- "the lowest unreached for 12": k, where the chains are c
pub record LowestUnreached (s : List ℕ) (c : Chains) (k : ℕ) : Type 0 where
  pub from : 1 ≤ k
  pub below : k < slot_count s
  pub out : member k (reached_of s c) ≡ false
  pub lower : (j : ℕ) → 1 ≤ j → j < k → member j (reached_of s c) ≡ true

-- a number that a file can be refused by: 0 is none, and the listing's is a listing's alone
abbrev pub OfFile : ℕ → Type 0
OfFile n = (1 ≤ n) × (n ≤ last_number) × (n ≡ listing_number → ⊥)

-- DEMAND 1: "either accepted or refused by number and slot. It is accepted exactly when every question in document 01 is answered yes, and one of those questions is
-- whether each slot is reached from the header. A refusal gives no figures"; "Demand 1's questions now take in 14": of what a check answers, and of the answer, which
-- has figures just where the check accepts, and else the same refusal
pub record Checked (s : List ℕ) (v : Result Unit Refusal) : Type 0 where
  pub accepted_when : (v ≡ Ok tt) ↔ ((c : Chains) × Accepts s c)
  pub refused_as_told : (r : Refusal) → v ≡ Err r → Refuses s r
  pub numbered : (r : Refusal) → v ≡ Err r → OfFile (number_of r.reason)
  pub figures : v ≡ Ok tt → (a : Answer) × (answer s ≡ Ok a)
  pub no_figures : (r : Refusal) → v ≡ Err r → answer s ≡ Err r
  pub lowest : (k : ℕ) → v ≡ Err (record { reason = Unreached; slot = k })
      → (c : Chains) × Groups s c 0 × Stores s c 0 × Locomotives s c 0 × LowestUnreached s c k

-- question 7 of a link k to a source: "Is the slot new on this walk as a group or store record?", "question 7 includes locomotives", and no other slots; 9 of a
-- locomotive: "Is each field in range and every unnamed byte zero?"; and 14, "when a locomotive's shares don't total 1,000 ... after its 9", at "the slot asked about"
abbrev pub seven : Chains → ℕ → Question
seven c k = question (not (member k (c.locomotives ++ (c.stores ++ c.groups)))) Repeated k

abbrev pub nine : List ℕ → ℕ → Question
nine s k = question (locomotive_good (slot_of s k) (locomotive_of (slot_of s k))) OutOfRange k

abbrev pub fourteen : List ℕ → ℕ → Question
fourteen s k = question (shares_add_up (locomotive_at s k)) Shares k

-- "We don't want a program that supplies a missing coefficient from a similar vehicle": a group's six coefficient slots are of the six pollutants in turn, then
-- their chain ends, and the coefficients that it is summed with are those of these slots
pub record OwnCoefficients (s : List ℕ) (g : ℕ) : Type 0 where
  pub in_turn : (n : ℕ) → n < pollutant_count → pollutant_of (slot_of s (coefficient_slot s g n)) ≡ n + 1
  pub ends : coefficient_slot s g pollutant_count ≡ 0
  pub used : (n : ℕ) → n < pollutant_count → get_or (group_at s g).coefficients n no_coefficients ≡ coefficients_of (slot_of s (coefficient_slot s g n))

-- an emission is just what is given: its code, one of the listing's, and its tonnes and grams with "nothing rounded on the way"
pub record Gives (e : Emission) (x : Contribution) : Type 0 where
  pub code : e.code ≡ x.code
  pub listed : member x.code codes ≡ true
  pub exactly : Exactly e x.tonnes x.rate

-- a rule's answer is not refused, and its emissions, at each of n places, are just what is given
pub record AllGiven (a : Result (List Emission) Refusal) (n : ℕ) (x : ℕ → Contribution) : Type 0 where
  pub emissions : List Emission
  pub answered : a ≡ Ok emissions
  pub each : (p : ℕ) → p < n → Gives (get_or emissions p no_emission) (x p)

pub record OneGiven (a : Result Emission Refusal) (x : Contribution) : Type 0 where
  pub emission : Emission
  pub answered : a ≡ Ok emission
  pub gives : Gives emission x

-- "of each source and each pollutant": of a group, of a store record and of a locomotive, this is what the methodology's formulas and tables give
abbrev pub GroupGives : List ℤ → VehicleGroup → Type 0
GroupGives ts v =
    AllGiven (group_answer v.group ts v.coefficients) emission_count (λ (p : ℕ). contribution_of v.group ts (get_or v.coefficients p no_coefficients) p)

abbrev pub StoreGives : StoreRecord → Type 0
StoreGives (Handling h) = OneGiven (handling_answer h) (handling_contribution h)
StoreGives (Standing s) = OneGiven (standing_answer s) (standing_contribution s)
StoreGives (Aspiration a) = OneGiven (aspiration_answer a) (aspiration_contribution a)

abbrev pub LocomotiveGives : Locomotive → Type 0
LocomotiveGives l = AllGiven (locomotive_answer l) substance_count (locomotive_contribution l)

abbrev pub Each : {A : Type 0} → (A → Type 0) → List A → Type 0
Each P [] = Unit {0}
Each P (x ∷ xs) = P x × Each P xs

-- DEMAND 2: "For an accepted file, the annual mass and the peak rate of each source and each pollutant are the fractions that the methodology's formulas and tables
-- give ... The answer also says how many vehicle groups and store records were summed, and those are the lengths of the two chains", with
-- "a third count, the length of the locomotive chain"; and just these are summed
pub record Worked (s : List ℕ) (c : Chains) (v : Inventory) : Type 0 where
  pub groups : Each (GroupGives v.temperatures) v.groups
  pub stores : Each StoreGives v.stores
  pub locomotives : Each LocomotiveGives v.locomotives
  pub counts : (a : Answer) × (answer s ≡ Ok a) × (a.counts ≡ counts_of c)
  pub summed : contributions v
      ≡ gathered (λ (g : VehicleGroup). list_to emission_count (λ (p : ℕ). contribution_of g.group v.temperatures (get_or g.coefficients p no_coefficients) p)) v.groups
      ++ gathered store_contributions v.stores
      ++ gathered (λ (l : Locomotive). list_to substance_count (locomotive_contribution l)) v.locomotives

-- DEMAND 3: "In every accepted file each figure equals the exact sum over all sources, the annual one over all months too, rounded once": at the place i of the
-- listing, in millionths of a tonne and ten-millionths of a gram per second, of that place's code; the answer is a, and what each source gives is xs
pub record FiguresRounded (a : Answer) (xs : List Contribution) (i : ℕ) : Type 0 where
  pub annual : Rounded (get_or a.annual i 0) (exact_sum (λ (x : Contribution). x.tonnes) (get_or codes i 0) xs ⊙ whole 1000000)
  pub peak : Rounded (get_or a.peak i 0) (exact_sum (λ (x : Contribution). x.rate) (get_or codes i 0) xs ⊙ whole 10000000)
