-- 01, "Store rules", over the tables 2 to 7 of SO 153-34.02.317-2003 (source document 000).
use Rattle.std.specs.Prelude.{ℕ, ◌-◌, List, [], ◌∷◌, map, eqb, get_or, Result, Ok}
use Rattle.sums.specs.Choice.{if_then_else}
use Rattle.sums.specs.Fraction.{Frac, ◌over◌, whole, ◌⊙◌, ◌per◌}
use Rattle.sums.specs.Table.{Line, to, up_to}
use Rattle.sums.specs.Answer.{Contribution, contribution, refused_by, emitted}
use Rattle.sums.specs.declared.answer.Reason.TheVariants.{OutOfRange}
use Rattle.sums.specs.declared.answer.Refusal.{Refusal}
use Rattle.sums.specs.declared.answer.Emission.{Emission}
use Rattle.store_records.specs.Fields.{handling_in_range, standing_in_range, aspiration_in_range}
use Rattle.store_records.specs.declared.records.Handling.{Handling}
use Rattle.store_records.specs.declared.records.Standing.{Standing}
use Rattle.store_records.specs.declared.records.Aspiration.{Aspiration}

-- "Materials 1 to 9 (K1, K2, Q)", table 2 of 000
pub record Material : Type 0 where
  pub k1 : Frac
  pub k2 : Frac
  pub q : Frac

abbrev material : Frac → Frac → Frac → Material
material a b c = record { k1 = a; k2 = b; q = c }

abbrev pub materials : List Material
materials =
    material (3 over 100) (1 over 100) (3 over 1000)  -- limestone
    ∷ material (4 over 100) (1 over 100) (5 over 1000)  -- lump lime
    ∷ material (7 over 100) (1 over 100) (5 over 1000)  -- ground lime
    ∷ material (4 over 100) (1 over 100) (5 over 1000)  -- sodium chloride
    ∷ material (3 over 100) (2 over 100) (5 over 1000)  -- coal
    ∷ material (5 over 100) (2 over 100) (2 over 1000)  -- slag
    ∷ material (4 over 100) (3 over 100) (3 over 1000)  -- cement
    ∷ material (5 over 100) (3 over 100) (2 over 1000)  -- sand
    ∷ material (4 over 100) (1 over 100) (5 over 1000)  -- sandstone
    ∷ []

abbrev pub k1_table : List Frac
k1_table = map (λ (m : Material). m.k1) materials

abbrev pub k2_table : List Frac
k2_table = map (λ (m : Material). m.k2) materials

abbrev pub q_table : List Frac
q_table = map (λ (m : Material). m.q) materials

-- an entry by its number from 1
abbrev pub numbered : List Frac → ℕ → Frac
numbered table n = get_or table (n - 1) (whole 0)

-- "K3, wind to 2, 5, 7, 10, 12, 14 m/s", table 3: by tenths of a metre a second; 14 ends the wind's range
abbrev pub k3_table : List Line
k3_table = to 20 (10 over 10) ∷ to 50 (12 over 10) ∷ to 70 (14 over 10) ∷ to 100 (17 over 10) ∷ to 120 (20 over 10) ∷ []

abbrev pub k3_of : ℕ → Frac
k3_of = up_to k3_table (23 over 10)

-- "K4, openness 1 to 7", table 4
abbrev pub k4_table : List Frac
k4_table = whole 1 ∷ 5 over 10 ∷ 3 over 10 ∷ 2 over 10 ∷ 1 over 10 ∷ 1 over 100 ∷ 5 over 1000 ∷ []

-- "K5, moisture to .5, 1, 3, 5, 7, 8, 9, 10, above", table 5: by tenths of a percent
abbrev pub k5_table : List Line
k5_table =
    to 5 (whole 1) ∷ to 10 (9 over 10) ∷ to 30 (8 over 10) ∷ to 50 (7 over 10) ∷ to 70 (6 over 10) ∷ to 80 (4 over 10) ∷ to 90 (2 over 10)
    ∷ to 100 (1 over 10) ∷ []

abbrev pub k5_of : ℕ → Frac
k5_of = up_to k5_table (1 over 100)

-- "K6 in hundredths ... or 0 for missing, which counts as 130"
unfoldable pub k6_of : ℕ → Frac
k6_of k = if_then_else (eqb k 0) (130 over 100) (k over 100)

-- "K7, grain to 1, 3, 5, 10, 50, 100, 500, above", table 6: by millimetres
abbrev pub k7_table : List Line
k7_table =
    to 1 (whole 1) ∷ to 3 (8 over 10) ∷ to 5 (7 over 10) ∷ to 10 (6 over 10) ∷ to 50 (5 over 10) ∷ to 100 (4 over 10) ∷ to 500 (2 over 10) ∷ []

abbrev pub k7_of : ℕ → Frac
k7_of = up_to k7_table (1 over 10)

-- "B', drops of .5, 1, 1.5, 2, 4, 6, 8, 10 m (classes 1 to 8)", table 7
abbrev pub drop_table : List Frac
drop_table = 1 over 10 ∷ 5 over 10 ∷ 6 over 10 ∷ 7 over 10 ∷ whole 1 ∷ 15 over 10 ∷ whole 2 ∷ 25 over 10 ∷ []

-- "Handling peak: 10,000 × K1 K2 K3 K4 K5 K7 × tonnes × B' / 12", in grams per second
unfoldable pub handling_peak : Handling → Frac
handling_peak h =
    whole 10000 ⊙ numbered k1_table h.bulk.material ⊙ numbered k2_table h.bulk.material ⊙ k3_of h.bulk.wind
    ⊙ numbered k4_table h.bulk.openness ⊙ k5_of h.bulk.moisture ⊙ k7_of h.bulk.grain ⊙ (h.bulk.amount over 1000)
    ⊙ numbered drop_table h.drop per 12

-- "Standing peak: K3 K4 K5 K6 K7 Q × area"
unfoldable pub standing_peak : Standing → Frac
standing_peak s =
    k3_of s.bulk.wind ⊙ numbered k4_table s.bulk.openness ⊙ k5_of s.bulk.moisture ⊙ k6_of s.k6 ⊙ k7_of s.bulk.grain
    ⊙ numbered q_table s.bulk.material ⊙ whole s.bulk.amount

-- "Annual tonnes of both: 31.536 × peak × 0.7"
unfoldable pub bulk_tonnes : Frac → Frac
bulk_tonnes peak = 31536 over 1000 ⊙ peak ⊙ 7 over 10

-- "Aspiration peak: C × V × (1 - capture)": C in mg/m³, V in litres a second, capture in hundredths of a percent
unfoldable pub aspiration_peak : Aspiration → Frac
aspiration_peak a = (a.concentration over 1000) ⊙ (a.flow over 1000) ⊙ ((10000 - a.capture) over 10000)

-- "Annual tonnes: 0.0036 × peak × hours"
unfoldable pub aspiration_tonnes : Frac → ℕ → Frac
aspiration_tonnes peak hours = 36 over 10000 ⊙ peak ⊙ whole hours

-- "3 dust code, 1 for 0152, 2 for 2908, 3 for 2909"
abbrev pub dust_codes : List ℕ
dust_codes = 152 ∷ 2908 ∷ 2909 ∷ []

abbrev pub dust_code : ℕ → ℕ
dust_code dust = get_or dust_codes (dust - 1) 0

-- what a record gives to the code of its dust
abbrev pub handling_contribution : Handling → Contribution
handling_contribution h = contribution (dust_code h.bulk.dust) (bulk_tonnes (handling_peak h)) (handling_peak h)

abbrev pub standing_contribution : Standing → Contribution
standing_contribution s = contribution (dust_code s.bulk.dust) (bulk_tonnes (standing_peak s)) (standing_peak s)

abbrev pub aspiration_contribution : Aspiration → Contribution
aspiration_contribution a = contribution (dust_code a.dust) (aspiration_tonnes (aspiration_peak a) a.hours) (aspiration_peak a)

-- what a rule answers: what the record gives, or why it is refused
abbrev pub StoreAnswer : Type 0
StoreAnswer = Result Emission Refusal

-- a record in range is answered what it gives, exactly (`Exactly.handling_exactly`, `standing_exactly`, `aspiration_exactly`); one out of range is refused 9, with slot 0
abbrev pub store_answer : Contribution → StoreAnswer
store_answer x = Ok (emitted x)

abbrev pub out_of_range : StoreAnswer
out_of_range = refused_by OutOfRange

unfoldable pub handling_answer : Handling → StoreAnswer
handling_answer h = if_then_else (handling_in_range h) (store_answer (handling_contribution h)) out_of_range

unfoldable pub standing_answer : Standing → StoreAnswer
standing_answer s = if_then_else (standing_in_range s) (store_answer (standing_contribution s)) out_of_range

unfoldable pub aspiration_answer : Aspiration → StoreAnswer
aspiration_answer a = if_then_else (aspiration_in_range a) (store_answer (aspiration_contribution a)) out_of_range
