-- 01, "Vehicle rules": control factors (table 10 of SO 153-34.02.317-2003, source document 000) and warm-up minutes (table 9), as fractions, and as the one value
-- that the rule takes, in whole percents and tenths of a minute.
use Rattle.std.specs.Prelude.{ℕ, Bool, List, [], ◌∷◌, map, leb, get_or}
use Rattle.sums.specs.Choice.{all_of}
use Rattle.sums.specs.Fraction.{Frac, ◌over◌, whole, ◌≈◌, parts_of}
use Rattle.vehicle_factors.specs.declared.Factors.{Factors}

-- "Control factor: petrol CO 0.80, hydrocarbons 0.90, NO2 1, SO2 0.95, lead 0.95; diesel CO 0.90, hydrocarbons 0.90, NO2 1, soot 0.80, SO2 0.95.
-- It is 1 without control, and 1 for the two that 11 holds at zero": in the pollutants' order, CO, hydrocarbons, NO2, soot, SO2, lead, from place 0
abbrev pub petrol_control : List Frac
petrol_control = 80 over 100 ∷ 90 over 100 ∷ whole 1 ∷ whole 1 ∷ 95 over 100 ∷ 95 over 100 ∷ []

abbrev pub diesel_control : List Frac
diesel_control = 90 over 100 ∷ 90 over 100 ∷ whole 1 ∷ 80 over 100 ∷ 95 over 100 ∷ whole 1 ∷ []

-- "Car 3, 4, 10, 15, 15, 20, 20. Truck and bus 4, 6, 12, 20, 25, 30, 30"
abbrev pub car_minutes : List Frac
car_minutes = whole 3 ∷ whole 4 ∷ whole 10 ∷ whole 15 ∷ whole 15 ∷ whole 20 ∷ whole 20 ∷ []

abbrev pub truck_minutes : List Frac
truck_minutes = whole 4 ∷ whole 6 ∷ whole 12 ∷ whole 20 ∷ whole 25 ∷ whole 30 ∷ whole 30 ∷ []

-- these tables as the rule's value; nothing of them is dropped (`AsTabled`)
unfoldable pub standard_factors : Factors
standard_factors = record {
  petrol = map (parts_of 100) petrol_control;
  diesel = map (parts_of 100) diesel_control;
  car = map (parts_of 10) car_minutes;
  truck = map (parts_of 10) truck_minutes;
  bus = map (parts_of 10) truck_minutes;
}

-- a value has exactly the tables' fractions
pub record AsTabled (f : Factors) : Type 0 where
  pub petrol : (p : ℕ) → get_or petrol_control p (whole 0) ≈ (get_or f.petrol p 0 over 100)
  pub diesel : (p : ℕ) → get_or diesel_control p (whole 0) ≈ (get_or f.diesel p 0 over 100)
  pub car : (b : ℕ) → get_or car_minutes b (whole 0) ≈ (get_or f.car b 0 over 10)
  pub truck : (b : ℕ) → get_or truck_minutes b (whole 0) ≈ (get_or f.truck b 0 over 10)
  pub bus : (b : ℕ) → get_or truck_minutes b (whole 0) ≈ (get_or f.bus b 0 over 10)

-- no control factor is above 1, and no warm-up is longer than 30 minutes: as far as a full file's sums are shown to be exact
abbrev within : ℕ → List ℕ → Bool
within most l = all_of (map (λ (n : ℕ). leb n most) l)

abbrev pub factors_tests : Factors → List Bool
factors_tests f = within 100 f.petrol ∷ within 100 f.diesel ∷ within 300 f.car ∷ within 300 f.truck ∷ within 300 f.bus ∷ []

unfoldable pub factors_in_range : Factors → Bool
factors_in_range f = all_of (factors_tests f)
