-- The standard factors are the methodology's tables, nothing dropped: one computed test over each table. And they are in range. Assumes nothing.
use Rattle.std.proofs.Common.{ℕ, ◌≡◌, refl, true, List, get_or}
use Rattle.sums.specs.Fraction.{Frac, ◌over◌, whole, ◌≈◌, parts_of}
use Rattle.sums.proofs.Tables.{scale, scaled_at, all_scaled, entry}
use Rattle.vehicle_factors.specs.Factors.{petrol_control, diesel_control, car_minutes, truck_minutes, standard_factors, AsTabled, factors_in_range}

-- a table that passes its test is its whole parts
table : (d b : ℕ) (l : List Frac) → all_scaled d b l ≡ true → (i : ℕ) → get_or l i (whole 0) ≈ (get_or (scale d l) i 0 over d)
table d b l h i = rw (scaled_at d l i) (entry d b l h i).same

pub as_tabled : AsTabled standard_factors
unfolding standard_factors all_scaled parts_of
as_tabled = record {
  petrol = table 100 100 petrol_control refl;
  diesel = table 100 100 diesel_control refl;
  car = table 10 300 car_minutes refl;
  truck = table 10 300 truck_minutes refl;
  bus = table 10 300 truck_minutes refl;
}

pub standard_in_range : factors_in_range standard_factors ≡ true
unfolding standard_factors factors_in_range parts_of
standard_in_range = refl
