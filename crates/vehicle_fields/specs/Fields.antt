-- 01, "The slot file", **Slot 0**, **Group** and **Coefficients**, and 02, U2, of a group: the ranges of the fields.
use Rattle.std.specs.Prelude.{ℕ, Bool, ◌&&◌, List, [], ◌∷◌, ◌++◌, map, leb, ℤ, pos, neg_ℤ, get_or}
use Rattle.std.specs.Int.Signed.{le_z}
use Rattle.sums.specs.Choice.{all_of, all_to}
use Rattle.vehicle_fields.specs.declared.units.PerMinute.{PerMinute}
use Rattle.vehicle_fields.specs.declared.units.PerKilometre.{PerKilometre}
use Rattle.vehicle_fields.specs.declared.group.Distances.{Distances}
use Rattle.vehicle_fields.specs.declared.group.Group.{Group}
use Rattle.vehicle_fields.specs.declared.group.Coefficients.{Coefficients}

-- "3 pollutant: 1 CO, 2 hydrocarbons, 3 NO2, 4 soot, 5 SO2, 6 lead": so many, each with its own coefficients
abbrev pub pollutant_count : ℕ
pollutant_count = 6

abbrev pub minus : ℕ → ℤ
minus n = neg_ℤ (pos n)

-- "Is each temperature from -600 to 600?"
abbrev pub temperature_in_range : ℤ → Bool
temperature_in_range t = le_z (minus 600) t && le_z t (pos 600)

unfoldable pub temperatures_in_range : List ℤ → Bool
temperatures_in_range ts = all_to 12 (λ (m : ℕ). temperature_in_range (get_or ts m (pos 0)))

-- "14..21 four distances of 0 to 20,000 metres"
unfoldable pub distances_in_range : Distances → Bool
distances_in_range d = leb d.nearest.0 20000 && leb d.farthest.0 20000

-- "out from nearest, out from farthest, in to nearest, in to farthest": the nearest of two first
unfoldable pub distances_from : List ℕ → Distances
distances_from l = record { nearest = record { 0 = get_or l 0 0 }; farthest = record { 0 = get_or l 1 0 } }

-- "22..33 days worked per month, each at most that month's length, February 29"
abbrev pub month_lengths : List ℕ
month_lengths = 31 ∷ 29 ∷ 31 ∷ 30 ∷ 31 ∷ 30 ∷ 31 ∷ 31 ∷ 30 ∷ 31 ∷ 30 ∷ 31 ∷ []

unfoldable pub days_in_range : List ℕ → Bool
days_in_range days = all_to 12 (λ (m : ℕ). leb (get_or days m 0) (get_or month_lengths m 0))

-- "3 category, 1 car, 2 truck, 3 bus. 4 fuel, 1 petrol, 2 diesel ... 6..7 vehicles N, 1 to 10,000. 8..9 most leaving in one hour N', 0 to N.
-- 10 leaving share a, 11 neutraliser factor for run and idle, 12 the same for warm-up, each 0 to 100 percent. 13 idle time, 0 to 250"
abbrev pub untimed_tests : Group → List Bool
untimed_tests g =
    leb 1 g.category ∷ leb g.category 3 ∷ leb 1 g.fuel ∷ leb g.fuel 2 ∷ leb 1 g.vehicles ∷ leb g.vehicles 10000
    ∷ leb g.leaving g.vehicles ∷ leb g.share 100 ∷ leb g.neutraliser.running 100 ∷ leb g.neutraliser.warming 100
    ∷ leb g.idle.0 250 ∷ distances_in_range g.outward ∷ distances_in_range g.inward ∷ days_in_range g.days ∷ []

-- 02, U2: "Group byte 36 holds tenths of a minute, 1 to 250, or 0 for untimed"
abbrev pub group_tests : Group → List Bool
group_tests g = untimed_tests g ++ leb g.timed.0 250 ∷ []

unfoldable pub group_in_range : Group → Bool
group_in_range g = all_of (group_tests g)

-- what stands past the end of a list
abbrev pub no_minute : PerMinute
no_minute = record { 0 = 0 }

abbrev pub no_kilometre : PerKilometre
no_kilometre = record { 0 = 0 }

abbrev pub no_coefficients : Coefficients
no_coefficients = record { warmup = []; run = []; idle = no_minute }

-- "seven 4-byte numbers of 0 to 1,000,000 ...: warm-up per minute in warm, transitional, cold period; run per kilometre in the same three; idle per minute"
abbrev pub seven : Coefficients → List ℕ
seven k =
    (get_or k.warmup 0 no_minute).0 ∷ (get_or k.warmup 1 no_minute).0 ∷ (get_or k.warmup 2 no_minute).0
    ∷ (get_or k.run 0 no_kilometre).0 ∷ (get_or k.run 1 no_kilometre).0 ∷ (get_or k.run 2 no_kilometre).0 ∷ k.idle.0 ∷ []

-- the coefficients whose seven numbers are these
unfoldable pub coefficients_from : List ℕ → Coefficients
coefficients_from l = record {
  warmup = record { 0 = get_or l 0 0 } ∷ record { 0 = get_or l 1 0 } ∷ record { 0 = get_or l 2 0 } ∷ [];
  run = record { 0 = get_or l 3 0 } ∷ record { 0 = get_or l 4 0 } ∷ record { 0 = get_or l 5 0 } ∷ [];
  idle = record { 0 = get_or l 6 0 };
}

unfoldable pub coefficients_in_range : Coefficients → Bool
coefficients_in_range k = all_of (map (λ (n : ℕ). leb n 1000000) (seven k))

unfoldable pub all_in_range : List Coefficients → Bool
all_in_range ks = all_to pollutant_count (λ (p : ℕ). coefficients_in_range (get_or ks p no_coefficients))

-- a group with its coefficients
unfoldable pub source_in_range : Group → List Coefficients → Bool
source_in_range g ks = group_in_range g && all_in_range ks

-- "given a value outside its field's range such a rule answers 9"
unfoldable pub in_range : Group → List ℤ → List Coefficients → Bool
in_range g ts ks = all_of (group_in_range g ∷ temperatures_in_range ts ∷ all_in_range ks ∷ [])
