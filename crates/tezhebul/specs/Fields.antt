-- The sources that the rules are asked about, from the numbers that a caller hands over.
use Rattle.std.specs.Prelude.{ℕ, ◌*◌, ◌/◌, ◌%◌, Bool, List, [], ◌∷◌, leb, eqb, ℤ, length, drop}
use Rattle.sums.specs.Choice.{if_then_else, all_of, list_to}
use Rattle.sums.specs.Answer.{refused_by}
use Rattle.sums.specs.declared.answer.Reason.TheVariants.{OutOfRange}
use Rattle.store_records.specs.declared.records.Bulk.{Bulk}
use Rattle.store_records.specs.declared.records.Handling.{Handling}
use Rattle.store_records.specs.declared.records.Standing.{Standing}
use Rattle.store_records.specs.declared.records.Aspiration.{Aspiration}
use Rattle.vehicle_fields.specs.Fields.{pollutant_count, distances_from, coefficients_from}
use Rattle.vehicle_fields.specs.declared.group.Group.{Group}
use Rattle.vehicle_fields.specs.declared.group.Coefficients.{Coefficients}
use Rattle.vehicles.specs.Rules.{GroupAnswer}
use Rattle.locomotive_fields.specs.declared.fields.Locomotive.{Locomotive}

abbrev pub bulk_of : ℕ → ℕ → ℕ → ℕ → ℕ → ℕ → ℕ → ℕ → Bulk
bulk_of dust store material wind moisture grain openness amount = record {
  dust = dust;
  store = store;
  material = material;
  wind = wind;
  moisture = moisture;
  grain = grain;
  openness = openness;
  amount = amount;
}

abbrev pub handling_of : ℕ → ℕ → ℕ → ℕ → ℕ → ℕ → ℕ → ℕ → ℕ → Handling
handling_of dust store material wind moisture grain openness amount drop = record {
  bulk = bulk_of dust store material wind moisture grain openness amount;
  drop = drop;
}

abbrev pub standing_of : ℕ → ℕ → ℕ → ℕ → ℕ → ℕ → ℕ → ℕ → ℕ → Standing
standing_of dust store material wind moisture grain openness amount k6 = record {
  bulk = bulk_of dust store material wind moisture grain openness amount;
  k6 = k6;
}

abbrev pub aspiration_of : ℕ → ℕ → ℕ → ℕ → ℕ → ℕ → Aspiration
aspiration_of dust store concentration flow capture hours = record {
  dust = dust;
  store = store;
  concentration = concentration;
  flow = flow;
  capture = capture;
  hours = hours;
}

abbrev pub row_size : ℕ
row_size = 7

-- "seven 4-byte numbers" of each of the pollutants, "1 CO, 2 hydrocarbons, 3 NO2, 4 soot, 5 SO2, 6 lead", one row after the other
unfoldable pub rows_of : List ℕ → List Coefficients
rows_of l = list_to pollutant_count (λ (p : ℕ). coefficients_from (drop (row_size * p) l))

-- how long the slices of a group have to be: four distances, twelve months' days and temperatures, a row of coefficients for each pollutant
abbrev pub length_tests : List ℕ → List ℕ → List ℤ → List ℕ → List Bool
length_tests distances days temperatures coefficients =
    eqb (length distances) 4 ∷ eqb (length days) 12 ∷ eqb (length temperatures) 12 ∷ eqb (length coefficients) (row_size * pollutant_count) ∷ []

unfoldable pub lengths : List ℕ → List ℕ → List ℤ → List ℕ → Bool
lengths distances days temperatures coefficients = all_of (length_tests distances days temperatures coefficients)

-- a group; "flags: bit 0 emission control done, bit 1 heated stand"; "four distances of 0 to 20,000 metres: out from nearest, out from farthest, in to nearest, in to
-- farthest"
abbrev pub group_of : ℕ → ℕ → ℕ → ℕ → ℕ → ℕ → ℕ → ℕ → ℕ → ℕ → List ℕ → List ℕ → Group
group_of category fuel flags vehicles leaving share running warming idle timed distances days = record {
  category = category;
  fuel = fuel;
  controlled = eqb (flags % 2) 1;
  heated = eqb (flags / 2 % 2) 1;
  vehicles = vehicles;
  leaving = leaving;
  share = share;
  neutraliser = record { running = running; warming = warming };
  idle = record { 0 = idle };
  outward = distances_from distances;
  inward = distances_from (drop 2 distances);
  days = days;
  timed = record { 0 = timed };
}

-- "the others zero": flags of which another bit is set are out of range
unfoldable pub flagged : ℕ → GroupAnswer → GroupAnswer
flagged flags a = if_then_else (leb flags 3) a (refused_by OutOfRange)

-- a locomotive; "five 16-bit time shares ... idle to full power"
abbrev pub locomotive_of : ℕ → ℕ → ℕ → ℕ → ℕ → ℕ → ℕ → ℕ → ℕ → Locomotive
locomotive_of model idle quarter half three_quarters full hours old zone = record {
  model = model;
  shares = idle ∷ quarter ∷ half ∷ three_quarters ∷ full ∷ [];
  hours = hours;
  old = old;
  zone = zone;
}
