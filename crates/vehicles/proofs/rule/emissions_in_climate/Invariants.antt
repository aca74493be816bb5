-- The emissions of the places passed stand in their places.
use Rattle.std.proofs.Common.{◌≡◌, ℕ, ◌<◌, get_or, length}
use Rattle.sums.specs.Answer.{no_emission}
use Rattle.vehicle_fields.specs.Fields.{no_coefficients}
use Rattle.vehicle_factors.specs.Factors.{standard_factors}
use Rattle.vehicles.specs.Rules.{emission_count}
use Rattle.vehicles.specs.Parts.{emission_parts}
use Rattle.vehicles.proofs.rule.emissions_in_climate.Given as goal

abbrev pub invariant-loop-p : goal.invariant-loop-p
invariant-loop-p l = record {
  one_each : length l.emissions ≡ emission_count;
  passed : (m : ℕ) → m < l.p → get_or l.emissions m no_emission ≡ emission_parts standard_factors l.fn.g (get_or l.fn.ks m no_coefficients) m l.year.activity l.year.coldest;
}
