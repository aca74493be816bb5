-- One computed test over each table: every entry is a whole number of parts of the code's denominator, and how many at most. Assumes nothing.
use Rattle.std.proofs.Common.{ℕ, ◌-◌, refl, [], ◌∷◌, eqb}
use Rattle.sums.specs.Fraction.{◌over◌, whole, parts_of}
use Rattle.sums.proofs.Choices.{both}
use Rattle.sums.proofs.Tables.{Scaled, all_scaled, entry}
use Rattle.locomotive_fields.specs.declared.fields.Locomotive.{Locomotive}
use Rattle.locomotives.specs.Rules.{table21, place_in, hourly_at, age_factor, zone_table, zone_factor}

pub hourly_scaled : (l : Locomotive) (p k : ℕ) → Scaled 1000 15210 (hourly_at l p k)
unfolding all_scaled parts_of
hourly_scaled l p k = entry 1000 15210 table21 refl (place_in l.model p k)

pub zone_scaled : (zone : ℕ) → Scaled 10 12 (zone_factor zone)
unfolding all_scaled parts_of
zone_scaled zone = entry 10 12 zone_table refl (zone - 1)

pub age_scaled : (old : ℕ) → Scaled 10 12 (age_factor old)
unfolding age_factor all_scaled parts_of
age_scaled old = both (Scaled 10 12) (eqb old 1) (entry 10 12 (12 over 10 ∷ []) refl 0) (entry 10 12 (whole 1 ∷ []) refl 0)
