-- What the functions compute: the bands that a year's temperatures decide, and from a band the period and the minutes. The proofs show that they are those of Warmup.
use Rattle.std.specs.Prelude.{ℕ, zero, suc, ◌≤◌, List, ℤ, pos, get_or}
use Rattle.sums.specs.Choice.{if_then_else, list_to}
use Rattle.vehicle_fields.specs.declared.units.Minutes.{Minutes}
use Rattle.vehicle_fields.specs.declared.group.Group.{Group}
use Rattle.warmups.specs.Temperatures.{warmup_band, lowest_of}
use Rattle.warmups.specs.Warmup.{tenths_in}
use Rattle.warmups.specs.declared.climate.Climate.{Climate}
use Rattle.warmups.specs.declared.warmup.Period.{Period}
use Rattle.warmups.specs.declared.warmup.Period.TheVariants.{Warm, Transitional, Cold}
use Rattle.warmups.specs.declared.warmup.Conditions.{Conditions}

-- of each month, and of the lowest temperature
unfoldable pub climate_of : List ℤ → Climate
climate_of ts = record { bands = list_to 12 (λ (m : ℕ). warmup_band (get_or ts m (pos 0))); coldest = warmup_band (lowest_of ts) }

-- the number that Temperatures gives a period, which is its place in the coefficients
abbrev pub number_of : Period → ℕ
number_of Warm = 0
number_of Transitional = 1
number_of Cold = 2

-- the two warmest bands are the warm and the transitional period
abbrev pub band_period : ℕ → Period
band_period zero = Warm
band_period (suc zero) = Transitional
band_period (suc (suc n)) = Cold

unfoldable pub period_in : Group → ℕ → Period
period_in g band = if_then_else g.heated Warm (band_period band)

-- so many tenths of a minute
abbrev pub tenths : ℕ → Minutes
tenths n = record { 0 = n }

-- by the times of the group's category
unfoldable pub conditions_in : List ℕ → Group → ℕ → Conditions
conditions_in times g band = record { period = period_in g band; minutes = tenths (tenths_in times g band) }

-- how large they are at most: no warm-up is longer than 30 minutes
abbrev pub TimesInRange : List ℕ → Type 0
TimesInRange times = (band : ℕ) → get_or times band 0 ≤ 300

pub record ConditionsInRange (w : Conditions) : Type 0 where
  pub minutes : w.minutes.0 ≤ 300
