-- What inner functions compute: the rule's fractions as whole numbers of parts. The proofs show that they are the fractions of Rules.
use Rattle.std.specs.Prelude.{ℕ, zero, suc, ◌+◌, ◌*◌, ◌/◌, List, leb, eqb, get_or}
use Rattle.sums.specs.Choice.{if_then_else, sum_to, list_to}
use Rattle.sums.specs.Fraction.{whole, parts_of}
use Rattle.sums.specs.Figures.{tonne_parts, gram_parts, annual_of, peak_of}
use Rattle.sums.specs.declared.answer.Emission.{Emission}
use Rattle.locomotive_fields.specs.Fields.{mode_count}
use Rattle.locomotive_fields.specs.declared.fields.Locomotive.{Locomotive}
use Rattle.locomotives.specs.Rules.{substance_count, table21, place_in, hourly_at, age_factor, zone_factor}
use Rattle.locomotives.specs.declared.rule.Modes.{Modes}

-- kilograms per hour, in thousandths
abbrev pub hourly_parts : Locomotive → ℕ → ℕ → ℕ
hourly_parts l p k = parts_of 1000 (hourly_at l p k)

-- a model's rates, those of each substance in its modes
unfoldable pub hourly_of : ℕ → List (List ℕ)
hourly_of model =
    list_to substance_count (λ (p : ℕ). list_to mode_count (λ (k : ℕ). parts_of 1000 (get_or table21 (place_in model p k) (whole 0))))

-- kilograms per hour of the first n modes by their shares, in millionths
unfoldable pub mean_parts : Locomotive → ℕ → ℕ → ℕ
mean_parts l p n = sum_to n (λ (k : ℕ). hourly_parts l p k * get_or l.shares k 0)

-- the greatest of the first n modes with a nonzero share, in thousandths
abbrev pub larger_parts : ℕ → ℕ → ℕ
larger_parts a b = if_then_else (leb a b) b a

unfoldable pub greatest_parts : Locomotive → ℕ → ℕ → ℕ
greatest_parts l p zero = 0
greatest_parts l p (suc k) = if_then_else (eqb (get_or l.shares k 0) 0) (greatest_parts l p k) (larger_parts (greatest_parts l p k) (hourly_parts l p k))

abbrev pub modes_of : Locomotive → ℕ → ℕ → Modes
modes_of l p n = record { mean = mean_parts l p n; greatest = greatest_parts l p n }

-- of each substance
unfoldable pub all_modes : Locomotive → ℕ → List Modes
all_modes l n = list_to substance_count (λ (p : ℕ). modes_of l p n)

-- one mode more, that has a share
abbrev pub with_rate : Modes → ℕ → ℕ → Modes
with_rate m rate share = record { mean = m.mean + rate * share; greatest = larger_parts m.greatest rate }

-- the hours by age and zone, 0.7 of them, in thousandths of an hour
unfoldable pub hour_parts : Locomotive → ℕ
hour_parts l = l.hours * parts_of 10 (age_factor l.old) * parts_of 10 (zone_factor l.zone) * 7

-- exact units in a 1,000,000,000,000th of a tonne, and in a 3,600th of a gram per second
abbrev pub year_units : ℕ
year_units = tonne_parts / 1000000000000

abbrev pub peak_units : ℕ
peak_units = gram_parts / 3600

-- what is given of a substance
abbrev pub emission_parts : ℕ → ℕ → ℕ → Emission
emission_parts code year peak = record { code = code; annual = annual_of (year * year_units); peak = peak_of peak }
