-- 01, "Vehicle rules", over the factors: control percents and warm-up times. A warm-up's minutes are a function of the temperature.
use Rattle.std.specs.Prelude.{ℕ, ◌+◌, List, [], ◌∷◌, eqb, ℤ, pos, get_or, Result, Ok}
use Rattle.sums.specs.Choice.{if_then_else, list_to}
use Rattle.sums.specs.Fraction.{Frac, ◌over◌, whole, ◌⊙◌, ◌⊞◌, ◌per◌, total_to}
use Rattle.sums.specs.Answer.{Contribution, contribution, refused_by, emitted}
use Rattle.sums.specs.declared.answer.Emission.{Emission}
use Rattle.sums.specs.declared.answer.Reason.TheVariants.{OutOfRange, SootOrLead}
use Rattle.sums.specs.declared.answer.Refusal.{Refusal}
use Rattle.vehicle_fields.specs.Fields.{pollutant_count, no_minute, no_kilometre, no_coefficients, in_range}
use Rattle.vehicle_fields.specs.SootAndLead.{zero_where_due}
use Rattle.vehicle_factors.specs.Factors.{standard_factors}
use Rattle.vehicle_factors.specs.declared.Factors.{Factors}
use Rattle.vehicle_fields.specs.declared.group.Distances.{Distances}
use Rattle.vehicle_fields.specs.declared.group.Group.{Group}
use Rattle.vehicle_fields.specs.declared.group.Coefficients.{Coefficients}
use Rattle.warmups.specs.Temperatures.{lowest_of}
use Rattle.warmups.specs.Warmup.{minutes_at, period_at}

-- "Control factor ... It is 1 without control": of the pollutant at place p, in percent, and as a fraction
unfoldable pub percent_of : Factors → Group → ℕ → ℕ
percent_of f g p = if_then_else g.controlled (if_then_else (eqb g.fuel 1) (get_or f.petrol p 0) (get_or f.diesel p 0)) 100

abbrev pub control_of : Factors → Group → ℕ → Frac
control_of f g p = percent_of f g p over 100

-- "half the sum of the two ... distances", in kilometres
abbrev pub half_sum : Distances → Frac
half_sum d = (d.nearest.0 + d.farthest.0) over 2000

-- "run × half the sum of the two ... distances × neutraliser + idle × idle time × control × neutraliser": coefficients are in ten-thousandths of
-- a gram, times in tenths of a minute, the neutraliser in percent; the run's coefficient is the period's
unfoldable pub run_and_idle : Group → Coefficients → Frac → ℕ → Distances → Frac
run_and_idle g k control period d =
    ((get_or k.run period no_kilometre).0 over 10000) ⊙ half_sum d ⊙ (g.neutraliser.running over 100)
    ⊞ (k.idle.0 over 10000) ⊙ (g.idle.0 over 10) ⊙ control ⊙ (g.neutraliser.running over 100)

-- "Out = warm-up × minutes × control × warm-up neutraliser + ..." those two terms with the out distances
unfoldable pub out_grams : Group → Coefficients → Frac → ℕ → Frac → Frac
out_grams g k control period minutes =
    ((get_or k.warmup period no_minute).0 over 10000) ⊙ minutes ⊙ control ⊙ (g.neutraliser.warming over 100)
    ⊞ run_and_idle g k control period g.outward

-- "In = the last two terms with the in distances"
unfoldable pub in_grams : Group → Coefficients → Frac → ℕ → Frac
in_grams g k control period = run_and_idle g k control period g.inward

-- "Annual grams: sum over months of (out + in) × a × N × days", and the tonnes of so many grams
unfoldable pub month_grams : Group → Coefficients → Frac → ℕ → Frac → ℕ → Frac
month_grams g k control period minutes days =
    (out_grams g k control period minutes ⊞ in_grams g k control period) ⊙ (g.share over 100) ⊙ whole g.vehicles ⊙ whole days

unfoldable pub annual_tonnes : (ℤ → Frac) → Group → List ℤ → Coefficients → Frac → Frac
annual_tonnes minutes g ts k control =
    total_to 12 (λ (m : ℕ). month_grams g k control (period_at g (get_or ts m (pos 0))) (minutes (get_or ts m (pos 0))) (get_or g.days m 0)) per 1000000

-- "Peak: out × N' / 3600, in the month of lowest temperature, whatever days are worked in it": at a temperature
unfoldable pub peak_grams : (ℤ → Frac) → Group → Coefficients → Frac → ℤ → Frac
peak_grams minutes g k control t = out_grams g k control (period_at g t) (minutes t) ⊙ whole g.leaving per 3600

-- "Hydrocarbons count as 2704 for petrol and 2754 for diesel (house rule). CO is 0337, NO2 0301, soot 0328, SO2 0330, lead 0184"
abbrev pub petrol_codes : List ℕ
petrol_codes = 337 ∷ 2704 ∷ 301 ∷ 328 ∷ 330 ∷ 184 ∷ []

abbrev pub diesel_codes : List ℕ
diesel_codes = 337 ∷ 2754 ∷ 301 ∷ 328 ∷ 330 ∷ 184 ∷ []

unfoldable pub pollutant_code : ℕ → ℕ → ℕ
pollutant_code fuel p = if_then_else (eqb fuel 1) (get_or petrol_codes p 0) (get_or diesel_codes p 0)

-- what a group gives of the pollutant at place p, which has the coefficients k: with warm-up minutes, by factors, and by the standard ones
abbrev pub contribution_with : (ℤ → Frac) → Factors → Group → List ℤ → Coefficients → ℕ → Contribution
contribution_with minutes f g ts k p =
    contribution (pollutant_code g.fuel p) (annual_tonnes minutes g ts k (control_of f g p)) (peak_grams minutes g k (control_of f g p) (lowest_of ts))

abbrev pub contribution_by : Factors → Group → List ℤ → Coefficients → ℕ → Contribution
contribution_by f g = contribution_with (minutes_at f g) f g

abbrev pub contribution_of : Group → List ℤ → Coefficients → ℕ → Contribution
contribution_of = contribution_by standard_factors

unfoldable pub emission_of : Group → List ℤ → Coefficients → ℕ → Emission
emission_of g ts k p = emitted (contribution_of g ts k p)

-- how many emissions a group's answer holds: one for each pollutant
abbrev pub emission_count : ℕ
emission_count = pollutant_count

-- of each pollutant, with its own coefficients
unfoldable pub emissions_of : Group → List ℤ → List Coefficients → List Emission
emissions_of g ts ks = list_to emission_count (λ (p : ℕ). emission_of g ts (get_or ks p no_coefficients) p)

-- what the rule answers: what the group gives, or why it is refused
abbrev pub GroupAnswer : Type 0
GroupAnswer = Result (List Emission) Refusal

-- "then 11 for soot or lead that must be zero", with "slot 0"; what is not refused is answered exactly (`Bounds.group_exactly`)
unfoldable pub group_answer : Group → List ℤ → List Coefficients → GroupAnswer
group_answer g ts ks =
    if_then_else (in_range g ts ks)
    (if_then_else (zero_where_due g ks) (Ok (emissions_of g ts ks)) (refused_by SootOrLead))
    (refused_by OutOfRange)
