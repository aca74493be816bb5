-- What inner functions compute: the rule's fractions as whole numbers of parts. The proofs show that they are the fractions of Rules.
use Rattle.std.specs.Prelude.{ℕ, ◌+◌, ◌*◌, ◌/◌, ◌<◌, ◌≤◌, ◌≡◌, true, List, eqb, get_or, Ok}
use Rattle.sums.specs.Choice.{if_then_else, sum_to, list_to}
use Rattle.sums.specs.Figures.{tonne_parts, gram_parts, annual_of, peak_of}
use Rattle.sums.specs.declared.answer.Emission.{Emission}
use Rattle.sums.specs.Answer.{refused_by}
use Rattle.sums.specs.declared.answer.Reason.TheVariants.{OutOfRange, SootOrLead}
use Rattle.vehicle_fields.specs.Fields.{no_minute, no_kilometre, no_coefficients, days_in_range, source_in_range}
use Rattle.vehicle_fields.specs.SootAndLead.{zero_where_due}
use Rattle.vehicle_factors.specs.Factors.{standard_factors}
use Rattle.vehicle_factors.specs.declared.Factors.{Factors}
use Rattle.vehicle_fields.specs.declared.units.Minutes.{Minutes}
use Rattle.vehicle_fields.specs.declared.units.Metres.{Metres}
use Rattle.vehicle_fields.specs.declared.group.Distances.{Distances}
use Rattle.vehicle_fields.specs.declared.group.Neutraliser.{Neutraliser}
use Rattle.vehicle_fields.specs.declared.group.Group.{Group}
use Rattle.vehicle_fields.specs.declared.group.Coefficients.{Coefficients}
use Rattle.warmups.specs.Warmup.{times_of, tenths_in}
use Rattle.warmups.specs.Parts.{tenths, number_of, period_in, conditions_in}
use Rattle.warmups.specs.declared.climate.Climate.{Climate}
use Rattle.warmups.specs.declared.warmup.Conditions.{Conditions}
use Rattle.vehicles.specs.Rules.{percent_of, pollutant_code, emission_count, GroupAnswer}
use Rattle.vehicles.specs.declared.activity.Activity.{Activity}

-- so many metres
abbrev pub metres : ℕ → Metres
metres n = record { 0 = n }

abbrev pub distance_sum : Distances → Metres
distance_sum d = metres (d.nearest.0 + d.farthest.0)

-- out and in, on one day
abbrev pub day_run : Group → Metres
day_run g = metres ((distance_sum g.outward).0 + (distance_sum g.inward).0)

abbrev pub day_idle : Group → Minutes
day_idle g = tenths (2 * g.idle.0)

-- in a month, by the times of the group's category and the months' bands: its period, and over its days worked the warm-up, the run and the idling
abbrev pub month_period : Group → List ℕ → ℕ → ℕ
month_period g bs m = number_of (period_in g (get_or bs m 0))

abbrev pub month_warmup : List ℕ → Group → List ℕ → ℕ → ℕ
month_warmup times g bs m = get_or g.days m 0 * tenths_in times g (get_or bs m 0)

abbrev pub month_run : Group → ℕ → ℕ
month_run g m = get_or g.days m 0 * (day_run g).0

abbrev pub month_idle : Group → ℕ → ℕ
month_idle g m = get_or g.days m 0 * (day_idle g).0

-- the sum of a number over those of the first n months whose period is p
unfoldable pub in_period : Group → List ℕ → (ℕ → ℕ) → ℕ → ℕ → ℕ
in_period g bs of n p = sum_to n (λ (m : ℕ). if_then_else (eqb p (month_period g bs m)) (of m) 0)

-- the year
unfoldable pub activity_of : List ℕ → Group → List ℕ → Activity
activity_of times g bs = record {
  warmup = list_to 3 (λ (p : ℕ). tenths (in_period g bs (month_warmup times g bs) 12 p));
  run = list_to 3 (λ (p : ℕ). metres (in_period g bs (month_run g) 12 p));
  idle = tenths (sum_to 12 (month_idle g));
}

-- so much run and idling, and warm-up, after their percentages: grams in 2,000,000,000ths, the control factor in percent
abbrev pub run_and_idle_parts : Neutraliser → ℕ → ℕ → ℕ → ℕ
run_and_idle_parts n control run idle = run * n.running + 2 * idle * control * n.running

unfoldable pub mass_parts : Neutraliser → ℕ → ℕ → ℕ → ℕ → ℕ
mass_parts n control warmup run idle = 2 * warmup * control * n.warming + run_and_idle_parts n control run idle

unfoldable pub out_parts : Group → Coefficients → ℕ → Conditions → ℕ
out_parts g k control w =
    mass_parts g.neutraliser control ((get_or k.warmup (number_of w.period) no_minute).0 * w.minutes.0)
    ((get_or k.run (number_of w.period) no_kilometre).0 * (distance_sum g.outward).0)
    (k.idle.0 * g.idle.0)

-- over the three periods
abbrev pub warmup_parts : Coefficients → Activity → ℕ
warmup_parts k a = sum_to 3 (λ (p : ℕ). (get_or k.warmup p no_minute).0 * (get_or a.warmup p (tenths 0)).0)

abbrev pub run_parts : Coefficients → Activity → ℕ
run_parts k a = sum_to 3 (λ (p : ℕ). (get_or k.run p no_kilometre).0 * (get_or a.run p (metres 0)).0)

unfoldable pub year_parts : Group → Coefficients → ℕ → Activity → ℕ
year_parts g k control a = mass_parts g.neutraliser control (warmup_parts k a) (run_parts k a) (k.idle.0 * a.idle.0)

-- exact units in a 200,000,000,000,000,000th of a tonne, and in a 7,200,000,000,000th of a gram per second
abbrev pub year_units : ℕ
year_units = tonne_parts / 200000000000000000

abbrev pub peak_units : ℕ
peak_units = gram_parts / 7200000000000

-- one pollutant's emission, in exact units: a year in 2,000,000,000ths of a gram times a percentage, and a trip out in as many over 3,600 seconds
unfoldable pub emission_parts : Factors → Group → Coefficients → ℕ → Activity → Conditions → Emission
emission_parts f g k p a coldest = record {
  code = pollutant_code g.fuel p;
  annual = annual_of (year_parts g k (percent_of f g p) a * g.share * (g.vehicles * year_units));
  peak = peak_of (out_parts g k (percent_of f g p) coldest * g.leaving * peak_units);
}

-- each pollutant's, with its own coefficients, in a climate
unfoldable pub emissions_in : Factors → Group → Climate → List Coefficients → List Emission
emissions_in f g c ks =
    let times = times_of f g.category in
    list_to emission_count (λ (p : ℕ). emission_parts f g (get_or ks p no_coefficients) p (activity_of times g c.bands) (conditions_in times g c.coldest))

-- the answer of a group in a climate, by the standard factors: what the rule answers at the temperatures that decide it (`Paper.answered`)
unfoldable pub answer_in : Group → Climate → List Coefficients → GroupAnswer
answer_in g c ks =
    if_then_else (source_in_range g ks)
    (if_then_else (zero_where_due g ks) (Ok (emissions_in standard_factors g c ks)) (refused_by SootOrLead))
    (refused_by OutOfRange)

-- how large they are at most: what the range tests say, and a year's minutes and metres over all three periods
pub record DistancesInRange (d : Distances) : Type 0 where
  pub nearest : d.nearest.0 ≤ 20000
  pub farthest : d.farthest.0 ≤ 20000

pub record NeutraliserInRange (n : Neutraliser) : Type 0 where
  pub running : n.running ≤ 100
  pub warming : n.warming ≤ 100

pub record GroupInRange (g : Group) : Type 0 where
  pub vehicles : g.vehicles ≤ 10000
  pub leaving : g.leaving ≤ 10000
  pub share : g.share ≤ 100
  pub neutraliser : NeutraliserInRange g.neutraliser
  pub idle : g.idle.0 ≤ 250
  pub outward : DistancesInRange g.outward
  pub inward : DistancesInRange g.inward
  pub days : (m : ℕ) → m < 12 → get_or g.days m 0 ≤ 31
  pub timed : g.timed.0 ≤ 250

-- and that no month has more days than are in it, which no bound needs
pub record RangedGroup (g : Group) : Type 0 where
  pub bounds : GroupInRange g
  pub days : days_in_range g.days ≡ true

pub record CoefficientsInRange (k : Coefficients) : Type 0 where
  pub warmup : (p : ℕ) → p < 3 → (get_or k.warmup p no_minute).0 ≤ 1000000
  pub run : (p : ℕ) → p < 3 → (get_or k.run p no_kilometre).0 ≤ 1000000
  pub idle : k.idle.0 ≤ 1000000

pub record ActivityInRange (a : Activity) : Type 0 where
  pub warmup : sum_to 3 (λ (p : ℕ). (get_or a.warmup p (tenths 0)).0) ≤ 111600
  pub run : sum_to 3 (λ (p : ℕ). (get_or a.run p (metres 0)).0) ≤ 29760000
  pub idle : a.idle.0 ≤ 186000
