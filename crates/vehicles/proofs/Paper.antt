-- The whole numbers are the paper's fractions: each formula of a month and of a peak by one equation of products, since both sides are sums of the same
-- products. A control factor is c percent. What the periods give together is what the months give, by one month after the other; the months have one
-- factor, N times the share, which leaves their sum.
-- Assumes nothing.
use Rattle.std.proofs.Common.{ℕ, zero, suc, ◌+◌, ◌*◌, ◌<◌, arith, ◌≡◌, true, List, lit<, ℤ, pos, get_or}
use Rattle.sums.specs.Choice.{sum_to, list_to}
use Rattle.sums.specs.Fraction.{◌over◌, ◌≈◌}
use Rattle.sums.specs.Figures.{tonne_parts, gram_parts}
use Rattle.sums.specs.Answer.{emitted}
use Rattle.sums.proofs.Choices.{sum_to_times, list_to_same}
use Rattle.sums.proofs.Fractions.{≈_per, ≈_over, total_to_parts, parts}
use Rattle.sums.specs.Exactness.{Counted}
use Rattle.vehicle_fields.specs.Fields.{no_minute, no_kilometre, no_coefficients, temperatures_in_range}
use Rattle.vehicle_fields.specs.declared.group.Group.{Group}
use Rattle.vehicle_fields.specs.declared.group.Coefficients.{Coefficients}
use Rattle.vehicle_factors.specs.Factors.{standard_factors}
use Rattle.vehicle_factors.specs.declared.Factors.{Factors}
use Rattle.warmups.specs.Temperatures.{warmup_band, lowest_of}
use Rattle.warmups.specs.Warmup.{times_of, period_at, minutes_at}
use Rattle.warmups.specs.Parts.{climate_of, number_of, conditions_in}
use Rattle.warmups.specs.declared.warmup.Conditions.{Conditions}
use Rattle.warmups.proofs.Decided.{period_same, band_at}
use Rattle.vehicles.specs.Rules.{run_and_idle, out_grams, in_grams, month_grams, annual_tonnes, peak_grams, percent_of, contribution_by, emission_of, emission_count, emissions_of, group_answer}
use Rattle.vehicles.specs.Parts.{distance_sum, month_period, month_warmup, month_run, month_idle, activity_of, run_and_idle_parts, mass_parts, out_parts, year_parts, year_units, peak_units, emission_parts, emissions_in, answer_in}
use Rattle.vehicles.proofs.Ranges.{in_range_is}
use Rattle.vehicles.proofs.Periods.{by_months}

-- a trip in, and a day's trips over the days of a month
abbrev in_parts : Group → Coefficients → ℕ → Conditions → ℕ
in_parts g k c w = run_and_idle_parts g.neutraliser c ((get_or k.run (number_of w.period) no_kilometre).0 * (distance_sum g.inward).0) (k.idle.0 * g.idle.0)

abbrev days_parts : Group → Coefficients → ℕ → Conditions → ℕ → ℕ
days_parts g k c w days = (out_parts g k c w + in_parts g k c w) * days

module _ (times : List ℕ) (g : Group) (bs : List ℕ) (k : Coefficients) (c : ℕ) where
  abbrev month_parts : ℕ → ℕ
  month_parts m = days_parts g k c (conditions_in times g (get_or bs m 0)) (get_or g.days m 0)

  -- the first n months' warm-up, run and idling, each with its coefficient
  by_days : (n : ℕ) →
      mass_parts g.neutraliser c (sum_to n (λ (m : ℕ). (get_or k.warmup (month_period g bs m) no_minute).0 * month_warmup times g bs m))
      (sum_to n (λ (m : ℕ). (get_or k.run (month_period g bs m) no_kilometre).0 * month_run g m)) (k.idle.0 * sum_to n (month_idle g))
      ≡ sum_to n month_parts
  unfolding out_parts sum_to mass_parts conditions_in
  by_days zero = omega arith
  by_days (suc n) = omega (arith, by_days n)

  year_by_days : year_parts g k c (activity_of times g bs) ≡ sum_to 12 month_parts
  unfolding year_parts activity_of list_to sum_to
  year_by_days =
      rw (by_months g bs (month_warmup times g bs) (λ (p : ℕ). (get_or k.warmup p no_minute).0) 12, by_months g bs (month_run g) (λ (p : ℕ). (get_or k.run p no_kilometre).0) 12)
      (by_days 12)

module _ (f : Factors) (g : Group) (k : Coefficients) (c : ℕ) where
  -- at a temperature
  abbrev conditions : ℤ → Conditions
  conditions t = conditions_in (times_of f g.category) g (warmup_band t)

  month : (t : ℤ) (days : ℕ) →
      month_grams g k (c over 100) (period_at g t) (minutes_at f g t) days ≈ ((days_parts g k c (conditions t) days * (g.share * g.vehicles)) over 200000000000)
  unfolding month_grams out_grams in_grams run_and_idle out_parts mass_parts conditions_in minutes_at
  month t days = rw (period_same g t) (record { left = lit< tt; right = lit< tt; cross = omega arith })

  year : (ts : List ℤ) → annual_tonnes (minutes_at f g) g ts k (c over 100) ≈ ((year_parts g k c (activity_of (times_of f g.category) g (climate_of ts).bands) * g.share * (g.vehicles * year_units)) over tonne_parts)
  unfolding annual_tonnes
  year ts =
      let times = times_of f g.category in
      let b = (climate_of ts).bands in
      ≈_over (year_parts g k c (activity_of times g b) * g.share * (g.vehicles * year_units)) tonne_parts (lit< tt) (omega arith)
      (≈_per 1000000 (lit< tt)
      (rw (sum_to_times (g.share * g.vehicles) (month_parts times g b k c) 12, ← year_by_days times g b k c)
      at (total_to_parts (λ (m : ℕ). month_grams g k (c over 100) (period_at g (get_or ts m (pos 0))) (minutes_at f g (get_or ts m (pos 0))) (get_or g.days m 0))
      (λ (m : ℕ). month_parts times g b k c m * (g.share * g.vehicles)) 200000000000 (lit< tt) 12
      (λ (m : ℕ) (p : m < 12). rw (band_at ts m p) (month (get_or ts m (pos 0)) (get_or g.days m 0))))))

  peak : (t : ℤ) → peak_grams (minutes_at f g) g k (c over 100) t ≈ ((out_parts g k c (conditions t) * g.leaving * peak_units) over gram_parts)
  unfolding peak_grams out_grams run_and_idle out_parts mass_parts conditions_in minutes_at
  peak t = rw (period_same g t) (record { left = lit< tt; right = lit< tt; cross = omega arith })

-- a pollutant's tonnes and rate, in exact units
module _ (f : Factors) (g : Group) (ts : List ℤ) (k : Coefficients) (p : ℕ) where
  pub counted : Counted (contribution_by f g ts k p).tonnes (contribution_by f g ts k p).rate
      (year_parts g k (percent_of f g p) (activity_of (times_of f g.category) g (climate_of ts).bands) * g.share * (g.vehicles * year_units))
      (out_parts g k (percent_of f g p) (conditions_in (times_of f g.category) g (climate_of ts).coldest) * g.leaving * peak_units)
  unfolding climate_of
  counted =
      let c = percent_of f g p in
      record { annual = year f g k c ts; peak = peak f g k c (lowest_of ts) }

  -- its sums are what the rule gives
  emission : emission_parts f g k p (activity_of (times_of f g.category) g (climate_of ts).bands) (conditions_in (times_of f g.category) g (climate_of ts).coldest) ≡ emitted (contribution_by f g ts k p)
  unfolding emission_parts
  emission = let e = counted in rw (parts e.annual, parts e.peak)

-- of each pollutant
emissions : (f : Factors) (g : Group) (ts : List ℤ) (ks : List Coefficients)
    → emissions_in f g (climate_of ts) ks ≡ list_to emission_count (λ (p : ℕ). emitted (contribution_by f g ts (get_or ks p no_coefficients) p))
unfolding emissions_in
emissions f g ts ks = list_to_same emission_count _ _ (λ (p : ℕ) (l : p < emission_count). emission f g ts (get_or ks p no_coefficients) p)

-- THE ANSWER in the climate that temperatures decide is the rule's at these temperatures
pub answered : (g : Group) (ts : List ℤ) (ks : List Coefficients) → temperatures_in_range ts ≡ true → answer_in g (climate_of ts) ks ≡ group_answer g ts ks
unfolding answer_in group_answer emissions_of emission_of
answered g ts ks h = rw (in_range_is g ts ks, h, emissions standard_factors g ts ks)
