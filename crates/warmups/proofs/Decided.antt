-- A band decides the period that the temperature has; the minutes of an untimed and of a timed group; and what a band decides is in range. Assumes nothing.
use Rattle.std.proofs.Common.{ℕ, ◌<◌, ◌≤◌, arith, ◌≡◌, refl, true, false, List, ne_eqb, eqb, lit<, ℤ, pos, get_or}
use Rattle.std.proofs.lemmas.Bool.Decides.{nat_tests}
use Rattle.sums.specs.Choice.{if_then_else}
use Rattle.sums.specs.Fraction.{◌over◌}
use Rattle.sums.proofs.Choices.{both, list_to_at}
use Rattle.vehicle_fields.specs.declared.group.Group.{Group}
use Rattle.vehicle_factors.specs.Factors.{factors_in_range}
use Rattle.vehicle_factors.specs.declared.Factors.{Factors}
use Rattle.vehicle_factors.proofs.Ranges.{ranged_factors}
use Rattle.warmups.specs.Temperatures.{below, place, period_of, warmup_band}
use Rattle.warmups.specs.Warmup.{times_of, untimed_in, untimed_at, tenths_in, minutes_at, period_at}
use Rattle.warmups.specs.declared.warmup.Period.{Period}
use Rattle.warmups.specs.declared.warmup.Period.TheVariants.{Warm, Transitional, Cold}
use Rattle.warmups.specs.Parts.{climate_of, number_of, band_period, period_in, conditions_in, TimesInRange, ConditionsInRange}

-- both are counted from 5.0 and then from -5.0
of_band : (t : ℤ) → period_of t ≡ number_of (band_period (warmup_band t))
unfolding place below if_then_else
of_band t = grind (arith, nat_tests)

pub period_same : (g : Group) (t : ℤ) → period_at g t ≡ number_of (period_in g (warmup_band t))
unfolding period_at period_in if_then_else
period_same g t = elim g.heated as (λ b. if_then_else b 0 (period_of t) ≡ number_of (if_then_else b Warm (band_period (warmup_band t)))) [ true ↦ refl | false ↦ of_band t ]

-- THE MINUTES of an untimed group are those of the table, or the heated stand's 1.5; those of a timed one are its own, at every temperature
pub untimed : (f : Factors) (g : Group) → g.timed.0 ≡ 0 → (t : ℤ) → minutes_at f g t ≡ untimed_at f g t
unfolding minutes_at tenths_in if_then_else
untimed f g e t = rw e

pub timed : (f : Factors) (g : Group) → (g.timed.0 ≡ 0 → ⊥) → (t : ℤ) → minutes_at f g t ≡ (g.timed.0 over 10)
unfolding minutes_at tenths_in if_then_else
timed f g e t = rw (ne_eqb g.timed.0 0 e)

-- the band of a month
pub band_at : (ts : List ℤ) (m : ℕ) → m < 12 → get_or (climate_of ts).bands m 0 ≡ warmup_band (get_or ts m (pos 0))
unfolding climate_of
band_at ts m h = list_to_at 0 12 (λ (m : ℕ). warmup_band (get_or ts m (pos 0))) m h

pub number_below : (p : Period) → number_of p < 3
number_below Warm = lit< tt
number_below Transitional = lit< tt
number_below Cold = lit< tt

pub times_in_range : (f : Factors) → factors_in_range f ≡ true → (category : ℕ) → TimesInRange (times_of f category)
unfolding times_of
times_in_range f h category band =
    let r = ranged_factors f h in
    let At : List ℕ → Type 0 = λ (l : List ℕ). get_or l band 0 ≤ 300 in
    both At (eqb category 1) (r.car band) (both At (eqb category 2) (r.truck band) (r.bus band))

module _ (times : List ℕ) (h : TimesInRange times) (g : Group) (t : g.timed.0 ≤ 250) (band : ℕ) where
  pub tenths_most : tenths_in times g band ≤ 300
  unfolding tenths_in untimed_in
  tenths_most = let Most : ℕ → Type 0 = λ (n : ℕ). n ≤ 300 in both Most (eqb g.timed.0 0) (both Most g.heated (omega arith) (h band)) (omega arith)

  pub conditions_in_range : ConditionsInRange (conditions_in times g band)
  unfolding conditions_in
  conditions_in_range = record { minutes = tenths_most }
