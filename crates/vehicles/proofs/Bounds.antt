-- No group in range gives a code more than a full file's sums allow, so those are exact, and its answer has exactly the rule's tonnes and grams. A
-- formula's bound is written as the formula is. Assumes nothing.
use Rattle.std.proofs.Common.{ℕ, ◌+◌, ◌*◌, ◌<◌, ◌≤◌, le_refl, add-le-add, arith, ◌≡◌, sym, ◌∙◌, true, List, lit<, ℤ, get_or, Ok}
use Rattle.sums.specs.Choice.{if_then_else}
use Rattle.sums.specs.Answer.{emitted, no_emission}
use Rattle.sums.proofs.Choices.{right, list_to_at}
use Rattle.sums.proofs.Products.{◌⊗◌}
use Rattle.sums.specs.Exactness.{Bounded, Exactly}
use Rattle.sums.proofs.Sources.{bounded, exactly}
use Rattle.vehicle_fields.specs.Fields.{no_minute, no_kilometre, temperatures_in_range, group_in_range, coefficients_in_range, no_coefficients, source_in_range, in_range}
use Rattle.vehicle_fields.specs.SootAndLead.{zero_where_due}
use Rattle.vehicle_fields.specs.declared.group.Group.{Group}
use Rattle.vehicle_fields.specs.declared.group.Neutraliser.{Neutraliser}
use Rattle.vehicle_fields.specs.declared.group.Coefficients.{Coefficients}
use Rattle.vehicle_factors.specs.Factors.{standard_factors, factors_in_range}
use Rattle.vehicle_factors.specs.declared.Factors.{Factors}
use Rattle.vehicle_factors.proofs.Standard.{standard_in_range}
use Rattle.warmups.specs.Warmup.{times_of}
use Rattle.warmups.specs.Parts.{climate_of, number_of, conditions_in, ConditionsInRange}
use Rattle.warmups.specs.declared.warmup.Conditions.{Conditions}
use Rattle.warmups.proofs.Decided.{number_below, times_in_range, conditions_in_range}
use Rattle.vehicles.specs.Rules.{percent_of, contribution_by, contribution_of, emission_of, emission_count, emissions_of, group_answer}
use Rattle.vehicles.specs.Parts.{distance_sum, activity_of, GroupInRange, CoefficientsInRange, ActivityInRange, NeutraliserInRange, mass_parts, out_parts, year_parts}
use Rattle.vehicles.specs.declared.activity.Activity.{Activity}
use Rattle.vehicles.proofs.Ranges.{ranged, coefficients, of_six, source_in_range_lem, in_range_is, control_most}
use Rattle.vehicles.proofs.Periods.{warmup_parts_lem, run_parts_lem, idle_parts, activity_in_range}
use Rattle.vehicles.proofs.Paper.{counted}

mass_most : {v : Neutraliser} {c w r i x y z : ℕ} → NeutraliserInRange v → c ≤ 100 → w ≤ x → r ≤ y → i ≤ z →
    mass_parts v c w r i ≤ 2 * x * 100 * 100 + (y * 100 + 2 * z * 100 * 100)
unfolding mass_parts
mass_most v c w r i =
    add-le-add (le_refl 2 ⊗ w ⊗ c ⊗ v.warming) (add-le-add (r ⊗ v.running) (le_refl 2 ⊗ i ⊗ c ⊗ v.running))

module _ (g : Group) (k : Coefficients) (c : ℕ) (r : GroupInRange g) (h : CoefficientsInRange k) (hc : c ≤ 100) where
  module _ (w : Conditions) (e : ConditionsInRange w) where
    pub out_warmup : (get_or k.warmup (number_of w.period) no_minute).0 * w.minutes.0 ≤ 300000000
    out_warmup = h.warmup (number_of w.period) (number_below w.period) ⊗ e.minutes

    pub out_run : (get_or k.run (number_of w.period) no_kilometre).0 * (distance_sum g.outward).0 ≤ 40000000000
    out_run = let d : (distance_sum g.outward).0 ≤ 40000 = omega arith in h.run (number_of w.period) (number_below w.period) ⊗ d

    pub out_most : out_parts g k c w ≤ 15000000000000
    unfolding out_parts
    out_most = mass_most r.neutraliser hc out_warmup out_run (h.idle ⊗ r.idle)

  pub year_most : (a : Activity) → ActivityInRange a → year_parts g k c a ≤ 8928000000000000
  unfolding year_parts
  year_most a e = mass_most r.neutraliser hc (warmup_parts_lem k a h e) (run_parts_lem k a h e) (idle_parts k a h e)

module _ (f : Factors) (hf : factors_in_range f ≡ true) (g : Group) (ts : List ℤ) (k : Coefficients) (hg : group_in_range g ≡ true) (hk : coefficients_in_range k ≡ true) (p : ℕ) where
  pub group_bounded : Bounded emission_count (contribution_by f g ts k p).tonnes (contribution_by f g ts k p).rate
  group_bounded =
      let y = percent_of f g p in
      let c = climate_of ts in
      let times = times_of f g.category in
      let t = times_in_range f hf g.category in
      let r = (ranged g hg).bounds in
      let h = coefficients k hk in
      let a : year_parts g k y (activity_of times g c.bands) * g.share * g.vehicles ≤ 8928000000000000000000 =
      year_most g k y r h (control_most f hf g p) (activity_of times g c.bands) (activity_in_range g r times t c.bands) ⊗ r.share ⊗ r.vehicles in
      let b : out_parts g k y (conditions_in times g c.coldest) * g.leaving ≤ 150000000000000000 =
      out_most g k y r h (control_most f hf g p) (conditions_in times g c.coldest) (conditions_in_range times t g r.timed c.coldest) ⊗ r.leaving in
      bounded emission_count (counted f g ts k p) (omega arith) (omega arith)

  emission_exactly : Exactly (emitted (contribution_by f g ts k p)) (contribution_by f g ts k p).tonnes (contribution_by f g ts k p).rate
  emission_exactly = exactly (contribution_by f g ts k p) (lit< tt) (counted f g ts k p) group_bounded

-- each emission of a group that is not refused, by the standard factors
pub group_exactly : (g : Group) (ts : List ℤ) (ks : List Coefficients) → in_range g ts ks ≡ true → zero_where_due g ks ≡ true → (p : ℕ) → p < emission_count →
    (group_answer g ts ks ≡ Ok (emissions_of g ts ks))
    × Exactly (get_or (emissions_of g ts ks) p no_emission) (contribution_of g ts (get_or ks p no_coefficients) p).tonnes (contribution_of g ts (get_or ks p no_coefficients) p).rate
unfolding group_answer emissions_of emission_of if_then_else
group_exactly g ts ks h b p q =
    let r = source_in_range_lem g ks (right (temperatures_in_range ts) (source_in_range g ks) (sym (in_range_is g ts ks) ∙ h)) in (
      simp (h, b),
      rw (list_to_at no_emission emission_count (λ (m : ℕ). emission_of g ts (get_or ks m no_coefficients) m) p q)
          (emission_exactly standard_factors standard_in_range g ts (get_or ks p no_coefficients) r.0 (of_six ks r.1 p q) p),
    )
