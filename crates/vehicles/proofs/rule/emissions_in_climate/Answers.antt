-- A source in range, with the standard factors, has what the types hold; the emissions of the places passed stand in their places.
use Rattle.std.proofs.Common.{arith, ◌≡◌, ◌<◌, sym, ◌∙◌, ap, ℕ, get_or, length-set, Ok}
use Rattle.sums.specs.Choice.{if_then_else}
use Rattle.sums.specs.Answer.{no_emission}
use Rattle.sums.proofs.Choices.{filled, list_to_is, list_to_at}
use Rattle.vehicle_fields.specs.Fields.{pollutant_count, no_coefficients}
use Rattle.vehicle_factors.specs.Factors.{standard_factors}
use Rattle.vehicle_factors.proofs.Standard.{standard_in_range}
use Rattle.warmups.proofs.Decided.{times_in_range}
use Rattle.vehicles.specs.Rules.{emission_count, percent_of, pollutant_code}
use Rattle.vehicles.specs.Parts.{emission_parts, emissions_in, answer_in}
use Rattle.vehicles.proofs.Ranges.{ranged, coefficients, of_six, control_most, source_in_range_lem}
use Rattle.vehicles.proofs.rule.emissions_in_climate.Goals as goal

pub invariant_of-sound : goal.invariant_of-sound
invariant_of-sound c = record {
  group_ranged = ranged c.args.g (source_in_range_lem _ _ (sym c.source_in_range.ensures ∙ c.if-not-source_in_range.false)).0;
  times_ranged = rw (c.times_of.ensures, c.standard_factors-factors.ensures) (times_in_range standard_factors standard_in_range c.args.g.category);
}

pub invariant_of-pollutant : goal.invariant_of-pollutant
invariant_of-pollutant c =
    let h : c.loop-p.p < pollutant_count = omega arith in record {
      ranged = coefficients _ (of_six c.args.ks (source_in_range_lem _ _ (sym c.source_in_range.ensures ∙ c.if-not-source_in_range.false)).1 c.loop-p.p h);
      percent = rw (c.controls_of-controls.ensures, c.standard_factors-factors.ensures, list_to_at 0 pollutant_count (percent_of standard_factors c.args.g) c.loop-p.p h)
          (control_most standard_factors standard_in_range c.args.g c.loop-p.p);
    }

pub loop-p-preserved : goal.loop-p-preserved
unfolding emission_parts
loop-p-preserved c =
    let y = c.of-year.result in
    let h : c.loop-p.p < pollutant_count = omega arith in record {
      one_each = simp length-set c.loop-p.invariant.one_each;
      passed = filled no_emission c.loop-p.emissions c.loop-p.p _
          (λ (m : ℕ). emission_parts standard_factors c.args.g (get_or c.args.ks m no_coefficients) m y.activity y.coldest)
          (omega arith) c.loop-p.invariant.passed
          (rw (c.annual.ensures, c.peak.ensures, c.codes_of-codes.ensures, c.controls_of-controls.ensures, c.standard_factors-factors.ensures, c.of-year.ensures.0, list_to_at 0 pollutant_count (pollutant_code c.args.g.fuel) c.loop-p.p h, list_to_at 0 pollutant_count (percent_of standard_factors c.args.g) c.loop-p.p h));
    }

pub returns : goal.returns
unfolding answer_in emissions_in if_then_else
returns c =
    let e : c.loop-p.p ≡ emission_count = omega arith in
    let s = c.of-year.ensures in
    rw (sym c.source_in_range.ensures ∙ c.if-not-source_in_range.false, sym c.zero_where_due.ensures ∙ c.if-not-zero_where_due.false)
    (ap Ok (list_to_is no_emission emission_count c.loop-p.emissions _
    c.loop-p.invariant.one_each
    (λ m q. (rw e at c.loop-p.invariant.passed) m q ∙ rw (s.1, s.2, c.times_of.ensures, c.standard_factors-factors.ensures))))
