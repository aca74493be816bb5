-- The rows' tests, one after the other, are those at their places.
use Rattle.std.proofs.Common.{arith, Bool, ◌≡◌, ◌∙◌, ◌&&◌, true, sym, rules, refl}
use Rattle.std.proofs.lemmas.Grind.{common_steps}
use Rattle.std.specs.List.{fold}
use Rattle.sums.proofs.Choices.{all_of_map, all_to_list, fold_tests}
use Rattle.vehicle_fields.specs.declared.group.Coefficients.{Coefficients}
use Rattle.vehicle_fields.specs.Fields.{pollutant_count, no_coefficients, coefficients_in_range, all_in_range}
use Rattle.vehicle_fields.proofs.group.all_in_range.Goals as goal

pub returns : goal.returns
unfolding all_in_range
returns c =
    let ks = c.args.ks in
    let e : c.fold.result ≡ fold (λ (ok : Bool) (k : Coefficients). ok && coefficients_in_range k) true ks = grind (arith, common_steps) in
    e ∙ fold_tests coefficients_in_range true ks ∙ sym (all_of_map coefficients_in_range ks)
    ∙ all_to_list no_coefficients coefficients_in_range pollutant_count _ ks (search rules) (λ m p. refl)
