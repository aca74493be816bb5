-- The temperatures' tests, one after the other, are those at their places.
use Rattle.std.proofs.Common.{arith, Bool, ◌≡◌, ◌∙◌, ◌&&◌, true, ℤ, pos, sym, rules, refl}
use Rattle.std.proofs.lemmas.Grind.{common_steps}
use Rattle.std.specs.List.{fold}
use Rattle.sums.proofs.Choices.{all_of_map, all_to_list, fold_tests}
use Rattle.vehicle_fields.specs.Fields.{temperature_in_range, temperatures_in_range}
use Rattle.vehicle_fields.proofs.temperature.temperatures_in_range.Goals as goal

pub returns : goal.returns
unfolding temperatures_in_range
returns c =
    let ts = c.args.ts in
    let e : c.fold.result ≡ fold (λ (ok : Bool) (t : ℤ). ok && temperature_in_range t) true ts = grind (arith, common_steps) in
    e ∙ fold_tests temperature_in_range true ts ∙ sym (all_of_map temperature_in_range ts)
    ∙ all_to_list (pos 0) temperature_in_range 12 _ ts (search rules) (λ m p. refl)
