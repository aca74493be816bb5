-- The seven tests, one after the other.
use Rattle.std.proofs.Common.{arith, ℕ, Bool, leb, ◌≡◌, ◌∙◌, ◌&&◌, true, map, ap}
use Rattle.std.proofs.lemmas.Grind.{common_steps}
use Rattle.std.specs.List.{fold}
use Rattle.sums.specs.Choice.{all_of}
use Rattle.sums.proofs.Choices.{fold_tests}
use Rattle.vehicle_fields.specs.Fields.{coefficients_in_range}
use Rattle.vehicle_fields.proofs.group.coefficients_in_range.Goals as goal

pub returns : goal.returns
unfolding coefficients_in_range
returns c =
    let e : c.fold.result ≡ fold (λ (ok : Bool) (n : ℕ). ok && leb n 1000000) true c.seven.result = grind (arith, common_steps) in
    e ∙ fold_tests (λ n. leb n 1000000) true c.seven.result ∙ ap (λ l. all_of (map (λ n. leb n 1000000) l)) c.seven.ensures
