-- The tests of the shares, one after the other, are those at their places.
use Rattle.std.proofs.Common.{arith, ℕ, leb, ◌≡◌, ◌∙◌, ◌&&◌, true, Bool, sym, rules, refl}
use Rattle.std.proofs.lemmas.Grind.{common_steps}
use Rattle.std.specs.List.{fold}
use Rattle.sums.proofs.Choices.{all_of_map, all_to_list, fold_tests}
use Rattle.locomotive_fields.specs.Fields.{mode_count, shares_in_range}
use Rattle.locomotive_fields.proofs.fields.shares_in_range.Goals as goal

test : ℕ → Bool
test n = leb n 1000

pub returns : goal.returns
unfolding shares_in_range test
returns c =
    let xs = c.args.shares in
    let e : c.fold.result ≡ fold (λ (ok : Bool) (n : ℕ). ok && test n) true xs = grind (arith, common_steps) in
    e ∙ fold_tests test true xs ∙ sym (all_of_map test xs) ∙ all_to_list 0 test mode_count _ xs (search rules) (λ m p. refl)
