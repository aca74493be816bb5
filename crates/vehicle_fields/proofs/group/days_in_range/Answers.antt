-- Each day beside its month's length, as the places of both lists have them.
use Rattle.std.proofs.Common.{ℕ, leb, ◌≡◌, ◌∙◌, rules, tests, refl}
use Rattle.std.specs.List.{list_all, zip}
use Rattle.std.proofs.lemmas.Iterator.{YieldsList-from_slice, YieldsList-from_zip}
use Rattle.std.proofs.lemmas.Iterator.Search.{all_from_yields_List}
use Rattle.sums.proofs.Choices.{all_to_pairs}
use Rattle.vehicle_fields.specs.Fields.{month_lengths, days_in_range}
use Rattle.vehicle_fields.proofs.group.days_in_range.Goals as goal

pub returns : goal.returns
unfolding days_in_range
returns c =
    let days = c.args.days in
    let e : c.all.result ≡ list_all (λ (x : ℕ × ℕ). leb x.0 x.1) (zip days month_lengths) =
    all_from_yields_List (λ (x : ℕ × ℕ). leb x.0 x.1) c.all.new.self _ c.all.result c.all.ensures.ran
    (YieldsList-from_zip (YieldsList-from_slice days cc) (YieldsList-from_slice month_lengths cc)) (λ x b q k. search (rules, tests)) in
    e ∙ all_to_pairs 0 0 leb 12 days month_lengths (search rules) refl
