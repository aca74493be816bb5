-- Five numbers of 16 bits have a sum of 32, which is tested.
use Rattle.std.proofs.Common.{rules, ◌≡◌, sum}
use Rattle.std.proofs.iter.runs.Made.{chains}
use Rattle.std.proofs.iter.runs.Sources.{sums}
use Rattle.sums.proofs.Choices.{sum_to_list}
use Rattle.locomotive_fields.specs.Fields.{mode_count, shares_add_up}
use Rattle.locomotive_fields.proofs.fields.shares_add_up.Goals as goal

pub sum-requires-clause-fits : goal.sum-requires-clause-fits
sum-requires-clause-fits c = search (rules, sums)

pub returns : goal.returns
unfolding shares_add_up
returns c =
    let xs = c.args.l.shares in
    let e : c.sum.result ≡ sum xs = search (rules, chains) in rw (e, sum_to_list mode_count xs (search rules))
