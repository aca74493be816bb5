-- The emissions passed are added.
use Rattle.std.proofs.Common.{◌≡◌}
use Rattle.totals.specs.Totals.{plus_to_in}
use Rattle.totals.proofs.Totals.add_all.Given as goal

abbrev pub invariant-loop-e : goal.invariant-loop-e
invariant-loop-e g l = l.self ≡ plus_to_in l.initial.self l.e-items l.e-index
