-- The emissions passed are added.
use Rattle.std.proofs.Common.{◌≡◌, length}
use Rattle.totals.specs.Lent.{plus_to_in}
use Rattle.totals.proofs.lent.add_all.Given as goal

abbrev pub invariant-loop-e : goal.invariant-loop-e
invariant-loop-e g l = (length l.totals ≡ length l.initial.totals) × (l.totals ≡ plus_to_in l.initial.totals l.fn.emissions l.e-index)
