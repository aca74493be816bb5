-- The least so far is the lowest of the months passed.
use Rattle.std.proofs.Common.{◌≡◌}
use Rattle.warmups.specs.Temperatures.{lowest_to}
use Rattle.warmups.proofs.temperature.lowest.Given as goal

abbrev pub invariant-loop-t : goal.invariant-loop-t
invariant-loop-t l = l.least ≡ lowest_to l.t-items l.t-index
