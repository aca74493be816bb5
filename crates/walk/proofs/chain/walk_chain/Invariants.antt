-- The walk stands on the chain, before each step and after it: the step's promise, and no more. A chain of different slots ends.
use Rattle.std.proofs.Common.{◌-◌}
use Rattle.slot_file.specs.Questions.{most_slots}
use Rattle.walk.specs.OnePass.{Stands}
use Rattle.walk.proofs.chain.walk_chain.Given as goal

abbrev pub invariant-loop-at : goal.invariant-loop-at
invariant-loop-at g l = Stands g.C.Chain.kind l.file.bytes.now g.S.Summing.wanted l.state l.at

abbrev pub decreases-loop-at : goal.decreases-loop-at
decreases-loop-at g l = most_slots - l.at.passed
