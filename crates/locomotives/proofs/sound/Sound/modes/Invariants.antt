-- The modes are those passed.
use Rattle.std.proofs.Common.{◌≡◌}
use Rattle.locomotives.specs.Parts.{all_modes}
use Rattle.locomotives.proofs.sound.Sound.modes.Given as goal

abbrev pub invariant-loop-k : goal.invariant-loop-k
invariant-loop-k l = l.m ≡ all_modes l.self.locomotive l.k
