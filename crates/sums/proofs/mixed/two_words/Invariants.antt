-- What is divided so far, and the digits taken.
use Rattle.std.proofs.Common.{◌≡◌, ◌<◌, take}
use Rattle.sums.specs.Figures.{mixed_of}
use Rattle.sums.proofs.LongDivision.{number}
use Rattle.sums.proofs.mixed.two_words.Given as goal

abbrev pub invariant-loop-bits : goal.invariant-loop-bits
invariant-loop-bits g l = (l.m ≡ mixed_of g.U.Unit.DENOMINATOR (number l.high (take l.bits-index l.bits-items))) × (l.m.part < g.U.Unit.DENOMINATOR)
