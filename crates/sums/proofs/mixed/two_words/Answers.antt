-- Each step goes on with the next 16 bits.
use Rattle.sums.proofs.LongDivision.{next_digit}
use Rattle.sums.proofs.mixed.two_words.Goals as goal

pub loop-bits-preserved : goal.loop-bits-preserved
loop-bits-preserved g c =
    let next = c.step-next.ensures in
    (next_digit g.U.Unit.DENOMINATOR _ _ _ g.U.Unit.divides.least c.loop-bits-test.true c.loop-bits.invariant.0 next.0 next.1, next.2)
