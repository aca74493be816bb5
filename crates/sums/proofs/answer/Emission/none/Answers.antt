-- Zero sums.
use Rattle.sums.proofs.answer.Emission.none.Goals as goal

pub returns : goal.returns
returns c = rw (c.zero.ensures, c.zero-2.ensures)
