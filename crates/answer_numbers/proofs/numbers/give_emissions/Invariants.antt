-- The numbers of the emissions so far, and behind them what was there.
use Rattle.answer_numbers.proofs.Emissions.{Written}
use Rattle.answer_numbers.proofs.numbers.give_emissions.Given as goal

abbrev pub invariant-loop-i : goal.invariant-loop-i
invariant-loop-i l = Written l.es l.i l.fn.out l.out
