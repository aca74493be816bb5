-- The sum of both at its place.
use Rattle.std.proofs.Common.{◌+◌, ap, ◌∙◌}
use Rattle.sums.specs.Figures.{units_in, words_of}
use Rattle.sums.specs.declared.words.Words.{Words}
use Rattle.totals.specs.Lent.{with_words, plus_at}
use Rattle.totals.proofs.lent.add_at.Goals as goal

pub returns : goal.returns
unfolding plus_at
returns c =
    let s = c.args in
    ap (with_words s.totals.now s.place) (c.plus-sum.ensures ∙ ap (λ (m : Words). words_of (units_in m + units_in s.x)) c.sum_at.ensures)
