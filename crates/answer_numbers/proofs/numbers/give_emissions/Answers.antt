-- Where there is room, two zeros, and after them the numbers of the emissions.
use Rattle.std.proofs.Common.{arith, le-leb, ◌≡◌, refl, sym, ◌∙◌, [], ◌∷◌, length, take_all}
use borrow.Author.Tests.{lt-leb}
use lib.Seq.{sets-eq}
use Rattle.sums.specs.Figures.{words_of}
use Rattle.sums.proofs.Choices.{yes, no}
use Rattle.answer_numbers.specs.Numbers.{into}
use Rattle.answer_numbers.proofs.Emissions.{accepted_length, turn}
use Rattle.answer_numbers.proofs.numbers.give_emissions.Goals as goal

pub returns-then-out-es : goal.returns-then-out-es
unfolding into
returns-then-out-es c =
    let a = c.args in
    let h = lt-leb _ _ c.if-out-es.true in
    (sym h, no _ _ _ _ (rw (← accepted_length a.es.now) at h) refl)

pub loop-i-init : goal.loop-i-init
loop-i-init c =
    let a = c.args in
    record { front = sets-eq (0 ∷ 0 ∷ []) a.out.now 0 (omega arith) }

pub loop-i-preserved : goal.loop-i-preserved
unfolding words_of
loop-i-preserved c =
    turn _ c.copy_from_slice.new.self c.loop-i.invariant (omega arith) (omega arith) (c.copy_from_slice.ensures.after ∙ c.emission_numbers.ensures)

pub returns : goal.returns
unfolding into
returns c =
    let a = c.args in
    let n : c.loop-i.i ≡ length a.es.now = omega arith in
    let h = le-leb _ _ c.if-out-es.false in
    let w = rw (n, take_all (length a.es.now) a.es.now (omega arith), ← accepted_length a.es.now) at c.loop-i.invariant.front in
    (sym h, yes _ _ _ _ (rw (← accepted_length a.es.now) at h) w)
