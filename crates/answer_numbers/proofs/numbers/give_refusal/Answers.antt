-- Zeros, and at the front of them the number and the slot.
use Rattle.std.proofs.Common.{ℕ, arith, le-leb, sym, ap, ◌≡◌, ◌∙◌, ◌++◌, length, length-take-le, replicate, take, drop, slice_set}
use Rattle.sums.proofs.Choices.{yes}
use Rattle.answer_numbers.specs.Numbers.{into, refusal_numbers}
use Rattle.answer_numbers.proofs.Refusals.{refusal_length, over_zeros}
use Rattle.answer_numbers.proofs.numbers.give_refusal.Goals as goal

pub returns : goal.returns
unfolding into
returns c =
    let a = c.args in
    let h = le-leb _ _ c.if-out-size.false in
    let l = refusal_length a.size a.r c.requires in
    let z : c.fill.new.self ≡ replicate (length (take a.size a.out.now)) 0 = c.fill.ensures.after (λ y e. e) in
    let w : slice_set (slice_set (c.fill.new.self ++ drop a.size a.out.now) 0 c.from-2.result) 1 c.from-3.result ≡ refusal_numbers a.size a.r ++ drop a.size a.out.now =
    rw (z, length-take-le a.size a.out.now (omega arith), c.from-2.ensures, c.from.ensures, c.from-3.ensures) (over_zeros a.size a.r _ c.requires) in
    (sym h, yes _ _ _ _ (rw l h) (w ∙ ap (λ (n : ℕ). refusal_numbers a.size a.r ++ drop n a.out.now) (sym l)))
