-- The slots passed are all reached, so the rest is told of the whole.
use Rattle.std.proofs.Common.{arith, ℕ, suc, ◌+◌, ◌-◌, ◌≡◌, refl, sym, ◌∙◌, Bool, List, Err}
use Rattle.sums.specs.Choice.{if_then_else}
use Rattle.sums.specs.declared.answer.Reason.TheVariants.{Unreached}
use Rattle.slot_file.specs.Questions.{slot_count, member, reach_asks}
use Rattle.questions.specs.Told.{told_by}
use Rattle.questions.proofs.Telling.{marked}
use Rattle.walk.proofs.reached.ask_reached.Goals as goal

-- what is told from slot i on, by whether that slot is reached
reach_turn : (n m i : ℕ) (l : List ℕ) {b : Bool} → n ≡ suc m → member i l ≡ b
    → told_by (reach_asks n i l) ≡ if_then_else b (told_by (reach_asks m (i + 1) l)) (Err (record { reason = Unreached; slot = i }))
unfolding reach_asks told_by
reach_turn n m i l e b = rw (e, b)

pub loop-slot-init : goal.loop-slot-init
loop-slot-init c = (omega arith, λ l m. refl)

pub returns-then-not-reached-from : goal.returns-then-not-reached-from
unfolding if_then_else
returns-then-not-reached-from c l m =
    let i = c.loop-slot.slot in
    let n = slot_count c.args.file.now.bytes.now in
    let t = marked l i m (λ z. omega arith) (omega arith) (rw c.from.ensures at c.if-not-reached-from.true) in
    sym (c.loop-slot.invariant.1 l m ∙ reach_turn (n - i) (n - (i + 1)) i l (omega arith) t)

pub loop-slot-preserved : goal.loop-slot-preserved
unfolding if_then_else
loop-slot-preserved c =
    let i = c.loop-slot.slot in
    let n = slot_count c.args.file.now.bytes.now in (
      omega arith,
      λ l m.
          let t = marked l i m (λ z. omega arith) (omega arith) (rw c.from.ensures at c.if-not-reached-from.false) in
          c.loop-slot.invariant.1 l m ∙ reach_turn (n - i) (n - (i + 1)) i l (omega arith) t,
    )

pub returns : goal.returns
unfolding reach_asks told_by
returns c l m =
    let e : slot_count c.args.file.now.bytes.now - c.loop-slot.slot ≡ 0 = omega arith in
    sym (rw e at (c.loop-slot.invariant.1 l m))
