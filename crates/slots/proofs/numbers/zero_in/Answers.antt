-- The bytes are tested one by one.
use Rattle.std.proofs.Common.{arith, ◌∙◌, ◌-◌}
use Rattle.slots.proofs.Zeros.{folded}
use Rattle.slots.proofs.numbers.zero_in.Goals as goal

pub returns : goal.returns
returns c =
    let p = c.args.places in
    c.are_zero.ensures ∙ folded c.args.t.now p.start (p.end - p.start) (omega arith)
