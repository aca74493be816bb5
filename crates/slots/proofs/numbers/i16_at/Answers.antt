-- Two's complement.
use Rattle.std.proofs.Common.{rules, arith, ◌∙◌, ap, SFits, to_z-of_z}
use Rattle.std.specs.Int.{w16, cast_signed}
use Rattle.slots.specs.Bytes.{u16_at, i16_at}
use Rattle.slots.proofs.Signed.{is_signed}
use Rattle.slots.proofs.numbers.i16_at.Goals as goal

pub returns : goal.returns
unfolding i16_at
returns c =
    let f : SFits w16 c.from_le_bytes.result = search rules in
    to_z-of_z f ∙ c.from_le_bytes.ensures ∙ ap (cast_signed w16) (omega arith) ∙ is_signed (u16_at c.args.t.now c.args.at)
