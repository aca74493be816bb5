-- Two's complement at 16 bits: the low half reads as itself, the high half as -1 less what is missing to 65535. Assumes nothing.
use Rattle.std.proofs.Common.{◌≡◌, refl, ap, arith, ℕ, ltb, Bool, true, false, pos, negsuc, ◌-◌, suc}
use Rattle.std.specs.Int.{w16, cast_signed}
use mir.Val.{sel}
use Rattle.sums.specs.Choice.{if_then_else}
use Rattle.slots.specs.Bytes.{signed}

pub is_signed : (n : ℕ) → cast_signed w16 n ≡ signed n
unfolding if_then_else
is_signed n = go (ltb n 32768)
  where
    go : (low : Bool) → sel low (pos n) (negsuc (65536 - suc n)) ≡ if_then_else low (pos n) (negsuc (65535 - n))
    go true = refl
    go false = let e : 65536 - suc n ≡ 65535 - n = omega arith in ap negsuc e
