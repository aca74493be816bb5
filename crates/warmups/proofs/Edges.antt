-- A signed number that a local holds is read back as it was; and the standard library's lower one of two is the definition's. Assumes nothing.
use Rattle.std.proofs.Common.{◌≡◌, refl, true, false, cond, ℤ, w16, SFits, to_z, of_z, to_z-of_z}
use lib.Signed.{lt_z}
use Rattle.sums.specs.Choice.{if_then_else}
use Rattle.std.specs.Int.{int_min}
use Rattle.warmups.specs.Temperatures.{lower_of}

-- a local holds t's bits, and a test reads t back from them
abbrev pub held : ℤ → ℤ
held t = to_z w16 (of_z w16 t)

pub kept : (t : ℤ) → SFits w16 t → held t ≡ t
kept t f = to_z-of_z f

pub lower : (x y : ℤ) → int_min y x ≡ lower_of x y
unfolding lower_of if_then_else
lower x y = elim (lt_z x y) as (λ b. cond b x y ≡ if_then_else b x y) [ true ↦ refl | false ↦ refl ]
