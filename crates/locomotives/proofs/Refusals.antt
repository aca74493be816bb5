-- A locomotive out of range is refused 9, one in range whose shares do not total 1,000 is refused 14, both with slot 0: the two tests choose.
-- Assumes nothing.
use Rattle.std.proofs.Common.{◌≡◌, refl, true, false, Err}
use Rattle.sums.specs.Choice.{if_then_else}
use Rattle.sums.specs.Answer.{number_of}
use Rattle.sums.specs.declared.answer.Reason.TheVariants.{OutOfRange, Shares}
use Rattle.locomotive_fields.specs.Fields.{locomotive_in_range, shares_add_up}
use Rattle.locomotive_fields.specs.declared.fields.Locomotive.{Locomotive}
use Rattle.locomotives.specs.Rules.{locomotive_answer}

pub out_of_range : (l : Locomotive) → locomotive_in_range l ≡ false → (locomotive_answer l ≡ Err (record { reason = OutOfRange; slot = 0 })) × (number_of OutOfRange ≡ 9)
unfolding locomotive_answer if_then_else
out_of_range l h = (simp h, refl)

pub uneven : (l : Locomotive) → locomotive_in_range l ≡ true → shares_add_up l ≡ false → (locomotive_answer l ≡ Err (record { reason = Shares; slot = 0 })) × (number_of Shares ≡ 14)
unfolding locomotive_answer if_then_else
uneven l h u = (simp (h, u), refl)
