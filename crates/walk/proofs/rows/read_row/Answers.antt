-- The read of its slot, with the fields of a slot that is refused dropped.
use Rattle.std.proofs.Common.{rules}
use Rattle.slots.specs.Layout.{coefficients_read}
use Rattle.slots.proofs.Cases.{reason_alone}
use Rattle.walk.proofs.rows.read_row.Goals as goal

pub returns : goal.returns
unfolding coefficients_read
returns c = reason_alone _ _ _ _ _ c.read_coefficients.ensures c.map_err.ensures.cases (λ e y p. search rules)
