-- The tests, that of the shares by its own promise.
use Rattle.locomotive_fields.specs.Fields.{locomotive_in_range}
use Rattle.locomotive_fields.proofs.fields.locomotive_in_range.Goals as goal

pub returns : goal.returns
unfolding locomotive_in_range
returns c = rw c.shares_in_range.ensures
