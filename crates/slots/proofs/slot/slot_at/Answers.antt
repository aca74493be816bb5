-- One of the file cut into slots.
use Rattle.slots.proofs.Cut.{found}
use Rattle.slots.proofs.slot.slot_at.Goals as goal

pub returns : goal.returns
returns c = let p = c.as_chunks.ensures in found c.args.file.now c.args.n _ c.get.result p.front p.front_len c.get.ensures.lookup
