-- A power of ten is at least 1.
use Rattle.std.proofs.Common.{lit<}
use native.Mathlib.Nat.{one-le-pow}
use Rattle.listing_lines.proofs.page.power.Goals as goal

pub returns : goal.returns
returns c = (c.pow.ensures, rw c.pow.ensures (one-le-pow c.args.n 10 (lit< tt)))
