-- The digits before the point are no more than n are left.
use Rattle.std.proofs.Common.{arith, ap, length, length-append}
use Rattle.listing_lines.proofs.Digits.{whole_short}
use Rattle.listing_lines.proofs.page.Page.push_fixed.Goals as goal

pub returns-clause-short : goal.returns-clause-short
returns-clause-short c =
    let whole = simp length-append at (ap length c.push_decimal.ensures.text) in
    let point = simp length-append at (ap length c.push_byte.ensures) in
    omega (arith, whole, point, whole_short c.args.n c.power.result c.args.x (omega arith) c.power.ensures.0 (omega arith))
