-- The last digit goes after the digits of a tenth.
use Rattle.std.proofs.Common.{arith, ap, ◌/◌, ◌≡◌, ◌++◌, append_assoc, length, length-append}
use Rattle.slot_file.specs.Listing.{decimal}
use Rattle.listing_lines.proofs.Digits.{decimal_more, decimal_short}
use Rattle.listing_lines.proofs.page.Page.+push_decimal.Goals as goal

pub push_byte-requires-else-is_digit : goal.push_byte-requires-else-is_digit
push_byte-requires-else-is_digit t c =
    omega (arith, simp length-append at (ap length c.push_decimal.ensures.text), decimal_short 19 (c.args.x / 10) (omega arith) (omega arith) (omega arith))

pub returns-else-is_digit : goal.returns-else-is_digit
returns-else-is_digit t c =
    let a = c.args in
    let e : c.push_byte-else-is_digit.new.self ≡ a.self.now ++ decimal a.x =
    rw (decimal_more a.x (omega arith) (omega arith)) (simp append_assoc at (rw c.push_decimal.ensures.text at c.push_byte-else-is_digit.ensures)) in
    record { text = e; short = omega (arith, simp length-append at (ap length e), decimal_short 20 a.x (omega arith) (omega arith) (omega arith)) }
