-- The bytes so far and the lines of the codes that are left make the whole.
use Rattle.std.proofs.Common.{◌≡◌, ◌+◌, ◌*◌, ◌≤◌, ◌++◌, length}
use Rattle.slot_file.specs.Codes.{codes, code_count}
use Rattle.slot_file.specs.Listing.{lines}
use Rattle.listing_lines.specs.Text.{line_most}
use Rattle.listing_lines.proofs.page.Page.push_lines.Given as goal

abbrev pub invariant-loop-code : goal.invariant-loop-code
invariant-loop-code l = let left = l.code-iterator.a.a.rest.now in record {
  whole : l.self ++ lines left l.code-iterator.a.b.rest.now l.code-iterator.b.rest.now ≡ l.initial.self ++ lines codes l.fn.annual l.fn.peak;
  short : length l.self + line_most * length left ≤ length l.initial.self + line_most * code_count;
  annual : length l.code-iterator.a.b.rest.now ≡ length left;
  peak : length l.code-iterator.b.rest.now ≡ length left;
}
