-- The bytes so far and the digits that are left make the whole.
use Rattle.std.proofs.Common.{◌≡◌, ◌-◌, ◌++◌, ◌≤◌, take, length}
use Rattle.slot_file.specs.Listing.{padded}
use Rattle.listing_lines.specs.Text.{listing_room}
use Rattle.listing_lines.proofs.page.Page.push_padded.Given as goal

abbrev pub invariant-loop-left : goal.invariant-loop-left
invariant-loop-left l = record {
  whole : take (l.end - l.left) l.self-inside.room ++ padded l.left l.x ≡ l.fn.self ++ padded l.n l.x;
  size : length l.self-inside.room ≡ listing_room;
  fits : l.end ≤ listing_room;
}
