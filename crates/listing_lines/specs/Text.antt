-- Room for a listing, and how much of it a part takes at most: what the functions of this crate ask and promise of it. The bytes themselves are slot_file's
-- definitions, which are all that the promises of the crates above cite.
use Rattle.std.specs.Prelude.{ℕ, ◌*◌, List, ◌++◌}
use Rattle.slot_file.specs.Codes.{code_count}
use Rattle.slot_file.specs.Listing.{text, decimal}

-- room for any listing, which a code's line takes the most of: the longest listing has 532 bytes
abbrev pub listing_room : ℕ
listing_room = 64 * code_count

-- the bytes of a code's line at most: four digits, two numbers of 20 digits with a point each, two spaces and a line feed
abbrev pub line_most : ℕ
line_most = 49

-- two numbers parted by a space, and a line feed, and their bytes at most: 20 digits each
abbrev pub pair : ℕ → ℕ → List ℕ
pair x y = decimal x ++ text " " ++ decimal y ++ text "\n"

abbrev pub pair_most : ℕ
pair_most = 42
