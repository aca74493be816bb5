-- The rows passed stand in their places, their questions are answered yes and their slots are marked.
use Rattle.std.proofs.Common.{ℕ, ◌<◌, ◌≡◌, get_or, length}
use Rattle.vehicle_fields.specs.Fields.{pollutant_count, no_coefficients}
use Rattle.slots.specs.Bytes.{slot_of}
use Rattle.slots.specs.Layout.{coefficients_of}
use Rattle.slot_file.specs.Sources.{coefficient_slot}
use Rattle.slot_file.specs.Questions.{coefficient_holder, rows_asks}
use Rattle.slot_file.specs.Meaning.{AllYes}
use Rattle.walk.specs.Rows.{marks_to}
use Rattle.walk.proofs.rows.read_rows.Given as goal

abbrev pub invariant-loop-n : goal.invariant-loop-n
invariant-loop-n l = record {
  room : length l.coefficients ≡ pollutant_count;
  yes : AllYes (rows_asks l.file.bytes.now l.g l.n);
  holder_is : l.link.holder ≡ coefficient_holder l.file.bytes.now l.g l.n;
  link_is : l.link.slot ≡ coefficient_slot l.file.bytes.now l.g l.n;
  marks : l.reached ≡ marks_to l.file.bytes.now l.g l.initial.reached l.n;
  read : (m : ℕ) → m < l.n → get_or l.coefficients m no_coefficients ≡ coefficients_of (slot_of l.file.bytes.now (coefficient_slot l.file.bytes.now l.g m));
}
