-- Two rows of the tables of examples, B's answer in a lent buffer and two alike files of store records, computed from the definitions as a whole: what refuses a wrong
-- definition of the listing, of a link's holder and of files that are alike where it stands. The tables are computed whole in the crate `surveyed`. And questions 7 and
-- 14 in other words. Assumes nothing.
use Rattle.std.proofs.Common.{ℕ, ◌≡◌, refl, List, Ok}
use Rattle.sums.specs.Choice.{if_then_else, all_to, list_to}
use Rattle.sums.specs.Figures.{nearest}
use Rattle.vehicle_fields.specs.Fields.{temperatures_in_range, distances_in_range, days_in_range, group_in_range, coefficients_in_range}
use Rattle.store_records.specs.Fields.{bulk_in_range, handling_in_range, aspiration_in_range}
use Rattle.stores.specs.Rules.{aspiration_peak, aspiration_tonnes}
use Rattle.slots.specs.Bytes.{bytes_from, slot_of, i16_at, zero_from}
use Rattle.slots.specs.Layout.{temperatures_of, header_of, days_of, distances_at, group_of, group_good, coefficients_of, coefficients_good, bulk_of, handling_of, handling_good, aspiration_of, aspiration_good, store_kind, by_kind, store_of, store_good}
use Rattle.slot_file.specs.Sources.{coefficient_slot, store_at, temperatures_at, Chains, inventory_at}
use Rattle.slot_file.specs.Questions.{head_asks, member, link_asks, coefficient_holder, coefficient_asks, rows_asks, group_asks, store_asks, locomotive_asks, reach_asks, last_asks}
use Rattle.slot_file.specs.Meaning.{asked_at}
use Rattle.slot_file.specs.Walk.{first, chain, locomotive_walk, store_walk, group_walk, outcome}
use Rattle.slot_file.specs.Figures.{store_contributions, gathered, contributions, exact_sum, annual_figure, peak_figure, summed, answered, answer}
use Rattle.slot_file.specs.Listing.{listed, text, digits, padded, fixed, line, lines, listing, refusal_line, printed}
use Rattle.slot_file.specs.Alike.{same_list, same_store}
use Rattle.slot_file.specs.Demands.{seven, nine, fourteen}
use Rattle.slot_file.specs.Surveyed.{Right, at_once, LentOfB, answer_of_b, TwoStores}

pub as_examples : Right at_once × LentOfB (Ok answer_of_b) answer_of_b × TwoStores
unfolding at_once answer_of_b if_then_else all_to list_to nearest temperatures_in_range distances_in_range days_in_range group_in_range coefficients_in_range aspiration_in_range aspiration_peak aspiration_tonnes bytes_from slot_of i16_at zero_from temperatures_of header_of days_of distances_at group_of group_good coefficients_of coefficients_good aspiration_of aspiration_good store_kind by_kind store_of store_good coefficient_slot store_at temperatures_at inventory_at head_asks member link_asks coefficient_holder coefficient_asks rows_asks group_asks store_asks reach_asks last_asks first chain locomotive_walk store_walk group_walk outcome store_contributions gathered contributions exact_sum annual_figure peak_figure summed answered answer text digits padded fixed line lines listing listed refusal_line printed same_list same_store bulk_in_range handling_in_range bulk_of handling_of handling_good
as_examples = (
  refl,
  record { short = refl; just = refl; longer = refl },
  record { ours = refl; theirs = refl; alike = record { temperatures = refl; groups = refl; stores = refl; locomotives = refl } },
)

-- questions 7 and 14 in other words: 7 of a link of each chain, behind 6, and 14 of a link to a locomotive, behind its own 9
pub seven_asks : (s : List ℕ) (c : Chains) (k : ℕ)
    → (asked_at (group_asks s c k) 1 ≡ seven c k) × (asked_at (store_asks s c k) 1 ≡ seven c k) × (asked_at (locomotive_asks s c k) 1 ≡ seven c k)
unfolding group_asks store_asks locomotive_asks link_asks
seven_asks s c k = (refl, refl, refl)

pub fourteen_asks : (s : List ℕ) (c : Chains) (k : ℕ) → (asked_at (locomotive_asks s c k) 3 ≡ nine s k) × (asked_at (locomotive_asks s c k) 4 ≡ fourteen s k)
unfolding locomotive_asks link_asks
fourteen_asks s c k = (refl, refl)
