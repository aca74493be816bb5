-- The letter's two desks: two pairs of different files that are accepted and alike, one with groups and one of locomotives alone (one of store records is computed in
-- `slot_file`). Computed, from the definitions as a whole. Assumes nothing.
use Rattle.std.proofs.Common.{refl}
use Rattle.sums.specs.Choice.{if_then_else, all_to, sum_to, list_to}
use Rattle.vehicle_fields.specs.Fields.{temperatures_in_range, distances_in_range, days_in_range, group_in_range, coefficients_in_range}
use Rattle.vehicle_fields.specs.SootAndLead.{all_zero, zero_where_due}
use Rattle.store_records.specs.Fields.{bulk_in_range, handling_in_range, aspiration_in_range}
use Rattle.locomotive_fields.specs.Fields.{shares_in_range, locomotive_in_range, shares_add_up}
use Rattle.slots.specs.Bytes.{bytes_from, slot_of, i16_at, zero_from}
use Rattle.slots.specs.Layout.{temperatures_of, header_of, days_of, distances_at, group_of, group_good, coefficients_of, coefficients_good, bulk_of, handling_of, handling_good, aspiration_of, aspiration_good, store_kind, by_kind, store_of, store_good, shares_of, locomotive_of, locomotive_good}
use Rattle.slot_file.specs.Sources.{coefficient_slot, group_at, store_at, locomotive_at, temperatures_at, inventory_at}
use Rattle.slot_file.specs.Questions.{head_asks, member, link_asks, coefficient_holder, coefficient_asks, rows_asks, closing_asks, coefficient_slots, reached_by, group_asks, store_asks, locomotive_asks, reach_asks, last_asks}
use Rattle.slot_file.specs.Walk.{first, chain, locomotive_walk, store_walk, group_walk, outcome}
use Rattle.slot_file.specs.Alike.{same_list, same_coefficients, same_group, same_store, same_locomotive}
use Rattle.slot_file.specs.Surveyed.{TwoDesks, TwoEngines}

pub two_desks : TwoDesks × TwoEngines
unfolding same_list same_coefficients same_group same_store same_locomotive if_then_else all_to sum_to list_to temperatures_in_range distances_in_range days_in_range group_in_range coefficients_in_range all_zero zero_where_due bulk_in_range handling_in_range aspiration_in_range shares_in_range locomotive_in_range shares_add_up bytes_from slot_of i16_at zero_from temperatures_of header_of days_of distances_at group_of group_good coefficients_of coefficients_good bulk_of handling_of handling_good aspiration_of aspiration_good store_kind by_kind store_of store_good shares_of locomotive_of locomotive_good coefficient_slot group_at store_at locomotive_at temperatures_at inventory_at head_asks member link_asks coefficient_holder coefficient_asks rows_asks closing_asks coefficient_slots reached_by group_asks store_asks locomotive_asks reach_asks last_asks first chain locomotive_walk store_walk group_walk outcome
two_desks = (
  record { ours = refl; theirs = refl; alike = record { temperatures = refl; groups = refl; stores = refl; locomotives = refl } },
  record { ours = refl; theirs = refl; alike = record { temperatures = refl; groups = refl; stores = refl; locomotives = refl } },
)
