-- 01's STARRED ROWS, by one claim over one table; locomotives and timed warm-ups by hand; a file for each refusal; and B's answer in a lent buffer. Computed, from the
-- definitions as a whole. What is lent a buffer goes by B's answer, which is computed once. Assumes nothing.
use Rattle.std.proofs.Common.{Ok, ◌≡◌, refl}
use Rattle.sums.specs.Choice.{if_then_else, all_to, sum_to, list_to}
use Rattle.sums.specs.Fraction.{total_to, parts_of}
use Rattle.sums.specs.Figures.{nearest}
use Rattle.sums.specs.Table.{up_to}
use Rattle.vehicle_fields.specs.Fields.{temperatures_in_range, distances_in_range, days_in_range, group_in_range, coefficients_in_range}
use Rattle.vehicle_fields.specs.SootAndLead.{all_zero, zero_where_due}
use Rattle.warmups.specs.Temperatures.{below, place, lower_of, lowest_to}
use Rattle.vehicle_factors.specs.Factors.{standard_factors}
use Rattle.warmups.specs.Warmup.{times_of, untimed_in, tenths_in, minutes_at, period_at}
use Rattle.vehicles.specs.Rules.{percent_of, run_and_idle, out_grams, in_grams, month_grams, annual_tonnes, peak_grams, pollutant_code}
use Rattle.store_records.specs.Fields.{bulk_in_range, handling_in_range, standing_in_range, aspiration_in_range}
use Rattle.stores.specs.Rules.{k6_of, handling_peak, standing_peak, bulk_tonnes, aspiration_peak, aspiration_tonnes}
use Rattle.locomotive_fields.specs.Fields.{shares_in_range, locomotive_in_range, shares_add_up}
use Rattle.locomotives.specs.Rules.{age_factor, mode_tonnes, locomotive_tonnes, greatest_hourly, locomotive_peak}
use Rattle.slots.specs.Bytes.{bytes_from, slot_of, i16_at, zero_from}
use Rattle.slots.specs.Layout.{temperatures_of, header_of, days_of, distances_at, group_of, group_good, coefficients_of, coefficients_good, bulk_of, handling_of, handling_good, standing_of, standing_good, aspiration_of, aspiration_good, store_kind, by_kind, store_of, store_good, shares_of, locomotive_of, locomotive_good}
use Rattle.slot_file.specs.Sources.{coefficient_slot, group_at, store_at, locomotive_at, temperatures_at, inventory_at}
use Rattle.slot_file.specs.Questions.{head_asks, member, link_asks, coefficient_holder, coefficient_asks, rows_asks, closing_asks, coefficient_slots, reached_by, group_asks, store_asks, locomotive_asks, reach_asks, last_asks}
use Rattle.slot_file.specs.Walk.{first, chain, locomotive_walk, store_walk, group_walk, outcome}
use Rattle.slot_file.specs.Figures.{group_contributions, store_contributions, locomotive_contributions, gathered, contributions, exact_sum, annual_figure, peak_figure, summed, answered, answer}
use Rattle.slot_file.specs.Untimed.{untimed_asks, untimed_outcome, untimed_contributions}
use Rattle.slot_file.specs.Listing.{listed, text, digits, padded, fixed, line, lines, listing, refusal_line, printed}
use Rattle.slot_file.specs.Surveyed.{Right, yards, records, bands, surveyed, locomotives, timed_stands, StandsBefore, refusals, file_of_b, LentOfB, answer_of_b}
use Rattle.slot_file.proofs.Examples.{as_examples}

computed : Right surveyed × Right locomotives × Right timed_stands × Right refusals × (answer file_of_b ≡ Ok answer_of_b) × StandsBefore
unfolding yards records bands locomotives timed_stands refusals answer_of_b if_then_else all_to list_to total_to nearest up_to temperatures_in_range distances_in_range days_in_range group_in_range coefficients_in_range all_zero below place standard_factors parts_of times_of untimed_in tenths_in minutes_at period_at percent_of run_and_idle out_grams in_grams month_grams annual_tonnes peak_grams lower_of lowest_to pollutant_code zero_where_due bulk_in_range handling_in_range standing_in_range aspiration_in_range k6_of handling_peak standing_peak bulk_tonnes aspiration_peak aspiration_tonnes shares_in_range locomotive_in_range sum_to shares_add_up age_factor mode_tonnes locomotive_tonnes greatest_hourly locomotive_peak bytes_from slot_of i16_at zero_from temperatures_of header_of days_of distances_at group_of group_good coefficients_of coefficients_good bulk_of handling_of handling_good standing_of standing_good aspiration_of aspiration_good store_kind by_kind store_of store_good shares_of locomotive_of locomotive_good coefficient_slot group_at store_at locomotive_at temperatures_at inventory_at head_asks member link_asks coefficient_holder coefficient_asks rows_asks closing_asks coefficient_slots reached_by group_asks store_asks locomotive_asks reach_asks last_asks first chain locomotive_walk store_walk group_walk outcome untimed_asks untimed_outcome untimed_contributions group_contributions store_contributions locomotive_contributions gathered contributions exact_sum annual_figure peak_figure summed answered answer text digits padded fixed line lines listing listed refusal_line printed
computed = (refl, refl, refl, refl, refl, record { timed = refl; accepted_then = refl; gave = refl })

pub as_surveyed : Right surveyed
as_surveyed = computed.0

pub as_by_hand : Right locomotives
as_by_hand = computed.1

pub as_timed : Right timed_stands
as_timed = computed.2

pub stands_before : StandsBefore
stands_before = computed.5

pub as_refused : Right refusals
as_refused = computed.3

pub as_lent : LentOfB (answer file_of_b) answer_of_b
as_lent = rw computed.4 as_examples.1
