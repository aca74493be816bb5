-- What inner functions compute: the peaks of the rules as whole numbers of parts. The proofs show that they are the fractions of Rules.
use Rattle.std.specs.Prelude.{ℕ, ◌*◌, ◌/◌, ◌-◌}
use Rattle.sums.specs.Fraction.{parts_of}
use Rattle.sums.specs.Figures.{tonne_parts, gram_parts, AnnualSum, PeakSum}
use Rattle.store_records.specs.declared.records.Bulk.{Bulk}
use Rattle.store_records.specs.declared.records.Handling.{Handling}
use Rattle.store_records.specs.declared.records.Standing.{Standing}
use Rattle.store_records.specs.declared.records.Aspiration.{Aspiration}
use Rattle.stores.specs.Rules.{numbered, k1_table, k2_table, q_table, k3_of, k4_table, k5_of, k6_of, k7_of, drop_table, dust_code}
use Rattle.sums.specs.declared.answer.Emission.{Emission}

-- K3 K4 K5 K7, in ten-millionths
unfoldable pub exposure_parts : Bulk → ℕ
exposure_parts b = parts_of 10 (k3_of b.wind) * parts_of 1000 (numbered k4_table b.openness) * parts_of 100 (k5_of b.moisture) * parts_of 10 (k7_of b.grain)

-- grams per second, in 6,000,000,000,000ths
unfoldable pub handling_parts : Handling → ℕ
handling_parts h =
    5 * parts_of 100 (numbered k1_table h.bulk.material) * parts_of 100 (numbered k2_table h.bulk.material) * exposure_parts h.bulk
    * parts_of 10 (numbered drop_table h.drop) * h.bulk.amount

unfoldable pub standing_parts : Standing → ℕ
standing_parts s = 6 * exposure_parts s.bulk * parts_of 1000 (numbered q_table s.bulk.material) * parts_of 100 (k6_of s.k6) * s.bulk.amount

-- grams per second, in 10,000,000,000ths
unfoldable pub aspiration_parts : Aspiration → ℕ
aspiration_parts a = a.concentration * a.flow * (10000 - a.capture)

-- exact units in a 10,000,000,000,000,000th of a tonne
abbrev mass_units : ℕ
mass_units = tonne_parts / 10000000000000000

-- of a 6,000,000,000,000th of a gram per second, the exact units of the peak, and of the year: 31.536 times 0.7 of it is 36,792 such parts of a tonne
abbrev pub bulk_units : ℕ
bulk_units = gram_parts / 6000000000000

abbrev pub bulk_year_units : ℕ
bulk_year_units = 36792 * mass_units

-- of a 10,000,000,000th of a gram per second, those of the peak, and of an hour: 0.0036 of it is 3,600 such parts of a tonne
abbrev pub aspiration_units : ℕ
aspiration_units = gram_parts / 10000000000

abbrev pub aspiration_hour_units : ℕ
aspiration_hour_units = 3600 * mass_units

-- an emission by its sums
abbrev pub emission_of : ℕ → AnnualSum → PeakSum → Emission
emission_of dust a p = record { code = dust_code dust; annual = a; peak = p }
