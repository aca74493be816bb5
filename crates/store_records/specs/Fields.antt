-- 01, "The slot file", **Store record**: the ranges of the fields of the three kinds.
use Rattle.std.specs.Prelude.{Bool, ◌||◌, List, [], ◌∷◌, leb, eqb}
use Rattle.sums.specs.Choice.{all_of}
use Rattle.store_records.specs.declared.records.Bulk.{Bulk}
use Rattle.store_records.specs.declared.records.Handling.{Handling}
use Rattle.store_records.specs.declared.records.Standing.{Standing}
use Rattle.store_records.specs.declared.records.Aspiration.{Aspiration}

-- "3 dust code, 1 for 0152, 2 for 2908, 3 for 2909. 4..5 store number, 1 or more ... Handling and standing: 6 material, 1 to 9. 8..9 wind, 0 to 140 ...
-- 10..11 moisture, 0 to 1,000 ... 12..13 grain, any ... 14 openness, 1 to 7. 20..23 amount, 0 to 1,000,000"
abbrev pub bulk_tests : Bulk → List Bool
bulk_tests b =
    leb 1 b.dust ∷ leb b.dust 3 ∷ leb 1 b.store ∷ leb 1 b.material ∷ leb b.material 9 ∷ leb b.wind 140 ∷ leb b.moisture 1000
    ∷ leb 1 b.openness ∷ leb b.openness 7 ∷ leb b.amount 1000000 ∷ []

unfoldable pub bulk_in_range : Bulk → Bool
bulk_in_range b = all_of (bulk_tests b)

-- "Handling only: 15 drop class, 1 to 8"
abbrev pub handling_tests : Handling → List Bool
handling_tests h = bulk_in_range h.bulk ∷ leb 1 h.drop ∷ leb h.drop 8 ∷ []

unfoldable pub handling_in_range : Handling → Bool
handling_in_range h = all_of (handling_tests h)

-- "Standing only: 16..17 K6 in hundredths, 100 to 200, or 0 for missing"
abbrev pub standing_tests : Standing → List Bool
standing_tests s = bulk_in_range s.bulk ∷ leb s.k6 200 ∷ (eqb s.k6 0 || leb 100 s.k6) ∷ []

unfoldable pub standing_in_range : Standing → Bool
standing_in_range s = all_of (standing_tests s)

-- "Aspiration: 8..11 dust C, 0 to 1,000,000 mg/m³. 12..15 gas V, 0 to 1,000,000 litres a second ... 16..17 capture, 0 to 10,000 ... 18..19 hours, 0 to 8,784"
abbrev pub aspiration_tests : Aspiration → List Bool
aspiration_tests a =
    leb 1 a.dust ∷ leb a.dust 3 ∷ leb 1 a.store ∷ leb a.concentration 1000000 ∷ leb a.flow 1000000 ∷ leb a.capture 10000
    ∷ leb a.hours 8784 ∷ []

unfoldable pub aspiration_in_range : Aspiration → Bool
aspiration_in_range a = all_of (aspiration_tests a)
