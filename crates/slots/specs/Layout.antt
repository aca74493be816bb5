-- 01, "The slot file": the fields of slot 0, a group, coefficients and a store record, by their byte positions; and 02, U1, those of a locomotive, and U2, one more
-- of a group.
use Rattle.std.specs.Prelude.{ℕ, ◌+◌, ◌*◌, ◌/◌, ◌%◌, ◌≡◌, Bool, true, ◌&&◌, ◌||◌, List, [], ◌∷◌, leb, eqb, ℤ, get_or, Result, Ok, Err}
use Rattle.sums.specs.Choice.{if_then_else, all_of, list_to}
use Rattle.sums.specs.Answer as answers
use Rattle.sums.specs.declared.answer.Reason.{Reason}
use Rattle.sums.specs.declared.answer.Reason.TheVariants.{WrongKind, OutOfRange}
use Rattle.vehicle_fields.specs.Fields.{group_in_range, coefficients_in_range}
use Rattle.vehicle_fields.specs.declared.group.Distances.{Distances}
use Rattle.vehicle_fields.specs.declared.group.Group.{Group}
use Rattle.vehicle_fields.specs.declared.group.Coefficients.{Coefficients}
use Rattle.store_records.specs.Fields.{handling_in_range, standing_in_range, aspiration_in_range}
use Rattle.store_records.specs.declared.records.Bulk.{Bulk}
use Rattle.store_records.specs.declared.records.Handling as handling
use Rattle.store_records.specs.declared.records.Standing as standing
use Rattle.store_records.specs.declared.records.Aspiration as aspiration
use Rattle.locomotive_fields.specs.Fields.{mode_count, locomotive_in_range}
use Rattle.locomotive_fields.specs.declared.fields.Locomotive.{Locomotive}
use Rattle.slots.specs.Bytes.{byte_at, u16_at, u32_at, i16_at, zero_from, number_of}
use Rattle.slots.specs.declared.slot.RefusedSlot.{RefusedSlot}
use Rattle.slots.specs.declared.header.Header.{Header}
use Rattle.slots.specs.declared.group.GroupSlot.{GroupSlot}
use Rattle.slots.specs.declared.coefficients.CoefficientSlot.{CoefficientSlot}
use Rattle.slots.specs.declared.locomotive.LocomotiveSlot.{LocomotiveSlot}
use Rattle.slots.specs.declared.store.StoreRecord.{StoreRecord}
use Rattle.slots.specs.declared.store.StoreRecord.TheVariants.{Handling, Standing, Aspiration}

-- "A chain runs by each slot's next index (0..1)"
abbrev pub next_of : List ℕ → ℕ
next_of t = u16_at t 0

-- questions 8 and 9 of a slot, "Has it a kind this chain carries?" and "Is each field in range and every unnamed byte zero?": what it holds, or the first that is
-- answered no
unfoldable pub slot_read : {A : Type 0} → Bool → Bool → A → Result A Reason
slot_read kind good x = if_then_else kind (if_then_else good (Ok x) (Err OutOfRange)) (Err WrongKind)

-- and of a slot that is refused its fields, x, too
unfoldable pub with_fields : {A : Type 0} → A → Result A Reason → Result A (RefusedSlot A)
with_fields x (Ok y) = Ok y
with_fields x (Err e) = Err (record { reason = e; fields = x })

-- **Slot 0**: "8..31 the twelve monthly mean temperatures as signed 16-bit tenths of a degree Celsius, January first"
unfoldable pub temperatures_of : List ℕ → List ℤ
temperatures_of t = list_to 12 (λ (m : ℕ). i16_at t (8 + 2 * m))

-- "0..1 format number ... 2..3 count of all slots. 4..5 first group. 6..7 first store record"; 02, U1: "Header bytes 32..33 become the first locomotive slot";
-- "Are bytes 32..63 of slot 0 zero?", where "question 4 skips the two bytes"
unfoldable pub header_of : List ℕ → Header
header_of t = record {
  format = u16_at t 0;
  count = u16_at t 2;
  heads = record { groups = u16_at t 4; stores = u16_at t 6; locomotives = u16_at t 32 };
  temperatures = temperatures_of t;
  rest = zero_from t 34 30;
}

-- **Group**: "22..33 days worked per month", and two distances
unfoldable pub days_of : List ℕ → List ℕ
days_of t = list_to 12 (λ (m : ℕ). byte_at t (22 + m))

unfoldable pub distances_at : List ℕ → ℕ → Distances
distances_at t a = record { nearest = record { 0 = u16_at t a }; farthest = record { 0 = u16_at t (a + 2) } }

-- "3 category ... 4 fuel ... 5 flags: bit 0 emission control done, bit 1 heated stand ... 6..7 vehicles N ... 8..9 most leaving in one hour N' ...
-- 10 leaving share a, 11 neutraliser factor for run and idle, 12 the same for warm-up ... 13 idle time ... 14..21 four distances"; 02, U2: "Group byte 36 holds
-- tenths of a minute"
unfoldable pub group_of : List ℕ → Group
group_of t = record {
  category = byte_at t 3;
  fuel = byte_at t 4;
  controlled = eqb (byte_at t 5 % 2) 1;
  heated = eqb (byte_at t 5 / 2 % 2) 1;
  vehicles = u16_at t 6;
  leaving = u16_at t 8;
  share = byte_at t 10;
  neutraliser = record { running = byte_at t 11; warming = byte_at t 12 };
  idle = record { 0 = byte_at t 13 };
  outward = distances_at t 14;
  inward = distances_at t 18;
  days = days_of t;
  timed = record { 0 = byte_at t 36 };
}

-- question 9 of a group: its fields, "the others zero" of the flags, and every byte that is not named
abbrev pub group_good_tests : List ℕ → Group → List Bool
group_good_tests t g = group_in_range g ∷ leb (byte_at t 5) 3 ∷ zero_from t 37 27 ∷ []

unfoldable pub group_good : List ℕ → Group → Bool
group_good t g = all_of (group_good_tests t g)

-- "(byte 2 = 1)"
abbrev pub group_kind : List ℕ → Bool
group_kind t = eqb (byte_at t 2) 1

-- "34..35 first coefficient slot"
abbrev pub first_of : List ℕ → ℕ
first_of t = u16_at t 34

unfoldable pub group_slot_of : List ℕ → GroupSlot
group_slot_of t = record { group = group_of t; next = next_of t; first = first_of t }

unfoldable pub group_read : List ℕ → Result GroupSlot (RefusedSlot GroupSlot)
group_read t = with_fields (group_slot_of t) (slot_read (group_kind t) (group_good t (group_of t)) (group_slot_of t))

-- **Coefficients**: "from 4 seven 4-byte numbers ...: warm-up per minute in warm, transitional, cold period; run per kilometre in the same three; idle per minute"
unfoldable pub coefficients_of : List ℕ → Coefficients
coefficients_of t = record {
  warmup = record { 0 = u32_at t 4 } ∷ record { 0 = u32_at t 8 } ∷ record { 0 = u32_at t 12 } ∷ [];
  run = record { 0 = u32_at t 16 } ∷ record { 0 = u32_at t 20 } ∷ record { 0 = u32_at t 24 } ∷ [];
  idle = record { 0 = u32_at t 28 };
}

-- question 9 of coefficients: "The pollutant number is judged by 10 ... not by 9"
unfoldable pub coefficients_good : List ℕ → Coefficients → Bool
coefficients_good t k = all_of (coefficients_in_range k ∷ zero_from t 32 32 ∷ [])

-- "(byte 2 = 2)"
abbrev pub coefficients_kind : List ℕ → Bool
coefficients_kind t = eqb (byte_at t 2) 2

-- "3 pollutant"
abbrev pub pollutant_of : List ℕ → ℕ
pollutant_of t = byte_at t 3

-- and the next index, by which the coefficient chain goes on
unfoldable pub coefficient_slot_of : List ℕ → CoefficientSlot
coefficient_slot_of t = record { pollutant = pollutant_of t; coefficients = coefficients_of t; next = next_of t }

unfoldable pub coefficients_read : List ℕ → Result CoefficientSlot (RefusedSlot CoefficientSlot)
coefficients_read t = with_fields (coefficient_slot_of t) (slot_read (coefficients_kind t) (coefficients_good t (coefficients_of t)) (coefficient_slot_of t))

-- **Store record**: "3 dust code ... 4..5 store number ... Handling and standing: 6 material ... 8..9 wind ... 10..11 moisture ... 12..13 grain ... 14 openness ... 20..23 amount"
unfoldable pub bulk_of : List ℕ → Bulk
bulk_of t = record {
  dust = byte_at t 3;
  store = u16_at t 4;
  material = byte_at t 6;
  wind = u16_at t 8;
  moisture = u16_at t 10;
  grain = u16_at t 12;
  openness = byte_at t 14;
  amount = u32_at t 20;
}

-- "Handling only: 15 drop class"
unfoldable pub handling_of : List ℕ → handling.Handling
handling_of t = record { bulk = bulk_of t; drop = byte_at t 15 }

-- question 9 of a handling record: "Is each field in range and every unnamed byte zero?"; 16..17 are K6, "Standing only"
unfoldable pub handling_good : List ℕ → handling.Handling → Bool
handling_good t h = all_of (handling_in_range h ∷ eqb (byte_at t 7) 0 ∷ zero_from t 16 4 ∷ zero_from t 24 40 ∷ [])

-- "Standing only: 16..17 K6"
unfoldable pub standing_of : List ℕ → standing.Standing
standing_of t = record { bulk = bulk_of t; k6 = u16_at t 16 }

-- question 9 of a standing record; 15 is the drop class, "Handling only"
unfoldable pub standing_good : List ℕ → standing.Standing → Bool
standing_good t s = all_of (standing_in_range s ∷ eqb (byte_at t 7) 0 ∷ eqb (byte_at t 15) 0 ∷ zero_from t 18 2 ∷ zero_from t 24 40 ∷ [])

-- "Aspiration: 8..11 dust C ... 12..15 gas V ... 16..17 capture ... 18..19 hours"
unfoldable pub aspiration_of : List ℕ → aspiration.Aspiration
aspiration_of t = record {
  dust = byte_at t 3;
  store = u16_at t 4;
  concentration = u32_at t 8;
  flow = u32_at t 12;
  capture = u16_at t 16;
  hours = u16_at t 18;
}

-- question 9 of an aspiration record
unfoldable pub aspiration_good : List ℕ → aspiration.Aspiration → Bool
aspiration_good t a = all_of (aspiration_in_range a ∷ zero_from t 6 2 ∷ zero_from t 20 44 ∷ [])

-- "(byte 2 = 3 handling, 4 standing, 5 aspiration)": the kinds that the store chain carries, and a choice among them
unfoldable pub store_kind : List ℕ → Bool
store_kind t = eqb (byte_at t 2) 3 || eqb (byte_at t 2) 4 || eqb (byte_at t 2) 5

unfoldable pub by_kind : {A : Type 0} → List ℕ → A → A → A → A
by_kind t handling standing aspiration = if_then_else (eqb (byte_at t 2) 3) handling (if_then_else (eqb (byte_at t 2) 4) standing aspiration)

-- "each with its own fields", and question 9 of them
unfoldable pub store_of : List ℕ → StoreRecord
store_of t = by_kind t (Handling (handling_of t)) (Standing (standing_of t)) (Aspiration (aspiration_of t))

unfoldable pub store_good : List ℕ → Bool
store_good t = by_kind t (handling_good t (handling_of t)) (standing_good t (standing_of t)) (aspiration_good t (aspiration_of t))

unfoldable pub store_read : List ℕ → Result StoreRecord Reason
store_read t = slot_read (store_kind t) (store_good t) (store_of t)

-- "For any answer that is an enum, a definition gives this paper's number and values for each of its cases": of a store record, the number of its kind and the
-- values of its fields
abbrev pub bulk_fields : Bulk → List ℕ
bulk_fields b = b.dust ∷ b.store ∷ b.material ∷ b.wind ∷ b.moisture ∷ b.grain ∷ b.openness ∷ b.amount ∷ []

abbrev pub store_fields : StoreRecord → List ℕ
store_fields (Handling h) = 3 ∷ h.drop ∷ bulk_fields h.bulk
store_fields (Standing s) = 4 ∷ s.k6 ∷ bulk_fields s.bulk
store_fields (Aspiration a) = 5 ∷ a.dust ∷ a.store ∷ a.concentration ∷ a.flow ∷ a.capture ∷ a.hours ∷ []

-- of a read, the number that refuses it, or 0, and the values that it hands over: those of the record, or none
abbrev pub read_number : Result StoreRecord Reason → ℕ
read_number (Ok r) = 0
read_number (Err e) = answers.number_of e

abbrev pub read_values : Result StoreRecord Reason → List ℕ
read_values (Ok r) = store_fields r
read_values (Err e) = []

-- a store record's read is right where it is the one of the slot, with the paper's number and values; the first value is the slot's own kind
pub record StoreReads (t : List ℕ) (r : Result StoreRecord Reason) : Type 0 where
  pub read : r ≡ store_read t
  pub number : read_number r ≡ number_of (store_kind t) (store_good t)
  pub values : read_values r ≡ if_then_else (store_kind t && store_good t) (store_fields (store_of t)) []
  pub kind : store_kind t ≡ true → get_or (store_fields (store_of t)) 0 0 ≡ byte_at t 2

-- 02, U1: "Kind 6 has 3 type ... 4..13 five 16-bit time shares ... idle to full power; 14..15 hours ... 16 is 1 for over two years old, else 0; 17 zone"
unfoldable pub shares_of : List ℕ → List ℕ
shares_of t = list_to mode_count (λ (k : ℕ). u16_at t (4 + 2 * k))

unfoldable pub locomotive_of : List ℕ → Locomotive
locomotive_of t = record { model = byte_at t 3; shares = shares_of t; hours = u16_at t 14; old = byte_at t 16; zone = byte_at t 17 }

-- question 9 of a locomotive
abbrev pub locomotive_good_tests : List ℕ → Locomotive → List Bool
locomotive_good_tests t l = locomotive_in_range l ∷ zero_from t 18 46 ∷ []

unfoldable pub locomotive_good : List ℕ → Locomotive → Bool
locomotive_good t l = all_of (locomotive_good_tests t l)

-- "Kind 6"
abbrev pub locomotive_kind : List ℕ → Bool
locomotive_kind t = eqb (byte_at t 2) 6

unfoldable pub locomotive_slot_of : List ℕ → LocomotiveSlot
locomotive_slot_of t = record { locomotive = locomotive_of t; next = next_of t }

unfoldable pub locomotive_read : List ℕ → Result LocomotiveSlot (RefusedSlot LocomotiveSlot)
locomotive_read t = with_fields (locomotive_slot_of t) (slot_read (locomotive_kind t) (locomotive_good t (locomotive_of t)) (locomotive_slot_of t))
