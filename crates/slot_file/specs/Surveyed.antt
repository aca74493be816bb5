-- 01, "Surveyed examples": the starred rows, as files of bytes with what they print; locomotives by 000 and 02; timed warm-ups; and files for what 01, 02 and the
-- letter say of refusals, of lent buffers and of two desks.
use Rattle.std.specs.Prelude.{ℕ, ◌+◌, ◌-◌, ◌/◌, ◌%◌, ◌≡◌, eqb, pos, get_or, length, replicate, List, [], ◌∷◌, ◌++◌, map, flat_map, Result, Ok, Err}
use Prim.Native.String.{String}
use Rattle.sums.specs.Choice.{if_then_else}
use Rattle.sums.specs.Fraction.{Frac, ◌over◌}
use Rattle.sums.specs.declared.answer.Reason.TheVariants.{OutOfRange, ShortBuffer}
use Rattle.sums.specs.declared.answer.Refusal.{Refusal}
use Rattle.vehicle_factors.specs.Factors.{standard_factors}
use Rattle.warmups.specs.Warmup.{minutes_at}
use Rattle.slot_file.specs.declared.Answer.{Answer}
use Rattle.slot_file.specs.Sources.{VehicleGroup, temperatures_at, Chains, inventory_at}
use Rattle.slot_file.specs.Questions.{Outcome, accepted, refused}
use Rattle.slot_file.specs.Walk.{outcome}
use Rattle.slot_file.specs.Codes.{codes}
use Rattle.slot_file.specs.Figures.{answer}
use Rattle.slot_file.specs.Alike.{AlikeFiles}
use Rattle.slot_file.specs.Untimed.{untimed_outcome, untimed_summed}
use Rattle.slot_file.specs.Listing.{Listed, listed, text, decimal, padded, printed}

-- two and four bytes, little-endian, and a slot filled up with zeros
abbrev two : ℕ → List ℕ
two n = n % 256 ∷ n / 256 ∷ []

abbrev four : ℕ → List ℕ
four n = two (n % 65536) ++ two (n / 65536)

abbrev slot : List ℕ → List ℕ
slot bytes = bytes ++ replicate (64 - length bytes) 0

abbrev twelve : List ℕ → List ℕ
twelve x = x ++ x ++ x ++ x ++ x ++ x ++ x ++ x ++ x ++ x ++ x ++ x

-- slot 0 of a file of n slots: the first group, store record and locomotive, and one temperature all year, in two bytes; and without locomotives
abbrev header : ℕ → ℕ → ℕ → ℕ → List ℕ → List ℕ
header n group store locomotive t = slot (two 1 ++ two n ++ two group ++ two store ++ twelve t ++ two locomotive)

abbrev head : ℕ → ℕ → ℕ → List ℕ → List ℕ
head n group store t = header n group store 0 t

-- B's group, with its next index, flags and first coefficient slot: car, petrol, N 10, N' 4, a 50, both neutraliser factors 100, idle 1 min, distances 100 and 300 both ways, 20 days a month
abbrev group_bytes : ℕ → ℕ → ℕ → List ℕ
group_bytes next flags first =
    two next ++ (1 ∷ 1 ∷ 1 ∷ flags ∷ []) ++ two 10 ++ two 4 ++ (50 ∷ 100 ∷ 100 ∷ 10 ∷ []) ++ two 100 ++ two 300 ++ two 100 ++ two 300 ++ replicate 12 20 ++ two first

abbrev group : ℕ → ℕ → ℕ → List ℕ
group next flags first = slot (group_bytes next flags first)

-- coefficients of a pollutant, the same in the three periods, in ten-thousandths of a gram
abbrev coefficients : ℕ → ℕ → ℕ → ℕ → ℕ → List ℕ
coefficients next pollutant warmup run idle =
    slot (two next ++ (2 ∷ pollutant ∷ []) ++ four warmup ++ four warmup ++ four warmup ++ four run ++ four run ++ four run ++ four idle)

-- coefficients of the six pollutants in six slots from k on: CO, soot as given, the others zero, and the last one's next index
abbrev pollutants_from : ℕ → ℕ → ℕ → List ℕ
pollutants_from k soot last =
    coefficients (k + 1) 1 40000 100000 20000 ++ coefficients (k + 2) 2 0 0 0 ++ coefficients (k + 3) 3 0 0 0 ++ coefficients (k + 4) 4 0 0 soot
    ++ coefficients (k + 5) 5 0 0 0 ++ coefficients last 6 0 0 0

abbrev pollutants : ℕ → ℕ → List ℕ
pollutants = pollutants_from 2

-- "Car, petrol, ... CO 4 / 10 / 2 g, others zero", at a temperature
abbrev yard : ℕ → List ℕ → List ℕ
yard flags t = head 8 1 0 t ++ group 0 flags 2 ++ pollutants 0 0

-- a store record: its next index, kind and dust code, then bytes from 4 on
abbrev store : ℕ → ℕ → ℕ → List ℕ → List ℕ
store next kind dust bytes = slot (two next ++ (kind ∷ dust ∷ []) ++ two 1 ++ bytes)

-- material, wind, moisture, grain, openness, drop class; K6; amount
abbrev bulk : ℕ → ℕ → ℕ → ℕ → ℕ → ℕ → ℕ → ℕ → List ℕ
bulk material wind moisture grain openness drop k6 amount =
    (material ∷ 0 ∷ []) ++ two wind ++ two moisture ++ two grain ++ (openness ∷ drop ∷ []) ++ two k6 ++ two 0 ++ four amount

-- concentration, flow, capture, hours
abbrev air : ℕ → ℕ → ℕ → ℕ → List ℕ
air c v capture hours = two 0 ++ four c ++ four v ++ two capture ++ two hours

-- a file of one store record
abbrev one : List ℕ → List ℕ
one record₁ = head 2 0 1 (two 0) ++ record₁

-- a file, the warm-up minutes of each of its groups in January, and the bytes that are printed for it
pub record Row : Type 0 where
  pub file : List ℕ
  pub minutes : List Frac
  pub prints : List ℕ

abbrev given : List ℕ → List Frac → List ℕ → Row
given f m t = record { file = f; minutes = m; prints = t }

abbrev warmups : List ℕ → Outcome → List Frac
warmups s (accepted c) = map (λ (v : VehicleGroup). minutes_at standard_factors v.group (get_or (temperatures_at s) 0 (pos 0))) (inventory_at s c).groups
warmups s (refused r) = []

-- what the definitions make of a row's file: a table is right where this is the table itself
abbrev pub worked : Row → Row
worked r = given r.file (warmups r.file (outcome r.file)) (printed (answer r.file))

abbrev pub Right : List Row → Type 0
Right rows = map worked rows ≡ rows

-- the figures of the code c, and zeros of the others
abbrev only : ℕ → String → ℕ → List ℕ
only c figures d = if_then_else (eqb c d) (text figures) (text " 0.000000 0.0000000")

-- a listing by each code's figures and how many groups, store records and locomotives there are; that codes and counts are written so, B's listing below says
-- letter by letter
abbrev sheet : (ℕ → List ℕ) → ℕ → ℕ → ℕ → List ℕ
sheet figures groups stores locomotives =
    text "code t/year g/s\n" ++ flat_map (λ (c : ℕ). padded 4 c ++ figures c ++ text "\n") codes
    ++ text "sources " ++ decimal groups ++ text " " ++ decimal stores ++ text " " ++ decimal locomotives ++ text "\n"

-- 01's listing of case B, letter by letter, with the third count
abbrev pub listing_of_b : String
listing_of_b = "code t/year g/s\n0152 0.000000 0.0000000\n0184 0.000000 0.0000000\n0301 0.000000 0.0000000\n0328 0.000000 0.0000000\n0330 0.000000 0.0000000\n0337 0.024000 0.0177778\n2704 0.000000 0.0000000\n2754 0.000000 0.0000000\n2908 0.000000 0.0000000\n2909 0.000000 0.0000000\nsources 1 0 0\n"

-- a record's file, and the listing of its dust 2908
abbrev dust : List ℕ → String → Row
dust bytes figures = given (one bytes) [] (sheet (only 2908 figures) 0 1 0)

-- a temperature below zero
abbrev below : ℕ → List ℕ
below n = two (65536 - n)

-- B's yard with flags at a temperature, its minutes in tenths, and its line
abbrev car : ℕ → List ℕ → ℕ → String → Row
car flags t m figures = given (yard flags t) (m over 10 ∷ []) (sheet (only 337 figures) 1 0 0)

abbrev pub file_of_b : List ℕ
file_of_b = yard 0 (two 100)

-- H
abbrev fan_of_h : Row
fan_of_h = dust (store 0 5 2 (air 500 2000 9500 1000)) " 0.180000 0.0500000"

-- A to D
unfoldable pub yards : List Row
yards =
    given (head 1 0 0 (two 0)) [] (sheet (only 0 "") 0 0 0)  -- A
    ∷ given file_of_b (30 over 10 ∷ []) (text listing_of_b)  -- B
    ∷ car 1 (two 100) 30 " 0.020160 0.0146667"  -- C, with control
    ∷ car 2 (two 100) 15 " 0.016800 0.0111111"  -- D, heated
    ∷ []

-- E to J
unfoldable pub records : List Row
records =
    dust (store 0 3 2 (bulk 5 20 50 10 1 4 0 1200)) " 3.894065 0.1764000"  -- E
    ∷ dust (store 0 3 2 (bulk 5 21 50 10 1 4 0 1200)) " 4.672878 0.2116800"  -- F, at wind 2.1
    ∷ dust (store 0 3 2 (bulk 5 140 50 10 1 4 0 1200)) " 8.956350 0.4057200"  -- "14.0 is accepted"
    ∷ given (one (store 0 3 2 (bulk 5 141 50 10 1 4 0 1200))) [] (text "refused 9 1\n")  -- "14.1 refused 9"
    ∷ dust (store 0 4 2 (bulk 1 30 5 1 2 0 0 100)) " 5.165597 0.2340000"  -- G, K6 missing
    ∷ fan_of_h
    ∷ given (head 3 0 1 (two 0) ++ store 2 5 2 (air 1 1 0 111) ++ store 0 5 2 (air 1 1 0 111)) [] (sheet (only 2908 " 0.000001 0.0000020") 0 2 0)  -- I
    ∷ dust (store 0 5 2 (air 1 1 0 111)) " 0.000000 0.0000010"  -- "one alone 0.000000"
    ∷ dust (store 0 4 2 (bulk 6 20 110 501 7 0 100 5)) " 0.000001 0.0000001"  -- J, 5 m²
    ∷ dust (store 0 4 2 (bulk 6 20 110 501 7 0 100 4)) " 0.000001 0.0000000"  -- J, 4 m²
    ∷ []

-- K: "5.1 → 3, 5.0 → 4, -5.0 → 4, -5.1 → 10, -10.0 → 10, -10.1 → 15", in tenths of a minute
unfoldable pub bands : List Row
bands =
    car 0 (two 51) 30 " 0.024000 0.0177778"
    ∷ car 0 (two 50) 40 " 0.028800 0.0222222"
    ∷ car 0 (below 50) 40 " 0.028800 0.0222222"
    ∷ car 0 (below 51) 100 " 0.057600 0.0488889"
    ∷ car 0 (below 100) 100 " 0.057600 0.0488889"
    ∷ car 0 (below 101) 150 " 0.081600 0.0711111"
    ∷ []

-- THE TABLE of the starred rows, A to K
abbrev pub surveyed : List Row
surveyed = yards ++ records ++ bands

-- ---- not of 01's examples: locomotives, by hand from 000. A slot: its next index, the type, the shares, hours, age mark and zone
abbrev locomotive : ℕ → ℕ → List ℕ → ℕ → ℕ → ℕ → List ℕ
locomotive next model shares hours old zone = slot (two next ++ (6 ∷ model ∷ []) ++ flat_map two shares ++ two hours ++ (old ∷ zone ∷ []))

-- table 22: TGM6 and TGM4; TGM3, TGK2 and TU4
abbrev heavy : List ℕ
heavy = 687 ∷ 201 ∷ 89 ∷ 15 ∷ 8 ∷ []

abbrev light : List ℕ
light = 701 ∷ 194 ∷ 85 ∷ 13 ∷ 7 ∷ []

-- a TGM6 in a slot of a kind, with the byte b at a place behind its fields
abbrev behind_fields : ℕ → ℕ → ℕ → List ℕ
behind_fields kind at b = slot (two 0 ++ (kind ∷ 1 ∷ []) ++ flat_map two heavy ++ two 1 ++ (0 ∷ 1 ∷ []) ++ replicate (at - 18) 0 ++ (b ∷ []))

-- a file of locomotives alone, the first in slot 1
abbrev engines : ℕ → List ℕ → List ℕ
engines n slots = header n 0 0 1 (two 0) ++ slots

-- the figures of CO, NO2 and soot
abbrev exhaust : String → String → String → ℕ → List ℕ
exhaust co no2 soot d = if_then_else (eqb d 301) (text no2) (if_then_else (eqb d 328) (text soot) (only 337 co d))

unfoldable pub locomotives : List Row
locomotives =
    -- TGM6, CO by table 22 0.94743 kg/h, times 3,000 × 1.2 × 0.7 / 1000; 4.13 / 3.6
    given (engines 2 (locomotive 0 1 heavy 3000 1 2)) [] (sheet (exhaust " 2.387524 1.1472222" " 15.459293 4.2250000" " 0.124009 0.1055556") 0 0 1)
    -- TU4, CO 0.19618 kg/h, times 1,000 × 0.8 × 0.7 / 1000; 0.78 / 3.6
    ∷ given (engines 2 (locomotive 0 4 light 1000 0 3)) [] (sheet (exhaust " 0.109861 0.2166667" " 0.366178 0.5583333" " 0.006834 0.0194444") 0 0 1)
    -- TGM4 that only idles, the whole of a leap year: 0.64 × 8,784 × 1.2 × 1.2 × 0.7 / 1000; its greatest with a share is 0.64
    ∷ given (engines 2 (locomotive 0 2 (1000 ∷ 0 ∷ 0 ∷ 0 ∷ 0 ∷ []) 8784 1 1)) [] (sheet (exhaust " 5.666734 0.1777778" " 13.281408 0.4166667" " 0.088543 0.0027778") 0 0 1)
    -- TGM4, CO 0.71344 kg/h, times 1,000 × 0.7 / 1000; 2.63 / 3.6
    ∷ given (engines 2 (locomotive 0 2 heavy 1000 0 2)) [] (sheet (exhaust " 0.499408 0.7305556" " 1.570807 1.9500000" " 0.027440 0.0638889") 0 0 1)
    -- TGM3, CO 0.60445 kg/h, times 1,000 × 0.7 / 1000; 2.66 / 3.6
    ∷ given (engines 2 (locomotive 0 3 light 1000 0 2)) [] (sheet (exhaust " 0.423115 0.7388889" " 2.105103 2.5583333" " 0.019355 0.0722222") 0 0 1)
    -- TGM6 that does not work: no tonnes, and the peak all the same
    ∷ given (engines 2 (locomotive 0 1 heavy 0 1 2)) [] (sheet (exhaust " 0.000000 1.1472222" " 0.000000 4.2250000" " 0.000000 0.1055556") 0 0 1)
    -- two of TGM3 with a fifth of the time in each mode, 6.03 / 5 × 1,000 × 0.7 / 1000 each; 2.66 / 3.6 each
    ∷ given (engines 3 (locomotive 2 3 (replicate 5 200) 1000 0 2 ++ locomotive 0 3 (replicate 5 200) 1000 0 2)) []
    (sheet (exhaust " 1.688400 1.4777778" " 8.607200 5.1166667" " 0.162400 0.1444444") 0 0 2)
    ∷ []

abbrev chains : List ℕ → List ℕ → List ℕ → Chains
chains gs ss ls = record { groups = gs; stores = ss; locomotives = ls }

-- ---- not of 01's examples: timed warm-ups, by hand from 01 and 02. B's yard with flags, timed, at a temperature; its CO has 4, 5 and 6 g a minute in the warm,
-- transitional and cold period. A byte may follow
abbrev stand : ℕ → List ℕ → List ℕ → List ℕ
stand flags timed t =
    head 8 1 0 t ++ slot (group_bytes 0 flags 2 ++ timed)
    ++ slot (two 3 ++ (2 ∷ 1 ∷ []) ++ four 40000 ++ four 50000 ++ four 60000 ++ four 100000 ++ four 100000 ++ four 100000 ++ four 20000)
    ++ coefficients 4 2 0 0 0 ++ coefficients 5 3 0 0 0 ++ coefficients 6 4 0 0 0 ++ coefficients 7 5 0 0 0 ++ coefficients 0 6 0 0 0

abbrev timed_stand : ℕ → ℕ → List ℕ → String → Row
timed_stand flags m t figures = given (stand flags (m ∷ []) t) (m over 10 ∷ []) (sheet (only 337 figures) 1 0 0)

-- a vehicle's trip out has 10 × 0.2 + 2 × 1 = 4 g beside its warm-up, its way in has 4 g; 1,200 such days in the year, 4 trips out in 3,600 seconds
unfoldable pub timed_stands : List Row
timed_stands =
    timed_stand 0 1 (two 100) " 0.010080 0.0048889"  -- 0.4 + 4 out
    ∷ timed_stand 0 250 (two 100) " 0.129600 0.1155556"  -- 100 + 4 out
    ∷ timed_stand 0 30 (two 100) " 0.024000 0.0177778"  -- the table's 3 minutes: as B
    ∷ timed_stand 1 25 (two 100) " 0.018240 0.0128889"  -- with control: (10 + 2) × 0.8 + 2 out, 2 + 1.6 in
    ∷ timed_stand 0 25 (below 200) " 0.027600 0.0211111"  -- 2.5 minutes and not 15, of the cold period: 15 + 4 out
    ∷ timed_stand 2 25 (below 200) " 0.021600 0.0155556"  -- heated: 2.5 minutes and not 1.5, of the warm period: 10 + 4 out
    ∷ given (stand 0 (0 ∷ []) (below 200)) (150 over 10 ∷ []) (sheet (only 337 " 0.117600 0.1044444") 1 0 0)  -- untimed: 90 + 4 out
    ∷ []

-- before warm-ups were timed: the file of a timed stand was refused, that of one which is not timed was accepted; and a stand gave what one gives that is not timed
pub record StandsBefore : Type 0 where
  pub timed : untimed_outcome (stand 0 (25 ∷ []) (below 200)) ≡ refused (record { reason = OutOfRange; slot = 1 })
  pub accepted_then : untimed_outcome (stand 0 (0 ∷ []) (below 200)) ≡ accepted (chains (1 ∷ []) [] [])
  pub gave : printed (Ok (untimed_summed (inventory_at (stand 0 (25 ∷ []) (below 200)) (chains (1 ∷ []) [] [])))) ≡ sheet (only 337 " 0.117600 0.1044444") 1 0 0

-- a listing of an answer in a lent buffer of n bytes, and B's: one byte too short, as long, and longer
abbrev lent_of : Result Answer Refusal → ℕ → Listed
lent_of v n = listed v (replicate n 7)

pub record LentOfB (v : Result Answer Refusal) (a : Answer) : Type 0 where
  pub short : lent_of v 269 ≡ record { listing = Err (record { reason = ShortBuffer; slot = 0 }); buffer = replicate 269 7 }
  pub just : lent_of v 270 ≡ record { listing = Ok (record { answer = a; written = 270 }); buffer = text listing_of_b }
  pub longer : lent_of v 272 ≡ record { listing = Ok (record { answer = a; written = 270 }); buffer = text listing_of_b ++ (7 ∷ 7 ∷ []) }

-- B's answer: only the code 0337 has figures
unfoldable pub answer_of_b : Answer
answer_of_b = record {
  annual = map (λ (c : ℕ). if_then_else (eqb c 337) 24000 0) codes;
  peak = map (λ (c : ℕ). if_then_else (eqb c 337) 177778 0) codes;
  counts = record { groups = 1; stores = 0; locomotives = 0 };
}

-- ---- not of 01's examples: a file for each number from 1 to 12 and for 14, for some by several ways
abbrev no : List ℕ → String → Row
no f t = given f [] (text t)

-- a zero link, at the coefficient slot that holds it
abbrev zero_at_row : Row
zero_at_row = no (head 3 1 0 (two 0) ++ group 0 0 2 ++ coefficients 0 1 0 0 0) "refused 10 2\n"

unfoldable pub refusals : List Row
refusals =
    no [] "refused 1 0\n"
    ∷ no (replicate 65 0) "refused 1 0\n"
    ∷ no (slot (two 2 ++ two 1)) "refused 2 0\n"
    ∷ no (head 3 0 0 (two 0)) "refused 3 0\n"
    ∷ no (two 1 ++ two 1 ++ replicate 59 0 ++ (1 ∷ [])) "refused 4 0\n"
    ∷ no (two 1 ++ two 1 ++ replicate 30 0 ++ (1 ∷ []) ++ replicate 29 0) "refused 4 0\n"  -- just behind the third head
    ∷ no (two 1 ++ two 2 ++ replicate 28 0 ++ two 1 ++ (1 ∷ []) ++ replicate 29 0 ++ locomotive 0 1 heavy 1 0 1) "refused 4 0\n"  -- and where there is a locomotive
    ∷ no (two 1 ++ two 2 ++ replicate 28 0 ++ two 1 ++ replicate 29 0 ++ (1 ∷ []) ++ locomotive 0 1 heavy 1 0 1) "refused 4 0\n"
    ∷ no (head 1 0 0 (two 601)) "refused 5 0\n"
    ∷ no (head 1 1 0 (two 0)) "refused 6 0\n"  -- at the header, which holds the link
    ∷ no (head 2 0 1 (two 0) ++ store 2 5 2 (air 1 1 0 1)) "refused 6 1\n"
    ∷ no (head 2 0 1 (two 0) ++ store 1 5 2 (air 1 1 0 1)) "refused 7 1\n"  -- a chain that comes back
    ∷ no (head 2 0 1 (two 0) ++ slot []) "refused 8 1\n"
    ∷ no (head 8 1 0 (two 0) ++ group 0 4 2 ++ pollutants 0 0) "refused 9 1\n"  -- a flag of no meaning
    ∷ no (stand 0 (251 ∷ []) (two 0)) "refused 9 1\n"  -- a warm-up timed too long
    ∷ no (stand 0 (25 ∷ 1 ∷ []) (two 0)) "refused 9 1\n"  -- a byte behind it
    ∷ no (head 2 1 0 (two 0) ++ group 0 0 0) "refused 10 1\n"  -- a zero link, at the group
    ∷ zero_at_row
    ∷ no (head 3 1 0 (two 0) ++ group 0 0 2 ++ coefficients 2 1 0 0 0) "refused 10 2\n"  -- a pollutant out of turn
    ∷ no (head 3 1 0 (two 0) ++ group 0 0 3 ++ slot []) "refused 6 1\n"
    ∷ no (head 4 0 1 (two 0) ++ store 0 5 2 (air 1 1 0 1) ++ slot [] ++ slot []) "refused 12 2\n"  -- the lowest
    ∷ no (header 1 0 0 1 (two 0)) "refused 6 0\n"  -- on the locomotive chain: at the header
    ∷ no (engines 2 (locomotive 2 1 heavy 1 0 1)) "refused 6 1\n"
    ∷ no (engines 2 (locomotive 1 1 heavy 1 0 1)) "refused 7 1\n"
    ∷ no (header 2 0 1 1 (two 0) ++ store 0 5 2 (air 1 1 0 1)) "refused 7 1\n"  -- a store record that the locomotive chain names
    ∷ no (engines 2 (store 0 5 2 (air 1 1 0 1))) "refused 8 1\n"
    ∷ no (head 2 0 1 (two 0) ++ locomotive 0 1 heavy 1 0 1) "refused 8 1\n"  -- a locomotive on the store chain
    ∷ no (engines 2 (group 0 0 2)) "refused 8 1\n"  -- a group on the locomotive chain alone
    ∷ no (engines 2 (behind_fields 7 18 0)) "refused 8 1\n"  -- the kind behind the last
    ∷ no (engines 2 (locomotive 0 0 heavy 1 0 1)) "refused 9 1\n"
    ∷ no (engines 2 (locomotive 0 1 (1001 ∷ 0 ∷ 0 ∷ 0 ∷ 0 ∷ []) 1 0 1)) "refused 9 1\n"
    ∷ no (engines 2 (locomotive 0 1 heavy 8785 0 1)) "refused 9 1\n"
    ∷ no (engines 2 (locomotive 0 1 light 1 2 1)) "refused 9 1\n"
    ∷ no (engines 2 (locomotive 0 1 light 1 0 0)) "refused 9 1\n"
    ∷ no (engines 2 (locomotive 0 1 light 1 0 4)) "refused 9 1\n"
    ∷ no (engines 2 (behind_fields 6 18 1)) "refused 9 1\n"  -- a byte behind the zone
    ∷ no (engines 2 (behind_fields 6 63 1)) "refused 9 1\n"
    ∷ no (engines 2 (locomotive 0 5 (replicate 5 1000) 1 0 1)) "refused 9 1\n"  -- 9 before 14
    ∷ no (engines 2 (locomotive 9 1 (replicate 5 199) 1 0 1)) "refused 14 1\n"  -- 14 before the next link
    ∷ no (engines 3 (locomotive 0 1 (replicate 5 201) 1 0 1 ++ slot [])) "refused 14 1\n"  -- and before 12
    ∷ no (engines 4 (locomotive 3 1 heavy 1 0 1 ++ locomotive 0 1 heavy 1 0 1 ++ locomotive 2 1 (replicate 5 201) 1 0 1)) "refused 14 3\n"  -- at the second of three
    ∷ no (engines 3 (locomotive 0 1 heavy 1 0 1 ++ slot [])) "refused 12 2\n"
    ∷ no (head 8 1 1 (two 0) ++ group 0 0 2 ++ pollutants 0 0) "refused 7 1\n"  -- a group that the store chain names
    ∷ no (header 8 1 0 1 (two 0) ++ group 0 0 2 ++ pollutants 0 0) "refused 7 1\n"  -- and one that the locomotive chain names
    ∷ no (head 8 1 0 (two 0) ++ group 2 0 2 ++ pollutants 0 0) "refused 8 2\n"  -- a coefficient slot that the group chain names is new
    ∷ no (head 8 1 0 (two 0) ++ group 0 0 2 ++ pollutants 0 2) "refused 10 7\n"  -- a seventh
    ∷ no (head 8 1 0 (two 0) ++ group 0 0 2 ++ pollutants 1 0) "refused 11 1\n"
    ∷ []

-- ---- what the crate of the definitions computes of all this itself, beside B's answer in a lent buffer and `TwoStores`: two rows that take no time
unfoldable pub at_once : List Row
at_once = fan_of_h ∷ zero_at_row ∷ []

-- ---- the letter's two desks: two different files, both accepted, that are alike
pub record Desks (s t : List ℕ) (c d : Chains) : Type 0 where
  pub ours : outcome s ≡ accepted c
  pub theirs : outcome t ≡ accepted d
  pub alike : AlikeFiles (inventory_at s c) (inventory_at t d)

abbrev fan : ℕ → List ℕ
fan next = store next 5 2 (air 500 2000 9500 1000)

abbrev heap : ℕ → List ℕ
heap next = store next 3 2 (bulk 5 20 50 10 1 4 0 1200)

abbrev six : ℕ → List ℕ
six k = pollutants_from k 0 0

abbrev shunter : ℕ → List ℕ
shunter next = locomotive next 1 heavy 3000 1 2

-- three groups, two of them alike, with one set of coefficients, before a fan, a heap and a locomotive; and the same in another order, each group with coefficients
-- of its own
abbrev our_desk : List ℕ
our_desk = header 13 1 10 12 (two 50) ++ group 2 0 4 ++ group 3 1 4 ++ group 0 0 4 ++ six 4 ++ fan 11 ++ heap 0 ++ shunter 0

abbrev their_desk : List ℕ
their_desk = header 25 18 2 1 (two 50) ++ shunter 0 ++ heap 3 ++ fan 0 ++ group 0 1 5 ++ six 5 ++ group 4 0 12 ++ six 12 ++ group 11 0 19 ++ six 19

abbrev pub TwoDesks : Type 0
TwoDesks = Desks our_desk their_desk (chains (3 ∷ 2 ∷ 1 ∷ []) (11 ∷ 10 ∷ []) (12 ∷ [])) (chains (4 ∷ 11 ∷ 18 ∷ []) (3 ∷ 2 ∷ []) (1 ∷ []))

-- and without groups: two alike fans and a heap, the heap between them or last; two alike locomotives and a third, which comes last or first
abbrev pub TwoStores : Type 0
TwoStores =
    Desks (head 4 0 1 (two 50) ++ fan 2 ++ heap 3 ++ fan 0) (head 4 0 3 (two 50) ++ heap 0 ++ fan 1 ++ fan 2) (chains [] (3 ∷ 2 ∷ 1 ∷ []) []) (chains [] (1 ∷ 2 ∷ 3 ∷ []) [])

abbrev pub TwoEngines : Type 0
TwoEngines =
    Desks (engines 4 (shunter 2 ++ shunter 3 ++ locomotive 0 4 light 1 0 3)) (engines 4 (locomotive 3 4 light 1 0 3 ++ shunter 0 ++ shunter 2)) (chains [] [] (3 ∷ 2 ∷ 1 ∷ []))
    (chains [] [] (2 ∷ 3 ∷ 1 ∷ []))
