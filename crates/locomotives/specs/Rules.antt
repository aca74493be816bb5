-- 02, U1, over table 21 of SO 153-34.02.317-2003 (source document 000, 3.3).
use Rattle.std.specs.Prelude.{ℕ, zero, suc, ◌+◌, ◌*◌, ◌-◌, List, [], ◌∷◌, ◌++◌, leb, eqb, get_or, length, Result, Ok}
use Rattle.sums.specs.Choice.{if_then_else, list_to}
use Rattle.sums.specs.Fraction.{Frac, ◌over◌, whole, ◌⊙◌, ◌per◌, total_to}
use Rattle.sums.specs.Answer.{Contribution, contribution, refused_by, emitted}
use Rattle.sums.specs.declared.answer.Emission.{Emission}
use Rattle.sums.specs.declared.answer.Reason.TheVariants.{OutOfRange, Shares}
use Rattle.sums.specs.declared.answer.Refusal.{Refusal}
use Rattle.locomotive_fields.specs.Fields.{mode_count, locomotive_in_range, shares_add_up}
use Rattle.locomotive_fields.specs.declared.fields.Locomotive.{Locomotive}

-- "CO, NO2 and soot join the sums": 0337, 0301 and 0328 by 01, in the order of table 21
abbrev pub locomotive_codes : List ℕ
locomotive_codes = 337 ∷ 301 ∷ 328 ∷ []

abbrev pub substance_count : ℕ
substance_count = length locomotive_codes

abbrev hundredths : ℕ → ℕ → ℕ → ℕ → ℕ → List Frac
hundredths a b c d e = a over 100 ∷ b over 100 ∷ c over 100 ∷ d over 100 ∷ e over 100 ∷ []

-- table 21, kilograms per hour: a row of the five modes, idle, 25 %, 50 %, 75 % of the power and full power, for each type and each substance
abbrev pub table21 : List Frac
table21 =
    hundredths 84 92 136 209 413  -- TGM6, CO
    ++ hundredths 411 986 1137 1304 1521  -- nitrogen oxides
    ++ hundredths 2 6 18 29 38  -- soot
    ++ hundredths 64 75 93 128 263  -- TGM4
    ++ hundredths 150 299 524 600 702
    ++ hundredths 1 6 17 22 23
    ++ hundredths 54 58 91 134 266  -- TGM3
    ++ hundredths 206 401 722 824 921
    ++ hundredths 1 3 13 15 26
    ++ hundredths 17 22 28 39 78  -- TU4 and TGK2
    ++ hundredths 45 88 154 175 201
    ++ 4 over 1000 ∷ 2 over 100 ∷ 5 over 100 ∷ 6 over 100 ∷ 7 over 100 ∷ []

-- the place of a type, "1 to 4 in the order of 000 Table 21", a substance and a mode, both from 0
abbrev pub place_in : ℕ → ℕ → ℕ → ℕ
place_in model p k = mode_count * (substance_count * (model - 1) + p) + k

abbrev pub hourly_at : Locomotive → ℕ → ℕ → Frac
hourly_at l p k = get_or table21 (place_in l.model p k) (whole 0)

-- "(1.2 if old, else 1)"
unfoldable pub age_factor : ℕ → Frac
age_factor old = if_then_else (eqb old 1) (12 over 10) (whole 1)

-- "(1.2, 1, 0.8 by zone)"
abbrev pub zone_table : List Frac
zone_table = 12 over 10 ∷ whole 1 ∷ 8 over 10 ∷ []

abbrev pub zone_factor : ℕ → Frac
zone_factor zone = get_or zone_table (zone - 1) (whole 0)

-- "kg/h × share × hours × (1.2 if old, else 1) × (1.2, 1, 0.8 by zone) × 0.7 / 1000", of one mode
unfoldable pub mode_tonnes : Locomotive → ℕ → ℕ → Frac
mode_tonnes l p k =
    hourly_at l p k ⊙ (get_or l.shares k 0 over 1000) ⊙ whole l.hours ⊙ age_factor l.old ⊙ zone_factor l.zone ⊙ (7 over 10) per 1000

-- "Annual tonnes are the sum over the five modes"
unfoldable pub locomotive_tonnes : Locomotive → ℕ → Frac
locomotive_tonnes l p = total_to mode_count (mode_tonnes l p)

-- the larger of two
abbrev pub larger : Frac → Frac → Frac
larger x y = if_then_else (leb (x.num * y.den) (y.num * x.den)) y x

-- "the greatest kg/h among modes with a nonzero share", of the first n modes
unfoldable pub greatest_hourly : Locomotive → ℕ → ℕ → Frac
greatest_hourly l p zero = whole 0
greatest_hourly l p (suc k) = if_then_else (eqb (get_or l.shares k 0) 0) (greatest_hourly l p k) (larger (greatest_hourly l p k) (hourly_at l p k))

-- "The peak is the greatest kg/h among modes with a nonzero share, over 3.6", in grams per second
unfoldable pub locomotive_peak : Locomotive → ℕ → Frac
locomotive_peak l p = greatest_hourly l p mode_count ⊙ (10 over 36)

-- what a locomotive gives of the substance at a place
abbrev pub locomotive_contribution : Locomotive → ℕ → Contribution
locomotive_contribution l p = contribution (get_or locomotive_codes p 0) (locomotive_tonnes l p) (locomotive_peak l p)

unfoldable pub locomotive_emissions : Locomotive → List Emission
locomotive_emissions l = list_to substance_count (λ (p : ℕ). emitted (locomotive_contribution l p))

-- what the rule answers: what the locomotive gives, or why it is refused
abbrev pub LocomotiveAnswer : Type 0
LocomotiveAnswer = Result (List Emission) Refusal

-- "14 when a locomotive's shares don't total 1,000, asked after its 9, by its source rule too", with "slot 0"; what is not refused is answered
-- exactly (`Bounds.locomotive_exactly`)
unfoldable pub locomotive_answer : Locomotive → LocomotiveAnswer
locomotive_answer l =
    if_then_else (locomotive_in_range l)
    (if_then_else (shares_add_up l) (Ok (locomotive_emissions l)) (refused_by Shares))
    (refused_by OutOfRange)
