-- The sums of `Totals` as numbers in lent memory: two words for each sum, of masses and then of peaks.
use Rattle.std.specs.Prelude.{ℕ, zero, suc, ◌+◌, ◌*◌, List, ltb, eqb, get_or, set, length, replicate}
use Rattle.sums.specs.Choice.{if_then_else, list_to}
use Rattle.sums.specs.Figures.{units_in, words_of, sum_in}
use Rattle.sums.specs.Answer.{no_emission}
use Rattle.sums.specs.declared.words.Words.{Words}
use Rattle.sums.specs.declared.sum.Sum.{Sum}
use Rattle.sums.specs.declared.answer.Emission.{Emission}
use Rattle.slot_file.specs.Codes.{codes, code_count, place_of}
use Rattle.totals.specs.declared.Figures.{Figures}
use Rattle.totals.specs.declared.Totals.{Totals}
use Rattle.totals.specs.Totals as totals

-- a column has the year's masses and a column behind it the peaks, each with a sum for each of the listing's codes, in its order; a sum is two numbers, its low word and
-- behind it its high word
abbrev pub sum_count : ℕ
sum_count = 2 * code_count

abbrev pub number_count : ℕ
number_count = 2 * sum_count

abbrev pub words_at : List ℕ → ℕ → Words
words_at l i = record { high = get_or l (2 * i + 1) 0; low = get_or l (2 * i) 0 }

abbrev pub with_words : List ℕ → ℕ → Words → List ℕ
with_words l i m = set (set l (2 * i) m.low) (2 * i + 1) m.high

-- x units more in the sum at place i
unfoldable pub plus_at : List ℕ → ℕ → ℕ → List ℕ
plus_at l i x = with_words l i (words_of (units_in (words_at l i) + x))

-- the sums of nothing
abbrev pub no_numbers : List ℕ
no_numbers = replicate number_count 0

-- an emission adds to both sums of its code, at place p; a code that the listing does not have adds to none, and memory of another length stays as it is
abbrev pub plus_both : List ℕ → ℕ → Emission → List ℕ
plus_both l p e = plus_at (plus_at l p (units_in e.annual.0)) (code_count + p) (units_in e.peak.0)

unfoldable pub plus_in : List ℕ → Emission → List ℕ
plus_in l e =
    if_then_else (eqb (length l) number_count)
    (if_then_else (ltb (place_of codes e.code) code_count) (plus_both l (place_of codes e.code) e) l)
    l

-- the first n of a list of emissions
unfoldable pub plus_to_in : List ℕ → List Emission → ℕ → List ℕ
plus_to_in l es zero = l
plus_to_in l es (suc n) = plus_in (plus_to_in l es n) (get_or es n no_emission)

-- the sums that the numbers are, a column from its place on; and the figures of these, where memory of another length has none
abbrev pub column_from : {u : Type 0} → ℕ → List ℕ → List (Sum u)
column_from i l = list_to code_count (λ (p : ℕ). sum_in (words_at l (i + p)))

unfoldable pub totals_of : List ℕ → Totals
totals_of l = record { annual = column_from 0 l; peak = column_from code_count l }

unfoldable pub figures_in : List ℕ → Figures
figures_in l =
    if_then_else (eqb (length l) number_count) (totals.figures_in (totals_of l)) (record { annual = replicate code_count 0; peak = replicate code_count 0 })
