-- 01, "Figures": the exact sums of the listing's codes. "The exact sum of a code, annual or peak, adds ... what the rules above give that code from each source";
-- that a file's sums are those of slot_file's Figures is claimed of the walk (`OnePass` in walk).
use Rattle.std.specs.Prelude.{ℕ, zero, suc, ◌+◌, ◌%◌, ◌^◌, ◌≡◌, List, map, get_or, set, replicate}
use Rattle.sums.specs.Figures.{AnnualSum, PeakSum, sum_parts, sum_of, annual_of, peak_of, annual_rounded, peak_rounded}
use Rattle.sums.specs.Answer.{Contribution, no_emission}
use Rattle.sums.specs.declared.answer.Emission.{Emission}
use Rattle.sums.specs.declared.sum.Sum.{Sum}
use Rattle.slot_file.specs.Codes.{codes, code_count, place_of}
use Rattle.slot_file.specs.Parts.{annual_to, peak_to}
use Rattle.totals.specs.declared.Figures.{Figures}
use Rattle.totals.specs.declared.Totals.{Totals}

-- the sums of nothing: for each of the listing's codes one of the year's masses and one of the peaks
abbrev pub no_sums : Totals
no_sums = record { annual = replicate code_count (annual_of 0); peak = replicate code_count (peak_of 0) }

-- a sum more at a place; past the end there is none
abbrev pub plus_at : {u : Type 0} → List (Sum u) → ℕ → Sum u → List (Sum u)
plus_at l p s = set l p (sum_of (sum_parts (get_or l p (sum_of 0)) + sum_parts s))

-- an emission adds to both sums of its code; a code that the listing does not have has its place past their end, and adds to none
unfoldable pub plus_in : Totals → Emission → Totals
plus_in t e = record { annual = plus_at t.annual (place_of codes e.code) e.annual; peak = plus_at t.peak (place_of codes e.code) e.peak }

-- the first n of a list of emissions
unfoldable pub plus_to_in : Totals → List Emission → ℕ → Totals
plus_to_in t es zero = t
plus_to_in t es (suc n) = plus_in (plus_to_in t es n) (get_or es n no_emission)

-- each sum, rounded to a figure, of which 64 bits are kept
unfoldable pub figures_in : Totals → Figures
figures_in t = record {
  annual = map (λ (s : AnnualSum). annual_rounded s % 2 ^ 64) t.annual;
  peak = map (λ (s : PeakSum). peak_rounded s % 2 ^ 64) t.peak;
}

-- What proofs go by: the exact units that a contribution gives to a code in a column, 0 of the year's masses and 1 of the peaks
unfoldable pub column : ℕ → ℕ → Contribution → ℕ
column zero = annual_to
column (suc q) = peak_to

-- and sums of f q c units of each code c in column q, but for turns of 2 ^ 128
pub record Sums (f : ℕ → ℕ → ℕ) (t : Totals) : Type 0 where
  pub annual_are : t.annual ≡ map (λ (c : ℕ). annual_of (f 0 c)) codes
  pub peak_are : t.peak ≡ map (λ (c : ℕ). peak_of (f 1 c)) codes
