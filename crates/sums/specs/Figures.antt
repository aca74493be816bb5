-- 01, "Figures": the exact units, the sums counted in them, and rounding.
use Rattle.std.specs.Prelude.{◌≡◌, ℕ, ◌+◌, ◌*◌, ◌/◌, ◌%◌, ◌^◌, ◌<◌, ◌≤◌, ◌↔◌}
use Rattle.sums.specs.Fraction.{Frac, ◌over◌, parts_of}
use Rattle.sums.specs.declared.mixed.Mixed.{Mixed}
use Rattle.sums.specs.declared.words.Words.{Words}
use Rattle.sums.specs.declared.sum.Annual.{Annual}
use Rattle.sums.specs.declared.sum.Peak.{Peak}
use Rattle.sums.specs.declared.sum.Sum.{Sum}

-- "Annual: whole millionths of a tonne. Peak: whole ten-millionths of a gram per second. Every exact unit has one denominator":
-- the exact units in a millionth of a tonne, and in a ten-millionth of a gram per second
abbrev pub annual_denominator : ℕ
annual_denominator = 20000000000000

abbrev pub peak_denominator : ℕ
peak_denominator = 72000000

-- and so in a tonne, and in a gram per second
abbrev pub tonne_parts : ℕ
tonne_parts = 1000000 * annual_denominator

abbrev pub gram_parts : ℕ
gram_parts = 10000000 * peak_denominator

-- "Sums can pass 64 bits": a sum is a whole number of exact units in two words of 64 bits
unfoldable pub units_in : Words → ℕ
units_in w = w.high * 2 ^ 64 + w.low

unfoldable pub words_of : ℕ → Words
words_of x = record { high = x / 2 ^ 64 % 2 ^ 64; low = x % 2 ^ 64 }

-- the exact units of a sum, the sum in two words (beside them it holds nothing but its unit), and that of so many units
abbrev pub sum_parts : {u : Type 0} → Sum u → ℕ
sum_parts s = units_in s.0

abbrev pub sum_in : {u : Type 0} → Words → Sum u
sum_in w = record { 0 = w; 1 = record {} }

abbrev pub sum_of : {u : Type 0} → ℕ → Sum u
sum_of x = sum_in (words_of x)

-- of a year, and of a peak
abbrev pub AnnualSum : Type 0
AnnualSum = Sum Annual

abbrev pub PeakSum : Type 0
PeakSum = Sum Peak

abbrev pub annual_parts : AnnualSum → ℕ
annual_parts = sum_parts

abbrev pub annual_of : ℕ → AnnualSum
annual_of = sum_of

abbrev pub peak_parts : PeakSum → ℕ
peak_parts = sum_parts

abbrev pub peak_of : ℕ → PeakSum
peak_of = sum_of

-- whole units and a part of one over d count so many d-ths
unfoldable pub parts_in : ℕ → Mixed → ℕ
parts_in d m = m.whole * d + m.part

-- x d-ths as whole units, of which there are 64 bits, and what is left of one
unfoldable pub mixed_of : ℕ → ℕ → Mixed
mixed_of d x = record { whole = x / d % 2 ^ 64; part = x % d }

-- a sum in printed units, with d exact ones in each
abbrev pub sum_printed : {u : Type 0} → ℕ → Sum u → Mixed
sum_printed d s = mixed_of d (sum_parts s)

abbrev pub annual_printed : AnnualSum → Mixed
annual_printed = sum_printed annual_denominator

abbrev pub peak_printed : PeakSum → Mixed
peak_printed = sum_printed peak_denominator

-- "The figure is the largest whole number of its units that isn't above the exact sum plus half a unit": of x units
unfoldable pub nearest : Frac → ℕ
nearest x = (2 * x.num + x.den) / (2 * x.den)

-- the same without a division, and by the letter: "rounded once to its last digit, so it lies within half of that digit, and an exact half goes up", each side twice over
pub record Rounded (figure : ℕ) (x : Frac) : Type 0 where
  pub number : 0 < x.den
  pub largest : (n : ℕ) → (n ≤ figure) ↔ (n * (2 * x.den) ≤ 2 * x.num + x.den)
  pub above : 2 * (figure * x.den) ≤ 2 * x.num + x.den
  pub below : 2 * x.num < 2 * (figure * x.den) + x.den
  pub half : (n : ℕ) → 2 * x.num + x.den ≡ 2 * (n * x.den) → figure ≡ n

-- the figure of a sum
abbrev pub sum_rounded : {u : Type 0} → ℕ → Sum u → ℕ
sum_rounded d s = nearest (sum_parts s over d)

abbrev pub annual_rounded : AnnualSum → ℕ
annual_rounded = sum_rounded annual_denominator

abbrev pub peak_rounded : PeakSum → ℕ
peak_rounded = sum_rounded peak_denominator

-- the sum of so many tonnes, and of so many grams per second
abbrev pub annual_sum : Frac → AnnualSum
annual_sum x = annual_of (parts_of tonne_parts x)

abbrev pub peak_sum : Frac → PeakSum
peak_sum x = peak_of (parts_of gram_parts x)
