-- 01, the opening paragraph: what a source rule answers.
use Rattle.std.specs.Prelude.{ℕ, Result, Err}
use Rattle.sums.specs.Fraction.{Frac}
use Rattle.sums.specs.Figures.{annual_of, peak_of, annual_sum, peak_sum}
use Rattle.sums.specs.declared.answer.Reason.{Reason}
use Rattle.sums.specs.declared.answer.Reason.TheVariants.{Length, Format, Count, HeaderBytes, Temperatures, LinkPastEnd, Repeated, WrongKind, OutOfRange, CoefficientChain, SootOrLead, Unreached, ShortBuffer, Shares}
use Rattle.sums.specs.declared.answer.Refusal.{Refusal}
use Rattle.sums.specs.declared.answer.Emission.{Emission}

-- 01, "Questions in order", and 02, U1: the number of the question that is answered no
abbrev pub number_of : Reason → ℕ
number_of Length = 1
number_of Format = 2
number_of Count = 3
number_of HeaderBytes = 4
number_of Temperatures = 5
number_of LinkPastEnd = 6
number_of Repeated = 7
number_of WrongKind = 8
number_of OutOfRange = 9
number_of CoefficientChain = 10
number_of SootOrLead = 11
number_of Unreached = 12
number_of ShortBuffer = 13
number_of Shares = 14

-- "such a rule answers 9, then 11 ..., with ... slot 0"; that it has no figures is the type's, and that they are handed over as zeros is said where they are numbers
abbrev pub of_source : Reason → Refusal
of_source r = record { reason = r; slot = 0 }

abbrev pub refused_by : {A : Type 0} → Reason → Result A Refusal
refused_by r = Err (of_source r)

-- what a source gives to a code: so many tonnes a year, so many grams per second at the peak
pub record Contribution : Type 0 where
  pub code : ℕ
  pub tonnes : Frac
  pub rate : Frac

abbrev pub contribution : ℕ → Frac → Frac → Contribution
contribution c t r = record { code = c; tonnes = t; rate = r }

-- the same in exact units, of which it drops nothing (`Exactness.Exactly`)
abbrev pub emitted : Contribution → Emission
emitted x = record { code = x.code; annual = annual_sum x.tonnes; peak = peak_sum x.rate }

abbrev pub no_emission : Emission
no_emission = record { code = 0; annual = annual_of 0; peak = peak_of 0 }
