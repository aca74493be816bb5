-- What the claims of exactness are stated with: that nothing is rounded on the way, and that nothing is lost in a full file.
use Rattle.std.specs.Prelude.{◌≡◌, ℕ, zero, suc, ◌+◌, ◌*◌, ◌%◌, ◌^◌, ◌<◌, ◌≤◌}
use Rattle.sums.specs.Choice.{sum_to}
use Rattle.sums.specs.Fraction.{Frac, ◌over◌, ◌≈◌, parts_of}
use Rattle.sums.specs.Figures.{annual_denominator, peak_denominator, tonne_parts, gram_parts, units_in, words_of, parts_in, annual_parts, peak_parts, annual_printed, peak_printed, nearest}
use Rattle.sums.specs.declared.words.Words.{Words}
use Rattle.sums.specs.declared.answer.Emission.{Emission}

-- the emission has exactly so many tonnes a year and so many grams per second, and so has it in printed units with their parts
pub record Exactly (e : Emission) (tonnes rate : Frac) : Type 0 where
  pub annual : tonnes ≈ (annual_parts e.annual over tonne_parts)
  pub peak : rate ≈ (peak_parts e.peak over gram_parts)
  pub annual_as_printed : parts_in annual_denominator (annual_printed e.annual) ≡ annual_parts e.annual
  pub peak_as_printed : parts_in peak_denominator (peak_printed e.peak) ≡ peak_parts e.peak

-- a year's tonnes and a peak, each in its exact units
pub record Counted (tonnes rate : Frac) (a p : ℕ) : Type 0 where
  pub annual : tonnes ≈ (a over tonne_parts)
  pub peak : rate ≈ (p over gram_parts)

-- no source gives a code more than this, in exact units: 150,000,000 tonnes a year, and 27,777,777 grams per second
abbrev pub annual_most : ℕ
annual_most = 3000000000000000000000000000

abbrev pub peak_most : ℕ
peak_most = 20000000000000000000000

-- sources in a file, and files whose annual sums are added
abbrev pub sources_most : ℕ
sources_most = 1023

abbrev pub files_most : ℕ
files_most = 64

-- within what a full file's sums allow a source that gives so much at most k times
pub record Bounded (k : ℕ) (tonnes rate : Frac) : Type 0 where
  pub annual : k * parts_of tonne_parts tonnes ≤ annual_most
  pub peak : k * parts_of gram_parts rate ≤ peak_most

-- n terms, added one by one
unfoldable pub added_to : ℕ → (ℕ → ℕ) → Words
added_to zero f = words_of 0
added_to (suc n) f = words_of (units_in (added_to n f) + units_in (words_of (f n)))

pub record Exact (d n : ℕ) (f : ℕ → ℕ) : Type 0 where
  pub sum : units_in (added_to n f) ≡ sum_to n f
  pub figure : nearest (units_in (added_to n f) over d) % 2 ^ 64 ≡ nearest (sum_to n f over d)

-- n terms of at most k, with u printed units in a tonne or a gram per second and d exact units in a printed one: each is a whole number of exact units, at most b
pub record Terms (k u d b : ℕ) (x : ℕ → Frac) (n : ℕ) : Type 0 where
  pub few : n ≤ k
  pub same : (i : ℕ) → i < n → x i ≈ (parts_of (u * d) (x i) over (u * d))
  pub most : (i : ℕ) → i < n → parts_of (u * d) (x i) ≤ b

abbrev pub term_units : ℕ → (ℕ → Frac) → ℕ → ℕ
term_units k x i = parts_of k (x i)

-- the figure of their units, added one by one
abbrev pub figure_of : ℕ → ℕ → (ℕ → Frac) → ℕ → ℕ
figure_of u d x n = nearest (units_in (added_to n (term_units (u * d) x)) over d) % 2 ^ 64
