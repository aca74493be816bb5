-- One mode more: its rate by number is the table's, the sum before it leaves room, with a share it adds to the mean and the greatest, and without one it adds
-- nothing. All modes together give what the paper says. Assumes nothing.
use Rattle.std.proofs.Common.{ℕ, max, ◌+◌, ◌*◌, ◌<◌, ◌≤◌, mul-zero, add-zero, add-one, arith, ◌≡◌, ap, ◌∙◌, true, leb, leb-true, leb-false, ne_eqb, get_or, List, []}
use Rattle.sums.specs.Answer.{emitted}
use Rattle.sums.specs.Choice.{if_then_else, sum_to, list_to}
use Rattle.sums.specs.Fraction.{whole, parts_of}
use Rattle.sums.proofs.Choices.{cases, list_to_at}
use Rattle.sums.proofs.Fractions.{parts}
use Rattle.locomotive_fields.specs.Fields.{mode_count, locomotive_in_range}
use Rattle.locomotive_fields.specs.declared.fields.Locomotive.{Locomotive}
use Rattle.locomotives.specs.Rules.{locomotive_codes, substance_count, table21, place_in, locomotive_contribution}
use Rattle.locomotives.specs.Parts.{hourly_parts, hourly_of, mean_parts, larger_parts, greatest_parts, modes_of, with_rate, hour_parts, peak_units, emission_parts}
use Rattle.locomotives.proofs.Bounds.{mean_most}
use Rattle.locomotives.proofs.Paper.{locomotive_counted}

pub larger : (a b : ℕ) → max a b ≡ larger_parts a b
larger a b = cases (λ (x : ℕ). max a b ≡ x) (leb a b) (λ e. omega (arith, leb-true a b e)) (λ e. omega (arith, leb-false a b e))

module _ (l : Locomotive) (p k : ℕ) where
  pub hourly_at_lem : p < substance_count → k < mode_count → get_or (get_or (hourly_of l.model) p []) k 0 ≡ hourly_parts l p k
  unfolding hourly_of
  hourly_at_lem h q =
      ap (λ (row : List ℕ). get_or row k 0) (list_to_at [] substance_count (λ (p : ℕ). list_to mode_count (λ (k : ℕ). parts_of 1000 (get_or table21 (place_in l.model p k) (whole 0)))) p h)
      ∙ list_to_at 0 mode_count (λ (k : ℕ). parts_of 1000 (get_or table21 (place_in l.model p k) (whole 0))) k q

  pub room : locomotive_in_range l ≡ true → k < mode_count → mean_parts l p k ≤ 1000000000000
  room h q = omega (arith, mean_most l h p k (omega arith))

  pub with_share : (get_or l.shares k 0 ≡ 0 → ⊥) → with_rate (modes_of l p k) (hourly_parts l p k) (get_or l.shares k 0) ≡ modes_of l p (k + 1)
  unfolding mean_parts greatest_parts sum_to if_then_else
  with_share h = simp (add-one, ne_eqb _ 0 h)

  pub without_share : get_or l.shares k 0 ≡ 0 → modes_of l p k ≡ modes_of l p (k + 1)
  unfolding mean_parts greatest_parts sum_to if_then_else
  without_share h = simp (add-one, h, mul-zero, add-zero)

pub emission_summed : (l : Locomotive) (p : ℕ)
    → emission_parts (get_or locomotive_codes p 0) (mean_parts l p mode_count * hour_parts l) (greatest_parts l p mode_count * peak_units) ≡ emitted (locomotive_contribution l p)
emission_summed l p = let e = locomotive_counted l p in rw (parts e.annual, parts e.peak)
