-- CLAIM (b) of the walk: the figures of an accepted file are its sums', rounded. The sums are exact sums of which counting drops nothing, so they have their figures, and
-- these have 64 bits (`ExactSums`, `Bounded`). Assumes nothing.
use Rattle.std.proofs.Common.{ℕ, ◌+◌, ◌*◌, ◌%◌, ◌^◌, ◌<◌, ◌≤◌, arith, lt_of_le_of_lt, add-le-add, le_refl, ◌≡◌, sym, ap, ◌∙◌, List, map, lit<, Ok}
use Rattle.sums.specs.Fraction.{Frac, ◌over◌, whole, ◌⊙◌, ◌≈◌, parts_of}
use Rattle.sums.specs.Figures.{AnnualSum, PeakSum, annual_denominator, peak_denominator, units_in, words_of, nearest, annual_sum, peak_sum, annual_rounded, peak_rounded}
use Rattle.sums.specs.Answer.{Contribution}
use Rattle.sums.specs.Exactness.{annual_most, peak_most, sources_most}
use Rattle.sums.proofs.Exact.{figure_exact}
use Rattle.sums.proofs.Figure.{nearest_same}
use Rattle.sums.proofs.Fractions.{≈_refl, ≈_⊙, parts}
use Rattle.slot_file.specs.Sources.{Chains, inventory_at}
use Rattle.slot_file.specs.Questions.{accepted}
use Rattle.slot_file.specs.Walk.{outcome}
use Rattle.slot_file.specs.Codes.{codes}
use Rattle.slot_file.specs.Figures.{contributions, exact_sum, annual_figure, peak_figure, summed, counts_of}
use Rattle.slot_file.specs.declared.Counts.{Counts}
use Rattle.slot_file.proofs.Agreement.{accepted_answer, summed_counts}
use Rattle.totals.specs.Totals.{figures_in}
use Rattle.totals.specs.declared.Totals.{Totals}
use Rattle.walk.specs.OnePass.{tonnes_of, grams_of, ExactSums, FiguresFrom}
use Rattle.walk.specs.ChainWalk.{AllPassed}
use Rattle.walk.proofs.ExactSums.{Kind, of_tonnes, of_grams, parts_most}

-- so many exact units, over either denominator
in_printed_units : (n u d : ℕ) → 0 < d → 0 < u * d → ((n * u) over (u * d * 1)) ≈ (n over d)
in_printed_units n u d pd pk = record { left = omega arith; right = pd; cross = omega arith }

module _ (s : List ℕ) (b : Chains) (a : AllPassed s b) where
  abbrev given : List Contribution
  given = contributions (inventory_at s b)

  -- of either kind of sum: u printed units in a tonne or a gram per second, and d exact units in a printed one; of a sum that is counted exactly
  module _ {f : Contribution → Frac} (u d most : ℕ) (kind : Kind f (u * d) most) (pd : 0 < d) (word : d ≤ 2 ^ 64) (room : sources_most * most + d < 2 ^ 64 * d) (c : ℕ)
      (exact : exact_sum f c given ≈ (units_in (words_of (parts_of (u * d) (exact_sum f c given))) over (u * d))) where
    abbrev n : ℕ
    n = parts_of (u * d) (exact_sum f c given)

    figured : nearest (units_in (words_of n) over d) % 2 ^ 64 ≡ nearest (exact_sum f c given ⊙ whole u)
    figured =
        figure_exact d pd word n (lt_of_le_of_lt (add-le-add (parts_most s b kind c a) (le_refl d)) room)
        ∙ ap (λ (m : ℕ). nearest (m over d)) (parts exact)
        ∙ sym (nearest_same (≈_⊙ exact (≈_refl u 1 (lit< tt))) ∙ nearest_same (in_printed_units (units_in (words_of n)) u d pd kind.positive))

  -- the figures by code are those of the answer
  module _ {t : Totals} (h : ExactSums given t) where
    annual_figured : (c : ℕ) → annual_rounded (annual_sum (tonnes_of given c)) % 2 ^ 64 ≡ annual_figure given c
    unfolding annual_figure
    annual_figured c = figured 1000000 annual_denominator annual_most of_tonnes (lit< tt) (omega arith) (lit< tt) c (h.annual_exact c)

    peak_figured : (c : ℕ) → peak_rounded (peak_sum (grams_of given c)) % 2 ^ 64 ≡ peak_figure given c
    unfolding peak_figure
    peak_figured c = figured 10000000 peak_denominator peak_most of_grams (lit< tt) (omega arith) (lit< tt) c (h.peak_exact c)

    file_figures : figures_in t ≡ record { annual = map (annual_figure given) codes; peak = map (peak_figure given) codes }
    unfolding figures_in
    file_figures =
        (λ i. record { annual = map (λ (x : AnnualSum). annual_rounded x % 2 ^ 64) (h.annual_are i); peak = map (λ (x : PeakSum). peak_rounded x % 2 ^ 64) (h.peak_are i) })
        ∙ (λ i. record { annual = map (λ (c : ℕ). annual_figured c i) codes; peak = map (λ (c : ℕ). peak_figured c i) codes })

    pub figures_from : {counts : Counts} → outcome s ≡ accepted b → counts ≡ counts_of b → FiguresFrom s counts t
    unfolding summed
    figures_from o n =
        let m = n ∙ sym (summed_counts s b) in
        sym (ap Ok (λ i. record { annual = (file_figures i).annual; peak = (file_figures i).peak; counts = m i }) ∙ sym (accepted_answer s b o))
