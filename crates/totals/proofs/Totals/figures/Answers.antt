-- Each figure is the one that a call of `map` gave, of the sum at its place.
use Rattle.std.proofs.Common.{rules, ℕ, arith, ◌≡◌, ◌∙◌, sym, ◌<◌, ◌%◌, ◌^◌, List, map, length, get_or}
use Rattle.std.proofs.lemmas.List.{same_lists, get_or-map, length-map}
use Rattle.sums.specs.Figures.{AnnualSum, PeakSum, annual_of, peak_of, annual_rounded, peak_rounded}
use Rattle.totals.specs.Totals.{figures_in}
use Rattle.totals.proofs.Totals.figures.Goals as goal

mapped : {A B : Type 0} (f : A → B) (xs : List A) (ys : List B) (d : A) → length ys ≡ length xs → ((i : ℕ) (e : B) → i < length xs → get_or ys i e ≡ f (get_or xs i d)) → ys ≡ map f xs
mapped f xs ys d l h = same_lists ys (map f xs) (l ∙ sym (length-map xs f)) (λ k e p. h k e (omega arith) ∙ sym (get_or-map f xs k d e (omega arith)))

pub returns : goal.returns
unfolding figures_in
returns c =
    let t = c.args.self.now in
    let a = mapped (λ (s : AnnualSum). annual_rounded s % 2 ^ 64) t.annual c.map-annual.result (annual_of 0) (search rules)
    (λ i e l. let h = c.map-annual.ensures.items.at i (annual_of 0) e (omega arith) in search rules) in
    let p = mapped (λ (s : PeakSum). peak_rounded s % 2 ^ 64) t.peak c.map-peak.result (peak_of 0) (search rules)
    (λ i e l. let h = c.map-peak.ensures.items.at i (peak_of 0) e (omega arith) in search rules) in
    λ i. record { annual = a i; peak = p i }
