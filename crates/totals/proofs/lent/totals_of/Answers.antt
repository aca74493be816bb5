-- Two columns of sums, as they stand.
use Rattle.std.proofs.Common.{rules, ◌≡◌, ◌+◌, ℕ, refl}
use Rattle.sums.specs.Figures.{AnnualSum, PeakSum, sum_in, annual_of, peak_of}
use Rattle.slot_file.specs.Codes.{code_count}
use Rattle.slots.proofs.Made.{made}
use Rattle.totals.specs.Lent.{words_at, totals_of}
use Rattle.totals.proofs.lent.totals_of.Goals as goal

pub returns : goal.returns
unfolding totals_of
returns c =
    let t = c.args.totals in
    let year : ℕ → AnnualSum = λ p. sum_in (words_at t.now (0 + p)) in
    let peak : ℕ → PeakSum = λ p. sum_in (words_at t.now (code_count + p)) in
    let a = made _ (annual_of 0) year (λ p. p.0 ≡ t) (λ i y p q a k. search rules) _ _ code_count refl c.from_fn.ensures.items in
    let b = made _ (peak_of 0) peak (λ p. p.0 ≡ t) (λ i y p q a k. search rules) _ _ code_count refl c.from_fn-2.ensures.items in
    λ i. record { annual = a i; peak = b i }
