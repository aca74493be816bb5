-- What a source gives, in exact units: where its tonnes and its rate are so many units, none above what a full file's sums allow, the emission that a
-- rule answers has exactly them, since a sum drops nothing that small. Assumes nothing.
use Rattle.std.proofs.Common.{ℕ, ◌+◌, ◌*◌, ◌^◌, ◌<◌, ◌≤◌, le_refl, mul-le-mul, arith, lit<}
use Rattle.sums.specs.Fraction.{Frac, parts_of}
use Rattle.sums.specs.Figures.{annual_denominator, peak_denominator, tonne_parts, gram_parts}
use Rattle.sums.specs.Answer.{Contribution, emitted}
use Rattle.sums.specs.Exactness.{annual_most, peak_most, Counted, Bounded, Exactly}
use Rattle.sums.proofs.Exact.{sum_exact, printed_exact}
use Rattle.sums.proofs.Fractions.{parts}

pub bounded : {tonnes rate : Frac} {a p : ℕ} (k : ℕ) → Counted tonnes rate a p → k * a ≤ annual_most → k * p ≤ peak_most → Bounded k tonnes rate
bounded k e h l = record { annual = rw (parts e.annual) h; peak = rw (parts e.peak) l }

pub exactly : (x : Contribution) {a p k : ℕ} → 0 < k → Counted x.tonnes x.rate a p → Bounded k x.tonnes x.rate → Exactly (emitted x) x.tonnes x.rate
exactly x z e b =
    let t = parts_of tonne_parts x.tonnes in
    let r = parts_of gram_parts x.rate in
    let h : t + annual_denominator < 2 ^ 64 * annual_denominator = omega (arith, mul-le-mul z (le_refl t), b.annual) in
    let k : r + peak_denominator < 2 ^ 64 * peak_denominator = omega (arith, mul-le-mul z (le_refl r), b.peak) in
    record {
      annual = rw (sum_exact annual_denominator (lit< tt) (omega arith) t h, parts e.annual) e.annual;
      peak = rw (sum_exact peak_denominator (lit< tt) (omega arith) r k, parts e.peak) e.peak;
      annual_as_printed = printed_exact annual_denominator (lit< tt) (omega arith) t h;
      peak_as_printed = printed_exact peak_denominator (lit< tt) (omega arith) r k;
    }
