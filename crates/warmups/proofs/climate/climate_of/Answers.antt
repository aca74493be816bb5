-- Each month's band, by the calls of `map`; and the lowest temperature's.
use Rattle.std.proofs.Common.{ℕ, pos, get_or, arith, rules}
use Rattle.sums.proofs.Choices.{list_to_is}
use Rattle.warmups.specs.Temperatures.{warmup_band}
use Rattle.warmups.specs.Parts.{climate_of}
use Rattle.warmups.proofs.Edges.{kept}
use Rattle.warmups.proofs.climate.climate_of.Goals as goal

pub returns : goal.returns
unfolding climate_of
returns c =
    let h = c.map.ensures.items in
    let bands = list_to_is 0 12 c.map.result (λ (m : ℕ). warmup_band (get_or c.args.ts m (pos 0))) h.long
    (λ m l. let e = h.at m (pos 0) 0 l in search rules) in
    rw (bands, c.warmup_band.ensures, kept c.lowest.result (omega arith), c.lowest.ensures)
