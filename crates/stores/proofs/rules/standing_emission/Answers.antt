-- The bounds of the factors keep each product in 64 bits.
use Rattle.std.proofs.Common.{le_refl, sym, ◌∙◌}
use mir.Facts.{Fits-below}
use Rattle.sums.proofs.Products.{◌⊗◌}
use Rattle.stores.proofs.Ranges.{standing}
use Rattle.stores.proofs.rules.standing_emission.Goals as goal

pub overflow_mul-parts-3 : goal.overflow_mul-parts-3
overflow_mul-parts-3 c =
    let r = standing _ (sym c.standing_in_range.ensures ∙ c.if-not-standing_in_range.false) in
    Fits-below tt (le_refl 6 ⊗ c.exposure.ensures.1 ⊗ c.q.ensures.1 ⊗ c.k6.ensures.1 r.k6)

pub overflow_mul-parts-4 : goal.overflow_mul-parts-4
overflow_mul-parts-4 c =
    let r = standing _ (sym c.standing_in_range.ensures ∙ c.if-not-standing_in_range.false) in
    rw c.from.ensures (Fits-below tt (le_refl 6 ⊗ c.exposure.ensures.1 ⊗ c.q.ensures.1 ⊗ c.k6.ensures.1 r.k6 ⊗ r.bulk.amount))
