-- The bounds of the factors keep each product in 64 bits.
use Rattle.std.proofs.Common.{le_refl, sym, ◌∙◌}
use mir.Facts.{Fits-below}
use Rattle.sums.proofs.Products.{◌⊗◌}
use Rattle.stores.proofs.Ranges.{handling}
use Rattle.stores.proofs.rules.handling_emission.Goals as goal

pub overflow_mul-parts-4 : goal.overflow_mul-parts-4
overflow_mul-parts-4 c = Fits-below tt (le_refl 5 ⊗ c.k1.ensures.1 ⊗ c.k2.ensures.1 ⊗ c.exposure.ensures.1 ⊗ c.drop_factor.ensures.1)

pub overflow_mul-parts-5 : goal.overflow_mul-parts-5
overflow_mul-parts-5 c =
    let h = handling _ (sym c.handling_in_range.ensures ∙ c.if-not-handling_in_range.false) in
    rw c.from.ensures (Fits-below tt (le_refl 5 ⊗ c.k1.ensures.1 ⊗ c.k2.ensures.1 ⊗ c.exposure.ensures.1 ⊗ c.drop_factor.ensures.1 ⊗ h.bulk.amount))
