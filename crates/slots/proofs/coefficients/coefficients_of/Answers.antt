-- Seven numbers from place 4 on, as they are read.
use Rattle.std.proofs.Common.{rules, ◌≡◌, ◌+◌, ◌*◌, ◌∙◌, ℕ, refl}
use Rattle.vehicle_fields.specs.Fields.{coefficients_from}
use Rattle.sums.specs.Choice.{list_to}
use Rattle.slots.specs.Bytes.{u32_at}
use Rattle.slots.specs.Layout.{coefficients_of}
use Rattle.slots.proofs.Made.{made}
use Rattle.slots.proofs.coefficients.coefficients_of.Goals as goal

pub returns : goal.returns
unfolding coefficients_of coefficients_from list_to
returns c =
    let t = c.args.t in
    let number : ℕ → ℕ = λ i. u32_at t.now (4 + 4 * i) in
    c.from.ensures ∙ rw (made _ 0 number (λ p. p.0 ≡ t) (λ i y p q a k. search rules) _ _ 7 refl c.from_fn.ensures.items) refl
