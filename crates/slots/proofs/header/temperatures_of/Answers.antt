-- Twelve signed numbers, as they are read.
use Rattle.std.proofs.Common.{rules, ◌≡◌, ◌+◌, ◌*◌, refl, pos}
use Rattle.slots.specs.Bytes.{i16_at}
use Rattle.slots.specs.Layout.{temperatures_of}
use Rattle.slots.proofs.Made.{made}
use Rattle.slots.proofs.header.temperatures_of.Goals as goal

pub returns : goal.returns
unfolding temperatures_of
returns c =
    let t = c.args.t in
    made _ (pos 0) (λ m. i16_at t.now (8 + 2 * m)) (λ p. p.0 ≡ t) (λ i y p q a k. search rules) _ _ 12 refl c.from_fn.ensures.items
