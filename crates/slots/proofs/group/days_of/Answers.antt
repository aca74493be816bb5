-- Twelve bytes, as they stand.
use Rattle.std.proofs.Common.{rules, ◌≡◌, ◌+◌, refl}
use Rattle.slots.specs.Bytes.{byte_at}
use Rattle.slots.specs.Layout.{days_of}
use Rattle.slots.proofs.Made.{made}
use Rattle.slots.proofs.group.days_of.Goals as goal

pub returns : goal.returns
unfolding days_of
returns c =
    let t = c.args.t in
    made _ 0 (λ m. byte_at t.now (22 + m)) (λ p. p.0 ≡ t) (λ i y p q a k. search rules) _ _ 12 refl c.from_fn.ensures.items
