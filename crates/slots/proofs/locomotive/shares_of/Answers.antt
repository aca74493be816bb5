-- Five numbers, as they are read.
use Rattle.std.proofs.Common.{rules, ◌≡◌, ◌+◌, ◌*◌, refl}
use Rattle.slots.specs.Bytes.{u16_at}
use Rattle.slots.specs.Layout.{shares_of}
use Rattle.slots.proofs.Made.{made}
use Rattle.slots.proofs.locomotive.shares_of.Goals as goal

pub returns : goal.returns
unfolding shares_of
returns c =
    let t = c.args.t in
    made _ 0 (λ m. u16_at t.now (4 + 2 * m)) (λ p. p.0 ≡ t) (λ i y p q a k. search rules) _ _ 5 refl c.from_fn.ensures.items
