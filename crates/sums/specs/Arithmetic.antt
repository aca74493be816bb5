-- What inner functions ask and answer. Nothing here has to be believed.
use Rattle.std.specs.Prelude.{ℕ, ◌+◌, ◌*◌, ◌/◌, ◌%◌, ◌<◌, ◌≤◌}
use Rattle.sums.specs.declared.mixed.Mixed.{Mixed}

-- a denominator that a sum is divided by, 16 bits at a time: what is left of a division fits 64 bits with 16 bits more
pub record Denominator (d : ℕ) : Type 0 where
  pub least : 0 < d
  pub most : d ≤ 281474976710656

-- one step: the next 16 bits of the quotient, and what is left
abbrev pub step_of : ℕ → ℕ → ℕ → Mixed
step_of d rest bits = record { whole = (rest * 65536 + bits) / d; part = (rest * 65536 + bits) % d }
