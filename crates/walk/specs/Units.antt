-- What the sums count: the exact units that the sources on the chains have together. Nothing here has to be believed.
use Rattle.std.specs.Prelude.{ℕ, ◌+◌, List}
use Rattle.sums.specs.Answer.{Contribution}
use Rattle.slot_file.specs.Sources.{group_at, store_at, locomotive_at, temperatures_at, Chains}
use Rattle.slot_file.specs.Figures.{group_contributions, store_contributions, locomotive_contributions}
use Rattle.slot_file.specs.Alike.{total}
use Rattle.totals.specs.Totals.{column}

abbrev pub units_of : (Contribution → ℕ) → List ℕ → Chains → ℕ
units_of f s c =
    total (λ (g : ℕ). total f (group_contributions (temperatures_at s) (group_at s g))) c.groups
    + total (λ (k : ℕ). total f (store_contributions (store_at s k))) c.stores
    + total (λ (k : ℕ). total f (locomotive_contributions (locomotive_at s k))) c.locomotives

-- of the code k, in column q
abbrev pub sums_of : List ℕ → Chains → ℕ → ℕ → ℕ
sums_of s c q k = units_of (column q k) s c
