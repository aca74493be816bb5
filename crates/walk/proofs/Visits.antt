-- CLAIM (c) of the walk: each source on chains that are passed comes once, since question 7 keeps them apart (`Outcomes`); and a slot that comes twice does not come once.
-- Assumes nothing.
use Rattle.std.proofs.Common.{ℕ, true≢false, List, [], ◌∷◌}
use Rattle.sums.specs.Choice.{if_then_else}
use Rattle.slot_file.specs.Sources.{Chains}
use Rattle.slot_file.specs.Questions.{slot_count, member, sources_of}
use Rattle.slot_file.specs.Meaning.{Groups, Stores, Locomotives}
use Rattle.slot_file.proofs.Marks.{Different}
use Rattle.slot_file.proofs.Outcomes.{groups_differ, stores_differ, locomotives_differ}
use Rattle.walk.specs.OnePass.{Once}

once : (n : ℕ) (l : List ℕ) → Different n l → Once l
once n [] d = tt
once n (k ∷ l) d = (d.2, once n l d.3)

pub come_once : (s : List ℕ) (c : Chains) → Groups s c 0 → Stores s c 0 → Locomotives s c 0 → Once (sources_of c)
come_once s c v w u =
    once (slot_count s) (sources_of c)
    (locomotives_differ s c c.locomotives _ 0 (stores_differ s c c.stores _ 0 (groups_differ s c.groups _ 0 v.chain v.good) w.chain w.good) u.chain u.good)

pub not_twice : Once (5 ∷ 5 ∷ []) → ⊥
unfolding member if_then_else
not_twice o = true≢false o.0
