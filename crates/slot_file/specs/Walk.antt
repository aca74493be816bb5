-- 01, "Questions in order": "The walk takes the group chain, then the store chain", by 02, U1, then the locomotive chain, and asks until a question is answered no.
use Rattle.std.specs.Prelude.{ℕ, zero, suc, List, [], ◌∷◌, eqb, Result, Ok, Err}
use Rattle.sums.specs.Choice.{if_then_else}
use Rattle.sums.specs.declared.answer.Reason.TheVariants.{Repeated}
use Rattle.sums.specs.declared.answer.Refusal.{Refusal}
use Rattle.slots.specs.Bytes.{slot_of}
use Rattle.slots.specs.Layout.{next_of}
use Rattle.slot_file.specs.Sources.{header_at, Chains}
use Rattle.slot_file.specs.Questions.{most_slots, Question, Outcome, accepted, refused, head_asks, groups_so_far, stores_so_far, locomotives_so_far, group_asks, store_asks, locomotive_asks, last_asks}

-- the refusal of the first question that is answered no, and else v
unfoldable pub first : List Question → Outcome → Outcome
first [] v = v
first (q ∷ qs) v = if_then_else q.yes (first qs v) (refused q.refusal)

-- a chain from the link k on, after the slots b, the last first: `asks` has what is asked of a link, "zero ends it", and then comes `end`. A chain of different
-- slots of a file is shorter than n, which is `most_slots` where the chain begins: so the case of none left is never met (`Outcomes.says`)
unfoldable pub chain : (List ℕ → ℕ → List Question) → (List ℕ → Outcome) → ℕ → List ℕ → List ℕ → ℕ → Outcome
chain asks end zero s b k = refused (record { reason = Repeated; slot = k })
chain asks end (suc n) s b k = if_then_else (eqb k 0) (end b) (first (asks b k) (chain asks end n s (k ∷ b) (next_of (slot_of s k))))

-- at the end of the chains, question 12
abbrev pub after_all : List ℕ → Chains → Outcome
after_all s c = first (last_asks s c) (accepted c)

-- the locomotive chain, after the groups and the store records of c
unfoldable pub locomotive_walk : List ℕ → Chains → Outcome
locomotive_walk s c =
    chain (λ (b : List ℕ). locomotive_asks s (locomotives_so_far c b)) (λ (b : List ℕ). after_all s (locomotives_so_far c b)) most_slots s [] (header_at s).heads.locomotives

-- the store chain, after the groups of c
unfoldable pub store_walk : List ℕ → Chains → Outcome
store_walk s c = chain (λ (b : List ℕ). store_asks s (stores_so_far c b)) (λ (b : List ℕ). locomotive_walk s (stores_so_far c b)) most_slots s [] (header_at s).heads.stores

unfoldable pub group_walk : List ℕ → Outcome
group_walk s = chain (λ (b : List ℕ). group_asks s (groups_so_far b)) (λ (b : List ℕ). store_walk s (groups_so_far b)) most_slots s [] (header_at s).heads.groups

unfoldable pub outcome : List ℕ → Outcome
outcome s = first (head_asks s) (group_walk s)

-- what a check answers: "either accepted or refused by number and slot"
abbrev pub told : Outcome → Result Unit Refusal
told (accepted c) = Ok tt
told (refused r) = Err r
