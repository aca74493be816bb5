-- What an outcome means, in words that know no walk.
use Rattle.std.specs.Prelude.{ℕ, zero, suc, ◌≡◌, true, false, List, [], ◌∷◌}
use Rattle.sums.specs.declared.answer.Reason.TheVariants.{Length}
use Rattle.sums.specs.declared.answer.Refusal.{Refusal}
use Rattle.slots.specs.Bytes.{slot_of}
use Rattle.slots.specs.Layout.{next_of}
use Rattle.slot_file.specs.Sources.{header_at, Chains}
use Rattle.slot_file.specs.Questions.{Question, question, head_asks, groups_so_far, stores_so_far, locomotives_so_far, group_asks, store_asks, locomotive_asks, last_asks, Outcome, accepted, refused}

-- the question at a place, from 0; behind the last, one that is answered yes
abbrev pub asked_at : List Question → ℕ → Question
asked_at [] n = question true Length 0
asked_at (q ∷ qs) zero = q
asked_at (q ∷ qs) (suc n) = asked_at qs n

-- every question is answered yes
abbrev pub AllYes : List Question → Type 0
AllYes [] = Unit {0}
AllYes (q ∷ qs) = (q.yes ≡ true) × AllYes qs

-- r is the refusal of the first question that is answered no
pub data FirstNo : List Question → Refusal → Type 0 where
  here : (q : Question) (qs : List Question) → q.yes ≡ false → FirstNo (q ∷ qs) q.refusal
  later : (q : Question) (qs : List Question) {r : Refusal} → q.yes ≡ true → FirstNo qs r → FirstNo (q ∷ qs) r

-- the slots of b, the last one first, are a chain of the file from the link `from` on, and it goes on at `link`
abbrev pub Chain : List ℕ → ℕ → List ℕ → ℕ → Type 0
Chain s from [] link = link ≡ from
Chain s from (k ∷ b) link = (link ≡ next_of (slot_of s k)) × (k ≡ 0 → ⊥) × Chain s from b k

-- what is asked of each slot, by those before it, is answered yes
abbrev pub Good : (List ℕ → ℕ → List Question) → List ℕ → Type 0
Good asks [] = Unit {0}
Good asks (k ∷ b) = AllYes (asks b k) × Good asks b

pub record Reached (asks : List ℕ → ℕ → List Question) (s : List ℕ) (from : ℕ) (b : List ℕ) (link : ℕ) : Type 0 where
  pub chain : Chain s from b link
  pub good : Good asks b

-- the groups of c, after them its store records, and after both its locomotives, up to a link
abbrev pub Groups : List ℕ → Chains → ℕ → Type 0
Groups s c link = Reached (λ (b : List ℕ). group_asks s (groups_so_far b)) s (header_at s).heads.groups c.groups link

abbrev pub Stores : List ℕ → Chains → ℕ → Type 0
Stores s c link = Reached (λ (b : List ℕ). store_asks s (stores_so_far c b)) s (header_at s).heads.stores c.stores link

abbrev pub Locomotives : List ℕ → Chains → ℕ → Type 0
Locomotives s c link = Reached (λ (b : List ℕ). locomotive_asks s (locomotives_so_far c b)) s (header_at s).heads.locomotives c.locomotives link

-- an accepted file: each chain from the header's link to a zero, and every question answered yes
pub record Accepts (s : List ℕ) (c : Chains) : Type 0 where
  pub head : AllYes (head_asks s)
  pub groups : Groups s c 0
  pub stores : Stores s c 0
  pub locomotives : Locomotives s c 0
  pub last : AllYes (last_asks s c)

-- a refused file: what was reached before, and the first question that is answered no
pub data Refuses (s : List ℕ) (r : Refusal) : Type 0 where
  at_head : FirstNo (head_asks s) r → Refuses s r
  at_group : (c : Chains) (j : ℕ) → AllYes (head_asks s) → Groups s c j → (j ≡ 0 → ⊥) → FirstNo (group_asks s (groups_so_far c.groups) j) r → Refuses s r
  at_store : (c : Chains) (j : ℕ) → AllYes (head_asks s) → Groups s c 0 → Stores s c j → (j ≡ 0 → ⊥) → FirstNo (store_asks s (stores_so_far c c.stores) j) r → Refuses s r
  at_locomotive : (c : Chains) (j : ℕ) → AllYes (head_asks s) → Groups s c 0 → Stores s c 0 → Locomotives s c j → (j ≡ 0 → ⊥)
      → FirstNo (locomotive_asks s (locomotives_so_far c c.locomotives) j) r → Refuses s r
  at_last : (c : Chains) → AllYes (head_asks s) → Groups s c 0 → Stores s c 0 → Locomotives s c 0 → FirstNo (last_asks s c) r → Refuses s r

abbrev pub Means : List ℕ → Outcome → Type 0
Means s (accepted c) = Accepts s c
Means s (refused r) = Refuses s r
