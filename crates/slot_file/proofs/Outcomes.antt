-- An outcome means what the questions say, and only that outcome does. Each chain is walked by `Chains.walks`; what is asked of its slots keeps them different
-- and below the slot count, so the walk never runs out. Assumes nothing.
use Rattle.std.proofs.Common.{ℕ, suc, ◌%◌, ◌<◌, ◌≤◌, ◌≡◌, refl, subst, ◌∙◌, ◌↔◌, List, [], ◌∷◌, ◌++◌, true, ◌&&◌, not, length, length-append, leb, ltb, eqb, arith, leb-true, ltb-true, ne_eqb}
use mathlib.Core.Path.{subst⁻¹}
use borrow.Author.Tests.{not-true}
use Rattle.sums.specs.Choice.{if_then_else}
use Rattle.sums.proofs.Choices.{left, right}
use Rattle.slots.specs.Bytes.{slot_size, slot_of}
use Rattle.slots.specs.Layout.{next_of}
use Rattle.slot_file.specs.Sources.{header_at, Chains}
use Rattle.slot_file.specs.Questions.{most_slots, most_bytes, Question, slot_count, head_asks, member, link_asks, sources_of, groups_so_far, stores_so_far, locomotives_so_far, group_asks, store_asks, locomotive_asks, last_asks, Outcome, accepted, refused}
use Rattle.slot_file.specs.Walk.{first, chain, after_all, locomotive_walk, store_walk, group_walk, outcome}
use Rattle.slot_file.specs.Meaning.{AllYes, Reached, Chain, Good, Groups, Stores, Locomotives, Accepts, at_head, at_group, at_store, at_locomotive, at_last, Means}
use Rattle.slot_file.proofs.Asking.{first_yes, first_no, first_both}
use Rattle.slot_file.proofs.Marks.{Different, different_short}
use Rattle.slot_file.proofs.Chains.{Walks, walks, one_chain}

-- question 1 keeps the bytes, and so the slots, to the most
pub bytes_most : (s : List ℕ) → AllYes (head_asks s) → length s ≤ most_bytes
unfolding head_asks
bytes_most s h =
    let a = leb slot_size (length s) in
    let b = leb (length s) most_bytes in
    leb-true (length s) most_bytes (right a b (left (a && b) (eqb (length s % slot_size) 0) h.0))

pub sized : (s : List ℕ) → AllYes (head_asks s) → slot_count s ≤ most_slots
sized s h = let l = bytes_most s h in omega arith

-- slots of a chain that question 6 keeps below the slot count, and question 7 apart from the sources so far, are different, and from those before the chain
module _ (s : List ℕ) (asks : List ℕ → ℕ → List Question) (so_far : List ℕ → List ℕ) (more : (k : ℕ) (b : List ℕ) → so_far (k ∷ b) ≡ k ∷ so_far b)
    (new : (b : List ℕ) (k : ℕ) → AllYes (asks b k) → (ltb k (slot_count s) ≡ true) × (not (member k (so_far b)) ≡ true)) where
  differ : (b : List ℕ) (from link : ℕ) → Different (slot_count s) (so_far []) → Chain s from b link → Good asks b → Different (slot_count s) (so_far b)
  differ [] from link d c g = d
  differ (k ∷ b) from link d c g =
      let z = c.1 in
      let n = new b k g.0 in
      subst⁻¹ (Different (slot_count s)) (more k b) (omega arith, ltb-true k (slot_count s) n.0, not-true (member k (so_far b)) n.1, differ b from k d c.2 g.1)

pub groups_differ : (s b : List ℕ) (from link : ℕ) → Chain s from b link → Good (λ (b : List ℕ). group_asks s (groups_so_far b)) b → Different (slot_count s) (sources_of (groups_so_far b))
unfolding group_asks link_asks
groups_differ s b from link =
    differ s (λ b. group_asks s (groups_so_far b)) (λ b. sources_of (groups_so_far b)) (λ k b. refl) (λ b k a. (a.0, a.1.0)) b from link tt

pub stores_differ : (s : List ℕ) (c : Chains) (b : List ℕ) (from link : ℕ) → Different (slot_count s) (sources_of (groups_so_far c.groups)) → Chain s from b link
    → Good (λ (b : List ℕ). store_asks s (stores_so_far c b)) b → Different (slot_count s) (sources_of (stores_so_far c b))
unfolding store_asks link_asks
stores_differ s c = differ s (λ b. store_asks s (stores_so_far c b)) (λ b. sources_of (stores_so_far c b)) (λ k b. refl) (λ b k a. (a.0, a.1.0))

pub locomotives_differ : (s : List ℕ) (c : Chains) (b : List ℕ) (from link : ℕ) → Different (slot_count s) (sources_of (stores_so_far c c.stores)) → Chain s from b link
    → Good (λ (b : List ℕ). locomotive_asks s (locomotives_so_far c b)) b → Different (slot_count s) (sources_of (locomotives_so_far c b))
unfolding locomotive_asks link_asks
locomotives_differ s c =
    differ s (λ b. locomotive_asks s (locomotives_so_far c b)) (λ b. sources_of (locomotives_so_far c b)) (λ k b. refl)
    (λ b k a. (a.0, a.1.0))

-- one link of a chain, and its end
module _ (asks : List ℕ → ℕ → List Question) (end : List ℕ → Outcome) (s : List ℕ) where
  turn : (n : ℕ) (b : List ℕ) (k : ℕ) → (k ≡ 0 → ⊥) → chain asks end (suc n) s b k ≡ first (asks b k) (chain asks end n s (k ∷ b) (next_of (slot_of s k)))
  unfolding chain if_then_else
  turn n b k z = simp (ne_eqb k 0 z)

  pub stop : (n : ℕ) (b : List ℕ) → chain asks end (suc n) s b 0 ≡ end b
  unfolding chain if_then_else
  stop n b = refl

  pub walked : (from : ℕ) → ((b : List ℕ) (link : ℕ) → Reached asks s from b link → length b < most_slots) → Walks asks s from (chain asks end most_slots s [] from) end
  walked from short = walks asks s from (λ n b k. chain asks end n s b k) end turn stop short

module _ (s : List ℕ) (h : AllYes (head_asks s)) where
  -- so the sources along a chain are fewer than the most slots
  pub groups_short : (c : Chains) (link : ℕ) → Groups s c link → length (sources_of (groups_so_far c.groups)) < most_slots
  groups_short c link v = different_short (slot_count s) _ (sized s h) (groups_differ s c.groups _ link v.chain v.good)

  pub stores_short : (c : Chains) (link : ℕ) → Groups s c 0 → Stores s c link → length (sources_of (stores_so_far c c.stores)) < most_slots
  stores_short c link v w =
      different_short (slot_count s) _ (sized s h) (stores_differ s c c.stores _ link (groups_differ s c.groups _ 0 v.chain v.good) w.chain w.good)

  pub locomotives_short : (c : Chains) (link : ℕ) → Groups s c 0 → Stores s c 0 → Locomotives s c link → length (sources_of (locomotives_so_far c c.locomotives)) < most_slots
  locomotives_short c link v w u =
      let k = stores_differ s c c.stores _ 0 (groups_differ s c.groups _ 0 v.chain v.good) w.chain w.good in
      different_short (slot_count s) _ (sized s h) (locomotives_differ s c c.locomotives _ link k u.chain u.good)

  pub group_walk_lem : Walks (λ (b : List ℕ). group_asks s (groups_so_far b)) s (header_at s).heads.groups (group_walk s) (λ b. store_walk s (groups_so_far b))
  unfolding group_walk
  group_walk_lem =
      walked (λ b. group_asks s (groups_so_far b)) (λ b. store_walk s (groups_so_far b)) s (header_at s).heads.groups
      (λ b link v. groups_short (groups_so_far b) link v)

  store_walk_lem : (c : Chains) → Groups s c 0 → Walks (λ (b : List ℕ). store_asks s (stores_so_far c b)) s (header_at s).heads.stores (store_walk s c) (λ b. locomotive_walk s (stores_so_far c b))
  unfolding store_walk
  store_walk_lem c v =
      walked (λ b. store_asks s (stores_so_far c b)) (λ b. locomotive_walk s (stores_so_far c b)) s (header_at s).heads.stores
      (λ b link w. omega (arith, stores_short (stores_so_far c b) link v w, length-append b c.groups))

  locomotive_walk_lem : (c : Chains) → Groups s c 0 → Stores s c 0
      → Walks (λ (b : List ℕ). locomotive_asks s (locomotives_so_far c b)) s (header_at s).heads.locomotives (locomotive_walk s c) (λ b. after_all s (locomotives_so_far c b))
  unfolding locomotive_walk
  locomotive_walk_lem c v w =
      walked (λ b. locomotive_asks s (locomotives_so_far c b)) (λ b. after_all s (locomotives_so_far c b)) s (header_at s).heads.locomotives
      (λ b link u. omega (arith, locomotives_short (locomotives_so_far c b) link v w u, length-append b (c.stores ++ c.groups)))

  pub headed : outcome s ≡ group_walk s
  unfolding outcome
  headed = first_yes (head_asks s) (group_walk s) h

  -- where the groups and the store records have passed
  passed : (c : Chains) → Groups s c 0 → Stores s c 0 → outcome s ≡ locomotive_walk s (stores_so_far c c.stores)
  unfolding store_walk
  passed c v w = headed ∙ group_walk_lem.at_end c.groups v ∙ (store_walk_lem c v).at_end c.stores w

-- the outcome means what the questions say
pub says : (s : List ℕ) → Means s (outcome s)
unfolding outcome
says s =
    first_both (Means s) (head_asks s) (group_walk s) (λ r f. at_head f) (λ h.
    (group_walk_lem s h).both (Means s) (λ b k w z r f. at_group (groups_so_far b) k h w z f) (λ gs v.
    (store_walk_lem s h (groups_so_far gs) v).both (Means s) (λ b k w z r f. at_store (stores_so_far (groups_so_far gs) b) k h v w z f) (λ ss w.
    (locomotive_walk_lem s h (stores_so_far (groups_so_far gs) ss) v w).both (Means s) (λ b k u z r f. at_locomotive (locomotives_so_far (stores_so_far (groups_so_far gs) ss) b) k h v w u z f) (λ ls u.
    let c = locomotives_so_far (stores_so_far (groups_so_far gs) ss) ls in
    first_both (Means s) (last_asks s c) (accepted c) (λ r f. at_last c h v w u f) (λ a.
    record { head = h; groups = v; stores = w; locomotives = u; last = a })))))

-- and only this outcome does
pub only : (s : List ℕ) (v : Outcome) → Means s v → outcome s ≡ v
unfolding outcome store_walk locomotive_walk
only s (refused r) (at_head f) = first_no (head_asks s) _ r f
only s (refused r) (at_group c j h v z f) = headed s h ∙ (group_walk_lem s h).at_no c.groups j v z r f
only s (refused r) (at_store c j h v w z f) = headed s h ∙ (group_walk_lem s h).at_end c.groups v ∙ (store_walk_lem s h c v).at_no c.stores j w z r f
only s (refused r) (at_locomotive c j h v w u z f) = passed s h c v w ∙ (locomotive_walk_lem s h c v w).at_no c.locomotives j u z r f
only s (refused r) (at_last c h v w u f) = passed s h c v w ∙ (locomotive_walk_lem s h c v w).at_end c.locomotives u ∙ first_no (last_asks s c) (accepted c) r f
only s (accepted c) a =
    passed s a.head c a.groups a.stores ∙ (locomotive_walk_lem s a.head c a.groups a.stores).at_end c.locomotives a.locomotives
    ∙ first_yes (last_asks s c) (accepted c) a.last

-- ACCEPTED EXACTLY WHEN every question is answered yes, and refused exactly by the first that is answered no
pub exactly_when : (s : List ℕ) (v : Outcome) → (outcome s ≡ v) ↔ Means s v
exactly_when s v = (λ e. subst (Means s) e (says s), only s v)

-- the chains of an accepted file are its only ones
pub one_way : (s : List ℕ) (c d : Chains) → Accepts s c → Accepts s d → c ≡ d
one_way s c d a b =
    let g = one_chain s (header_at s).heads.groups c.groups d.groups a.groups.chain b.groups.chain in
    let k = one_chain s (header_at s).heads.stores c.stores d.stores a.stores.chain b.stores.chain in
    let l = one_chain s (header_at s).heads.locomotives c.locomotives d.locomotives a.locomotives.chain b.locomotives.chain in
    λ i. record { groups = g i; stores = k i; locomotives = l i }
