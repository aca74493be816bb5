-- A walk along a chain, both ways: the outcome of the walk is the refusal at the first question that is answered no, or what follows the chain's end; and
-- a chain that is reached determines the outcome. The walk's own step, one link, is all that is asked of it. Assumes nothing.
use Rattle.std.proofs.Common.{ℕ, zero, suc, ◌+◌, ◌-◌, ◌<◌, ◌≡◌, refl, sym, ap, subst, ◌∙◌, List, [], ◌∷◌, Bool, true, false, length, eqb, arith, eqb-true}
use native.Mathlib.Decide.{dec_lt}
use borrow.Author.Tests.{eqb-false}
use Rattle.slots.specs.Bytes.{slot_of}
use Rattle.slots.specs.Layout.{next_of}
use Rattle.sums.specs.declared.answer.Refusal.{Refusal}
use Rattle.slot_file.specs.Questions.{most_slots, Question, Outcome, refused}
use Rattle.slot_file.specs.Walk.{first}
use Rattle.slot_file.specs.Meaning.{FirstNo, Chain, Reached}
use Rattle.slot_file.proofs.Asking.{first_yes, first_no, first_both}

-- ---- a chain that ends is the only one
module _ (s : List ℕ) (from : ℕ) where
  same_chain : (b c : List ℕ) (j k : ℕ) → length b ≡ length c → Chain s from b j → Chain s from c k → (b ≡ c) × (j ≡ k)
  same_chain [] [] j k e p q = (refl, p ∙ sym q)
  same_chain [] (y ∷ c) j k e p q = absurd (omega arith)
  same_chain (x ∷ b) [] j k e p q = absurd (omega arith)
  same_chain (x ∷ b) (y ∷ c) j k e p q =
      let h = same_chain b c x y (omega arith) p.2 q.2 in
      (λ i. h.1 i ∷ h.0 i, p.0 ∙ ap (λ (n : ℕ). next_of (slot_of s n)) h.1 ∙ sym q.0)

  no_longer : (b c : List ℕ) (k : ℕ) → Chain s from b 0 → Chain s from c k → length b < length c → ⊥
  no_longer b [] k p q h = omega arith
  no_longer b (y ∷ c) k p q h =
      elim (dec_lt (length b) (length c)) [
        | yes l ↦ no_longer b c y p q.2 l
        | no l ↦ q.1 (sym (same_chain b c 0 y (omega arith) p q.2).1)
      ]

  pub one_chain : (b c : List ℕ) → Chain s from b 0 → Chain s from c 0 → b ≡ c
  one_chain b c p q =
      elim (dec_lt (length b) (length c)) [
        | yes l ↦ absurd (no_longer b c 0 p q l)
        | no l ↦ elim (dec_lt (length c) (length b)) [ yes m ↦ absurd (no_longer c b 0 q p m) | no m ↦ (same_chain b c 0 0 (omega arith) p q).0 ]
      ]

-- ---- `whole` is the walk's outcome, and `end b` the outcome where the chain ends after b
pub record Walks (asks : List ℕ → ℕ → List Question) (s : List ℕ) (from : ℕ) (whole : Outcome) (end : List ℕ → Outcome) : Type 1 where
  -- what holds of each refusal and of each end holds of the whole
  pub both : (P : Outcome → Type 0)
      → ((b : List ℕ) (k : ℕ) → Reached asks s from b k → (k ≡ 0 → ⊥) → (r : Refusal) → FirstNo (asks b k) r → P (refused r))
      → ((b : List ℕ) → Reached asks s from b 0 → P (end b))
      → P whole
  pub at_no : (b : List ℕ) (k : ℕ) → Reached asks s from b k → (k ≡ 0 → ⊥) → (r : Refusal) → FirstNo (asks b k) r → whole ≡ refused r
  pub at_end : (b : List ℕ) → Reached asks s from b 0 → whole ≡ end b

-- out n b link is the outcome with n links left, from `link` on, after the slots of b
module _ (asks : List ℕ → ℕ → List Question) (s : List ℕ) (from : ℕ) (out : ℕ → List ℕ → ℕ → Outcome) (end : List ℕ → Outcome)
    (turn : (n : ℕ) (b : List ℕ) (k : ℕ) → (k ≡ 0 → ⊥) → out (suc n) b k ≡ first (asks b k) (out n (k ∷ b) (next_of (slot_of s k))))
    (stop : (n : ℕ) (b : List ℕ) → out (suc n) b 0 ≡ end b)
    (short : (b : List ℕ) (link : ℕ) → Reached asks s from b link → length b < most_slots)
  where
    walk_all : (P : Outcome → Type 0)
        → ((b : List ℕ) (k : ℕ) → Reached asks s from b k → (k ≡ 0 → ⊥) → (r : Refusal) → FirstNo (asks b k) r → P (refused r))
        → ((b : List ℕ) → Reached asks s from b 0 → P (end b))
        → (n : ℕ) (b : List ℕ) (link : ℕ) → n + length b ≡ most_slots → Reached asks s from b link → P (out n b link)
    walk_all P no-at end-at zero b link h w = absurd (omega (arith, short b link w))
    walk_all P no-at end-at (suc n) b link h w = go (walk_all P no-at end-at n (link ∷ b) (next_of (slot_of s link))) (eqb link 0) refl
      where
        go : (n + length (link ∷ b) ≡ most_slots → Reached asks s from (link ∷ b) (next_of (slot_of s link)) → P (out n (link ∷ b) (next_of (slot_of s link))))
            → (t : Bool) → eqb link 0 ≡ t → P (out (suc n) b link)
        go ih true e =
            let z = eqb-true link 0 e in
            subst P (sym (ap (out (suc n) b) z ∙ stop n b)) (end-at b (subst (Reached asks s from b) z w))
        go ih false e =
            let z = eqb-false link 0 e in
            subst P (sym (turn n b link z))
            (first_both P (asks b link) (out n (link ∷ b) (next_of (slot_of s link))) (no-at b link w z)
            (λ a. ih (omega arith) (record { chain = (refl, z, w.chain); good = (a, w.good) })))

    follows : (b : List ℕ) (link m n : ℕ) → n ≡ m + length b → Reached asks s from b link → out n [] from ≡ out m b link
    follows [] link m n e w = let p : n ≡ m = omega arith in λ i. out (p i) [] (sym w.chain i)
    follows (k ∷ b) link m n e w =
        follows b k (suc m) n (omega arith) (record { chain = w.chain.2; good = w.good.1 })
        ∙ turn m b k w.chain.1
        ∙ first_yes (asks b k) (out m (k ∷ b) (next_of (slot_of s k))) w.good.0
        ∙ ap (out m (k ∷ b)) (sym w.chain.0)

    pub walks : Walks asks s from (out most_slots [] from) end
    walks = record {
      both = λ P no-at end-at. walk_all P no-at end-at most_slots [] from refl (record { chain = refl; good = tt });
      at_no = λ b k w z r f.
          let m = most_slots - 1 - length b in
          let h = short b k w in
          follows b k (suc m) most_slots (omega arith) w ∙ turn m b k z ∙ first_no (asks b k) (out m (k ∷ b) (next_of (slot_of s k))) r f;
      at_end = λ b w.
          let m = most_slots - 1 - length b in
          let h = short b 0 w in
          follows b 0 (suc m) most_slots (omega arith) w ∙ stop m b;
    }

-- a chain that goes on has begun
pub begun : (s : List ℕ) (from : ℕ) (b : List ℕ) (link : ℕ) → Chain s from b link → (link ≡ 0 → ⊥) → from ≡ 0 → ⊥
begun s from [] link e z f = z (e ∙ f)
begun s from (k ∷ b) link e z f = begun s from b k e.2 e.1 f
