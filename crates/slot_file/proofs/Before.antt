-- A file with zeros in 32..33 is answered as before, but for the third count: its locomotive chain ends where it begins, so the walk is 01's, and nothing is summed
-- behind the store records. Assumes nothing.
use Rattle.std.proofs.Common.{ℕ, arith, ◌≡◌, refl, sym, ap, ◌∙◌, List, [], append-nil, Result, Ok}
use Rattle.slots.specs.Bytes.{byte_at, u16_at, zero_from, slot_of}
use Rattle.slots.specs.Layout.{header_of}
use Rattle.sums.specs.declared.answer.Refusal.{Refusal}
use Rattle.slot_file.specs.declared.Answer.{Answer}
use Rattle.slot_file.specs.Sources.{header_at, Chains, inventory_at}
use Rattle.slot_file.specs.Questions.{most_slots, head_asks, head_asks_of, groups_so_far, stores_so_far, locomotives_so_far, group_asks, store_asks, locomotive_asks, Outcome, accepted, refused}
use Rattle.slot_file.specs.Walk.{first, chain, after_all, locomotive_walk, store_walk, group_walk, outcome}
use Rattle.slot_file.specs.Meaning.{Accepts}
use Rattle.slot_file.specs.Figures.{gathered, contributions, summed, answered, answer}
use Rattle.slot_file.specs.Before.{header_before, store_walk_before, outcome_before, answered_before}
use Rattle.slot_file.proofs.Outcomes.{stop, exactly_when}
use Rattle.slot_file.proofs.Chains.{one_chain}

-- where the two bytes are zero, 01's question 4 is the same
rest_same : (t : List ℕ) → u16_at t 32 ≡ 0 → zero_from t 34 30 ≡ zero_from t 32 32
unfolding zero_from
rest_same t e =
    let a : byte_at t 32 ≡ 0 = omega arith in
    let b : byte_at t 33 ≡ 0 = omega arith in
    simp (a, b)

module _ (s : List ℕ) (e : (header_at s).heads.locomotives ≡ 0) where
  no_chain : (c : Chains) → locomotive_walk s c ≡ after_all s (locomotives_so_far c [])
  unfolding locomotive_walk
  no_chain c = rw e (stop (λ b. locomotive_asks s (locomotives_so_far c b)) (λ b. after_all s (locomotives_so_far c b)) s 1023 [])

  store_walk_lem : (c : Chains) → store_walk s c ≡ store_walk_before s c
  unfolding store_walk store_walk_before
  store_walk_lem c = λ i. chain (λ b. store_asks s (stores_so_far c b)) (λ b. no_chain (stores_so_far c b) i) most_slots s [] (header_at s).heads.stores

  header_same : header_at s ≡ header_before s
  unfolding header_of
  header_same =
      let h = header_at s in
      let r = rest_same (slot_of s 0) e in
      λ i. record { format = h.format; count = h.count; heads = h.heads; temperatures = h.temperatures; rest = r i }

  pub walked_before : outcome s ≡ outcome_before s
  unfolding outcome outcome_before group_walk head_asks
  walked_before = λ i.
      first (head_asks_of s (header_same i))
      (chain (λ b. group_asks s (groups_so_far b)) (λ b. store_walk_lem (groups_so_far b) i) most_slots s [] (header_at s).heads.groups)

  none_on_it : (c : Chains) → Accepts s c → c.locomotives ≡ []
  none_on_it c a = one_chain s (header_at s).heads.locomotives c.locomotives [] a.locomotives.chain (sym e)

  summed_before : (c : Chains) → c.locomotives ≡ [] → ◌≡◌ {A = Result Answer Refusal} (Ok (summed (inventory_at s c))) (answered_before s (accepted c))
  unfolding summed inventory_at contributions gathered
  summed_before c n = rw (n, append-nil)

  -- THE CLAIM
  pub as_before : answer s ≡ answered_before s (outcome_before s)
  unfolding answer answered
  as_before = go (outcome s) refl ∙ ap (answered_before s) walked_before
    where
      go : (v : Outcome) → outcome s ≡ v → answered s v ≡ answered_before s v
      go (accepted c) w = summed_before c (none_on_it c ((exactly_when s (accepted c)).0 w))
      go (refused r) w = refl
