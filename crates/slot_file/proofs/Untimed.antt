-- A file with byte 36 zero in every group is answered as before warm-ups were timed, and so is every file that was accepted then. Question 9 of a group with zero
-- there asks what 01 asks, and a slot of another kind is refused before it; so the walk is the same. And the minutes of such a group are the table's or the heated
-- stand's. Assumes nothing.
use Rattle.std.proofs.Common.{ℕ, zero, suc, ◌+◌, ◌≡◌, refl, sym, ap, subst, ◌∙◌, Bool, true, false, List, [], ◌∷◌, ◌++◌, leb, eqb, ℤ, get_or, eqb-true, Ok}
use Rattle.std.proofs.Math.Bool.{and-true}
use borrow.Author.Tests.{eqb-false}
use Rattle.sums.specs.Choice.{if_then_else, all_of, list_to}
use Rattle.sums.proofs.Choices.{left, right, nth}
use Rattle.sums.specs.Fraction.{Frac}
use Rattle.sums.specs.Answer.{Contribution}
use Rattle.vehicle_fields.specs.Fields.{no_coefficients, untimed_tests, group_in_range}
use Rattle.vehicle_factors.specs.Factors.{standard_factors}
use Rattle.warmups.specs.Warmup.{minutes_at, untimed_at}
use Rattle.warmups.proofs.Decided.{untimed}
use Rattle.vehicles.specs.Rules.{emission_count, contribution_with}
use Rattle.slots.specs.Bytes.{byte_at, zero_from, slot_of}
use Rattle.slots.specs.Layout.{group_of, group_kind, group_good, group_read, next_of}
use Rattle.slot_file.specs.Sources.{group_at, VehicleGroup, temperatures_at, header_at, Chains, inventory_at}
use Rattle.slot_file.specs.Questions.{most_slots, slot_count, Question, Outcome, accepted, refused, head_asks, groups_so_far, link_asks, group_asks}
use Rattle.slot_file.specs.Walk.{first, chain, store_walk, group_walk, outcome}
use Rattle.slot_file.specs.Meaning.{AllYes, Good, Chain}
use Rattle.slot_file.specs.Figures.{group_contributions, store_contributions, locomotive_contributions, gathered, contributions, summed_from, summed, answered, answer}
use Rattle.slot_file.specs.Demands.{Each}
use Rattle.slot_file.specs.Untimed.{NoneTimed, untimed_good, untimed_asks, untimed_outcome, untimed_contributions, untimed_summed, untimed_answered}
use Rattle.slot_file.proofs.Asking.{yes_at, first_both}
use Rattle.slot_file.proofs.Chains.{Walks, one_chain}
use Rattle.slot_file.proofs.Marks.{different_short}
use Rattle.slot_file.proofs.Outcomes.{exactly_when, walked, group_walk_lem, headed, groups_differ, sized}
use Rattle.slot_file.proofs.Demands.{each_onto, each_good}

-- question 9 of a slot with a zero there
good_same : (t : List ℕ) → byte_at t 36 ≡ 0 → group_good t (group_of t) ≡ untimed_good t (group_of t)
unfolding group_good group_in_range group_of zero_from
good_same t e = simp (e, and-true)

-- and a zero there is what 01's question 9 asks
zero_there : (t : List ℕ) (n : ℕ) → zero_from t 36 (suc n) ≡ true → byte_at t 36 ≡ 0
unfolding zero_from
zero_there t zero h = eqb-true (byte_at t 36) 0 (right true (eqb (byte_at t 36) 0) h)
zero_there t (suc n) h = zero_there t n (left (zero_from t 36 (suc n)) (eqb (byte_at t (36 + suc n)) 0) h)

gathered_same : (f o : VehicleGroup → List Contribution) (l : List VehicleGroup) → Each (λ v. f v ≡ o v) l → gathered f l ≡ gathered o l
unfolding gathered
gathered_same f o [] w = refl
gathered_same f o (v ∷ l) w = λ i. w.0 i ++ gathered_same f o l w.1 i

-- ---- what groups with a zero there give
module _ (s : List ℕ) where
  abbrev Zero : ℕ → Type 0
  Zero g = byte_at (slot_of s g) 36 ≡ 0

  abbrev Same : VehicleGroup → Type 0
  Same v = group_contributions (temperatures_at s) v ≡ untimed_contributions (temperatures_at s) v

  group_same : (g : ℕ) → Zero g → Same (group_at s g)
  unfolding group_contributions untimed_contributions group_at group_read group_of
  group_same g z =
      let v = group_at s g in
      let e : minutes_at standard_factors v.group ≡ untimed_at standard_factors v.group = λ i t. untimed standard_factors v.group z t i in
      ap (λ (m : ℤ → Frac). list_to emission_count (λ (p : ℕ). contribution_with m standard_factors v.group (temperatures_at s) (get_or v.coefficients p no_coefficients) p)) e

  groups_same : (gs : List ℕ) → Each Zero gs → Each (λ g. Same (group_at s g)) gs
  groups_same [] w = tt
  groups_same (g ∷ b) w = (group_same g w.0, groups_same b w.1)

  summed_same : (c : Chains) → Each Zero c.groups → summed (inventory_at s c) ≡ untimed_summed (inventory_at s c)
  unfolding summed contributions inventory_at
  summed_same c w =
      let v = inventory_at s c in
      let ts = temperatures_at s in
      let e = gathered_same (group_contributions ts) (untimed_contributions ts) v.groups (each_onto Same (group_at s) c.groups [] (groups_same c.groups w) tt) in
      ap (λ (xs : List Contribution). summed_from v (xs ++ gathered store_contributions v.stores ++ gathered locomotive_contributions v.locomotives)) e

-- ---- walks along two chains whose questions come to the same at each link
module _ (asks other : List ℕ → ℕ → List Question) (end : List ℕ → Outcome) (s : List ℕ)
    (same : (b : List ℕ) (k : ℕ) → (k ≡ 0 → ⊥) → (v : Outcome) → first (asks b k) v ≡ first (other b k) v) where
  walks_same : (n : ℕ) (b : List ℕ) (k : ℕ) → chain asks end n s b k ≡ chain other end n s b k
  unfolding chain if_then_else
  walks_same zero b k = refl
  walks_same (suc n) b k = go (eqb k 0) refl (walks_same n (k ∷ b) (next_of (slot_of s k)))
    where
      go : (z : Bool) → eqb k 0 ≡ z → chain asks end n s (k ∷ b) (next_of (slot_of s k)) ≡ chain other end n s (k ∷ b) (next_of (slot_of s k))
          → if_then_else z (end b) (first (asks b k) (chain asks end n s (k ∷ b) (next_of (slot_of s k))))
          ≡ if_then_else z (end b) (first (other b k) (chain other end n s (k ∷ b) (next_of (slot_of s k))))
      go true e ih = refl
      go false e ih = ap (first (asks b k)) ih ∙ same b k (eqb-false k 0 e) (chain other end n s (k ∷ b) (next_of (slot_of s k)))

module _ (s : List ℕ) (h : NoneTimed s) where
  asks_same : (c : Chains) (g : ℕ) → (g ≡ 0 → ⊥) → (v : Outcome) → first (group_asks s c g) v ≡ first (untimed_asks s c g) v
  unfolding group_asks untimed_asks link_asks first if_then_else
  asks_same c g z v = go (group_kind (slot_of s g)) refl
    where
      go : (kind : Bool) → group_kind (slot_of s g) ≡ kind → first (group_asks s c g) v ≡ first (untimed_asks s c g) v
      go true e = rw (good_same (slot_of s g) (h g z e))
      go false e = rw e

  walk_same : outcome s ≡ untimed_outcome s
  unfolding outcome untimed_outcome group_walk
  walk_same =
      ap (first (head_asks s))
      (walks_same (λ (b : List ℕ). group_asks s (groups_so_far b)) (λ (b : List ℕ). untimed_asks s (groups_so_far b)) (λ (b : List ℕ). store_walk s (groups_so_far b)) s
      (λ b k z v. asks_same (groups_so_far b) k z v) most_slots [] (header_at s).heads.groups)

  all_zero_lem : (from : ℕ) (gs : List ℕ) (link : ℕ) → Chain s from gs link → Good (λ (b : List ℕ). group_asks s (groups_so_far b)) gs → Each (Zero s) gs
  unfolding group_asks link_asks
  all_zero_lem from [] link e w = tt
  all_zero_lem from (g ∷ b) link e w = (h g e.1 (yes_at (group_asks s (groups_so_far b) g) w.0 2), all_zero_lem from b g e.2 w.1)

  -- THE CLAIM, of refused files too
  pub as_untimed : answer s ≡ untimed_answered s (untimed_outcome s)
  unfolding answer answered
  as_untimed = go (outcome s) refl ∙ ap (untimed_answered s) walk_same
    where
      go : (v : Outcome) → outcome s ≡ v → answered s v ≡ untimed_answered s v
      go (accepted c) w = let r = ((exactly_when s (accepted c)).0 w).groups in ap Ok (summed_same s c (all_zero_lem _ c.groups 0 r.chain r.good))
      go (refused r) w = refl

-- ---- a file that was accepted then
abbrev Accepting : Outcome → Type 0
Accepting (accepted c) = Unit {0}
Accepting (refused r) = ⊥

module _ (s : List ℕ) where
  was_zero : (c : Chains) (g : ℕ) → AllYes (untimed_asks s c g) → Zero s g
  unfolding untimed_asks link_asks
  was_zero c g a =
      let t = slot_of s g in
      zero_there t 27 (nth (all_of (untimed_tests (group_of t)) ∷ leb (byte_at t 5) 3 ∷ zero_from t 36 28 ∷ []) (yes_at (untimed_asks s c g) a 3) 2)

  still_yes : (c : Chains) (g : ℕ) → AllYes (untimed_asks s c g) → AllYes (group_asks s c g)
  unfolding untimed_asks group_asks link_asks
  still_yes c g a = (a.0, (a.1.0, (a.1.1.0, (good_same (slot_of s g) (was_zero c g a) ∙ a.1.1.1.0, a.1.1.1.1))))

  still_good : (b : List ℕ) → Good (λ (b : List ℕ). untimed_asks s (groups_so_far b)) b → Good (λ (b : List ℕ). group_asks s (groups_so_far b)) b
  still_good [] w = tt
  still_good (k ∷ b) w = (still_yes (groups_so_far b) k w.0, still_good b w.1)

  untimed_walk : AllYes (head_asks s) → Walks (λ (b : List ℕ). untimed_asks s (groups_so_far b)) s (header_at s).heads.groups
      (chain (λ (b : List ℕ). untimed_asks s (groups_so_far b)) (λ (b : List ℕ). store_walk s (groups_so_far b)) most_slots s [] (header_at s).heads.groups) (λ b. store_walk s (groups_so_far b))
  untimed_walk h =
      walked (λ b. untimed_asks s (groups_so_far b)) (λ b. store_walk s (groups_so_far b)) s (header_at s).heads.groups
      (λ b link w. different_short (slot_count s) b (sized s h) (groups_differ s b _ link w.chain (still_good b w.good)))

  abbrev Kept : Chains → Outcome → Type 0
  Kept c v = v ≡ accepted c → (outcome s ≡ accepted c) × Each (Zero s) c.groups

  was_accepted : (c : Chains) → Kept c (untimed_outcome s)
  unfolding untimed_outcome
  was_accepted c =
      first_both (Kept c) (head_asks s) _ (λ r f e. absurd (subst Accepting (sym e) tt)) (λ h.
      (untimed_walk h).both (Kept c) (λ b k w z r f e. absurd (subst Accepting (sym e) tt)) (λ b w e.
      let o : outcome s ≡ accepted c = headed s h ∙ (group_walk_lem s h).at_end b (record { chain = w.chain; good = still_good b w.good }) ∙ e in
      let a = (exactly_when s (accepted c)).0 o in
      (o, subst (Each (Zero s)) (one_chain s (header_at s).heads.groups b c.groups w.chain a.groups.chain) (each_good (λ b. untimed_asks s (groups_so_far b)) (Zero s) (λ b g y. was_zero (groups_so_far b) g y) b w.good))))

  -- THE CLAIM, of every file that was accepted
  pub accepted_as_untimed : (c : Chains) → untimed_outcome s ≡ accepted c → answer s ≡ untimed_answered s (accepted c)
  unfolding answer answered
  accepted_as_untimed c e = let k = was_accepted c e in ap (answered s) k.0 ∙ ap Ok (summed_same s c k.1)
