-- How a walk along a chain begins, what is told of one link, and the laws of a kind of chain that a step goes by. Nothing here has to be believed.
use Rattle.std.specs.Prelude.{ℕ, ◌<◌, ◌≡◌, Bool, true, List, [], ◌∷◌, ◌++◌, length, set, Result, IfOk, MatchResult}
use Rattle.sums.specs.Choice.{if_then_else}
use Rattle.sums.specs.declared.answer.Refusal.{Refusal}
use Rattle.slots.specs.Bytes.{slot_of}
use Rattle.slots.specs.Layout.{next_of}
use Rattle.slot_file.specs.Sources.{Chains}
use Rattle.slot_file.specs.Questions.{most_slots, head_asks, last_of, sources_of, reached_of, groups_so_far, stores_so_far, locomotives_so_far, group_asks, store_asks, locomotive_asks}
use Rattle.slot_file.specs.Meaning.{AllYes, FirstNo, Good, Refuses}
use Rattle.slot_file.specs.Parts.{marks_of}
use Rattle.totals.specs.Totals.{Sums}
use Rattle.totals.specs.declared.Totals.{Totals}
use Rattle.questions.specs.Told.{Told}
use Rattle.walk.specs.ChainKind.{ChainKind, asks_after, front, Along}
use Rattle.walk.specs.Units.{sums_of}
use Rattle.walk.specs.OnePass.{Holds}
use Rattle.walk.specs.declared.state.State.{State}

-- A WALK begins after the chains before it
pub record Begins (k : ChainKind) (s : List ℕ) (summing : Bool) (m : State) : Type 0 where
  pub c : Chains
  pub before : k.Before s c
  pub holds : Holds s summing m (k.so_far c [])

module _ {Source : Type 0} (k : ChainKind) (source_at : List ℕ → ℕ → Source) (s : List ℕ) where
  -- OF A SOURCE, what is asked after its slot, what it is and what it reaches
  pub record Sourced (slot : ℕ) (reached reached' : List Bool) (r : Result Source Refusal) : Type 0 where
    pub told : Told (k.asked_after s slot) r
    pub source_is : IfOk r (λ x. x ≡ source_at s slot)
    pub reached_is : IfOk r (λ _. reached' ≡ k.reaches s slot reached)

  -- what a source adds makes the exact sums of the sources before it those with it
  abbrev pub SumsMore : (Totals → Source → Totals) → Type 0
  SumsMore plus = (c : Chains) (b : List ℕ) (n : ℕ) (t : Totals) → AllYes (head_asks s) → AllYes (asks_after k s c b n)
      → Sums (sums_of s (k.so_far c b)) t → Sums (sums_of s (k.so_far c (n ∷ b))) (plus t (source_at s n))

  module _ (summing : Bool) (plus : Totals → Source → Totals) where
    -- A LINK whose source nothing is refused of: the next link, the marks after it, and the source in the sums where these are wanted
    pub record Taken (slot : ℕ) (m m' : State) (next : ℕ) : Type 0 where
      pub next_is : next ≡ next_of (slot_of s slot)
      pub state_is : m' ≡ record {
        sources = set m.sources slot true;
        reached = k.reaches s slot (set m.reached slot true);
        totals = if_then_else summing (plus m.totals (source_at s slot)) m.totals;
      }

    -- and any: what it is told, and where it is refused that nothing is added
    pub record Offered (holder slot : ℕ) (m m' : State) (r : Result ℕ Refusal) : Type 0 where
      pub told : (c : Chains) (b : List ℕ) → m.sources ≡ marks_of (sources_of (k.so_far c b)) → holder ≡ last_of b → Told (front k s c b slot ++ k.asked_after s slot) r
      pub taken : MatchResult r (Taken slot m m') (λ e. m'.totals ≡ m.totals)

-- the chains so far, each slot of which was asked when it came, are of fewer sources than the most slots
pub record AllPassed (s : List ℕ) (c : Chains) : Type 0 where
  pub groups : Good (λ (b : List ℕ). group_asks s (groups_so_far b)) c.groups
  pub stores : Good (λ (b : List ℕ). store_asks s (stores_so_far c b)) c.stores
  pub locomotives : Good (λ (b : List ℕ). locomotive_asks s (locomotives_so_far c b)) c.locomotives
  pub few : length (sources_of c) < most_slots

-- THE LAWS of a kind of chain
pub record ChainLaws (k : ChainKind) : Type 0 where
  -- a link is asked what every link is, and then what its source is
  pub asked : (s : List ℕ) (c : Chains) (b : List ℕ) (n : ℕ) → front k s c b n ++ k.asked_after s n ≡ asks_after k s c b n
  -- a slot more is a source more, and reaches what it marks
  pub source_more : (c : Chains) (b : List ℕ) (n : ℕ) → sources_of (k.so_far c (n ∷ b)) ≡ n ∷ sources_of (k.so_far c b)
  pub reached_more : (s : List ℕ) (c : Chains) (b : List ℕ) (n : ℕ) → k.reaches s n (set (marks_of (reached_of s (k.so_far c b))) n true) ≡ marks_of (reached_of s (k.so_far c (n ∷ b)))
  -- where the chains before it are passed, the header is asked; what is refused along it is refused of the file; and all sources so far were asked when they came
  pub headed : (s : List ℕ) (c : Chains) → k.Before s c → AllYes (head_asks s)
  pub refuses : (s : List ℕ) (c : Chains) (b : List ℕ) (link : ℕ) → k.Before s c → Along k s c b link → (link ≡ 0 → ⊥) → (r : Refusal) → FirstNo (asks_after k s c b link) r → Refuses s r
  pub all_passed : (s : List ℕ) (c : Chains) (b : List ℕ) (link : ℕ) → k.Before s c → Along k s c b link → AllPassed s (k.so_far c b)
