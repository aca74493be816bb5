-- One source more, on any chain: a link that nothing is refused of lengthens the chain, and what it gives makes the exact sums those of the sources passed (`ExactSums`, to
-- exact units and back). Assumes nothing.
use Rattle.std.proofs.Common.{ℕ, ◌+◌, ◌<◌, ◌≤◌, arith, ◌≡◌, refl, sym, ap, subst, ◌∙◌, Bool, true, false, List, [], ◌∷◌, ◌++◌, length, set, Result, Ok, Err}
use Rattle.std.proofs.lemmas.Result.{IfOk-at_ok, MatchResult-at_ok, MatchResult-at_err}
use Rattle.sums.specs.Choice.{if_then_else}
use Rattle.sums.specs.declared.answer.Refusal.{Refusal}
use Rattle.slot_file.specs.Sources.{header_at, Chains}
use Rattle.slot_file.specs.Questions.{most_slots, Question, sources_of}
use Rattle.slot_file.specs.Meaning.{AllYes, FirstNo, Refuses}
use Rattle.slot_file.specs.Parts.{marks_of}
use Rattle.totals.specs.declared.Totals.{Totals}
use Rattle.questions.specs.Told.{Told}
use Rattle.walk.specs.ChainKind.{ChainKind, asks_after, front, Along}
use Rattle.walk.specs.ChainWalk.{ChainLaws, SumsMore, Begins, Taken, Offered}
use Rattle.walk.specs.OnePass.{at_link, Passed, Stands, Stepped, Ends}
use Rattle.walk.specs.declared.chain.Position.{Position}
use Rattle.walk.specs.declared.state.State.{State}
use Rattle.walk.proofs.ExactSums.{exact_sums, held_sums}

-- a chain's own slots are sources
own_sources : {k : ChainKind} → ChainLaws k → (c : Chains) (b : List ℕ) → length b ≤ length (sources_of (k.so_far c b))
own_sources laws c [] = omega arith
own_sources laws c (n ∷ b) = omega (arith, own_sources laws c b, ap length (laws.source_more c b n))

module _ {k : ChainKind} {s : List ℕ} {summing : Bool} where
  pub begun_with : {m : State} {link : ℕ} → Begins k s summing m → link ≡ k.head (header_at s) → Stands k s summing m (at_link 0 link 0)
  begun_with p e = record {
    c = p.c;
    b = [];
    passed = record { before = p.before; chain = record { chain = e; good = tt }; holder_is = refl; count_is = refl; holds = p.holds };
  }

  pub ended_after : {m : State} {at : Position} → Stands k s summing m at → at.link.slot ≡ 0 → Ends k s summing m at.passed
  ended_after {m} {at} p z = record { holder = at.link.holder; stands = subst (λ (j : ℕ). Stands k s summing m (at_link at.link.holder j at.passed)) z p }

  -- where the walk stands after a step
  pub stepped : {m m' : State} {at after : Position} {r : Result Position Refusal} → Stepped k s summing m m' at r → (p : Stands k s summing m at) → r ≡ Ok after
      → Passed k s summing m' after p.c (at.link.slot ∷ p.b)
  stepped {m' = m'} {at} t p w = IfOk-at_ok (λ after. Passed k s summing m' after p.c (at.link.slot ∷ p.b)) w (t.passed p.c p.b p.passed)

  module _ (laws : ChainLaws k) {m : State} {at : Position} {c : Chains} {b : List ℕ} (p : Passed k s summing m at c b) where
    -- the count goes up by one at each step, and stays below the most slots
    pub few : at.passed < most_slots
    few = omega (arith, p.count_is, own_sources laws c b, (laws.all_passed s c b at.link.slot p.before p.chain).few)

    module _ (z : at.link.slot ≡ 0 → ⊥) {Source : Type 0} {source_at : List ℕ → ℕ → Source} {plus : Totals → Source → Totals} {m' : State} {r : Result ℕ Refusal}
        (o : Offered k source_at s summing plus at.link.holder at.link.slot m m' r)
      where
        -- what is asked of the link and of its source
        abbrev asks : List Question
        asks = front k s c b at.link.slot ++ k.asked_after s at.link.slot

        abbrev LinkTaken : ℕ → Type 0
        LinkTaken next = Taken k source_at s summing plus at.link.slot m m' next

        abbrev Kept : Refusal → Type 0
        Kept e = m'.totals ≡ m.totals

        told : Told asks r
        told = o.told c b p.holds.sources_are p.holder_is

        pub refused : {e : Refusal} → r ≡ Err e → Refuses s e × Kept e
        refused {e} w = (
          laws.refuses s c b at.link.slot p.before p.chain z e
              (subst (λ (qs : List Question). FirstNo qs e) (laws.asked s c b at.link.slot) (MatchResult-at_err (λ _. AllYes asks) (FirstNo asks) _ w told)),
          MatchResult-at_err LinkTaken Kept _ w o.taken,
        )

        module _ {next : ℕ} (w : r ≡ Ok next) (more : summing ≡ true → SumsMore k source_at s plus) where
          t : LinkTaken next
          t = MatchResult-at_ok LinkTaken Kept _ w o.taken

          yes : AllYes (asks_after k s c b at.link.slot)
          yes = subst AllYes (laws.asked s c b at.link.slot) (MatchResult-at_ok (λ _. AllYes asks) (FirstNo asks) _ w told)

          along : Along k s c (at.link.slot ∷ b) next
          along = record { chain = (t.next_is, z, p.chain.chain); good = (yes, p.chain.good) }

          totals_are : (w : Bool) → summing ≡ w → m'.totals ≡ if_then_else w (plus m.totals (source_at s at.link.slot)) m.totals
          totals_are w e = ap (λ (q : State). q.totals) t.state_is ∙ ap (λ (w : Bool). if_then_else w (plus m.totals (source_at s at.link.slot)) m.totals) e

          added : summing ≡ true → m'.totals ≡ plus m.totals (source_at s at.link.slot)
          unfolding if_then_else
          added = totals_are true

          dropped : summing ≡ false → m'.totals ≡ m.totals
          unfolding if_then_else
          dropped = totals_are false

          pub passed : Passed k s summing m' (at_link at.link.slot next (at.passed + 1)) c (at.link.slot ∷ b)
          passed = record {
            before = p.before;
            chain = along;
            holder_is = refl;
            count_is = omega (arith, p.count_is);
            holds = record {
              sources_are =
                  ap (λ (q : State). q.sources) t.state_is ∙ ap (λ (l : List Bool). set l at.link.slot true) p.holds.sources_are
                  ∙ sym (ap marks_of (laws.source_more c b at.link.slot));
              reached_are =
                  ap (λ (q : State). q.reached) t.state_is ∙ ap (λ (l : List Bool). k.reaches s at.link.slot (set l at.link.slot true)) p.holds.reached_are
                  ∙ laws.reached_more s c b at.link.slot;
              sums_are = λ e.
                  exact_sums s _ (laws.all_passed s c (at.link.slot ∷ b) next p.before along)
                  (rw (added e) (more e c b at.link.slot m.totals (laws.headed s c p.before) yes (held_sums s _ (p.holds.sums_are e))));
              none_summed = λ e. dropped e ∙ p.holds.none_summed e;
            };
          }
