-- The store chain's laws: what a store record gives. Assumes nothing.
use Rattle.std.proofs.Common.{ℕ, ◌+◌, arith, ◌≡◌, refl, sym, subst, true, List, [], ◌∷◌, append-nil, Result, Ok}
use Rattle.sums.specs.Answer.{Contribution, emitted}
use Rattle.sums.specs.declared.answer.Emission.{Emission}
use Rattle.sums.specs.declared.answer.Refusal.{Refusal}
use Rattle.stores.specs.Rules.{handling_contribution, standing_contribution, aspiration_contribution}
use Rattle.stores.proofs.Exactly.{handling_emitted, standing_emitted, aspiration_emitted}
use Rattle.slots.specs.declared.store.StoreRecord.{StoreRecord}
use Rattle.slots.specs.declared.store.StoreRecord.TheVariants.{Handling, Standing, Aspiration}
use Rattle.slot_file.specs.Sources.{store_at, Chains}
use Rattle.slot_file.specs.Questions.{stores_so_far, store_asks}
use Rattle.slot_file.specs.Meaning.{AllYes, at_store}
use Rattle.slot_file.specs.Figures.{store_contributions}
use Rattle.slot_file.specs.Alike.{total}
use Rattle.totals.specs.Totals.{column, Sums}
use Rattle.totals.proofs.Sums.{same_sums, plus_emitted}
use Rattle.source_sums.specs.Added.{record_answer, plus_one}
use Rattle.slot_file.proofs.Outcomes.{stores_short}
use Rattle.totals.specs.declared.Totals.{Totals}
use Rattle.slot_file.proofs.Ranged.{store_in_range, store_answered}
use Rattle.walk.specs.Units.{sums_of}
use Rattle.walk.specs.ChainKind.{front}
use Rattle.walk.specs.ChainWalk.{ChainLaws, SumsMore}
use Rattle.walk.specs.ThreeChains.{stores, plus_store}

-- one store record more
module _ (f : ℕ → ℕ → ℕ) (t : Totals) (s : Sums f t) where
  one_summed : (x : Contribution) {a : Result Emission Refusal} → a ≡ Ok (emitted x) → Sums (λ (q k : ℕ). f q k + total (column q k) (x ∷ [])) (plus_one t a)
  one_summed x d =
      subst (λ (a : Result Emission Refusal). Sums (λ (q k : ℕ). f q k + total (column q k) (x ∷ [])) (plus_one t a)) (sym d)
      (same_sums (λ (q k : ℕ). f q k + column q k x) (λ (q k : ℕ). f q k + total (column q k) (x ∷ [])) _ (λ q k. omega arith) (plus_emitted f t s x))

  record_summed : (r : StoreRecord) → store_in_range r ≡ true → Sums (λ (q k : ℕ). f q k + total (column q k) (store_contributions r)) (plus_one t (record_answer r))
  unfolding record_answer store_contributions
  record_summed (Handling h) e = one_summed (handling_contribution h) (handling_emitted h e)
  record_summed (Standing r) e = one_summed (standing_contribution r) (standing_emitted r e)
  record_summed (Aspiration r) e = one_summed (aspiration_contribution r) (aspiration_emitted r e)

module _ (s : List ℕ) (a : Chains) (ss : List ℕ) where
  store_summed : (k : ℕ) (t : Totals) → AllYes (store_asks s (stores_so_far a ss) k) → Sums (sums_of s (stores_so_far a ss)) t
      → Sums (sums_of s (stores_so_far a (k ∷ ss))) (plus_one t (record_answer (store_at s k)))
  store_summed k t y h =
      let b = sums_of s (stores_so_far a ss) in
      same_sums (λ (q c : ℕ). b q c + total (column q c) (store_contributions (store_at s k))) (sums_of s (stores_so_far a (k ∷ ss))) _ (λ q c. omega arith)
      (record_summed b t h (store_at s k) (store_answered s (stores_so_far a ss) k y).1)

pub store_laws : ChainLaws stores
unfolding store_asks
store_laws = record {
  asked = λ s c b n. append-nil (front stores s c b n);
  source_more = λ c b n. refl;
  reached_more = λ s c b n. refl;
  headed = λ s c h. h.0;
  refuses = λ s c b link h w z r f. at_store (stores_so_far c b) link h.0 h.1 w z f;
  all_passed = λ s c b link h w. record { groups = h.1.good; stores = w.good; locomotives = tt; few = stores_short s h.0 (stores_so_far c b) link h.1 w };
}

pub stores_more : (s : List ℕ) → SumsMore stores store_at s plus_store
stores_more s c b n t h a z = store_summed s c b n t a z
