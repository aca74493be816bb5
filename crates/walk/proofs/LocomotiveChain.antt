-- The locomotive chain's laws: what a locomotive gives. Assumes nothing.
use Rattle.std.proofs.Common.{ℕ, ◌+◌, arith, refl, sym, ap, subst, List, ◌∷◌}
use Rattle.sums.specs.Choice.{list_to}
use Rattle.locomotives.specs.Rules.{substance_count, locomotive_contribution, locomotive_emissions}
use Rattle.slot_file.specs.Sources.{locomotive_at, Chains}
use Rattle.slot_file.specs.Questions.{locomotives_so_far, locomotive_asks}
use Rattle.slot_file.specs.Meaning.{at_locomotive}
use Rattle.slot_file.specs.Figures.{locomotive_contributions}
use Rattle.slot_file.specs.Alike.{total}
use Rattle.totals.specs.Totals.{plus_to_in, column, Sums}
use Rattle.totals.proofs.Sums.{same_sums, plus_all}
use Rattle.source_sums.specs.Added.{plus_answer}
use Rattle.slot_file.proofs.Outcomes.{locomotives_short}
use Rattle.totals.specs.declared.Totals.{Totals}
use Rattle.slot_file.proofs.Ranged.{locomotive_answered}
use Rattle.walk.specs.Units.{sums_of}
use Rattle.walk.specs.ChainWalk.{ChainLaws, SumsMore}
use Rattle.walk.specs.ThreeChains.{locomotives, plus_locomotive}

module _ (s : List ℕ) where
  -- one locomotive more
  locomotive_summed : (a : Chains) (ls : List ℕ) (k : ℕ) (t : Totals) → Sums (sums_of s (locomotives_so_far a ls)) t
      → Sums (sums_of s (locomotives_so_far a (k ∷ ls))) (plus_to_in t (locomotive_emissions (locomotive_at s k)) substance_count)
  unfolding locomotive_emissions locomotive_contributions
  locomotive_summed a ls k t h' =
      let x = locomotive_contribution (locomotive_at s k) in
      let b = sums_of s (locomotives_so_far a ls) in
      same_sums (λ (q j : ℕ). b q j + total (column q j) (list_to substance_count x)) (sums_of s (locomotives_so_far a (k ∷ ls))) _ (λ q j. omega arith) (plus_all b t h' x substance_count)

pub locomotive_laws : ChainLaws locomotives
unfolding locomotive_asks
locomotive_laws = record {
  asked = λ s c b n. refl;
  source_more = λ c b n. refl;
  reached_more = λ s c b n. refl;
  headed = λ s c h. h.0;
  refuses = λ s c b link h w z r f. at_locomotive (locomotives_so_far c b) link h.0 h.1 h.2 w z f;
  all_passed = λ s c b link h w. record { groups = h.1.good; stores = h.2.good; locomotives = w.good; few = locomotives_short s h.0 (locomotives_so_far c b) link h.1 h.2 w };
}

pub locomotives_more : (s : List ℕ) → SumsMore locomotives locomotive_at s plus_locomotive
locomotives_more s c b n t h a z =
    subst (Sums (sums_of s (locomotives_so_far c (n ∷ b)))) (sym (ap (plus_answer substance_count t) (locomotive_answered s (locomotives_so_far c b) n a)))
    (locomotive_summed s c b n t z)
