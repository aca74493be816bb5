-- What the range tests say: each bound is one of the tests. Assumes nothing.
use Rattle.std.proofs.Common.{ℕ, ◌<◌, ◌≤◌, ◌≡◌, true, leb-true, leb, get_or}
use Rattle.sums.proofs.Choices.{nth, all_to_at}
use Rattle.locomotive_fields.specs.Fields.{mode_count, shares_in_range, locomotive_tests, locomotive_in_range}
use Rattle.locomotive_fields.specs.declared.fields.Locomotive.{Locomotive}

pub record Ranged (l : Locomotive) : Type 0 where
  pub model : (1 ≤ l.model) × (l.model ≤ 4)
  pub share : (k : ℕ) → k < mode_count → get_or l.shares k 0 ≤ 1000
  pub hours : l.hours ≤ 8784
  pub zone : (1 ≤ l.zone) × (l.zone ≤ 3)

pub ranged : (l : Locomotive) → locomotive_in_range l ≡ true → Ranged l
unfolding locomotive_in_range shares_in_range
ranged l h =
    let t = nth (locomotive_tests l) h in
    record {
      model = (leb-true 1 l.model (t 0), leb-true l.model 4 (t 1));
      share = λ k p. leb-true _ 1000 (all_to_at mode_count (λ (k : ℕ). leb (get_or l.shares k 0) 1000) (t 2) k p);
      hours = leb-true l.hours 8784 (t 3);
      zone = (leb-true 1 l.zone (t 5), leb-true l.zone 3 (t 6));
    }
