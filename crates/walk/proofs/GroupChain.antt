-- The group chain's laws: what a group marks and gives. Assumes nothing.
use Rattle.std.proofs.Common.{ℕ, zero, suc, ◌+◌, arith, ◌≡◌, refl, sym, ap, subst, ◌∙◌, Bool, true, List, ◌∷◌, ◌++◌, get_or, set, append_assoc}
use Rattle.sums.specs.Choice.{list_to}
use Rattle.sums.specs.Answer.{Contribution}
use Rattle.vehicle_fields.specs.Fields.{pollutant_count, no_coefficients}
use Rattle.vehicles.specs.Rules.{emission_count, contribution_of, emission_of, emissions_of}
use Rattle.slot_file.specs.Sources.{header_at, coefficient_slot, group_at, temperatures_at}
use Rattle.slot_file.specs.Questions.{rows_asks, closing_asks, coefficient_slots, reached_by, groups_so_far, group_asks}
use Rattle.slot_file.specs.Meaning.{at_group}
use Rattle.slot_file.specs.Figures.{group_contributions}
use Rattle.slot_file.specs.Alike.{total}
use Rattle.slot_file.specs.Parts.{marks_of}
use Rattle.totals.specs.Totals.{plus_to_in, column, Sums}
use Rattle.totals.proofs.Sums.{same_sums, plus_all}
use Rattle.source_sums.specs.Added.{plus_answer}
use Rattle.slot_file.proofs.Outcomes.{groups_short}
use Rattle.slot_file.proofs.Ranged.{climate_answered}
use Rattle.warmups.specs.Parts.{climate_of}
use Rattle.warmups.specs.declared.climate.Climate.{Climate}
use Rattle.totals.specs.declared.Totals.{Totals}
use Rattle.walk.specs.Units.{sums_of}
use Rattle.walk.specs.ChainKind.{front}
use Rattle.walk.specs.ChainWalk.{ChainLaws, SumsMore}
use Rattle.walk.specs.Rows.{marks_to}
use Rattle.walk.specs.ThreeChains.{groups, group_source_at, plus_group}

module _ (s : List ℕ) where
  group_summed : (gs : List ℕ) (g : ℕ) (t : Totals) → Sums (sums_of s (groups_so_far gs)) t
      → Sums (sums_of s (groups_so_far (g ∷ gs))) (plus_to_in t (emissions_of (group_at s g).group (temperatures_at s) (group_at s g).coefficients) emission_count)
  unfolding emissions_of emission_of group_contributions
  group_summed gs g t h =
      let x : ℕ → Contribution = λ (p : ℕ). contribution_of (group_at s g).group (temperatures_at s) (get_or (group_at s g).coefficients p no_coefficients) p in
      let b = sums_of s (groups_so_far gs) in
      same_sums (λ (q k : ℕ). b q k + total (column q k) (list_to emission_count x)) (sums_of s (groups_so_far (g ∷ gs))) _ (λ q k. omega arith) (plus_all b t h x emission_count)

  slots_marked : (b : List ℕ) (g n : ℕ) → marks_to s g (set (marks_of b) g true) n ≡ marks_of (coefficient_slots s g n ++ g ∷ b)
  unfolding marks_to coefficient_slots
  slots_marked b g zero = refl
  slots_marked b g (suc n) = ap (λ (l : List Bool). set l (coefficient_slot s g n) true) (slots_marked b g n)

  group_marked : (gs : List ℕ) (g : ℕ) → marks_to s g (set (marks_of (reached_by s gs)) g true) pollutant_count ≡ marks_of (reached_by s (g ∷ gs))
  unfolding reached_by
  group_marked gs g = slots_marked (reached_by s gs) g pollutant_count

pub group_laws : ChainLaws groups
unfolding group_asks
group_laws = record {
  asked = λ s c b n. sym (append_assoc (front groups s c b n) (rows_asks s n pollutant_count) (closing_asks s n));
  source_more = λ c b n. refl;
  reached_more = λ s c b n. group_marked s b n;
  headed = λ s c h. h;
  refuses = λ s c b link h w z r f. at_group (groups_so_far b) link h w z f;
  all_passed = λ s c b link h w. record { groups = w.good; stores = tt; locomotives = tt; few = groups_short s h (groups_so_far b) link w };
}

-- by the climate of the file's temperatures
pub groups_more : (s : List ℕ) {y : Climate} → y ≡ climate_of (header_at s).temperatures → SumsMore groups group_source_at s (plus_group y)
unfolding temperatures_at
groups_more s e c b n t h a z =
    subst (Sums (sums_of s (groups_so_far (n ∷ b))))
    (sym (ap (λ (y : Climate). plus_group y t (group_source_at s n)) e ∙ ap (plus_answer emission_count t) (climate_answered s (groups_so_far b) n a h)))
    (group_summed s b n t z)
