-- The sums of the sources passed stay below what a sum holds: no source gives a code more than a source's bound, a group and a locomotive with all their emissions, and there are
-- fewer sources than slots. Assumes nothing.
use Rattle.std.proofs.Common.{ℕ, ◌+◌, ◌*◌, ◌<◌, ◌≤◌, arith, mul-le-mul, le_refl, ◌≡◌, true, List, [], ◌∷◌, ◌++◌, eqb, lit<, get_or, length, length-append}
use Rattle.sums.specs.Fraction.{Frac, parts_of}
use Rattle.sums.specs.Answer.{Contribution}
use Rattle.sums.proofs.Choices.{both, sum_to_share}
use Rattle.sums.specs.Exactness.{sources_most, Bounded}
use Rattle.stores.specs.Rules.{handling_contribution, standing_contribution, aspiration_contribution}
use Rattle.stores.proofs.Bounds.{handling_bounded, standing_bounded, aspiration_bounded}
use Rattle.vehicle_fields.specs.Fields.{no_coefficients}
use Rattle.vehicle_factors.specs.Factors.{standard_factors}
use Rattle.vehicle_factors.proofs.Standard.{standard_in_range}
use Rattle.vehicles.specs.Rules.{emission_count, contribution_of}
use Rattle.vehicles.proofs.Bounds.{group_bounded}
use Rattle.locomotive_fields.specs.Fields.{locomotive_in_range}
use Rattle.locomotive_fields.specs.declared.fields.Locomotive.{Locomotive}
use Rattle.locomotives.specs.Rules.{substance_count, locomotive_contribution}
use Rattle.locomotives.proofs.Bounds.{locomotive_bounded}
use Rattle.slots.specs.declared.store.StoreRecord.{StoreRecord}
use Rattle.slots.specs.declared.store.StoreRecord.TheVariants.{Handling, Standing, Aspiration}
use Rattle.slot_file.specs.Sources.{group_at, store_at, locomotive_at, temperatures_at, Chains}
use Rattle.slot_file.specs.Questions.{groups_so_far, stores_so_far, locomotives_so_far, group_asks, store_asks, locomotive_asks}
use Rattle.slot_file.specs.Meaning.{AllYes, Good}
use Rattle.slot_file.specs.Figures.{group_contributions, store_contributions, locomotive_contributions}
use Rattle.slot_file.specs.Alike.{total}
use Rattle.slot_file.specs.Parts.{parts_to}
use Rattle.totals.proofs.Sums.{total_list_to}
use Rattle.walk.specs.Units.{units_of}
use Rattle.walk.specs.ChainWalk.{AllPassed}
use Rattle.slot_file.proofs.Ranged.{group_in_range_lem, row_in_range, store_in_range, store_answered, locomotive_in_range_lem}

-- of either kind of sum
module _ (f : Contribution → Frac) (k most : ℕ) (bound : (n : ℕ) (x : Contribution) → Bounded n x.tonnes x.rate → n * parts_of k (f x) ≤ most) (c : ℕ) where
  one_most : (n : ℕ) (x : Contribution) → Bounded n x.tonnes x.rate → n * parts_to f k c x ≤ most
  unfolding parts_to
  one_most n x b = both (λ (m : ℕ). n * m ≤ most) (eqb x.code c) (bound n x b) (omega arith)

  -- a group, with all its emissions, a store record, and a locomotive with all of its
  group_most : (s : List ℕ) (gs : List ℕ) (g : ℕ) → AllYes (group_asks s (groups_so_far gs) g) → total (parts_to f k c) (group_contributions (temperatures_at s) (group_at s g)) ≤ most
  unfolding group_contributions
  group_most s gs g h =
      let v = group_at s g in
      let x : ℕ → Contribution = λ (p : ℕ). contribution_of v.group (temperatures_at s) (get_or v.coefficients p no_coefficients) p in
      rw (total_list_to (parts_to f k c) emission_count x)
      (sum_to_share most (λ (p : ℕ). parts_to f k c (x p)) emission_count (lit< tt)
      (λ (p : ℕ) (l : p < emission_count). one_most emission_count (x p) (group_bounded standard_factors standard_in_range v.group (temperatures_at s) (get_or v.coefficients p no_coefficients)
      (group_in_range_lem s (groups_so_far gs) g h) (row_in_range s (groups_so_far gs) g h p l) p)))

  store_most : (r : StoreRecord) → store_in_range r ≡ true → total (parts_to f k c) (store_contributions r) ≤ most
  unfolding store_contributions
  store_most (Handling h) e = omega (arith, one_most 1 (handling_contribution h) (handling_bounded h e))
  store_most (Standing r) e = omega (arith, one_most 1 (standing_contribution r) (standing_bounded r e))
  store_most (Aspiration r) e = omega (arith, one_most 1 (aspiration_contribution r) (aspiration_bounded r e))

  locomotive_most : (l : Locomotive) → locomotive_in_range l ≡ true → total (parts_to f k c) (locomotive_contributions l) ≤ most
  unfolding locomotive_contributions
  locomotive_most l h =
      rw (total_list_to (parts_to f k c) substance_count (locomotive_contribution l))
      (sum_to_share most (λ (p : ℕ). parts_to f k c (locomotive_contribution l p)) substance_count (lit< tt)
      (λ (p : ℕ) (q : p < substance_count). one_most substance_count (locomotive_contribution l p) (locomotive_bounded l h p)))

  -- each source of a chain once
  groups_most : (s gs : List ℕ) → Good (λ (b : List ℕ). group_asks s (groups_so_far b)) gs
      → total (λ (g : ℕ). total (parts_to f k c) (group_contributions (temperatures_at s) (group_at s g))) gs ≤ length gs * most
  groups_most s [] h = omega arith
  groups_most s (g ∷ gs) h = omega (arith, groups_most s gs h.1, group_most s gs g h.0)

  stores_most : (s : List ℕ) (a : Chains) (ss : List ℕ) → Good (λ (b : List ℕ). store_asks s (stores_so_far a b)) ss
      → total (λ (j : ℕ). total (parts_to f k c) (store_contributions (store_at s j))) ss ≤ length ss * most
  stores_most s a [] h = omega arith
  stores_most s a (j ∷ ss) h = omega (arith, stores_most s a ss h.1, store_most (store_at s j) (store_answered s (stores_so_far a ss) j h.0).1)

  locomotives_most : (s : List ℕ) (a : Chains) (ls : List ℕ) → Good (λ (b : List ℕ). locomotive_asks s (locomotives_so_far a b)) ls
      → total (λ (j : ℕ). total (parts_to f k c) (locomotive_contributions (locomotive_at s j))) ls ≤ length ls * most
  locomotives_most s a [] h = omega arith
  locomotives_most s a (j ∷ ls) h =
      omega (arith, locomotives_most s a ls h.1, locomotive_most (locomotive_at s j) (locomotive_in_range_lem s (locomotives_so_far a ls) j h.0))

  pub file_most : (s : List ℕ) (a : Chains) → AllPassed s a → units_of (parts_to f k c) s a ≤ sources_most * most
  file_most s a p =
      let few : length a.groups + length a.stores + length a.locomotives ≤ sources_most =
      omega (arith, p.few, length-append a.locomotives (a.stores ++ a.groups), length-append a.stores a.groups) in
      omega (
        arith,
        groups_most s a.groups p.groups,
        stores_most s a a.stores p.stores,
        locomotives_most s a a.locomotives p.locomotives,
        mul-le-mul few (le_refl most),
      )
