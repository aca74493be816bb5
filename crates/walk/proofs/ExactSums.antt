-- The sums that a walk holds in exact units are the exact sums of the sources passed, as fractions, and the other way: what each source gives is a whole number of
-- exact units (`Units`), and the sources passed are too few for a sum to drop one (`Bounded`). Assumes nothing.
use Rattle.std.proofs.Common.{ℕ, ◌+◌, ◌*◌, ◌^◌, ◌<◌, ◌≤◌, arith, lt_of_le_of_lt, ◌≡◌, sym, subst, ◌∙◌, List, [], ◌∷◌, map, reverse, lit<}
use mathlib.Core.List.{reverse_aux}
use Rattle.sums.specs.Fraction.{Frac, ◌over◌, ◌≈◌, parts_of}
use Rattle.sums.specs.Figures.{tonne_parts, gram_parts, units_in, words_of, annual_of, peak_of}
use Rattle.sums.specs.Answer.{Contribution}
use Rattle.sums.specs.Exactness.{annual_most, peak_most, sources_most, Bounded}
use Rattle.sums.proofs.Fractions.{parts}
use Rattle.sums.proofs.Wrapping.{words_exact}
use Rattle.locomotive_fields.specs.declared.fields.Locomotive.{Locomotive}
use Rattle.slots.specs.declared.store.StoreRecord.{StoreRecord}
use Rattle.slot_file.specs.Sources.{VehicleGroup, group_at, store_at, locomotive_at, temperatures_at, Chains, inventory_at}
use Rattle.slot_file.specs.Codes.{codes}
use Rattle.slot_file.specs.Figures.{group_contributions, store_contributions, locomotive_contributions, contributions, exact_sum}
use Rattle.slot_file.specs.Alike.{total}
use Rattle.slot_file.specs.Parts.{parts_to}
use Rattle.slot_file.proofs.Units.{Units, total_contributions, exact_units}
use Rattle.totals.specs.Totals.{column, Sums}
use Rattle.totals.specs.declared.Totals.{Totals}
use Rattle.walk.specs.Units.{units_of, sums_of}
use Rattle.walk.specs.OnePass.{ExactSums}
use Rattle.walk.specs.ChainWalk.{AllPassed}
use Rattle.walk.proofs.Bounded.{file_most}

-- a kind of sum, of the year's tonnes or of the grams per second at the peak: k exact units to one, of which no source gives a code more than `most`
pub record Kind (f : Contribution → Frac) (k most : ℕ) : Type 0 where
  pub positive : 0 < k
  pub room : sources_most * most < 2 ^ 64 * 2 ^ 64
  pub exact : (x : Contribution) → Units x → f x ≈ (parts_of k (f x) over k)
  pub bound : (n : ℕ) (x : Contribution) → Bounded n x.tonnes x.rate → n * parts_of k (f x) ≤ most

pub of_tonnes : Kind (λ (x : Contribution). x.tonnes) tonne_parts annual_most
of_tonnes = record { positive = lit< tt; room = lit< tt; exact = λ x u. u.annual; bound = λ n x b. b.annual }

pub of_grams : Kind (λ (x : Contribution). x.rate) gram_parts peak_most
of_grams = record { positive = lit< tt; room = lit< tt; exact = λ x u. u.peak; bound = λ n x b. b.peak }

-- a total does not go by the order
module _ {A B : Type 0} (f : B → ℕ) (h : A → B) where
  total_onto : (l m : List A) → total f (map h (reverse_aux l m)) ≡ total (λ (x : A). f (h x)) l + total f (map h m)
  total_onto [] m = omega arith
  total_onto (x ∷ l) m = omega (arith, total_onto l (x ∷ m))

  total_reversed : (l : List A) → total f (map h (reverse l)) ≡ total (λ (x : A). f (h x)) l
  total_reversed l = omega (arith, total_onto l [])

module _ (s : List ℕ) (b : Chains) where
  units_are : (n : Contribution → ℕ) → total n (contributions (inventory_at s b)) ≡ units_of n s b
  unfolding inventory_at
  units_are n =
      omega (
        arith,
        total_contributions (inventory_at s b) n,
        total_reversed (λ (g : VehicleGroup). total n (group_contributions (temperatures_at s) g)) (group_at s) b.groups,
        total_reversed (λ (r : StoreRecord). total n (store_contributions r)) (store_at s) b.stores,
        total_reversed (λ (l : Locomotive). total n (locomotive_contributions l)) (locomotive_at s) b.locomotives,
      )

  module _ {f : Contribution → Frac} {k most : ℕ} (kind : Kind f k most) (c : ℕ) where
    abbrev units : ℕ
    units = units_of (parts_to f k c) s b

    abbrev sum : Frac
    sum = exact_sum f c (contributions (inventory_at s b))

    in_units : sum ≈ (units over k)
    in_units = subst (λ (n : ℕ). sum ≈ (n over k)) (units_are (parts_to f k c)) (exact_units f k kind.positive kind.exact c (inventory_at s b))

    counted : parts_of k sum ≡ units
    counted = parts in_units

    -- few enough for two words, and for a figure
    pub parts_most : AllPassed s b → parts_of k sum ≤ sources_most * most
    parts_most a = rw counted (file_most f k most kind.bound c s b a)

    kept : AllPassed s b → sum ≈ (units_in (words_of (parts_of k sum)) over k)
    kept a = subst (λ (n : ℕ). sum ≈ (n over k)) (sym counted ∙ sym (words_exact (parts_of k sum) (lt_of_le_of_lt (parts_most a) kind.room))) in_units

  -- both ways
  pub exact_sums : AllPassed s b → {t : Totals} → Sums (sums_of s b) t → ExactSums (contributions (inventory_at s b)) t
  unfolding column
  exact_sums a h = record {
    annual_are = h.annual_are ∙ (λ i. map (λ (c : ℕ). annual_of (sym (counted of_tonnes c) i)) codes);
    peak_are = h.peak_are ∙ (λ i. map (λ (c : ℕ). peak_of (sym (counted of_grams c) i)) codes);
    annual_exact = λ c. kept of_tonnes c a;
    peak_exact = λ c. kept of_grams c a;
  }

  pub held_sums : {t : Totals} → ExactSums (contributions (inventory_at s b)) t → Sums (sums_of s b) t
  unfolding column
  held_sums h = record {
    annual_are = h.annual_are ∙ (λ i. map (λ (c : ℕ). annual_of (counted of_tonnes c i)) codes);
    peak_are = h.peak_are ∙ (λ i. map (λ (c : ℕ). peak_of (counted of_grams c i)) codes);
  }
