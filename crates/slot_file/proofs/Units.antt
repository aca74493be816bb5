-- What each source gives is a whole number of exact units, so the exact sum of a code is as many units as its terms have together, over the groups, over
-- the store records and over the locomotives. Assumes nothing.
use Rattle.std.proofs.Common.{ℕ, zero, suc, ◌+◌, ◌*◌, ◌<◌, arith, ◌≡◌, refl, Bool, true, false, List, [], ◌∷◌, ◌++◌, eqb, lit<, ℤ, get_or}
use Rattle.sums.specs.Choice.{if_then_else, list_to}
use Rattle.sums.specs.Fraction.{Frac, ◌over◌, whole, ◌⊙◌, ◌⊞◌, ◌≈◌, parts_of}
use Rattle.sums.specs.Figures.{tonne_parts, gram_parts}
use Rattle.sums.proofs.Fractions.{≈_refl, ≈_⊙, ≈_⊞, ≈_over, parts}
use Rattle.sums.specs.Exactness.{Counted}
use Rattle.vehicle_fields.specs.Fields.{no_coefficients}
use Rattle.vehicle_factors.specs.Factors.{standard_factors}
use Rattle.vehicles.specs.Rules.{emission_count}
use Rattle.vehicles.proofs.Paper.{counted}
use Rattle.stores.proofs.Paper.{handling_counted, standing_counted, aspiration_counted}
use Rattle.sums.specs.Answer.{Contribution}
use Rattle.locomotive_fields.specs.declared.fields.Locomotive.{Locomotive}
use Rattle.locomotives.specs.Rules.{substance_count}
use Rattle.locomotives.proofs.Paper.{locomotive_counted}
use Rattle.slots.specs.declared.store.StoreRecord.{StoreRecord}
use Rattle.slots.specs.declared.store.StoreRecord.TheVariants.{Handling, Standing, Aspiration}
use Rattle.slot_file.specs.Sources.{VehicleGroup, Inventory}
use Rattle.slot_file.specs.Figures.{group_contributions, store_contributions, locomotive_contributions, gathered, contributions, exact_sum}
use Rattle.slot_file.specs.Alike.{total}
use Rattle.slot_file.specs.Demands.{Each}
use Rattle.slot_file.specs.Parts.{parts_to}
use Rattle.slot_file.proofs.Bag.{total_append}

-- a contribution's tonnes and rate are whole numbers of exact units
pub record Units (x : Contribution) : Type 0 where
  pub annual : x.tonnes ≈ (parts_of tonne_parts x.tonnes over tonne_parts)
  pub peak : x.rate ≈ (parts_of gram_parts x.rate over gram_parts)

units : (x : Contribution) {a p : ℕ} → Counted x.tonnes x.rate a p → Units x
units x e = record { annual = rw (parts e.annual) e.annual; peak = rw (parts e.peak) e.peak }

module _ {A : Type 0} (P : A → Type 0) where
  each_append : (l m : List A) → Each P l → Each P m → Each P (l ++ m)
  each_append [] m h k = k
  each_append (x ∷ l) m h k = (h.0, each_append l m h.1 k)

  each_list_to : (n : ℕ) (f : ℕ → A) → ((i : ℕ) → P (f i)) → Each P (list_to n f)
  unfolding list_to
  each_list_to zero f h = tt
  each_list_to (suc n) f h = (h 0, each_list_to n (λ (i : ℕ). f (suc i)) (λ (i : ℕ). h (suc i)))

group_units : (ts : List ℤ) (v : VehicleGroup) → Each Units (group_contributions ts v)
unfolding group_contributions
group_units ts v = each_list_to Units emission_count _ (λ (p : ℕ). units _ (counted standard_factors v.group ts (get_or v.coefficients p no_coefficients) p))

store_units : (r : StoreRecord) → Each Units (store_contributions r)
unfolding store_contributions
store_units (Handling h) = (units _ (handling_counted h), tt)
store_units (Standing s) = (units _ (standing_counted s), tt)
store_units (Aspiration a) = (units _ (aspiration_counted a), tt)

locomotive_units : (l : Locomotive) → Each Units (locomotive_contributions l)
unfolding locomotive_contributions
locomotive_units l = each_list_to Units substance_count _ (λ (p : ℕ). units _ (locomotive_counted l p))

total_gathered : {A : Type 0} (n : Contribution → ℕ) (f : A → List Contribution) (l : List A) → total n (gathered f l) ≡ total (λ (x : A). total n (f x)) l
unfolding gathered
total_gathered n f [] = refl
total_gathered n f (x ∷ l) = omega (arith, total_append n (f x) (gathered f l), total_gathered n f l)

each_gathered : {A : Type 0} (f : A → List Contribution) → ((x : A) → Each Units (f x)) → (l : List A) → Each Units (gathered f l)
unfolding gathered
each_gathered f h [] = tt
each_gathered f h (x ∷ l) = each_append Units (f x) (gathered f l) (h x) (each_gathered f h l)

module _ (v : Inventory) where
  abbrev from_groups : List Contribution
  from_groups = gathered (group_contributions v.temperatures) v.groups

  abbrev from_stores : List Contribution
  from_stores = gathered store_contributions v.stores

  abbrev from_locomotives : List Contribution
  from_locomotives = gathered locomotive_contributions v.locomotives

  all_units : Each Units (contributions v)
  unfolding contributions
  all_units =
      each_append Units (from_groups ++ from_stores) from_locomotives
      (each_append Units from_groups from_stores (each_gathered (group_contributions v.temperatures) (group_units v.temperatures) v.groups) (each_gathered store_contributions store_units v.stores))
      (each_gathered locomotive_contributions locomotive_units v.locomotives)

  -- a total over all contributions is one over the groups, one over the store records and one over the locomotives
  pub total_contributions : (f : Contribution → ℕ) →
      total f (contributions v)
      ≡ total (λ (g : VehicleGroup). total f (group_contributions v.temperatures g)) v.groups + total (λ (r : StoreRecord). total f (store_contributions r)) v.stores
      + total (λ (l : Locomotive). total f (locomotive_contributions l)) v.locomotives
  unfolding contributions
  total_contributions f =
      omega (
        arith,
        total_append f (from_groups ++ from_stores) from_locomotives,
        total_append f from_groups from_stores,
        total_gathered f (group_contributions v.temperatures) v.groups,
        total_gathered f store_contributions v.stores,
        total_gathered f locomotive_contributions v.locomotives,
      )

module _ (f : Contribution → Frac) (k : ℕ) (pos : 0 < k) (exact : (x : Contribution) → Units x → f x ≈ (parts_of k (f x) over k)) (c : ℕ) where
  sum_parts : (xs : List Contribution) → Each Units xs → exact_sum f c xs ≈ (total (parts_to f k c) xs over k)
  unfolding exact_sum parts_to if_then_else
  sum_parts [] h = record { left = lit< tt; right = pos; cross = omega arith }
  sum_parts (x ∷ xs) h = go (eqb x.code c) (sum_parts xs h.1)
    where
      go : (b : Bool) → exact_sum f c xs ≈ (total (parts_to f k c) xs over k)
          → if_then_else b (f x ⊞ exact_sum f c xs) (exact_sum f c xs) ≈ ((if_then_else b (parts_of k (f x)) 0 + total (parts_to f k c) xs) over k)
      go true e = ≈_⊞ (exact x h.0) e
      go false e = ≈_over (0 + total (parts_to f k c) xs) k pos (omega arith) e

  -- the exact sum of what an inventory gives
  pub exact_units : (v : Inventory) → exact_sum f c (contributions v) ≈ (total (parts_to f k c) (contributions v) over k)
  exact_units v = sum_parts (contributions v) (all_units v)

  -- and in printed units, of which one tonne or gram per second has u
  pub exact_parts : (u : ℕ) (v : Inventory) → exact_sum f c (contributions v) ⊙ whole u ≈ ((total (parts_to f k c) (contributions v) * u) over (k * 1))
  exact_parts u v = ≈_⊙ (exact_units v) (≈_refl u 1 (lit< tt))
