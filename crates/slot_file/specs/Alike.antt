-- 01, "Figures": when two sources are alike, and when two files are alike in their groups, in their store records or, by 02, U1, in their locomotives. Sources have no next
-- index and no first coefficient slot (`Sources`), so two that are alike are equal: each test below goes by every field.
use Rattle.std.specs.Prelude.{ℕ, ◌+◌, ◌≡◌, Bool, true, false, ◌&&◌, not, List, [], ◌∷◌, ◌++◌, eqb}
use Rattle.sums.specs.Choice.{all_of}
use Rattle.vehicle_fields.specs.declared.units.PerMinute.{PerMinute}
use Rattle.vehicle_fields.specs.declared.units.PerKilometre.{PerKilometre}
use Rattle.vehicle_fields.specs.declared.group.Group.{Group}
use Rattle.vehicle_fields.specs.declared.group.Coefficients.{Coefficients}
use Rattle.locomotive_fields.specs.declared.fields.Locomotive.{Locomotive}
use Rattle.slots.specs.Layout.{store_fields}
use Rattle.slots.specs.declared.store.StoreRecord.{StoreRecord}
use Rattle.slot_file.specs.Sources.{VehicleGroup, Inventory}

abbrev pub same_bool : Bool → Bool → Bool
same_bool true b = b
same_bool false b = not b

-- as long, and the same at each place
unfoldable pub same_list : {A : Type 0} → (A → A → Bool) → List A → List A → Bool
same_list same [] [] = true
same_list same [] (y ∷ ys) = false
same_list same (x ∷ xs) [] = false
same_list same (x ∷ xs) (y ∷ ys) = same x y && same_list same xs ys

-- a group's fields that are one number each
abbrev pub group_fields : Group → List ℕ
group_fields g =
    g.category ∷ g.fuel ∷ g.vehicles ∷ g.leaving ∷ g.share ∷ g.neutraliser.running ∷ g.neutraliser.warming ∷ g.idle.0
    ∷ g.outward.nearest.0 ∷ g.outward.farthest.0 ∷ g.inward.nearest.0 ∷ g.inward.farthest.0 ∷ g.timed.0 ∷ []

abbrev pub same_minute : PerMinute → PerMinute → Bool
same_minute x y = eqb x.0 y.0

abbrev pub same_kilometre : PerKilometre → PerKilometre → Bool
same_kilometre x y = eqb x.0 y.0

-- "the same seven coefficients": three of warm-up, three of run, and idle
abbrev pub same_coefficient_tests : Coefficients → Coefficients → List Bool
same_coefficient_tests x y = same_list same_minute x.warmup y.warmup ∷ same_list same_kilometre x.run y.run ∷ same_minute x.idle y.idle ∷ []

unfoldable pub same_coefficients : Coefficients → Coefficients → Bool
same_coefficients x y = all_of (same_coefficient_tests x y)

-- "Two sources are alike when they are of the same kind and equal in every field but the next index and the first coefficient slot; two groups must also have
-- the same seven coefficients for each of the six pollutants"
abbrev pub same_group_tests : VehicleGroup → VehicleGroup → List Bool
same_group_tests x y =
    same_list eqb (group_fields x.group) (group_fields y.group) ∷ same_bool x.group.controlled y.group.controlled
    ∷ same_bool x.group.heated y.group.heated ∷ same_list eqb x.group.days y.group.days
    ∷ same_list same_coefficients x.coefficients y.coefficients ∷ []

unfoldable pub same_group : VehicleGroup → VehicleGroup → Bool
same_group x y = all_of (same_group_tests x y)

-- of a store record, its kind and every field
unfoldable pub same_store : StoreRecord → StoreRecord → Bool
same_store x y = same_list eqb (store_fields x) (store_fields y)

-- of a locomotive, every field
abbrev pub locomotive_fields : Locomotive → List ℕ
locomotive_fields l = l.model ∷ l.hours ∷ l.old ∷ l.zone ∷ l.shares

unfoldable pub same_locomotive : Locomotive → Locomotive → Bool
same_locomotive x y = same_list eqb (locomotive_fields x) (locomotive_fields y)

abbrev pub bit : Bool → ℕ
bit true = 1
bit false = 0

-- f of each element, added up
abbrev pub total : {A : Type 0} → (A → ℕ) → List A → ℕ
total f [] = 0
total f (x ∷ xs) = f x + total f xs

-- how many of a list are alike to z
abbrev pub count : {A : Type 0} → (A → A → Bool) → A → List A → ℕ
count same z l = total (λ y. bit (same z y)) l

abbrev pub all : {A : Type 0} → (A → Bool) → List A → Bool
all p [] = true
all p (x ∷ xs) = p x && all p xs

-- "Two files are alike in their groups, or in their store records, when each one found in either file has as many alike to it in the one file as in the other,
-- in any order"
abbrev pub alike : {A : Type 0} → (A → A → Bool) → List A → List A → Bool
alike same l m = all (λ z. eqb (count same z l) (count same z m)) (l ++ m)

-- the letter's third demand: "alike in the twelve temperatures, month by month, in their vehicle groups, each with its own coefficients for the six pollutants, and in
-- their store records, repeats included"; and "accuracy and agreement cover the new chain"
pub record AlikeFiles (v w : Inventory) : Type 0 where
  pub temperatures : v.temperatures ≡ w.temperatures
  pub groups : alike same_group v.groups w.groups ≡ true
  pub stores : alike same_store v.stores w.stores ≡ true
  pub locomotives : alike same_locomotive v.locomotives w.locomotives ≡ true
