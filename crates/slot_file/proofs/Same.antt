-- The tests of being alike decide equality: numbers that are equal one by one make equal records, and a test on elements that decides equality gives one on
-- lists. Assumes nothing.
use Rattle.std.proofs.Common.{ℕ, ◌≡◌, refl, sym, ap₂, List, [], ◌∷◌, Bool, true, false, eqb, get_or, drop, eqb-true, eq-eqb}
use borrow.Author.Tests.{not-true}
use Rattle.sums.proofs.Choices.{left, right, nth}
use Rattle.vehicle_fields.specs.declared.units.PerMinute.{PerMinute}
use Rattle.vehicle_fields.specs.declared.units.PerKilometre.{PerKilometre}
use Rattle.vehicle_fields.specs.declared.group.Group.{Group}
use Rattle.vehicle_fields.specs.declared.group.Coefficients.{Coefficients}
use Rattle.store_records.specs.declared.records.Bulk.{Bulk}
use Rattle.locomotive_fields.specs.declared.fields.Locomotive.{Locomotive}
use Rattle.slots.specs.Layout.{store_fields}
use Rattle.slots.specs.declared.store.StoreRecord.{StoreRecord}
use Rattle.slots.specs.declared.store.StoreRecord.TheVariants.{Handling, Standing, Aspiration}
use Rattle.slot_file.specs.Sources.{VehicleGroup}
use Rattle.slot_file.specs.Alike.{same_bool, same_list, same_minute, same_kilometre, same_coefficient_tests, same_coefficients, group_fields, same_group_tests, same_group, same_store, locomotive_fields, same_locomotive}

bool_sound : (a b : Bool) → same_bool a b ≡ true → a ≡ b
bool_sound true b e = sym e
bool_sound false b e = sym (not-true b e)

bool_same : (a : Bool) → same_bool a a ≡ true
bool_same true = refl
bool_same false = refl

number_same : (n : ℕ) → eqb n n ≡ true
number_same n = eq-eqb n n refl

module _ {A : Type 0} (same : A → A → Bool) where
  list_sound : ((x y : A) → same x y ≡ true → x ≡ y) → (l m : List A) → same_list same l m ≡ true → l ≡ m
  unfolding same_list
  list_sound s [] [] e = refl
  list_sound s [] (y ∷ ys) e = cc
  list_sound s (x ∷ xs) [] e = cc
  list_sound s (x ∷ xs) (y ∷ ys) e =
      ap₂ {C = List A} (λ (a : A) (b : List A). a ∷ b) (s x y (left (same x y) (same_list same xs ys) e)) (list_sound s xs ys (right (same x y) (same_list same xs ys) e))

  list_same : ((x : A) → same x x ≡ true) → (l : List A) → same_list same l l ≡ true
  unfolding same_list
  list_same r [] = refl
  list_same r (x ∷ xs) = rw (r x) (list_same r xs)

minute_sound : (x y : PerMinute) → same_minute x y ≡ true → x ≡ y
minute_sound x y e = let p = eqb-true x.0 y.0 e in λ i. record { 0 = p i }

kilometre_sound : (x y : PerKilometre) → same_kilometre x y ≡ true → x ≡ y
kilometre_sound x y e = let p = eqb-true x.0 y.0 e in λ i. record { 0 = p i }

coefficients_sound : (x y : Coefficients) → same_coefficients x y ≡ true → x ≡ y
unfolding same_coefficients
coefficients_sound x y e =
    let t = nth (same_coefficient_tests x y) e in
    let w = list_sound same_minute minute_sound x.warmup y.warmup (t 0) in
    let r = list_sound same_kilometre kilometre_sound x.run y.run (t 1) in
    let d = minute_sound x.idle y.idle (t 2) in
    λ i. record { warmup = w i; run = r i; idle = d i }

coefficients_same : (x : Coefficients) → same_coefficients x x ≡ true
unfolding same_coefficients
coefficients_same x =
    simp (list_same same_minute (λ (k : PerMinute). number_same k.0), list_same same_kilometre (λ (k : PerKilometre). number_same k.0), number_same)

-- a group from its numbers, its two flags and its days
group_from : List ℕ → Bool → Bool → List ℕ → Group
group_from l controlled heated days = record {
  category = get_or l 0 0;
  fuel = get_or l 1 0;
  controlled = controlled;
  heated = heated;
  vehicles = get_or l 2 0;
  leaving = get_or l 3 0;
  share = get_or l 4 0;
  neutraliser = record { running = get_or l 5 0; warming = get_or l 6 0 };
  idle = record { 0 = get_or l 7 0 };
  outward = record { nearest = record { 0 = get_or l 8 0 }; farthest = record { 0 = get_or l 9 0 } };
  inward = record { nearest = record { 0 = get_or l 10 0 }; farthest = record { 0 = get_or l 11 0 } };
  days = days;
  timed = record { 0 = get_or l 12 0 };
}

pub group_sound : (x y : VehicleGroup) → same_group x y ≡ true → x ≡ y
unfolding same_group group_from
group_sound x y e =
    let t = nth (same_group_tests x y) e in
    let n = list_sound eqb eqb-true (group_fields x.group) (group_fields y.group) (t 0) in
    let c = bool_sound x.group.controlled y.group.controlled (t 1) in
    let h = bool_sound x.group.heated y.group.heated (t 2) in
    let d = list_sound eqb eqb-true x.group.days y.group.days (t 3) in
    let k = list_sound same_coefficients coefficients_sound x.coefficients y.coefficients (t 4) in
    λ i. record { group = group_from (n i) (c i) (h i) (d i); coefficients = k i }

pub group_same : (x : VehicleGroup) → same_group x x ≡ true
unfolding same_group
group_same x =
    simp (
      list_same eqb number_same (group_fields x.group),
      bool_same,
      list_same eqb number_same x.group.days,
      list_same same_coefficients coefficients_same,
    )

-- a store record from its numbers
bulk_from : List ℕ → Bulk
bulk_from l = record {
  dust = get_or l 2 0;
  store = get_or l 3 0;
  material = get_or l 4 0;
  wind = get_or l 5 0;
  moisture = get_or l 6 0;
  grain = get_or l 7 0;
  openness = get_or l 8 0;
  amount = get_or l 9 0;
}

pub store_sound : (x y : StoreRecord) → same_store x y ≡ true → x ≡ y
unfolding same_store same_list bulk_from
store_sound (Handling h) (Handling g) e =
    let p = list_sound eqb eqb-true (store_fields (Handling h)) (store_fields (Handling g)) e in
    λ i. Handling (record { bulk = bulk_from (p i); drop = get_or (p i) 1 0 })
store_sound (Handling h) (Standing g) e = cc
store_sound (Handling h) (Aspiration g) e = cc
store_sound (Standing h) (Handling g) e = cc
store_sound (Standing h) (Standing g) e =
    let p = list_sound eqb eqb-true (store_fields (Standing h)) (store_fields (Standing g)) e in
    λ i. Standing (record { bulk = bulk_from (p i); k6 = get_or (p i) 1 0 })
store_sound (Standing h) (Aspiration g) e = cc
store_sound (Aspiration h) (Handling g) e = cc
store_sound (Aspiration h) (Standing g) e = cc
store_sound (Aspiration h) (Aspiration g) e =
    let p = list_sound eqb eqb-true (store_fields (Aspiration h)) (store_fields (Aspiration g)) e in
    λ i. Aspiration (record {
      dust = get_or (p i) 1 0;
      store = get_or (p i) 2 0;
      concentration = get_or (p i) 3 0;
      flow = get_or (p i) 4 0;
      capture = get_or (p i) 5 0;
      hours = get_or (p i) 6 0;
    })

pub store_same : (x : StoreRecord) → same_store x x ≡ true
unfolding same_store
store_same x = list_same eqb number_same (store_fields x)

-- a locomotive from its numbers, the shares last
pub locomotive_sound : (x y : Locomotive) → same_locomotive x y ≡ true → x ≡ y
unfolding same_locomotive
locomotive_sound x y e =
    let p = list_sound eqb eqb-true (locomotive_fields x) (locomotive_fields y) e in
    λ i. record { model = get_or (p i) 0 0; shares = drop 4 (p i); hours = get_or (p i) 1 0; old = get_or (p i) 2 0; zone = get_or (p i) 3 0 }

pub locomotive_same : (x : Locomotive) → same_locomotive x x ≡ true
unfolding same_locomotive
locomotive_same x = list_same eqb number_same (locomotive_fields x)
