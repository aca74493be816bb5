-- What the range tests of a group, of coefficients and of factors say: the bound of each field, read off its test. Assumes nothing.
use Rattle.std.proofs.Common.{ℕ, zero, suc, ◌<◌, ◌≤◌, le_trans, arith, ◌≡◌, refl, true, ◌&&◌, List, leb-true, leb, eqb, ℤ, get_or}
use Rattle.std.proofs.Math.Bool.{and_comm, and_assoc}
use Rattle.sums.proofs.Choices.{both, left, right, nth, each, all_to_at}
use Rattle.vehicle_fields.specs.Fields.{pollutant_count, distances_in_range, days_in_range, month_lengths, temperatures_in_range, group_in_range, group_tests, coefficients_in_range, seven, no_minute, no_kilometre, all_in_range, no_coefficients, source_in_range, in_range}
use Rattle.vehicle_fields.specs.declared.group.Distances.{Distances}
use Rattle.vehicle_fields.specs.declared.group.Group.{Group}
use Rattle.vehicle_fields.specs.declared.group.Coefficients.{Coefficients}
use Rattle.vehicle_factors.specs.Factors.{factors_in_range}
use Rattle.vehicle_factors.specs.declared.Factors.{Factors}
use Rattle.vehicle_factors.proofs.Ranges.{ranged_factors}
use Rattle.vehicles.specs.Rules.{percent_of}
use Rattle.vehicles.specs.Parts.{DistancesInRange, GroupInRange, RangedGroup, CoefficientsInRange}

distances : (d : Distances) → distances_in_range d ≡ true → DistancesInRange d
unfolding distances_in_range
distances d h = record { nearest = leb-true _ _ (left _ _ h); farthest = leb-true _ _ (right _ _ h) }

pub days : (l : List ℕ) → days_in_range l ≡ true → (m : ℕ) → m < 12 → get_or l m 0 ≤ 31
unfolding days_in_range
days l h m p =
    le_trans
    (leb-true _ _ (all_to_at 12 (λ (m : ℕ). leb (get_or l m 0) (get_or month_lengths m 0)) h m p))
    (each 31 month_lengths refl m)

pub ranged : (g : Group) → group_in_range g ≡ true → RangedGroup g
unfolding group_in_range
ranged g h =
    let t = nth (group_tests g) h in
    record {
      bounds = record {
        vehicles = leb-true _ _ (t 5);
        leaving = le_trans (leb-true _ _ (t 6)) (leb-true _ _ (t 5));
        share = leb-true _ _ (t 7);
        neutraliser = record { running = leb-true _ _ (t 8); warming = leb-true _ _ (t 9) };
        idle = leb-true _ _ (t 10);
        outward = distances g.outward (t 11);
        inward = distances g.inward (t 12);
        days = days g.days (t 13);
        timed = leb-true _ _ (t 14);
      };
      days = t 13;
    }

pub three : (P : ℕ → Type 0) → P 0 → P 1 → P 2 → (p : ℕ) → p < 3 → P p
three P a b c zero h = a
three P a b c (suc zero) h = b
three P a b c (suc (suc zero)) h = c
three P a b c (suc (suc (suc p))) h = absurd (omega arith)

pub coefficients : (k : Coefficients) → coefficients_in_range k ≡ true → CoefficientsInRange k
unfolding coefficients_in_range
coefficients k h =
    let e = each 1000000 (seven k) h in record {
      warmup = three (λ (p : ℕ). (get_or k.warmup p no_minute).0 ≤ 1000000) (e 0) (e 1) (e 2);
      run = three (λ (p : ℕ). (get_or k.run p no_kilometre).0 ≤ 1000000) (e 3) (e 4) (e 5);
      idle = e 6;
    }

-- each pollutant's
pub of_six : (ks : List Coefficients) → all_in_range ks ≡ true → (p : ℕ) → p < pollutant_count → coefficients_in_range (get_or ks p no_coefficients) ≡ true
unfolding all_in_range
of_six ks h p q = all_to_at pollutant_count (λ (p : ℕ). coefficients_in_range (get_or ks p no_coefficients)) h p q

-- a group and coefficients that are in range
pub source_in_range_lem : (g : Group) (ks : List Coefficients) → source_in_range g ks ≡ true → (group_in_range g ≡ true) × (all_in_range ks ≡ true)
unfolding source_in_range
source_in_range_lem g ks h = (left (group_in_range g) (all_in_range ks) h, right (group_in_range g) (all_in_range ks) h)

-- what is in range: the temperatures, and the group with its coefficients
pub in_range_is : (g : Group) (ts : List ℤ) (ks : List Coefficients) → in_range g ts ks ≡ (temperatures_in_range ts && source_in_range g ks)
unfolding in_range source_in_range
in_range_is g ts ks = rw (and_comm (group_in_range g) (temperatures_in_range ts)) (and_assoc (temperatures_in_range ts) (group_in_range g) (all_in_range ks))

-- a control factor is at most 100 percent
pub control_most : (f : Factors) → factors_in_range f ≡ true → (g : Group) (p : ℕ) → percent_of f g p ≤ 100
unfolding percent_of
control_most f h g p =
    let r = ranged_factors f h in
    let Percent : ℕ → Type 0 = λ (n : ℕ). n ≤ 100 in
    both Percent g.controlled (both Percent (eqb g.fuel 1) (r.petrol p) (r.diesel p)) (omega arith)
