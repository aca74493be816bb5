-- The numbers of a refusal, which are its number and its slot where zeros stood; and how many they are. A check's number is 0 just for an accepted file, since no
-- file is refused by the number 0 (`Demands.accepted_exactly`). Assumes nothing.
use Rattle.std.proofs.Common.{ℕ, zero, suc, ◌-◌, ◌≤◌, ◌≡◌, ◌↔◌, refl, ap, arith, List, ◌++◌, length, replicate, slice_set, Result, Ok, Err}
use Rattle.std.proofs.lemmas.List.{length-replicate}
use Rattle.sums.specs.declared.answer.Refusal.{Refusal}
use Rattle.sums.specs.Answer.{number_of}
use Rattle.slot_file.specs.Sources.{Chains}
use Rattle.slot_file.specs.Walk.{outcome, told}
use Rattle.slot_file.specs.Meaning.{Accepts}
use Rattle.slot_file.proofs.Demands.{accepted_exactly}
use Rattle.answer_numbers.specs.Numbers.{packed, refusal_numbers}

pub refusal_length : (size : ℕ) (r : Refusal) → 2 ≤ size → length (refusal_numbers size r) ≡ size
refusal_length size r h = omega (arith, length-replicate {A = ℕ} (size - 2) 0)

pub over_zeros : (size : ℕ) (r : Refusal) (rest : List ℕ) → 2 ≤ size → slice_set (slice_set (replicate size 0 ++ rest) 0 (number_of r.reason)) 1 r.slot ≡ refusal_numbers size r ++ rest
over_zeros zero r rest h = absurd (omega arith)
over_zeros (suc zero) r rest h = absurd (omega arith)
over_zeros (suc (suc n)) r rest h = let e : suc (suc n) - 2 ≡ n = omega arith in rw e

-- 0 JUST FOR AN ACCEPTED FILE
pub zero_exactly : (s : List ℕ) → (packed (told (outcome s)) ≡ 0) ↔ ((c : Chains) × Accepts s c)
zero_exactly s =
    let checked = accepted_exactly s in (
      λ z. checked.accepted_when.0 (go (told (outcome s)) refl z),
      λ a. ap packed (checked.accepted_when.1 a),
    )
  where
    go : (v : Result Unit Refusal) → told (outcome s) ≡ v → packed v ≡ 0 → told (outcome s) ≡ Ok tt
    go (Ok tt) e z = e
    go (Err r) e z = absurd (omega (arith, ((accepted_exactly s).numbered r e).0))
