-- A fold over the bytes from a place on tests them one more at a time. Assumes nothing.
use Rattle.std.proofs.Common.{◌≡◌, refl, ◌∙◌, ℕ, zero, suc, ◌+◌, ◌<◌, ◌≤◌, List, length, take, drop, Bool, true, ◌&&◌, eqb, arith, add-one, get_or-drop, length-drop}
use Rattle.std.specs.List.{fold}
use Rattle.std.proofs.lemmas.List.Sums.{fold_more}
use Rattle.slots.specs.Bytes.{zero_from}

abbrev zero_so_far : Bool → ℕ → Bool
zero_so_far so_far b = so_far && eqb b 0

pub folded : (t : List ℕ) (from n : ℕ) → from + n ≤ length t → fold (λ (zero : Bool) (b : ℕ). zero && eqb b 0) true (take n (drop from t)) ≡ zero_from t from n
unfolding zero_from
folded t from zero h = refl
folded t from (suc n) h =
    let l : n < length (drop from t) = simp length-drop (omega arith) in
    rw (← add-one) (fold_more zero_so_far true (drop from t) n 0 l ∙ rw (folded t from n (omega arith), get_or-drop) refl)
