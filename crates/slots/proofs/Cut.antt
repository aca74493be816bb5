-- A slot that the file has is the part of it from n slots on, one of the file cut into slots. Assumes nothing.
use Rattle.std.proofs.Common.{◌≡◌, refl, sym, ap, ◌∙◌, ℕ, zero, suc, ◌+◌, ◌*◌, ◌/◌, ◌<◌, ◌≤◌, List, get_or, length, take, drop, replicate, Option, Some, None, arith, lt-ltb, le-ltb, get_or-take, get_or-drop, length-take, length-drop, drop-drop, MatchOption}
use Rattle.std.specs.Simd.{first_chunks}
use Rattle.std.specs.Slice.{IsItemAt}
use Rattle.std.specs.Borrow.{Bor}
use Rattle.sums.proofs.Choices.{yes, no, list_to_is}
use Rattle.slots.specs.Bytes.{slot_size, bytes_from, slot_of}

chunk_at : (n k i : ℕ) (s : List ℕ) (d : List ℕ) → i < k → get_or (first_chunks n k s) i d ≡ take n (drop (n * i) s)
chunk_at n zero i s d h = absurd (omega arith)
chunk_at n (suc k) zero s d h = let e : 0 ≡ n * 0 = omega arith in ap (λ (j : ℕ). take n (drop j s)) e
chunk_at n (suc k) (suc i) s d h = chunk_at n k i (drop n s) d (omega arith) ∙ ap (take n) (drop-drop (n * i) n s ∙ ap (λ (j : ℕ). drop j s) (omega arith))

part_is : (s : List ℕ) (base : ℕ) → base + slot_size ≤ length s → take slot_size (drop base s) ≡ bytes_from s base
unfolding bytes_from
part_is s base h =
    list_to_is 0 slot_size (take slot_size (drop base s)) (λ (i : ℕ). get_or s (base + i) 0) (simp (length-take, length-drop) (omega arith))
    (λ i p. rw (get_or-take, get_or-drop))

pub found : (s : List ℕ) (n : ℕ) (xs : List (List ℕ)) (r : Option (Bor (List ℕ))) → xs ≡ first_chunks slot_size (length s / slot_size) s → length xs ≡ length s / slot_size → IsItemAt xs n r
    → MatchOption r (slot_of s n ≡ replicate slot_size 0) (λ t. t.now ≡ slot_of s n)
unfolding slot_of
found s n xs None e l p = sym (no _ _ _ _ (le-ltb _ _ (omega arith)) refl)
found s n xs (Some t) e l p =
    let h : n < length s / slot_size = omega (arith, p.3.0) in
    yes _ _ _ _ (lt-ltb _ _ h) (p.1 ∙ ap (λ (c : List (List ℕ)). get_or c n t.now) e ∙ chunk_at slot_size (length s / slot_size) n s t.now h ∙ part_is s (slot_size * n) (omega arith))
