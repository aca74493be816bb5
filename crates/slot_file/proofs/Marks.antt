-- Different slots of a file from 1 up are fewer than the most that it has: each takes a mark of its own out of as many. Assumes nothing.
use Rattle.std.proofs.Common.{ℕ, zero, suc, ◌+◌, ◌≤◌, ◌<◌, ◌≡◌, refl, sym, ◌∙◌, List, [], ◌∷◌, Bool, true, false, length, get_or, set, replicate, length-set, get_or-set_same, get_or-set_other, eqb, arith, eqb-true}
use lib.ListN.{get_or-replicate}
use borrow.Author.Tests.{eqb-false}
use Rattle.sums.specs.Choice.{if_then_else}
use Rattle.slot_file.specs.Questions.{most_slots, member}
use Rattle.slot_file.specs.Parts.{marks_of}

pub marks_length : (b : List ℕ) → length (marks_of b) ≡ most_slots
marks_length [] = refl
marks_length (k ∷ b) = length-set (marks_of b) k true ∙ marks_length b

pub marks_member : (b : List ℕ) (k : ℕ) → 0 < k → k < most_slots → get_or (marks_of b) k false ≡ member k b
unfolding member if_then_else
marks_member [] k z h = get_or-set_other (replicate most_slots false) 0 k true false (omega arith) ∙ get_or-replicate most_slots k false false h
marks_member (x ∷ b) k z h = go (marks_member b k z h) (eqb k x) refl
  where
    go : get_or (marks_of b) k false ≡ member k b → (t : Bool) → eqb k x ≡ t → get_or (set (marks_of b) x true) k false ≡ if_then_else t true (member k b)
    go ih true e = rw (sym (eqb-true k x e)) (get_or-set_same (marks_of b) k true false (omega (arith, marks_length b)))
    go ih false e = get_or-set_other (marks_of b) x k true false (eqb-false k x e) ∙ ih

-- how many marks there are
abbrev marked : List Bool → ℕ
marked [] = 0
marked (true ∷ l) = suc (marked l)
marked (false ∷ l) = marked l

marked_le : (l : List Bool) → marked l ≤ length l
marked_le [] = omega arith
marked_le (true ∷ l) = omega (arith, marked_le l)
marked_le (false ∷ l) = omega (arith, marked_le l)

marked_set : (l : List Bool) (i : ℕ) → i < length l → get_or l i false ≡ false → marked (set l i true) ≡ marked l + 1
marked_set [] i h e = absurd (omega arith)
marked_set (b ∷ l) zero h e = rw e (omega arith)
marked_set (true ∷ l) (suc i) h e = omega (arith, marked_set l i (omega arith) e)
marked_set (false ∷ l) (suc i) h e = omega (arith, marked_set l i (omega arith) e)

-- different slots from 1 up, below n
abbrev pub Different : ℕ → List ℕ → Type 0
Different n [] = Unit {0}
Different n (k ∷ l) = (0 < k) × (k < n) × (member k l ≡ false) × Different n l

different_marked : (n : ℕ) (l : List ℕ) → n ≤ most_slots → Different n l → marked (marks_of l) ≡ length l + 1
different_marked n [] h f = refl
different_marked n (k ∷ l) h f =
    omega (
      arith,
      different_marked n l h f.3,
      marked_set (marks_of l) k (omega (arith, marks_length l)) (marks_member l k f.0 (omega arith) ∙ f.2),
    )

pub different_short : (n : ℕ) (l : List ℕ) → n ≤ most_slots → Different n l → length l < most_slots
different_short n l h f = omega (arith, different_marked n l h f, marked_le (marks_of l), marks_length l)
