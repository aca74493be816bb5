-- The outcome of a list of questions: by the first that is answered no, and by what follows where none is; and what is answered along an append of lists. Assumes
-- nothing.
use Rattle.std.proofs.Common.{ℕ, zero, suc, ◌≡◌, refl, Bool, true, false, List, [], ◌∷◌, ◌++◌}
use Rattle.sums.specs.Choice.{if_then_else}
use Rattle.sums.specs.declared.answer.Refusal.{Refusal}
use Rattle.slot_file.specs.Questions.{Question, Outcome, refused}
use Rattle.slot_file.specs.Walk.{first}
use Rattle.slot_file.specs.Meaning.{asked_at, AllYes, FirstNo, here, later}

pub first_yes : (qs : List Question) (v : Outcome) → AllYes qs → first qs v ≡ v
unfolding first if_then_else
first_yes [] v h = refl
first_yes (q ∷ qs) v h = simp h.0 (first_yes qs v h.1)

pub first_no : (qs : List Question) (v : Outcome) (r : Refusal) → FirstNo qs r → first qs v ≡ refused r
unfolding first if_then_else
first_no qs v r (here q rest e) = simp e
first_no qs v r (later q rest e h) = simp e (first_no rest v r h)

-- what holds where all are answered yes, and where the first no is known, holds of the outcome
pub first_both : (P : Outcome → Type 0) (qs : List Question) (v : Outcome) → ((r : Refusal) → FirstNo qs r → P (refused r)) → (AllYes qs → P v) → P (first qs v)
unfolding first if_then_else
first_both P [] v h k = k tt
first_both P (q ∷ qs) v h k = go q.yes refl (first_both P qs v)
  where
    go : (t : Bool) → q.yes ≡ t → (((r : Refusal) → FirstNo qs r → P (refused r)) → (AllYes qs → P v) → P (first qs v)) → P (if_then_else t (first qs v) (refused q.refusal))
    go true e ih = ih (λ r f. h r (later q qs e f)) (λ a. k (e, a))
    go false e ih = h q.refusal (here q qs e)

-- a first no is the head, or in the tail
pub split : {P : Type 0} (q : Question) (qs : List Question) (r : Refusal) → FirstNo (q ∷ qs) r → (q.yes ≡ false → r ≡ q.refusal → P) → (q.yes ≡ true → FirstNo qs r → P) → P
split q qs r (here _ _ e) f g = f e refl
split q qs r (later _ _ e h) f g = g e h

pub none : {P : Type 0} (r : Refusal) → FirstNo [] r → P
none r = elim [ ]

pub yes_at : (qs : List Question) → AllYes qs → (n : ℕ) → (asked_at qs n).yes ≡ true
yes_at [] a n = refl
yes_at (q ∷ qs) a zero = a.0
yes_at (q ∷ qs) a (suc n) = yes_at qs a.1 n

-- along an append of lists
pub all_append : (xs ys : List Question) → AllYes xs → AllYes ys → AllYes (xs ++ ys)
all_append [] ys a b = b
all_append (x ∷ xs) ys a b = (a.0, all_append xs ys a.1 b)

pub all_left : (xs ys : List Question) → AllYes (xs ++ ys) → AllYes xs
all_left [] ys a = tt
all_left (x ∷ xs) ys a = (a.0, all_left xs ys a.1)

pub all_right : (xs ys : List Question) → AllYes (xs ++ ys) → AllYes ys
all_right [] ys a = a
all_right (x ∷ xs) ys a = all_right xs ys a.1

pub no_before : {r : Refusal} (xs ys : List Question) → FirstNo xs r → FirstNo (xs ++ ys) r
no_before xs ys (here q qs e) = here q (qs ++ ys) e
no_before xs ys (later q qs e f) = later q (qs ++ ys) e (no_before qs ys f)

pub no_after : {r : Refusal} (xs ys : List Question) → AllYes xs → FirstNo ys r → FirstNo (xs ++ ys) r
no_after [] ys a f = f
no_after (x ∷ xs) ys a f = later x (xs ++ ys) a.0 (no_after xs ys a.1 f)
