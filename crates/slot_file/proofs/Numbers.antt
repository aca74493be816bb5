-- A refusal of a file has a number from 1 to the last that is not the listing's, and 12 by the last questions alone: the numbers stand in the questions, so the
-- tests of them are computed. Assumes nothing.
use Rattle.std.proofs.Common.{ℕ, zero, suc, ◌+◌, ◌≡◌, refl, Bool, true, ◌&&◌, not, List, [], ◌∷◌, leb, eqb, leb-true, ap, Err}
use borrow.Author.Tests.{eqb-false, not-true}
use Rattle.sums.specs.Choice.{all_of}
use Rattle.sums.specs.Answer.{number_of}
use Rattle.sums.specs.declared.answer.Reason.{Reason}
use Rattle.sums.specs.declared.answer.Reason.TheVariants.{Unreached}
use Rattle.sums.specs.declared.answer.Refusal.{Refusal}
use Rattle.sums.proofs.Choices.{nth, left, right}
use Rattle.slot_file.specs.Sources.{Chains}
use Rattle.slot_file.specs.Questions.{last_number, listing_number, Question, head_asks, groups_so_far, stores_so_far, locomotives_so_far, link_asks, coefficient_asks, rows_asks, closing_asks, group_asks, store_asks, locomotive_asks, reach_asks, last_asks, refused}
use Rattle.slot_file.specs.Walk.{outcome}
use Rattle.slot_file.specs.Meaning.{FirstNo, here, later, Groups, Stores, Locomotives, Refuses, at_head, at_group, at_store, at_locomotive, at_last}
use Rattle.slot_file.specs.Alike.{all}
use Rattle.slot_file.specs.Demands.{LowestUnreached, OfFile}
use Rattle.slot_file.specs.Figures.{answered, answer}
use Rattle.slot_file.proofs.Outcomes.{exactly_when}
use Rattle.slot_file.proofs.Unreached.{lowest_unreached}

-- a number that a file is refused by
abbrev file_tests : ℕ → List Bool
file_tests n = leb 1 n ∷ leb n last_number ∷ not (eqb n listing_number) ∷ []

abbrev of_file : Reason → Bool
of_file n = all_of (file_tests (number_of n))

other : (n m : ℕ) → not (eqb n m) ≡ true → n ≡ m → ⊥
other n m h = eqb-false n m (not-true (eqb n m) h)

of_file_lem : (n : Reason) → of_file n ≡ true → OfFile (number_of n)
of_file_lem r h =
    let n = number_of r in
    let t = nth (file_tests n) h in
    (leb-true 1 n (t 0), leb-true n last_number (t 1), other n listing_number (t 2))

-- and one that is asked before the last questions
abbrev is_late : Reason → Bool
is_late n = eqb (number_of n) (number_of Unreached)

abbrev on_the_way : Reason → Bool
on_the_way n = of_file n && not (is_late n)

-- p holds of each question's reason
abbrev numbered : (Reason → Bool) → List Question → Bool
numbered p qs = all (λ (q : Question). p q.refusal.reason) qs

first_numbered : (p : Reason → Bool) (qs : List Question) (r : Refusal) → numbered p qs ≡ true → FirstNo qs r → p r.reason ≡ true
first_numbered p qs r h (here q rest e) = left (p q.refusal.reason) (numbered p rest) h
first_numbered p qs r h (later q rest e f) = first_numbered p rest r (right (p q.refusal.reason) (numbered p rest) h) f

reach_numbered : (p : Reason → Bool) → p Unreached ≡ true → (n i : ℕ) (l : List ℕ) → numbered p (reach_asks n i l) ≡ true
unfolding reach_asks
reach_numbered p h zero i l = refl
reach_numbered p h (suc n) i l = rw h (reach_numbered p h n (i + 1) l)

last_numbered : (s : List ℕ) (c : Chains) → numbered of_file (last_asks s c) ≡ true
unfolding last_asks
last_numbered s c = reach_numbered of_file refl _ _ _

-- a refusal along the way, and one by the last questions
cases : (P : Refusal → Type 0) (s : List ℕ) (r : Refusal) → (on_the_way r.reason ≡ true → P r)
    → ((c : Chains) → Groups s c 0 → Stores s c 0 → Locomotives s c 0 → FirstNo (last_asks s c) r → P r) → Refuses s r → P r
unfolding head_asks group_asks store_asks locomotive_asks link_asks rows_asks coefficient_asks closing_asks
cases P s r way end (at_head f) = way (first_numbered on_the_way (head_asks s) r refl f)
cases P s r way end (at_group c j h v z f) = way (first_numbered on_the_way (group_asks s (groups_so_far c.groups) j) r refl f)
cases P s r way end (at_store c j h v w z f) = way (first_numbered on_the_way (store_asks s (stores_so_far c c.stores) j) r refl f)
cases P s r way end (at_locomotive c j h v w u z f) = way (first_numbered on_the_way (locomotive_asks s (locomotives_so_far c c.locomotives) j) r refl f)
cases P s r way end (at_last c h v w u f) = end c v w u f

pub refused_number : (s : List ℕ) (r : Refusal) → Refuses s r → OfFile (number_of r.reason)
refused_number s r =
    cases (λ r. OfFile (number_of r.reason)) s r (λ h. of_file_lem r.reason (left (of_file r.reason) (not (is_late r.reason)) h))
    (λ c v w u f. of_file_lem r.reason (first_numbered of_file _ r (last_numbered s c) f))

-- only the last questions have the number 12
pub refused_last : (s : List ℕ) (r : Refusal) → r.reason ≡ Unreached → Refuses s r → (c : Chains) × Groups s c 0 × Stores s c 0 × Locomotives s c 0 × LowestUnreached s c r.slot
refused_last s r e =
    cases (λ r. (c : Chains) × Groups s c 0 × Stores s c 0 × Locomotives s c 0 × LowestUnreached s c r.slot) s r
    (λ h. absurd (other (number_of r.reason) (number_of Unreached) (right (of_file r.reason) (not (is_late r.reason)) h) (ap number_of e))) (λ c v w u f. (c, v, w, u, lowest_unreached s c r f))

-- the answer of a refused file is its refusal
pub refused_answer : (s : List ℕ) (r : Refusal) → outcome s ≡ refused r → (answer s ≡ Err r) × OfFile (number_of r.reason)
unfolding answer answered
refused_answer s r e = (rw e, refused_number s r ((exactly_when s (refused r)).0 e))
