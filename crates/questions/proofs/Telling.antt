-- What a list of questions is told, and what the questions of a link and of the slot that it leads to are by the slot's mark and its read. Assumes nothing.
use Rattle.std.proofs.Common.{ℕ, ◌<◌, ◌≤◌, arith, ◌≡◌, refl, sym, ap, ◌∙◌, Bool, true, false, ◌&&◌, not, List, [], ◌∷◌, ltb, get_or, ltb-true, Result, Ok, Err}
use Rattle.std.specs.Prelude.{IsErr, IsErrAnd}
use Rattle.std.proofs.lemmas.Result.{IfOk-at_ok, err_from_is_err_and}
use Rattle.sums.specs.Choice.{if_then_else}
use Rattle.sums.specs.declared.answer.Reason.{Reason}
use Rattle.sums.specs.declared.answer.Reason.TheVariants.{LinkPastEnd, Repeated}
use Rattle.sums.specs.declared.answer.Refusal.{Refusal}
use Rattle.slots.specs.Layout.{slot_read}
use Rattle.slot_file.specs.Questions.{most_slots, Question, question, slot_count, member, slot_asks, link_asks}
use Rattle.slot_file.specs.Meaning.{AllYes, FirstNo, here, later}
use Rattle.slot_file.proofs.Asking.{split, none, all_append, no_before, no_after}
use Rattle.slot_file.proofs.Marks.{marks_member}
use Rattle.slot_file.specs.Parts.{marks_of}
use Rattle.questions.specs.Told.{told_by, Told, at_slot, link_asked}

-- one question more in front
told_more : (q : Question) (qs : List Question) (r : Result Unit Refusal) → q.yes ≡ true → Told qs r → Told (q ∷ qs) r
told_more q qs (Ok u) y t = (y, t)
told_more q qs (Err e) y t = later q qs y t

pub told_by_lem : (qs : List Question) → Told qs (told_by qs)
unfolding told_by if_then_else
told_by_lem [] = tt
told_by_lem (q ∷ qs) = go (told_by_lem qs) q.yes refl
  where
    go : Told qs (told_by qs) → (b : Bool) → q.yes ≡ b → Told (q ∷ qs) (if_then_else b (told_by qs) (Err q.refusal))
    go t true y = told_more q qs (told_by qs) y t
    go t false y = here q qs y

-- where nothing is refused, and where something is
pub told_ok : (qs : List Question) {r : Result Unit Refusal} {u : Unit} → r ≡ told_by qs → r ≡ Ok u → AllYes qs
told_ok qs t w = rw (sym t ∙ w) at (told_by_lem qs)

pub told_err : (qs : List Question) {r : Result Unit Refusal} {e : Refusal} → r ≡ told_by qs → r ≡ Err e → FirstNo qs e
told_err qs t w = rw (sym t ∙ w) at (told_by_lem qs)

-- what a `?` hands on is the refusal that it met
pub handed_on : {A : Type 0} (P : Result A Refusal → Type 0) {r : Result A Refusal} {e : Refusal} → IsErr r × IsErrAnd r (λ y. y ≡ e) → P (Err e) → P r
handed_on P {r} h p = let q = err_from_is_err_and r h.1 in rw (q.1, q.2) p

-- a mark says whether its slot is among those that the marks are of
pub marked : (before : List ℕ) {marks : List Bool} (k : ℕ) {t : Bool} → marks ≡ marks_of before → (k ≡ 0 → ⊥) → k < most_slots → get_or marks k false ≡ t → member k before ≡ t
marked before k m z h e = sym (marks_member before k (omega arith) h) ∙ ap (λ (l : List Bool). get_or l k false) (sym m) ∙ e

-- questions 8 and 9 of a slot are told what its read answers
slot_told : {A : Type 0} (kind good : Bool) (k : ℕ) (x : A) → Told (slot_asks kind good k) (at_slot k (slot_read kind good x))
unfolding slot_read if_then_else
slot_told true true k x = (refl, (refl, tt))
slot_told true false k x = later _ _ refl (here _ _ refl)
slot_told false good k x = here _ _ refl

slot_value : {A : Type 0} (kind good : Bool) (k : ℕ) (x : A) {y : A} → at_slot k (slot_read kind good x) ≡ Ok y → y ≡ x
unfolding slot_read if_then_else
slot_value true true k x e = sym (IfOk-at_ok (λ (z : _). x ≡ z) e refl)
slot_value true false k x e = absurd (IfOk-at_ok (λ _. ⊥) e tt)
slot_value false good k x e = absurd (IfOk-at_ok (λ _. ⊥) e tt)

-- a slot that reads is of its kind and good, and its read is what it holds
module _ {A : Type 0} (kind good : Bool) (k : ℕ) (x : A) {d : Result A Reason} {r : Result A Refusal} (t : r ≡ at_slot k d) (f : d ≡ slot_read kind good x) where
  pub slot_ok : {y : A} → r ≡ Ok y → AllYes (slot_asks kind good k) × (y ≡ x)
  slot_ok w =
      let e = sym (t ∙ ap (at_slot k) f) ∙ w in
      (rw e at (slot_told kind good k x), slot_value kind good k x e)

  pub slot_err : {e : Refusal} → r ≡ Err e → FirstNo (slot_asks kind good k) e
  slot_err w = rw (sym (t ∙ ap (at_slot k) f) ∙ w) at (slot_told kind good k x)

-- questions 6 and 7 of a link whose slot is known by the marks of the slots before it
abbrev pub two_asks : List ℕ → ℕ → List ℕ → ℕ → List Question
two_asks s holder before k = question (ltb k (slot_count s)) LinkPastEnd holder ∷ question (not (member k before)) Repeated k ∷ []

two_same : (q p o : Question) → p.refusal ≡ o.refusal → (q.yes ≡ true → p.yes ≡ o.yes) → (r : Result Unit Refusal) → Told (q ∷ p ∷ []) r → Told (q ∷ o ∷ []) r
two_same q p o f h (Ok u) t = (t.0, (sym (h t.0) ∙ t.1.0, tt))
two_same q p o f h (Err e) t =
    split q (p ∷ []) e t (λ n d. rw d (here q (o ∷ []) n)) (λ y g.
    later q (o ∷ []) y (split p [] e g (λ n d. rw (d, f) (here o [] (sym (h y) ∙ n))) (λ _ i. none e i)))

-- questions 6 and 7 of a link, whose slot is known by the marks of the slots before it, and which the slot `last` holds
module _ (s before : List ℕ) (marks : List Bool) {known : Bool} {holder last : ℕ} (k : ℕ) (l : slot_count s ≤ most_slots) (w : known ≡ (ltb k (slot_count s) && get_or marks k false))
    (m : marks ≡ marks_of before) (h : holder ≡ last) (z : k ≡ 0 → ⊥) {r : Result Unit Refusal} (t : r ≡ told_by (link_asked s known holder k)) where
  link_told : Told (two_asks s last before k) r
  link_told =
      rw (t, ← h) (two_same _ _ _ refl (λ y.
      ap not (w ∙ ap (λ (b : Bool). b && get_or marks k false) y ∙ sym (marked before k m z (omega (arith, ltb-true k (slot_count s) y)) refl)))
      (told_by (link_asked s known holder k)) (told_by_lem (link_asked s known holder k)))

  pub link_ok : {u : Unit} → r ≡ Ok u → AllYes (two_asks s last before k)
  link_ok e = rw e at link_told

  pub link_err : {e : Refusal} → r ≡ Err e → FirstNo (two_asks s last before k) e
  link_err e = rw e at link_told

-- and the slot is one of the file's
pub link_below : (s : List ℕ) (known : Bool) (holder k : ℕ) {r : Result Unit Refusal} {u : Unit} → r ≡ told_by (link_asked s known holder k) → r ≡ Ok u → k < slot_count s
link_below s known holder k t e = ltb-true k (slot_count s) (told_ok (link_asked s known holder k) t e).0

-- all that is asked of a link: of the link itself, and of its slot
module _ (s before : List ℕ) (holder k : ℕ) (kind good : Bool) where
  pub no_link : {e : Refusal} → FirstNo (two_asks s holder before k) e → FirstNo (link_asks s holder before k kind good) e
  unfolding link_asks
  no_link = no_before (two_asks s holder before k) (slot_asks kind good k)

  pub no_slot : {e : Refusal} → AllYes (two_asks s holder before k) → FirstNo (slot_asks kind good k) e → FirstNo (link_asks s holder before k kind good) e
  unfolding link_asks
  no_slot = no_after (two_asks s holder before k) (slot_asks kind good k)

  pub all_link : AllYes (two_asks s holder before k) → AllYes (slot_asks kind good k) → AllYes (link_asks s holder before k kind good)
  unfolding link_asks
  all_link = all_append (two_asks s holder before k) (slot_asks kind good k)
