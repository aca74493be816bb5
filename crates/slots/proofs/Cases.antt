-- The number of a store record's read is that of questions 8 and 9, and its values are the record's where that is 0: by the kind, and whether its tests hold; and what is
-- made of a read. Assumes nothing.
use Rattle.std.proofs.Common.{◌≡◌, refl, sym, ap, ◌∙◌, Bool, true, false, ◌&&◌, ◌||◌, List, [], ℕ, eqb, get_or, eqb-true, Result, Ok, Err, MatchResult, IsOkAnd, IsErrAnd}
use Rattle.sums.specs.declared.answer.Reason.{Reason}
use Rattle.sums.specs.Choice.{if_then_else}
use Rattle.slots.specs.Bytes.{byte_at, number_of}
use Rattle.slots.specs.Layout.{handling_of, standing_of, aspiration_of, store_kind, by_kind, store_of, store_good, slot_read, with_fields, store_read, store_fields, read_number, read_values, StoreReads}
use Rattle.slots.specs.declared.slot.RefusedSlot.{RefusedSlot}
use Rattle.slots.specs.declared.store.StoreRecord.{StoreRecord}
use Rattle.slots.specs.declared.store.StoreRecord.TheVariants.{Handling, Standing, Aspiration}

numbered : (kind good : Bool) (r : StoreRecord) → read_number (slot_read kind good r) ≡ number_of kind good
unfolding if_then_else slot_read number_of
numbered true true r = refl
numbered true false r = refl
numbered false good r = refl

valued : (kind good : Bool) (r : StoreRecord) → read_values (slot_read kind good r) ≡ if_then_else (kind && good) (store_fields r) []
unfolding if_then_else slot_read
valued true true r = refl
valued true false r = refl
valued false good r = refl

first_kind : (t : List ℕ) → store_kind t ≡ true → get_or (store_fields (store_of t)) 0 0 ≡ byte_at t 2
unfolding store_kind store_of by_kind if_then_else
first_kind t = go (eqb (byte_at t 2) 3) refl (eqb (byte_at t 2) 4) refl (eqb (byte_at t 2) 5) refl
  where
    go : (x : Bool) → eqb (byte_at t 2) 3 ≡ x → (y : Bool) → eqb (byte_at t 2) 4 ≡ y → (z : Bool) → eqb (byte_at t 2) 5 ≡ z → (x || y || z) ≡ true
        → get_or (store_fields (if_then_else x (Handling (handling_of t)) (if_then_else y (Standing (standing_of t)) (Aspiration (aspiration_of t))))) 0 0 ≡ byte_at t 2
    go true e y f z h k = sym (eqb-true _ 3 e)
    go false e true f z h k = sym (eqb-true _ 4 f)
    go false e false f true h k = sym (eqb-true _ 5 h)
    go false e false f false h k = cc

pub right_read : (t : List ℕ) (r : Result StoreRecord Reason) → r ≡ store_read t → StoreReads t r
unfolding store_read
right_read t r e = record {
  read = e;
  number = ap (λ (x : Result StoreRecord Reason). read_number x) e ∙ numbered (store_kind t) (store_good t) (store_of t);
  values = ap (λ (x : Result StoreRecord Reason). read_values x) e ∙ valued (store_kind t) (store_good t) (store_of t);
  kind = first_kind t;
}

-- what is made of what a slot holds, where it is read
pub mapped : {A B : Type 0} (f : A → B) (P : A → B → Type 0) (kind good : Bool) (x : A) (r : Result A Reason) (m : Result B Reason) → r ≡ slot_read kind good x → MatchResult r (λ a. IsOkAnd m (P a)) (λ e. m ≡ Err e)
    → ((y : B) → P x y → y ≡ f x) → m ≡ slot_read kind good (f x)
unfolding slot_read if_then_else
mapped f P true true x r (Ok y) e c s = ap Ok (s y (rw e at c))
mapped f P true true x r (Err z) e c s = absurd (rw e at c)
mapped f P true false x r m e c s = rw e at c
mapped f P false good x r m e c s = rw e at c

-- where the fields of a refused slot are dropped, the read by its reason alone is left
pub reason_alone : {A : Type 0} (x : A) (P : RefusedSlot A → Reason → Type 0) (r : Result A Reason) (d : Result A (RefusedSlot A)) (m : Result A Reason) → d ≡ with_fields x r
    → MatchResult d (λ y. m ≡ Ok y) (λ e. IsErrAnd m (P e)) → ((e : RefusedSlot A) (y : Reason) → P e y → y ≡ e.reason) → m ≡ r
unfolding with_fields
reason_alone x P (Ok y) d m e c s = rw e at c
reason_alone x P (Err z) d (Ok y) e c s = absurd (rw e at c)
reason_alone x P (Err z) d (Err y) e c s = ap Err (s (record { reason = z; fields = x }) y (rw e at c))
