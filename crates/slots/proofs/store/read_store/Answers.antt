-- The kind in the slot chooses what it is read as.
use Rattle.std.proofs.Common.{rules, ne_eqb, ◌≡◌, ◌∙◌, sym, eqb, false, refl}
use Rattle.sums.specs.Choice.{if_then_else}
use Rattle.slots.specs.Bytes.{byte_at, slot_of}
use Rattle.slots.specs.Layout.{handling_of, handling_good, standing_of, standing_good, aspiration_of, aspiration_good, store_kind, by_kind, store_of, store_good, store_read}
use Rattle.slots.specs.declared.store.StoreRecord.TheVariants.{Handling, Standing, Aspiration}
use Rattle.slots.proofs.Cases.{mapped, right_read}
use Rattle.slots.proofs.store.read_store.Goals.{in_default-via-in-Some+in_default, in_default-via-in_default}
use Rattle.slots.proofs.store.read_store.Goals as goal

pub returns-in-Some-eq3 : goal.returns-in-Some-eq3
unfolding store_read store_kind store_good store_of by_kind if_then_else
returns-in-Some-eq3 c =
    let t = slot_of c.args.file.now c.args.n in
    let k : byte_at t 2 ≡ 3 = sym c.in-Some-eq3.ensures ∙ c.in-Some-eq3.field-0-test in
    right_read t _
    (mapped Handling _ (eqb (byte_at t 2) 3) (handling_good t (handling_of t)) (handling_of t) _ _ c.read.ensures c.map.ensures.cases (λ y p. search rules) ∙ simp k)

pub returns-in-Some-eq4 : goal.returns-in-Some-eq4
unfolding store_read store_kind store_good store_of by_kind if_then_else
returns-in-Some-eq4 c =
    let t = slot_of c.args.file.now c.args.n in
    let k : byte_at t 2 ≡ 4 = sym c.in-Some-eq4.ensures ∙ c.in-Some-eq4.field-0-test in
    right_read t _
    (mapped Standing _ (eqb (byte_at t 2) 4) (standing_good t (standing_of t)) (standing_of t) _ _ c.read-in-Some-eq4.ensures c.map-in-Some-eq4.ensures.cases (λ y p. search rules) ∙ simp k)

pub returns-in_default : goal.returns-in_default
unfolding store_read store_kind store_good store_of by_kind if_then_else
returns-in_default c =
    let t = slot_of c.args.file.now c.args.n in
    let k = byte_at t 2 in
    let other : (eqb k 3 ≡ false) × (eqb k 4 ≡ false) = elim c.in_default.branch [
      | in_default-via-in-Some+in_default w ↦ let v = w.in_default in (ne_eqb k 3 (λ e. v.field-0-test.0.1 (v.ensures ∙ e)), ne_eqb k 4 (λ e. v.field-0-test.1 (v.ensures ∙ e)))
      | in_default-via-in_default w ↦ let z : k ≡ 0 = rw w.in_default.is at c.kind_of.ensures in rw z (refl, refl)
    ] in
    right_read t _
    (mapped Aspiration _ (eqb k 5) (aspiration_good t (aspiration_of t)) (aspiration_of t) _ _ c.read-in_default.ensures c.map-in_default.ensures.cases (λ y p. search rules) ∙ simp (other.0, other.1))
