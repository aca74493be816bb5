-- The rows passed stand in their places, their questions are answered yes and their slots are marked.
use Rattle.std.proofs.Common.{rules, true, arith, ℕ, ◌<◌, ◌≡◌, refl, ap, ◌∙◌, [], ◌∷◌, List, Bool, add-one, ltb-true, set, Err}
use Rattle.sums.proofs.Choices.{filled, list_to_is}
use Rattle.sums.specs.declared.answer.Refusal.{Refusal}
use Rattle.vehicle_fields.specs.Fields.{pollutant_count, no_coefficients}
use Rattle.slots.specs.Bytes.{slot_of}
use Rattle.slots.specs.Layout.{next_of, coefficients_of, coefficients_kind, coefficients_good, coefficient_slot_of}
use Rattle.slots.specs.declared.coefficients.CoefficientSlot.{CoefficientSlot}
use Rattle.slot_file.specs.Sources.{coefficient_slot, group_at}
use Rattle.slot_file.specs.Questions.{slot_count, coefficient_holder, coefficient_asks, rows_asks, after_sixth}
use Rattle.slot_file.specs.Meaning.{AllYes, FirstNo}
use Rattle.questions.specs.Told.{row_asked}
use Rattle.questions.proofs.Telling.{told_ok, told_err, handed_on, slot_ok, slot_err}
use Rattle.slot_file.proofs.Asking.{all_append, no_before, no_after}
use Rattle.slot_file.proofs.SixRows.{rows_yes, rows_no}
use Rattle.walk.specs.Rows.{marks_to, RowsRead}
use Rattle.walk.proofs.RowAsks.{no_front, no_slot, no_turn, all_row}
use Rattle.walk.proofs.rows.read_rows.Goals as goal

-- the first no of a row is that of all rows, where the rows before it are answered yes
refused : (s : List ℕ) (g n : ℕ) {before after : List Bool} {e : Refusal} → n < pollutant_count → AllYes (rows_asks s g n) → FirstNo (coefficient_asks s g n) e
    → RowsRead s g before after (Err e)
refused s g n h y f = record {
  told = no_before (rows_asks s g pollutant_count) (after_sixth s g ∷ []) (rows_no s g pollutant_count n h y f);
  coefficients = tt;
  marks = tt;
}

pub loop-n-init : goal.loop-n-init
unfolding rows_asks coefficient_holder coefficient_slot marks_to
loop-n-init c = record { room = refl; yes = tt; holder_is = refl; link_is = c.requires; marks = refl; read = λ m q. absurd (omega arith) }

pub returns-in_err-ask_row : goal.returns-in_err-ask_row
returns-in_err-ask_row c =
    let a = c.args in
    let i = c.loop-n.invariant in
    let f = told_err (row_asked a.file.now.bytes.now c.loop-n.link.holder c.loop-n.link.slot) c.ask_row.ensures c.in_err-ask_row.was in
    handed_on (RowsRead _ _ _ _) c.from_residual.ensures (refused a.file.now.bytes.now a.g c.loop-n.n (omega arith) i.yes (no_front a.file.now.bytes.now a.g c.loop-n.n (rw (i.holder_is, i.link_is) at f)))

pub returns-in_err-row : goal.returns-in_err-row
returns-in_err-row c =
    let a = c.args in
    let i = c.loop-n.invariant in
    let t = slot_of a.file.now.bytes.now c.loop-n.link.slot in
    let y = told_ok (row_asked a.file.now.bytes.now c.loop-n.link.holder c.loop-n.link.slot) c.ask_row.ensures c.in_ok-ask_row.was in
    let f = slot_err (coefficients_kind t) (coefficients_good t (coefficients_of t)) c.loop-n.link.slot (coefficient_slot_of t) c.ask_slot.ensures (rw c.from-k.ensures at c.read_row.ensures) c.in_err-row.was in
    handed_on (RowsRead _ _ _ _) c.from_residual-in_err-row.ensures
    (refused a.file.now.bytes.now a.g c.loop-n.n (omega arith) i.yes (no_slot a.file.now.bytes.now a.g c.loop-n.n (rw i.link_is at y) (rw i.link_is at f)))

pub returns-in_err-ask : goal.returns-in_err-ask
unfolding coefficient_slot_of
returns-in_err-ask c =
    let a = c.args in
    let i = c.loop-n.invariant in
    let k = c.loop-n.link.slot in
    let t = slot_of a.file.now.bytes.now k in
    let y = told_ok (row_asked a.file.now.bytes.now c.loop-n.link.holder k) c.ask_row.ensures c.in_ok-ask_row.was in
    let r = slot_ok (coefficients_kind t) (coefficients_good t (coefficients_of t)) k (coefficient_slot_of t) c.ask_slot.ensures (rw c.from-k.ensures at c.read_row.ensures) c.in_ok-row.was in
    let f = told_err _ c.ask.ensures c.in_err-ask.was in
    let p = ap (λ (x : CoefficientSlot). x.pollutant) r.1 in
    handed_on (RowsRead _ _ _ _) c.from_residual-in_err-ask.ensures
    (refused a.file.now.bytes.now a.g c.loop-n.n (omega arith) i.yes (no_turn a.file.now.bytes.now a.g c.loop-n.n (rw i.link_is at y) (rw i.link_is at r.0) (rw (c.from.ensures, p, i.link_is) at f)))

pub bounds-reached-k : goal.bounds-reached-k
bounds-reached-k c =
    let a = c.args in
    let y = told_ok (row_asked a.file.now.bytes.now c.loop-n.link.holder c.loop-n.link.slot) c.ask_row.ensures c.in_ok-ask_row.was in
    omega (arith, a.file.now.short, ltb-true c.loop-n.link.slot (slot_count a.file.now.bytes.now) y.1.0)

pub loop-n-preserved : goal.loop-n-preserved
unfolding coefficient_slot_of coefficient_holder coefficient_slot marks_to
loop-n-preserved c =
    let a = c.args in
    let s = a.file.now.bytes.now in
    let i = c.loop-n.invariant in
    let k = c.loop-n.link.slot in
    let t = slot_of s k in
    let y = told_ok (row_asked s c.loop-n.link.holder k) c.ask_row.ensures c.in_ok-ask_row.was in
    let r = slot_ok (coefficients_kind t) (coefficients_good t (coefficients_of t)) k (coefficient_slot_of t) c.ask_slot.ensures (rw c.from-k.ensures at c.read_row.ensures) c.in_ok-row.was in
    let u = told_ok _ c.ask.ensures c.in_ok-ask.was in
    let p = ap (λ (x : CoefficientSlot). x.pollutant) r.1 in
    record {
      room = search rules;
      yes = rows_yes s a.g c.loop-n.n i.yes (all_row s a.g c.loop-n.n (rw i.link_is at y) (rw i.link_is at r.0) (rw (c.from.ensures, p, i.link_is) at u));
      holder_is = rw add-one i.link_is;
      link_is = rw add-one (ap (λ (x : CoefficientSlot). x.next) r.1 ∙ ap (λ (k : ℕ). next_of (slot_of s k)) i.link_is);
      marks = rw (add-one, c.from-k.ensures) (λ j. set (i.marks j) (i.link_is j) true);
      read = filled no_coefficients c.loop-n.coefficients c.loop-n.n _ (λ (m : ℕ). coefficients_of (slot_of s (coefficient_slot s a.g m))) (omega arith) i.read
          (ap (λ (x : CoefficientSlot). x.coefficients) r.1 ∙ ap (λ (k : ℕ). coefficients_of (slot_of s k)) i.link_is);
    }

pub returns-in_err-ask-2 : goal.returns-in_err-ask-2
unfolding coefficient_holder
returns-in_err-ask-2 c =
    let a = c.args in
    let s = a.file.now.bytes.now in
    let i = c.loop-n.invariant in
    let n : c.loop-n.n ≡ pollutant_count = omega arith in
    let f = told_err _ c.ask-2.ensures c.in_err-ask-2.was in
    handed_on (RowsRead _ _ _ _) c.from_residual-in_err-ask-2.ensures (record {
      told = no_after (rows_asks s a.g pollutant_count) (after_sixth s a.g ∷ []) (rw n at i.yes) (rw (i.holder_is, i.link_is, n) at f);
      coefficients = tt;
      marks = tt;
    })

pub returns : goal.returns
unfolding group_at
returns c =
    let a = c.args in
    let s = a.file.now.bytes.now in
    let i = c.loop-n.invariant in
    let n : c.loop-n.n ≡ pollutant_count = omega arith in
    let y = told_ok _ c.ask-2.ensures c.in_ok-ask-2.was in
    record {
      told = all_append (rows_asks s a.g pollutant_count) (after_sixth s a.g ∷ []) (rw n at i.yes) (rw (i.link_is, n) at y);
      coefficients = list_to_is no_coefficients pollutant_count c.loop-n.coefficients (λ (m : ℕ). coefficients_of (slot_of s (coefficient_slot s a.g m))) i.room (rw n at i.read);
      marks = rw n at i.marks;
    }
