-- Questions 1 to 5 are answered yes, or the first that is not is the file's: 1 keeps the bytes to the most, and 3 says the count.
use Rattle.std.proofs.Common.{◌≡◌, refl, ap, subst, ◌∙◌, List, ℕ, eqb-true, Result, Ok, MatchResult}
use Rattle.sums.specs.declared.answer.Refusal.{Refusal}
use Rattle.slots.specs.declared.header.Header.{Header}
use Rattle.slot_file.specs.Sources.{header_at}
use Rattle.slot_file.specs.Questions.{slot_count, head_asks_of, head_asks}
use Rattle.slot_file.specs.Meaning.{AllYes, FirstNo, Refuses, at_head}
use Rattle.slot_file.proofs.Outcomes.{bytes_most}
use Rattle.questions.specs.Told.{told_by}
use Rattle.questions.proofs.Telling.{told_ok, told_err, handed_on}
use Rattle.walk.proofs.headed.Headed.of.Goals as goal

module _ (s : List ℕ) {h : Header} (e : h ≡ header_at s) where
  yes : {r : Result Unit Refusal} {u : Unit} → r ≡ told_by (head_asks_of s h) → r ≡ Ok u → AllYes (head_asks s)
  unfolding head_asks
  yes t w = subst (λ (x : Header). AllYes (head_asks_of s x)) e (told_ok (head_asks_of s h) t w)

  counted : AllYes (head_asks s) → h.count ≡ slot_count s
  unfolding head_asks
  counted y = ap (λ (h : Header). h.count) e ∙ eqb-true (header_at s).count (slot_count s) y.1.1.0

pub returns-in_err-ask_head : goal.returns-in_err-ask_head
unfolding head_asks
returns-in_err-ask_head c =
    let s = c.args.bytes.now in
    let e = c.in_err-ask_head.field-0.0 in
    handed_on (λ r. MatchResult r (λ f. (f.bytes.now ≡ s) × AllYes (head_asks f.bytes.now)) (Refuses s)) c.from_residual.ensures
    (at_head (subst (λ (h : Header). FirstNo (head_asks_of s h) e) c.read_header-header.ensures (told_err (head_asks_of s c.read_header-header.result) c.ask_head.ensures c.in_err-ask_head.was)))

pub invariant_of-result : goal.invariant_of-result
invariant_of-result c =
    let e = c.read_header-header.ensures in
    let y = yes _ e c.ask_head.ensures c.in_ok-ask_head.was in
    record { read = e; short = bytes_most _ y; counted = counted _ e y }

pub returns : goal.returns
returns c = (refl, yes _ c.read_header-header.ensures c.ask_head.ensures c.in_ok-ask_head.was)
