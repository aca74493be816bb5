-- A refused walk is answered its refusal; of an accepted one the figures are those of the sums at its end, as the walk promises.
use Rattle.std.proofs.Common.{◌≡◌, refl, sym, ap, ◌∙◌, Ok}
use Rattle.slot_file.specs.Questions.{refused}
use Rattle.slot_file.specs.Figures.{answer}
use Rattle.slot_file.proofs.Outcomes.{only}
use Rattle.slot_file.proofs.Numbers.{refused_answer}
use Rattle.slot_file.specs.declared.Answer.{Answer}
use Rattle.totals.specs.declared.Figures.{Figures}
use Rattle.questions.proofs.Telling.{handed_on}
use Rattle.walk.proofs.file.answer.Goals as goal

pub returns-in_err-counts : goal.returns-in_err-counts
returns-in_err-counts c =
    let s = c.args.file.now in
    let e = c.in_err-counts.field-0.0 in
    handed_on (λ r. r ≡ answer s) c.from_residual.ensures (sym (refused_answer s e (only s (refused e) c.in_err-counts.ensures)).0)

pub returns : goal.returns
returns c =
    let of_figures : Figures → Answer = λ f. record { annual = f.annual; peak = f.peak; counts = c.in_ok-counts.counts } in
    ap (λ f. Ok (of_figures f)) c.figures.ensures ∙ sym (c.in_ok-counts.ensures.figures refl)
