-- The walk means what the outcome means, and only one outcome does (`Outcomes.only`).
use Rattle.std.proofs.Common.{◌≡◌, sym, ap}
use Rattle.slot_file.specs.Questions.{refused}
use Rattle.slot_file.specs.Walk.{outcome, told}
use Rattle.slot_file.proofs.Outcomes.{only}
use Rattle.questions.proofs.Telling.{handed_on}
use Rattle.walk.proofs.file.check.Goals as goal

pub returns-in_err-walk_file : goal.returns-in_err-walk_file
returns-in_err-walk_file c =
    let s = c.args.file.now in
    handed_on (λ r. r ≡ told (outcome s)) c.from_residual.ensures (sym (ap told (only s (refused c.in_err-walk_file.field-0.0) c.in_err-walk_file.ensures)))

pub returns : goal.returns
returns c = sym (ap told c.in_ok-walk_file.ensures.visited.chains)
