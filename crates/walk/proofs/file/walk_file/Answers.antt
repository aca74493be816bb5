-- The head is refused, or the chains are walked of the same bytes.
use Rattle.std.proofs.Common.{subst, List, ℕ}
use Rattle.questions.proofs.Telling.{handed_on}
use Rattle.walk.specs.OnePass.{FileWalked}
use Rattle.walk.proofs.file.walk_file.Goals as goal

pub returns-in_err-file : goal.returns-in_err-file
returns-in_err-file g c = handed_on (FileWalked _ _) c.from_residual.ensures c.in_err-file.ensures

pub walk_chains-requires : goal.walk_chains-requires
walk_chains-requires g c = c.in_ok-file.ensures.1

pub returns : goal.returns
returns g c = subst (λ (t : List ℕ). FileWalked t g.S.Summing.wanted c.walk_chains.result) c.in_ok-file.ensures.0 c.walk_chains.ensures
