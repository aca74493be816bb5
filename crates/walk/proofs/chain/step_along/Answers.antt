-- What a link is told decides where the walk stands: its source passed besides, or the file refused with nothing added (`Passing`).
use Rattle.std.proofs.Common.{arith}
use Rattle.questions.proofs.Telling.{handed_on}
use Rattle.walk.specs.OnePass.{Stepped}
use Rattle.walk.proofs.Passing.{few, refused, passed}
use Rattle.walk.proofs.chain.step_along.Goals as goal

pub take_source-requires : goal.take_source-requires
take_source-requires g c = c.requires.goes_on

pub returns-in_err-next : goal.returns-in_err-next
returns-in_err-next g c =
    let x = refused c.requires.laws c.requires.stands.passed c.requires.goes_on c.take_source.ensures c.in_err-next.was in
    handed_on (Stepped _ _ _ _ _ _) c.from_residual.ensures (record { passed = λ d b p. tt; refused = x.0; kept = x.1 })

pub overflow_add-result : goal.overflow_add-result
overflow_add-result g c = omega (arith, few c.requires.laws c.requires.stands.passed)

pub returns : goal.returns
returns g c = record { passed = λ d b p. passed c.requires.laws p c.requires.goes_on c.take_source.ensures c.in_ok-next.was c.requires.sums; refused = tt; kept = tt }
