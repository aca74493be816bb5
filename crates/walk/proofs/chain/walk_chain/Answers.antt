-- The walk stands on the chain, before each step and after it: the step's promise, and no more. A chain of different slots ends.
use Rattle.std.proofs.Common.{arith, sym, ap, ◌∙◌}
use Rattle.std.proofs.lemmas.Result.{IfErr-at_err}
use Rattle.slot_file.specs.Meaning.{Refuses}
use Rattle.slot_file.proofs.Chains.{begun}
use Rattle.questions.proofs.Telling.{handed_on}
use Rattle.walk.specs.OnePass.{Walked}
use Rattle.walk.proofs.Passing.{begun_with, ended_after, stepped, few}
use Rattle.walk.proofs.chain.walk_chain.Goals as goal

pub loop-at-init : goal.loop-at-init
loop-at-init g c = begun_with c.requires.begins (c.head.ensures ∙ ap g.C.Chain.kind.head c.args.file.now.read)

pub step_along-requires-clause-laws : goal.step_along-requires-clause-laws
step_along-requires-clause-laws g c = c.requires.laws

-- a chain that goes on at a link has a head
pub step_along-requires-clause-sums : goal.step_along-requires-clause-sums
step_along-requires-clause-sums g c w =
    let p = c.loop-at.invariant in
    let n = begun c.args.file.now.bytes.now _ p.b c.loop-at.at.link.slot p.passed.chain.chain c.loop-at-test.true in
    c.requires.sums w (λ f. n (sym (ap g.C.Chain.kind.head c.args.file.now.read) ∙ f))

pub step_along-requires-clause-stands : goal.step_along-requires-clause-stands
step_along-requires-clause-stands g c = c.loop-at.invariant

pub step_along-requires-clause-goes_on : goal.step_along-requires-clause-goes_on
step_along-requires-clause-goes_on g c = c.loop-at-test.true

pub returns-in_err-at : goal.returns-in_err-at
returns-in_err-at g c = handed_on (Walked _ _ _ _) c.from_residual.ensures (IfErr-at_err (Refuses _) c.in_err-at.was c.step_along.ensures.refused)

pub loop-at-preserved : goal.loop-at-preserved
loop-at-preserved g c = record { c = _; b = _; passed = stepped c.step_along.ensures c.loop-at.invariant c.in_ok-at.was }

pub loop-at-smaller : goal.loop-at-smaller
loop-at-smaller g c =
    let p = c.loop-at.invariant.passed in
    omega (arith, p.count_is, (stepped c.step_along.ensures c.loop-at.invariant c.in_ok-at.was).count_is, few c.requires.laws p)

pub returns : goal.returns
returns g c = ended_after c.loop-at.invariant c.loop-at-test.false
