-- Question 14, of the locomotive that the slot holds.
use Rattle.std.proofs.Common.{refl, ap}
use Rattle.slots.specs.Layout.{locomotive_slot_of}
use Rattle.slots.specs.declared.locomotive.LocomotiveSlot.{LocomotiveSlot}
use Rattle.slot_file.specs.Sources.{locomotive_at}
use Rattle.questions.proofs.Telling.{told_ok, told_err, handed_on}
use Rattle.walk.specs.ChainWalk.{Sourced}
use Rattle.walk.proofs.locomotive_chain.LocomotivesChain.source.Goals as goal

pub returns-in_err-ask : goal.returns-in_err-ask
unfolding locomotive_slot_of locomotive_at
returns-in_err-ask c =
    let f = told_err _ c.ask.ensures c.in_err-ask.was in
    handed_on (Sourced _ _ _ _ _ _) c.from_residual.ensures
    (record { told = rw (c.shares_add_up-whole.ensures, ap (λ (x : LocomotiveSlot). x.locomotive) c.requires) at f; source_is = tt; reached_is = tt })

pub returns : goal.returns
unfolding locomotive_slot_of locomotive_at
returns c =
    let u = told_ok _ c.ask.ensures c.in_ok-ask.was in
    let e = ap (λ (x : LocomotiveSlot). x.locomotive) c.requires in
    record { told = rw (c.shares_add_up-whole.ensures, e) at u; source_is = e; reached_is = refl }
