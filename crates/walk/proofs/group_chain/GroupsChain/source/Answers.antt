-- The questions of the coefficient links and question 11, of the group that the slot holds.
use Rattle.std.proofs.Common.{◌≡◌, ap}
use Rattle.std.proofs.lemmas.Result.{IfOk-at_ok, MatchResult-at_ok, MatchResult-at_err}
use Rattle.slots.specs.Layout.{group_slot_of}
use Rattle.slots.specs.declared.group.GroupSlot.{GroupSlot}
use Rattle.slot_file.specs.Sources.{group_at}
use Rattle.slot_file.specs.Meaning.{AllYes, FirstNo}
use Rattle.questions.proofs.Telling.{told_ok, told_err, handed_on}
use Rattle.walk.specs.ChainWalk.{Sourced}
use Rattle.walk.proofs.GroupAsks.{rows, no_rows, no_eleven, all_group}
use Rattle.walk.proofs.group_chain.GroupsChain.source.Goals as goal

pub read_rows-requires : goal.read_rows-requires
unfolding group_slot_of
read_rows-requires c = ap (λ (x : GroupSlot). x.first) c.requires

pub returns-in_err-coefficients : goal.returns-in_err-coefficients
returns-in_err-coefficients c =
    let s = c.args.file.now.bytes.now in
    let g = c.args.link in
    handed_on (Sourced _ _ _ _ _ _) c.from_residual.ensures (record {
      told = no_rows s g (MatchResult-at_err (λ _. AllYes (rows s g)) (FirstNo (rows s g)) _ c.in_err-coefficients.was c.read_rows.ensures.told);
      source_is = tt;
      reached_is = tt;
    })

pub returns-in_err-ask : goal.returns-in_err-ask
unfolding group_slot_of group_at
returns-in_err-ask c =
    let s = c.args.file.now.bytes.now in
    let g = c.args.link in
    let f = told_err _ c.ask.ensures c.in_err-ask.was in
    let h = ap (λ (x : GroupSlot). x.group) c.requires in
    let k = IfOk-at_ok (λ ks. ks ≡ (group_at s g).coefficients) c.in_ok-coefficients.was c.read_rows.ensures.coefficients in
    handed_on (Sourced _ _ _ _ _ _) c.from_residual-in_err-ask.ensures (record {
      told =
          no_eleven s g (MatchResult-at_ok (λ _. AllYes (rows s g)) (FirstNo (rows s g)) _ c.in_ok-coefficients.was c.read_rows.ensures.told)
          (rw (c.zero_where_due-due.ensures, h, k) at f);
      source_is = tt;
      reached_is = tt;
    })

pub returns : goal.returns
unfolding group_slot_of group_at
returns c =
    let s = c.args.file.now.bytes.now in
    let g = c.args.link in
    let u = told_ok _ c.ask.ensures c.in_ok-ask.was in
    let h = ap (λ (x : GroupSlot). x.group) c.requires in
    let k = IfOk-at_ok (λ ks. ks ≡ (group_at s g).coefficients) c.in_ok-coefficients.was c.read_rows.ensures.coefficients in
    record {
      told =
          all_group s g (MatchResult-at_ok (λ _. AllYes (rows s g)) (FirstNo (rows s g)) _ c.in_ok-coefficients.was c.read_rows.ensures.told)
          (rw (c.zero_where_due-due.ensures, h, k) at u);
      source_is = λ i. record { group = h i; coefficients = k i };
      reached_is = IfOk-at_ok (λ _. _) c.in_ok-coefficients.was c.read_rows.ensures.marks;
    }
