-- Each part is told of its questions, and goes on where the part before it ended.
use Rattle.std.proofs.Common.{◌-◌, ◌≡◌, refl, ap, ◌∙◌, [], length}
use Rattle.slots.specs.declared.header.Header.{Header}
use Rattle.warmups.specs.Parts.{climate_of}
use Rattle.slot_file.specs.Questions.{slot_count, accepted, reached_by, groups_so_far, stores_so_far, locomotives_so_far, reached_of, reach_asks, last_asks}
use Rattle.slot_file.specs.Meaning.{at_last}
use Rattle.slot_file.specs.Figures.{counts_of}
use Rattle.slot_file.proofs.Chains.{one_chain}
use Rattle.slot_file.proofs.Outcomes.{only}
use Rattle.questions.proofs.Telling.{told_ok, told_err, handed_on}
use Rattle.totals.proofs.Sums.{sums_of_none}
use Rattle.walk.specs.OnePass.{FileWalked}
use Rattle.walk.specs.declared.state.State.{State}
use Rattle.walk.proofs.ExactSums.{exact_sums}
use Rattle.walk.proofs.Visits.{come_once}
use Rattle.walk.proofs.FileFigures.{figures_from}
use Rattle.walk.proofs.GroupChain.{group_laws, groups_more}
use Rattle.walk.proofs.StoreChain.{store_laws, stores_more}
use Rattle.walk.proofs.LocomotiveChain.{locomotive_laws, locomotives_more}
use Rattle.slot_file.specs.declared.Counts.{Counts}
use Rattle.walk.proofs.file.walk_chains.Goals as goal

pub walk_chain-requires-clause-laws : goal.walk_chain-requires-clause-laws
walk_chain-requires-clause-laws g c = group_laws

pub walk_chain-requires-clause-sums : goal.walk_chain-requires-clause-sums
walk_chain-requires-clause-sums g c w z = groups_more _ (c.climate-climate.ensures w z ∙ ap (λ (h : Header). climate_of h.temperatures) c.args.file.now.read)

pub walk_chain-requires-clause-begins : goal.walk_chain-requires-clause-begins
unfolding reached_by
walk_chain-requires-clause-begins g c =
    let e = c.start-state.ensures in
    let s = c.args.file.now.bytes.now in
    record {
      c = groups_so_far [];
      before = c.requires;
      holds = record {
        sources_are = ap (λ (m : State). m.sources) e;
        reached_are = ap (λ (m : State). m.reached) e;
        none_summed = λ _. ap (λ (m : State). m.totals) e;
        sums_are = λ _. exact_sums s (groups_so_far []) (group_laws.all_passed s (groups_so_far []) [] _ c.requires (record { chain = refl; good = tt })) (rw (ap (λ (m : State). m.totals) e) sums_of_none);
      };
    }

pub walk_chain-requires-2-clause-laws : goal.walk_chain-requires-2-clause-laws
walk_chain-requires-2-clause-laws g c = store_laws

pub walk_chain-requires-2-clause-sums : goal.walk_chain-requires-2-clause-sums
walk_chain-requires-2-clause-sums g c w z = stores_more _

pub walk_chain-requires-2-clause-begins : goal.walk_chain-requires-2-clause-begins
walk_chain-requires-2-clause-begins g c =
    let p = c.in_ok-groups.ensures.stands in
    record { c = groups_so_far p.b; before = (p.passed.before, p.passed.chain); holds = p.passed.holds }

pub walk_chain-requires-3-clause-laws : goal.walk_chain-requires-3-clause-laws
walk_chain-requires-3-clause-laws g c = locomotive_laws

pub walk_chain-requires-3-clause-sums : goal.walk_chain-requires-3-clause-sums
walk_chain-requires-3-clause-sums g c w z = locomotives_more _

pub walk_chain-requires-3-clause-begins : goal.walk_chain-requires-3-clause-begins
walk_chain-requires-3-clause-begins g c =
    let p = c.in_ok-stores.ensures.stands in
    record { c = stores_so_far p.c p.b; before = (p.passed.before.0, p.passed.before.1, p.passed.chain); holds = p.passed.holds }

pub returns-in_err-ask_reached : goal.returns-in_err-ask_reached
unfolding last_asks
returns-in_err-ask_reached g c =
    let s = c.args.file.now.bytes.now in
    let p = c.in_ok-locomotives.ensures.stands in
    let q = p.passed in
    let d = locomotives_so_far p.c p.b in
    let ls = reached_of s d in
    handed_on (FileWalked _ _) c.from_residual-in_err-ask_reached.ensures
    (at_last d q.before.0 q.before.1 q.before.2 q.chain (told_err (reach_asks (slot_count s - 1) 1 ls) (c.ask_reached.ensures ls q.holds.reached_are) c.in_err-ask_reached.was))

pub returns : goal.returns
unfolding last_asks
returns g c =
    let s = c.args.file.now.bytes.now in
    let p = c.in_ok-locomotives.ensures.stands in
    let q = p.passed in
    let d = locomotives_so_far p.c p.b in
    let ls = reached_of s d in
    let y = told_ok (reach_asks (slot_count s - 1) 1 ls) (c.ask_reached.ensures ls q.holds.reached_are) c.in_ok-ask_reached.was in
    let o = only s (accepted d) (record { head = q.before.0; groups = q.before.1; stores = q.before.2; locomotives = q.chain; last = y }) in
    -- a chain that ends is the only one, so what was counted is what the last walk speaks of
    let v = c.in_ok-groups.ensures.stands in
    let w = c.in_ok-stores.ensures.stands in
    let n = v.passed.count_is ∙ ap length (one_chain s _ v.b p.c.groups v.passed.chain.chain q.before.1.chain) in
    let m = w.passed.count_is ∙ ap length (one_chain s _ w.b p.c.stores w.passed.chain.chain q.before.2.chain) in
    let counts : Counts = record { groups = c.in_ok-groups.groups; stores = c.in_ok-stores.stores; locomotives = c.in_ok-locomotives.locomotives } in
    let counted : counts ≡ counts_of d = λ i. record { groups = n i; stores = m i; locomotives = q.count_is i } in
    record {
      c = d;
      visited = record { chains = o; once = come_once s d q.before.1 q.before.2 q.chain; counted = counted };
      sums_are = q.holds.sums_are;
      figures = λ e. figures_from s d (locomotive_laws.all_passed s p.c p.b 0 q.before q.chain) (q.holds.sums_are e) o counted;
      none_summed = q.holds.none_summed;
    }
