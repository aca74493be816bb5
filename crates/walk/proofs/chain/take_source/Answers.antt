-- The questions of the link and of its slot, and what more is asked of its source, one after the other; the slots are marked as they are passed.
use Rattle.std.proofs.Common.{arith, ◌≡◌, refl, true, set}
use Rattle.std.proofs.lemmas.Result.{IfOk-at_ok, MatchResult-at_ok, MatchResult-at_err}
use Rattle.sums.specs.Choice.{if_then_else}
use Rattle.slots.specs.Bytes.{slot_of}
use Rattle.slot_file.specs.Questions.{last_of, sources_of}
use Rattle.slot_file.specs.Meaning.{AllYes, FirstNo}
use Rattle.slot_file.proofs.Asking.{all_append, no_before, no_after}
use Rattle.questions.proofs.Telling.{handed_on, slot_ok, slot_err, link_ok, link_err, link_below, no_link, no_slot, all_link}
use Rattle.walk.specs.ChainKind.{front}
use Rattle.walk.specs.ChainWalk.{Offered}
use Rattle.walk.proofs.chain.take_source.Goals as goal

pub returns-in_err-ask_link : goal.returns-in_err-ask_link
returns-in_err-ask_link g c =
    let a = c.args in
    let k = g.C.Chain.kind in
    let s = a.file.now.bytes.now in
    let t = slot_of s a.link.slot in
    handed_on (Offered _ _ _ _ _ _ _ _ _) c.from_residual.ensures (record {
      told = λ d b m h.
          no_before (front k s d b a.link.slot) (k.asked_after s a.link.slot) (no_link s (sources_of (k.so_far d b)) (last_of b) a.link.slot (k.of_kind t) (k.good t)
          (link_err s (sources_of (k.so_far d b)) a.state.now.sources a.link.slot (omega (arith, a.file.now.short)) (rw c.from-k.ensures at c.marked-known.ensures) m h c.requires c.ask_link.ensures c.in_err-ask_link.was));
      taken = refl;
    })

pub returns-in_err-content : goal.returns-in_err-content
returns-in_err-content g c =
    let a = c.args in
    let k = g.C.Chain.kind in
    let s = a.file.now.bytes.now in
    let t = slot_of s a.link.slot in
    handed_on (Offered _ _ _ _ _ _ _ _ _) c.from_residual-in_err-content.ensures (record {
      told = λ d b m h.
          no_before (front k s d b a.link.slot) (k.asked_after s a.link.slot) (no_slot s (sources_of (k.so_far d b)) (last_of b) a.link.slot (k.of_kind t) (k.good t)
          (link_ok s (sources_of (k.so_far d b)) a.state.now.sources a.link.slot (omega (arith, a.file.now.short)) (rw c.from-k.ensures at c.marked-known.ensures) m h c.requires c.ask_link.ensures c.in_ok-ask_link.was)
          (slot_err (k.of_kind t) (k.good t) a.link.slot (g.C.Chain.content_of t) c.ask_slot.ensures (rw c.from-k.ensures at c.read.ensures) c.in_err-content.was));
      taken = refl;
    })

-- the slot is below the most where nothing is refused
pub bounds-state-k : goal.bounds-state-k
bounds-state-k g c = omega (arith, c.args.file.now.short, link_below c.args.file.now.bytes.now _ _ c.args.link.slot c.ask_link.ensures c.in_ok-ask_link.was)

pub bounds-state-k-2 : goal.bounds-state-k-2
bounds-state-k-2 g c = omega (arith, c.args.file.now.short, link_below c.args.file.now.bytes.now _ _ c.args.link.slot c.ask_link.ensures c.in_ok-ask_link.was)

pub source-requires : goal.source-requires
source-requires g c =
    let k = g.C.Chain.kind in
    let t = slot_of c.args.file.now.bytes.now c.args.link.slot in
    (slot_ok (k.of_kind t) (k.good t) c.args.link.slot (g.C.Chain.content_of t) c.ask_slot.ensures (rw c.from-k.ensures at c.read.ensures) c.in_ok-content.was).1

pub returns-in_err-source : goal.returns-in_err-source
returns-in_err-source g c =
    let a = c.args in
    let k = g.C.Chain.kind in
    let s = a.file.now.bytes.now in
    let t = slot_of s a.link.slot in
    let r = slot_ok (k.of_kind t) (k.good t) a.link.slot (g.C.Chain.content_of t) c.ask_slot.ensures (rw c.from-k.ensures at c.read.ensures) c.in_ok-content.was in
    handed_on (Offered _ _ _ _ _ _ _ _ _) c.from_residual-in_err-source.ensures (record {
      told = λ d b m h.
          no_after (front k s d b a.link.slot) (k.asked_after s a.link.slot) (all_link s (sources_of (k.so_far d b)) (last_of b) a.link.slot (k.of_kind t) (k.good t)
          (link_ok s (sources_of (k.so_far d b)) a.state.now.sources a.link.slot (omega (arith, a.file.now.short)) (rw c.from-k.ensures at c.marked-known.ensures) m h c.requires c.ask_link.ensures c.in_ok-ask_link.was) r.0)
          (MatchResult-at_err (λ _. AllYes (k.asked_after s a.link.slot)) (FirstNo (k.asked_after s a.link.slot)) _ c.in_err-source.was c.source.ensures.told);
      taken = refl;
    })

pub returns : goal.returns
returns g c =
    let a = c.args in
    let k = g.C.Chain.kind in
    let s = a.file.now.bytes.now in
    let t = slot_of s a.link.slot in
    let r = slot_ok (k.of_kind t) (k.good t) a.link.slot (g.C.Chain.content_of t) c.ask_slot.ensures (rw c.from-k.ensures at c.read.ensures) c.in_ok-content.was in
    record {
      told = λ d b m h.
          all_append (front k s d b a.link.slot) (k.asked_after s a.link.slot) (all_link s (sources_of (k.so_far d b)) (last_of b) a.link.slot (k.of_kind t) (k.good t)
          (link_ok s (sources_of (k.so_far d b)) a.state.now.sources a.link.slot (omega (arith, a.file.now.short)) (rw c.from-k.ensures at c.marked-known.ensures) m h c.requires c.ask_link.ensures c.in_ok-ask_link.was) r.0)
          (MatchResult-at_ok (λ _. AllYes (k.asked_after s a.link.slot)) (FirstNo (k.asked_after s a.link.slot)) _ c.in_ok-source.was c.source.ensures.told);
      taken = record {
        next_is = rw c.from-k.ensures at c.next_of.ensures;
        state_is = rw (c.from-k.ensures, c.add.ensures) (λ i. record {
          sources = set a.state.now.sources a.link.slot true;
          reached = IfOk-at_ok (λ _. c.source.new.reached ≡ k.reaches s a.link.slot (set a.state.now.reached a.link.slot true)) c.in_ok-source.was (rw c.from-k.ensures at c.source.ensures.reached_is) i;
          totals = if_then_else g.S.Summing.wanted (g.C.Chain.plus a.chain a.state.now.totals (IfOk-at_ok (λ x. x ≡ g.C.Chain.source_at s a.link.slot) c.in_ok-source.was c.source.ensures.source_is i)) a.state.now.totals;
        });
      };
    }
