-- The next digit comes off the front of those that are left.
use Rattle.std.proofs.Common.{arith, ◌≡◌, ◌+◌, ◌-◌, length-set, append-nil, append_assoc}
use Rattle.std.proofs.lemmas.Grind.{take-set_at}
use Rattle.listing_lines.proofs.Digits.{padded_turn, padded_end}
use Rattle.listing_lines.proofs.page.Page.push_padded.Goals as goal

pub loop-left-preserved : goal.loop-left-preserved
loop-left-preserved c =
    let left = c.loop-left.left in
    let end = c.self.inside.length + c.args.n in
    let e : end - 1 - (left - 1) ≡ end - left = omega arith in
    let n : end - (left - 1) ≡ end - left + 1 = omega arith in
    record {
      whole = rw (e, take-set_at c.loop-left.self-inside.room (end - left) (end - (left - 1)) _ n (omega arith), append_assoc, c.power.ensures.0)
          (rw (padded_turn left c.args.x (omega arith)) at c.loop-left.invariant.whole);
      size = rw length-set c.loop-left.invariant.size;
      fits = c.loop-left.invariant.fits;
    }

pub returns-clause-text : goal.returns-clause-text
returns-clause-text c =
    let n : c.self.inside.length + c.args.n - c.loop-left.left ≡ c.self.inside.length + c.args.n = omega arith in
    rw (n, padded_end c.loop-left.left c.args.x (omega arith), append-nil) at c.loop-left.invariant.whole
