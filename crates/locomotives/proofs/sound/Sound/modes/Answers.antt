-- Each substance by its rate, or as it was.
use Rattle.std.proofs.Common.{arith, lit<}
use Rattle.sums.specs.Choice.{list_to}
use Rattle.locomotives.specs.Parts.{all_modes}
use Rattle.locomotives.proofs.Modes.{hourly_at_lem, with_share, without_share}
use Rattle.locomotives.proofs.sound.Sound.modes.Goals as goal

pub loop-k-preserved : goal.loop-k-preserved
unfolding all_modes list_to
loop-k-preserved c =
    let l = c.args.self.now.locomotive in
    let k = c.loop-k.k in
    grind (
      arith,
      hourly_at_lem l 0 k (lit< tt) c.loop-k-test.true,
      hourly_at_lem l 1 k (lit< tt) c.loop-k-test.true,
      hourly_at_lem l 2 k (lit< tt) c.loop-k-test.true,
      with_share l 0 k,
      with_share l 1 k,
      with_share l 2 k,
      without_share l 0 k,
      without_share l 1 k,
      without_share l 2 k,
    )
