-- The totals are those of the months passed, each month in its own period.
use Rattle.std.proofs.Common.{arith, ◌≡◌, refl, ap, ◌∙◌, ℕ, length-set}
use Rattle.sums.specs.Choice.{sum_to}
use Rattle.sums.proofs.Choices.{sum_to_step, list_to_is}
use Rattle.warmups.specs.Parts.{tenths, conditions_in}
use Rattle.vehicles.specs.Parts.{metres, month_warmup, month_run, month_idle, in_period, activity_of}
use Rattle.vehicles.proofs.Ranges.{three}
use Rattle.vehicles.proofs.Periods.{added}
use Rattle.vehicles.proofs.sound.Sound.activity.Goals as goal

pub loop-i-init : goal.loop-i-init
unfolding in_period sum_to
loop-i-init c = record { three_warmups = refl; three_runs = refl; warmups = three _ refl refl refl; runs = three _ refl refl refl; idling = refl }

pub loop-i-preserved : goal.loop-i-preserved
unfolding conditions_in
loop-i-preserved c =
    let s = c.args.self.now in
    let bs = c.args.bands in
    let e = c.conditions_in-w.ensures in
    let q = c.place-period.result in
    let l = c.place-period.ensures.1 in
    let i = c.loop-i.invariant in record {
      three_warmups = simp length-set i.three_warmups;
      three_runs = simp length-set i.three_runs;
      warmups = added s.group bs (month_warmup s.times s.group bs) (tenths 0) tenths c.loop-i.minutes c.loop-i.i q c.more.result
          (rw (c.place-period.ensures.0, e)) (omega arith) i.warmups (ap tenths (c.more.ensures ∙ rw (i.warmups q l, e)));
      runs = added s.group bs (month_run s.group) (metres 0) metres c.loop-i.metres c.loop-i.i q c.more-in-loop-i.result
          (rw (c.place-period.ensures.0, e)) (omega arith) i.runs (ap metres (c.more-in-loop-i.ensures ∙ rw (i.runs q l, c.day_run-run.ensures)));
      idling = ap tenths (c.more-idling.ensures ∙ rw (i.idling, c.day_idle-idle.ensures, sum_to_step c.loop-i.i (month_idle s.group)));
    }

pub returns : goal.returns
unfolding activity_of
returns c =
    let s = c.args.self.now in
    let bs = c.args.bands in
    let e : c.loop-i.i ≡ 12 = omega arith in
    let v = rw e at c.loop-i.invariant in
    rw (
      list_to_is (tenths 0) 3 c.loop-i.minutes (λ (p : ℕ). tenths (in_period s.group bs (month_warmup s.times s.group bs) 12 p)) v.three_warmups v.warmups,
      list_to_is (metres 0) 3 c.loop-i.metres (λ (p : ℕ). metres (in_period s.group bs (month_run s.group) 12 p)) v.three_runs v.runs,
      v.idling,
    )
