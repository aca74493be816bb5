-- The totals are those of the months passed, each month in its own period.
use Rattle.std.proofs.Common.{◌≡◌, ℕ, ◌<◌, get_or, length}
use Rattle.sums.specs.Choice.{sum_to}
use Rattle.warmups.specs.Parts.{tenths}
use Rattle.vehicles.specs.Parts.{metres, month_warmup, month_run, month_idle, in_period}
use Rattle.vehicles.proofs.sound.Sound.activity.Given as goal

abbrev pub invariant-loop-i : goal.invariant-loop-i
invariant-loop-i l = record {
  three_warmups : length l.minutes ≡ 3;
  three_runs : length l.metres ≡ 3;
  warmups : (p : ℕ) → p < 3 → get_or l.minutes p (tenths 0) ≡ tenths (in_period l.self.group l.fn.bands (month_warmup l.self.times l.self.group l.fn.bands) l.i p);
  runs : (p : ℕ) → p < 3 → get_or l.metres p (metres 0) ≡ metres (in_period l.self.group l.fn.bands (month_run l.self.group) l.i p);
  idling : l.idling ≡ tenths (sum_to l.i (month_idle l.self.group));
}
