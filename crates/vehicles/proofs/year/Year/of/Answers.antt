-- What a group in range does in a year, and in its coldest month, is in range.
use Rattle.warmups.proofs.Decided.{conditions_in_range}
use Rattle.vehicles.proofs.Periods.{activity_in_range}
use Rattle.vehicles.proofs.year.Year.of.Goals as goal

pub invariant_of-result : goal.invariant_of-result
invariant_of-result c =
    let s = c.args.sound in record {
      activity_ranged = rw c.activity.ensures (activity_in_range s.group s.group_ranged.bounds s.times s.times_ranged c.args.c.bands);
      coldest_ranged = rw c.conditions_in.ensures (conditions_in_range s.times s.times_ranged s.group s.group_ranged.bounds.timed c.args.c.coldest);
    }
