-- What the range test of factors says: the bound of each percent and of each time. Assumes nothing.
use Rattle.std.proofs.Common.{ℕ, ◌≤◌, ◌≡◌, true, get_or}
use Rattle.sums.proofs.Choices.{nth, each}
use Rattle.vehicle_factors.specs.Factors.{factors_tests, factors_in_range}
use Rattle.vehicle_factors.specs.declared.Factors.{Factors}

pub record RangedFactors (f : Factors) : Type 0 where
  pub petrol : (p : ℕ) → get_or f.petrol p 0 ≤ 100
  pub diesel : (p : ℕ) → get_or f.diesel p 0 ≤ 100
  pub car : (b : ℕ) → get_or f.car b 0 ≤ 300
  pub truck : (b : ℕ) → get_or f.truck b 0 ≤ 300
  pub bus : (b : ℕ) → get_or f.bus b 0 ≤ 300

pub ranged_factors : (f : Factors) → factors_in_range f ≡ true → RangedFactors f
unfolding factors_in_range
ranged_factors f h =
    let t = nth (factors_tests f) h in
    record {
      petrol = each 100 f.petrol (t 0);
      diesel = each 100 f.diesel (t 1);
      car = each 300 f.car (t 2);
      truck = each 300 f.truck (t 3);
      bus = each 300 f.bus (t 4);
    }
