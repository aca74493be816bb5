-- The lengths choose; where they are right, the numbers of the rule's answer.
use Rattle.std.proofs.Common.{◌≡◌, refl}
use Rattle.sums.specs.Choice.{if_then_else}
use Rattle.tezhebul.proofs.rules.tezhebul_group.Goals as goal

pub returns-in-Some : goal.returns-in-Some
unfolding if_then_else
returns-in-Some c =
    let a = c.args in
    let s = c.in-Some in
    let d : s.distances.now ≡ a.distances.now = s.ensures.arrays.0 in
    let ds : s.days.now ≡ a.days.now = s.ensures.arrays.1 in
    let ts : s.temperatures.now ≡ a.temperatures.now = s.ensures.arrays.2 in
    let ks : s.coefficients.now ≡ a.coefficients.now = s.ensures.arrays.3 in
    rw (← s.ensures.lengths) (rw (c.group_answer.ensures, c.group_of-g.ensures, d, ds, ts, ks) at c.give_group.ensures)

pub returns-in-None : goal.returns-in-None
unfolding if_then_else
returns-in-None c = rw (← c.in-None.ensures.lengths) (refl, refl)
