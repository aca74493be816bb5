-- 01, "Questions in order", 11: "Is soot zero throughout for petrol, lead for diesel?"
use Rattle.std.specs.Prelude.{ℕ, Bool, ◌&&◌, ◌||◌, not, List, map, eqb, get_or}
use Rattle.sums.specs.Choice.{all_of}
use Rattle.vehicle_fields.specs.Fields.{no_coefficients, seven}
use Rattle.vehicle_fields.specs.declared.group.Group.{Group}
use Rattle.vehicle_fields.specs.declared.group.Coefficients.{Coefficients}

unfoldable pub all_zero : Coefficients → Bool
all_zero k = all_of (map (λ (n : ℕ). eqb n 0) (seven k))

-- soot is at place 3 and lead at place 5
unfoldable pub zero_where_due : Group → List Coefficients → Bool
zero_where_due g ks =
    (not (eqb g.fuel 1) || all_zero (get_or ks 3 no_coefficients)) && (not (eqb g.fuel 2) || all_zero (get_or ks 5 no_coefficients))
