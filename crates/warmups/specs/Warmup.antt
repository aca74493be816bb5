-- 01, "Vehicle rules": warm-up minutes over table 9 of SO 153-34.02.317-2003 (source document 000), which is a part of the factors, and heated stands; and 02, U2,
-- timed warm-ups.
use Rattle.std.specs.Prelude.{ℕ, List, eqb, ℤ, get_or}
use Rattle.sums.specs.Choice.{if_then_else}
use Rattle.sums.specs.Fraction.{Frac, ◌over◌}
use Rattle.vehicle_factors.specs.declared.Factors.{Factors}
use Rattle.vehicle_fields.specs.declared.group.Group.{Group}
use Rattle.warmups.specs.Temperatures.{period_of, warmup_band}

-- "3 category, 1 car, 2 truck, 3 bus": its row of the table, in tenths of a minute
unfoldable pub times_of : Factors → ℕ → List ℕ
times_of f category = if_then_else (eqb category 1) f.car (if_then_else (eqb category 2) f.truck f.bus)

-- "Warm-up minutes (000 Table 9 ...)" by the times of a row at a band of temperature, in tenths; "A heated stand has 1.5 minutes ... all year (003)"
unfoldable pub untimed_in : List ℕ → Group → ℕ → ℕ
untimed_in times g band = if_then_else g.heated 15 (get_or times band 0)

abbrev pub untimed_at : Factors → Group → ℤ → Frac
untimed_at f g t = untimed_in (times_of f g.category) g (warmup_band t) over 10

-- 02, U2: "tenths of a minute, 1 to 250, or 0 for untimed. A timed value replaces the table and the heated stand's 1.5 minutes"
unfoldable pub tenths_in : List ℕ → Group → ℕ → ℕ
tenths_in times g band = if_then_else (eqb g.timed.0 0) (untimed_in times g band) g.timed.0

unfoldable pub minutes_at : Factors → Group → ℤ → Frac
minutes_at f g t = tenths_in (times_of f g.category) g (warmup_band t) over 10

-- "A heated stand has ... warm-period coefficients all year (003)", and timed "the heated stand's warm coefficients stay"
unfoldable pub period_at : Group → ℤ → ℕ
period_at g t = if_then_else g.heated 0 (period_of t)
