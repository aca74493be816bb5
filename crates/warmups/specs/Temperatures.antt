-- 01, "Vehicle rules": the period of a month's temperature, the band of the warm-up table, and the lowest of the year. Temperatures are in tenths of a degree.
use Rattle.std.specs.Prelude.{ℕ, zero, suc, List, [], ◌∷◌, ℤ, pos, get_or}
use Rattle.std.specs.Int.Signed.{lt_z}
use Rattle.sums.specs.Choice.{if_then_else}
use Rattle.vehicle_fields.specs.Fields.{minus}

-- how many of the edges, from the warmest on, t is below until one that it is not below
unfoldable pub below : List ℤ → ℤ → ℕ
below [] t = 0
below (e ∷ es) t = if_then_else (lt_z t e) (suc (below es t)) 0

-- 0 above 5.0, and from there on one more for each edge; temperatures are in tenths
unfoldable pub place : List ℤ → ℤ → ℕ
place es t = if_then_else (lt_z (pos 50) t) 0 (suc (below es t))

-- "Period: above 5.0 warm, below -5.0 cold, else transitional": 0 warm, 1 transitional, 2 cold
abbrev pub period_of : ℤ → ℕ
period_of = place (minus 50 ∷ [])

-- "Warm-up minutes (000 Table 9; edges by 003): above 5; 5 to -5; below -5 to -10; below -10 to -15; below -15 to -20; below -20 to -25; below -25"
abbrev pub warmup_band : ℤ → ℕ
warmup_band = place (minus 50 ∷ minus 100 ∷ minus 150 ∷ minus 200 ∷ minus 250 ∷ [])

unfoldable pub lower_of : ℤ → ℤ → ℤ
lower_of x y = if_then_else (lt_z x y) x y

unfoldable pub lowest_to : List ℤ → ℕ → ℤ
lowest_to ts zero = get_or ts 0 (pos 0)
lowest_to ts (suc n) = lower_of (get_or ts n (pos 0)) (lowest_to ts n)

abbrev pub lowest_of : List ℤ → ℤ
lowest_of ts = lowest_to ts 12
