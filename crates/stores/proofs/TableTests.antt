-- One computed test over each table: every entry is a whole number of parts of the code's denominator, and how many at most. With it stands what the
-- code looks up there, by number or by the place of a line, in the same parts. K6 alone is no table. Assumes nothing.
use Rattle.std.proofs.Common.{ℕ, suc, ◌+◌, ◌-◌, ◌<◌, ◌≤◌, arith, ◌≡◌, refl, true, eqb, lit<, lit≤, List, length, get_or}
use Rattle.sums.specs.Fraction.{Frac, ◌over◌, ◌≈◌, parts_of}
use Rattle.sums.specs.Table.{Line, up_to, line_of, bounds}
use Rattle.sums.proofs.Choices.{both}
use Rattle.sums.proofs.Fractions.{≈_refl, parts}
use Rattle.sums.proofs.Tables.{Scaled, all_scaled, entry, entry_up_to, scale, scaled_at, values, looked_up, line_below}
use Rattle.stores.specs.Rules.{numbered, k1_table, k2_table, q_table, k3_table, k4_table, k5_table, k6_of, k7_table, drop_table}

-- the entry of a table by its number, past its end too
pub record Numbered (d b : ℕ) (fs : List Frac) (n : ℕ) : Type 0 where
  pub at : get_or (scale d fs) (n - 1) 0 ≡ parts_of d (numbered fs n)
  pub same : numbered fs n ≈ (parts_of d (numbered fs n) over d)
  pub most : parts_of d (numbered fs n) ≤ b

by_number : (d b : ℕ) (fs : List Frac) → all_scaled d b fs ≡ true → (n : ℕ) → Numbered d b fs n
by_number d b fs h n = let s = entry d b fs h (n - 1) in record { at = scaled_at d fs (n - 1); same = s.same; most = s.most }

-- and of a table of lines at x
pub record Lined (d b : ℕ) (ls : List Line) (above : Frac) (x : ℕ) : Type 0 where
  pub place : line_of (bounds ls) x < suc (length (bounds ls))
  pub at : get_or (scale d (values ls above)) (line_of (bounds ls) x) 0 ≡ parts_of d (up_to ls above x)
  pub same : up_to ls above x ≈ (parts_of d (up_to ls above x) over d)
  pub most : parts_of d (up_to ls above x) ≤ b

by_line : (d b : ℕ) (ls : List Line) (above : Frac) → all_scaled d b (values ls above) ≡ true → (x : ℕ) → Lined d b ls above x
by_line d b ls above h x =
    let s = entry_up_to d b ls above h x in
    record { place = line_below (bounds ls) x; at = looked_up d ls above x; same = s.same; most = s.most }

pub k1_scaled : (material : ℕ) → Numbered 100 7 k1_table material
unfolding all_scaled parts_of
k1_scaled = by_number 100 7 k1_table refl

pub k2_scaled : (material : ℕ) → Numbered 100 3 k2_table material
unfolding all_scaled parts_of
k2_scaled = by_number 100 3 k2_table refl

pub q_scaled : (material : ℕ) → Numbered 1000 5 q_table material
unfolding all_scaled parts_of
q_scaled = by_number 1000 5 q_table refl

pub k3_scaled : (wind : ℕ) → Lined 10 23 k3_table (23 over 10) wind
unfolding all_scaled parts_of
k3_scaled = by_line 10 23 k3_table (23 over 10) refl

pub k4_scaled : (openness : ℕ) → Numbered 1000 1000 k4_table openness
unfolding all_scaled parts_of
k4_scaled = by_number 1000 1000 k4_table refl

pub k5_scaled : (moisture : ℕ) → Lined 100 100 k5_table (1 over 100) moisture
unfolding all_scaled parts_of
k5_scaled = by_line 100 100 k5_table (1 over 100) refl

pub k7_scaled : (grain : ℕ) → Lined 10 10 k7_table (1 over 10) grain
unfolding all_scaled parts_of
k7_scaled = by_line 10 10 k7_table (1 over 10) refl

pub drop_scaled : (class : ℕ) → Numbered 10 25 drop_table class
unfolding all_scaled parts_of
drop_scaled = by_number 10 25 drop_table refl

-- n d-ths, counted in d-ths
own : (d b n : ℕ) → 0 < d → n ≤ b → Scaled d b (n over d)
own d b n p h =
    let e = ≈_refl n d p in
    record { same = rw (parts e) e; most = rw (parts e) h }

k6_to : (b k : ℕ) → 130 ≤ b → k ≤ b → Scaled 100 b (k6_of k)
unfolding k6_of
k6_to b k l h = both (Scaled 100 b) (eqb k 0) (own 100 b 130 (lit< tt) l) (own 100 b k (lit< tt) h)

pub k6_scaled : (k : ℕ) → k ≤ 200 → Scaled 100 200 (k6_of k)
k6_scaled k h = k6_to 200 k (lit≤ tt) h

-- out of its range too
pub k6_same : (k : ℕ) → k6_of k ≈ (parts_of 100 (k6_of k) over 100)
k6_same k = (k6_to (130 + k) k (omega arith) (omega arith)).same
