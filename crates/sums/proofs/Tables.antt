-- A table in whole parts of one denominator. The code's lookup goes by the place of a band, and one law takes it to the papers' table. One computed test over
-- a table says that each entry is a whole number of parts and how large it is at most. Assumes nothing.
use Rattle.std.proofs.Common.{◌≡◌, ℕ, zero, suc, ◌*◌, ◌%◌, ◌<◌, ◌≤◌, Bool, true, false, ◌&&◌, eqb, ltb, leb, List, [], ◌∷◌, ◌++◌, map, length, get_or, refl, ap, ◌∙◌, suc-le-suc, zero-le, div-add-mod', arith, lit<, ltb-true, eqb-true, leb-true}
use Rattle.sums.specs.Choice.{if_then_else, all_of}
use Rattle.sums.specs.Fraction.{Frac, whole, ◌over◌, ◌≈◌, parts_of}
use Rattle.sums.specs.Table.{Line, up_to, line_of, bounds}
use Rattle.sums.proofs.Choices.{nth, left, right}

-- a table's values, with the one above its lines
abbrev pub values : List Line → Frac → List Frac
values ls above = map (λ (l : Line). l.value) ls ++ (above ∷ [])

-- and as whole parts of 1 / d
abbrev pub scale : ℕ → List Frac → List ℕ
scale d fs = map (parts_of d) fs

picked : (t : Bool) (v w : Frac) (k : ℕ) (vs : List Frac) → get_or vs k (whole 0) ≡ w → get_or (v ∷ vs) (if_then_else t 0 (suc k)) (whole 0) ≡ if_then_else t v w
unfolding if_then_else
picked true v w k vs e = refl
picked false v w k vs e = e

-- the value at x's band is the table's at x
column : (ls : List Line) (above : Frac) (x : ℕ) → get_or (values ls above) (line_of (bounds ls) x) (whole 0) ≡ up_to ls above x
unfolding line_of up_to
column [] above x = refl
column (l ∷ ls) above x = picked (leb x l.bound) l.value (up_to ls above x) (line_of (bounds ls) x) (values ls above) (column ls above x)

-- what is looked up in the whole parts is the whole parts of what is looked up
pub scaled_at : (d : ℕ) (fs : List Frac) (i : ℕ) → get_or (scale d fs) i 0 ≡ parts_of d (get_or fs i (whole 0))
unfolding parts_of
scaled_at d [] i = omega arith
scaled_at d (f ∷ fs) zero = refl
scaled_at d (f ∷ fs) (suc i) = scaled_at d fs i

pub looked_up : (d : ℕ) (ls : List Line) (above : Frac) (x : ℕ) → get_or (scale d (values ls above)) (line_of (bounds ls) x) 0 ≡ parts_of d (up_to ls above x)
looked_up d ls above x = scaled_at d (values ls above) (line_of (bounds ls) x) ∙ ap (parts_of d) (column ls above x)

-- x's band is one of the table's places
pub line_below : (bs : List ℕ) (x : ℕ) → line_of bs x < suc (length bs)
unfolding line_of if_then_else
line_below [] x = lit< tt
line_below (b ∷ bs) x = fits (leb x b) (line_of bs x) (length bs) (line_below bs x)
  where
    fits : (t : Bool) (k n : ℕ) → k < suc n → if_then_else t 0 (suc k) < suc (suc n)
    fits true k n h = suc-le-suc zero-le
    fits false k n h = suc-le-suc h

-- a whole number of parts of 1 / d, at most b of them
pub record Scaled (d b : ℕ) (x : Frac) : Type 0 where
  pub same : x ≈ (parts_of d x over d)
  pub most : parts_of d x ≤ b

abbrev scaled_tests : ℕ → ℕ → Frac → List Bool
scaled_tests d b x = ltb 0 d ∷ ltb 0 x.den ∷ eqb (x.num * d % x.den) 0 ∷ leb (parts_of d x) b ∷ []

-- THE test of a table
unfoldable pub all_scaled : ℕ → ℕ → List Frac → Bool
all_scaled d b [] = ltb 0 d
all_scaled d b (x ∷ l) = all_of (scaled_tests d b x) && all_scaled d b l

tested : (d b : ℕ) (x : Frac) → all_of (scaled_tests d b x) ≡ true → Scaled d b x
unfolding parts_of
tested d b x h =
    let t = nth (scaled_tests d b x) h in
    record {
      same = record {
        left = ltb-true 0 x.den (t 1);
        right = ltb-true 0 d (t 0);
        cross = omega (arith, div-add-mod' (x.num * d) x.den, eqb-true (x.num * d % x.den) 0 (t 2));
      };
      most = leb-true (parts_of d x) b (t 3);
    }

pub entry : (d b : ℕ) (l : List Frac) → all_scaled d b l ≡ true → (i : ℕ) → Scaled d b (get_or l i (whole 0))
unfolding all_scaled parts_of
entry d b [] h i = record { same = record { left = lit< tt; right = ltb-true 0 d h; cross = omega arith }; most = omega arith }
entry d b (x ∷ l) h zero = tested d b x (left (all_of (scaled_tests d b x)) (all_scaled d b l) h)
entry d b (x ∷ l) h (suc i) = entry d b l (right (all_of (scaled_tests d b x)) (all_scaled d b l) h) i

pub entry_up_to : (d b : ℕ) (ls : List Line) (above : Frac) → all_scaled d b (values ls above) ≡ true → (x : ℕ) → Scaled d b (up_to ls above x)
entry_up_to d b ls above h x = rw (column ls above x) at (entry d b (values ls above) h (line_of (bounds ls) x))
