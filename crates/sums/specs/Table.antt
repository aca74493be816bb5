-- A table of the papers: lines of values, looked up by a number that is up to a line's bound.
use Rattle.std.specs.Prelude.{ℕ, suc, List, [], ◌∷◌, map, nat_le}
use Rattle.sums.specs.Choice.{if_then_else}
use Rattle.sums.specs.Fraction.{Frac}

pub record Line : Type 0 where
  pub bound : ℕ
  pub value : Frac

abbrev pub to : ℕ → Frac → Line
to b v = record { bound = b; value = v }

-- the value of the first line that x is up to, the bound included, and else the one above them all
unfoldable pub up_to : List Line → Frac → ℕ → Frac
up_to [] above x = above
up_to (l ∷ ls) above x = if_then_else (nat_le x l.bound) l.value (up_to ls above x)

-- the place of that line
unfoldable pub line_of : List ℕ → ℕ → ℕ
line_of [] x = 0
line_of (b ∷ bs) x = if_then_else (nat_le x b) 0 (suc (line_of bs x))

abbrev pub bounds : List Line → List ℕ
bounds ls = map (λ (l : Line). l.bound) ls
