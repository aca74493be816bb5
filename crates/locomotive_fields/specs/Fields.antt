-- 02, U1: the ranges of a locomotive's fields, and question 14.
use Rattle.std.specs.Prelude.{ℕ, Bool, List, [], ◌∷◌, leb, eqb, get_or}
use Rattle.sums.specs.Choice.{all_of, all_to, sum_to}
use Rattle.locomotive_fields.specs.declared.fields.Locomotive.{Locomotive}

-- "five 16-bit time shares ... idle to full power": one for each mode of the engine
abbrev pub mode_count : ℕ
mode_count = 5

-- "of 0 to 1,000 thousandths"
unfoldable pub shares_in_range : List ℕ → Bool
shares_in_range shares = all_to mode_count (λ (k : ℕ). leb (get_or shares k 0) 1000)

-- "3 type, 1 to 4 ... 14..15 hours, 0 to 8,784; 16 is 1 for over two years old, else 0; 17 zone, 1 south of 44°, 2 others, 3 north of 60°"
abbrev pub locomotive_tests : Locomotive → List Bool
locomotive_tests l =
    leb 1 l.model ∷ leb l.model 4 ∷ shares_in_range l.shares ∷ leb l.hours 8784 ∷ leb l.old 1 ∷ leb 1 l.zone ∷ leb l.zone 3 ∷ []

unfoldable pub locomotive_in_range : Locomotive → Bool
locomotive_in_range l = all_of (locomotive_tests l)

-- "14 when a locomotive's shares don't total 1,000"
unfoldable pub shares_add_up : Locomotive → Bool
shares_add_up l = eqb (sum_to mode_count (λ (k : ℕ). get_or l.shares k 0)) 1000
