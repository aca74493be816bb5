-- 01, "Figures": the codes of its listing, and the place of a code among them.
use Rattle.std.specs.Prelude.{ℕ, suc, List, [], ◌∷◌, eqb, length}
use Rattle.sums.specs.Choice.{if_then_else}

-- the codes in the listing's order
abbrev pub codes : List ℕ
codes = 152 ∷ 184 ∷ 301 ∷ 328 ∷ 330 ∷ 337 ∷ 2704 ∷ 2754 ∷ 2908 ∷ 2909 ∷ []

abbrev pub code_count : ℕ
code_count = length codes

-- the place of c in a list, or the list's length
unfoldable pub place_of : List ℕ → ℕ → ℕ
place_of [] c = 0
place_of (k ∷ ks) c = if_then_else (eqb c k) 0 (suc (place_of ks c))
