-- Choices by a test, tests that all hold, and sums of whole numbers.
use Rattle.std.specs.Prelude.{ℕ, zero, suc, ◌+◌, Bool, true, false, ◌&&◌, List, [], ◌∷◌}

unfoldable pub if_then_else : {A : Type 0} → Bool → A → A → A
if_then_else true a b = a
if_then_else false a b = b

-- each of the tests holds
abbrev pub all_from : Bool → List Bool → Bool
all_from b [] = b
all_from b (t ∷ ts) = all_from (b && t) ts

abbrev pub all_of : List Bool → Bool
all_of = all_from true

-- each of f 0 .. f (n - 1) holds
unfoldable pub all_to : ℕ → (ℕ → Bool) → Bool
all_to zero f = true
all_to (suc n) f = all_to n f && f n

-- f 0 + .. + f (n - 1)
unfoldable pub sum_to : ℕ → (ℕ → ℕ) → ℕ
sum_to zero f = 0
sum_to (suc n) f = sum_to n f + f n

-- f 0, .., f (n - 1)
unfoldable pub list_to : {A : Type 0} → ℕ → (ℕ → A) → List A
list_to zero f = []
list_to (suc n) f = f 0 ∷ list_to n (λ (i : ℕ). f (suc i))
