-- A choice follows from its test; all of a list's tests, from the one; sums and tests up to n, one step at a time.
-- Assumes nothing.
use Rattle.std.proofs.Common.{◌≡◌, ℕ, zero, suc, sum, ◌+◌, ◌*◌, ◌<◌, ◌≤◌, Bool, true, false, ◌&&◌, T, leb, List, [], ◌∷◌, map, length, get_or, set, sym, refl, ap, ◌∙◌, subst, ⊎_elim, zero-le, le_of_suc-le-suc, not-suc-le-zero, eq-or-lt_of_le, le_of_mul-le-mul_right, add-one, arith, get_or-set_other, get_or-set_same, below_more, leb-true}
use Rattle.std.proofs.Math.Bool.{and-true, and_assoc}
use Rattle.std.proofs.lemmas.List.Sums.{sum_by-cons}
use Rattle.std.specs.List.{fold, list_all, zip}
use Rattle.sums.specs.Choice.{if_then_else, all_from, all_of, all_to, sum_to, list_to}

pub yes : {A : Type 0} (t : Bool) (r a b : A) → t ≡ true → r ≡ a → r ≡ if_then_else t a b
unfolding if_then_else
yes t r a b h e = simp h e

pub no : {A : Type 0} (t : Bool) (r a b : A) → t ≡ false → r ≡ b → r ≡ if_then_else t a b
unfolding if_then_else
no t r a b h e = simp h e

-- what holds of both outcomes, each by its test
pub cases : {A : Type 0} (P : A → Type 0) (t : Bool) {a b : A} → (t ≡ true → P a) → (t ≡ false → P b) → P (if_then_else t a b)
unfolding if_then_else
cases P true p q = p refl
cases P false p q = q refl

-- what holds of both outcomes
pub both : {A : Type 0} (P : A → Type 0) (t : Bool) {a b : A} → P a → P b → P (if_then_else t a b)
both P t p q = cases P t (λ _. p) (λ _. q)

pub left : (a b : Bool) → (a && b) ≡ true → a ≡ true
left true b h = refl
left false b h = h

pub right : (a b : Bool) → (a && b) ≡ true → b ≡ true
right true b h = h
right false b h = absurd (subst T (sym h) tt)

first : (b : Bool) (ts : List Bool) → all_from b ts ≡ true → b ≡ true
first b [] h = h
first b (t ∷ ts) h = left b t (first (b && t) ts h)

from : (b : Bool) (ts : List Bool) → all_from b ts ≡ true → (k : ℕ) → get_or ts k true ≡ true
from b [] h k = refl
from b (t ∷ ts) h zero = right b t (first (b && t) ts h)
from b (t ∷ ts) h (suc k) = from (b && t) ts h k

-- the test at each place of a list whose tests all hold
pub nth : (ts : List Bool) → all_of ts ≡ true → (k : ℕ) → get_or ts k true ≡ true
nth = from true

-- a bound of each number of a list
pub each : (b : ℕ) (l : List ℕ) → all_of (map (λ (n : ℕ). leb n b) l) ≡ true → (i : ℕ) → get_or l i 0 ≤ b
each b l h i = at l i (nth (map (λ (n : ℕ). leb n b) l) h i)
  where
    at : (l : List ℕ) (i : ℕ) → get_or (map (λ (n : ℕ). leb n b) l) i true ≡ true → get_or l i 0 ≤ b
    at [] i e = zero-le
    at (n ∷ l) zero e = leb-true n b e
    at (n ∷ l) (suc i) e = at l i e

pub all_to_at : (n : ℕ) (f : ℕ → Bool) → all_to n f ≡ true → (k : ℕ) → k < n → f k ≡ true
unfolding all_to
all_to_at zero f h k p = absurd (not-suc-le-zero p)
all_to_at (suc n) f h k p =
    ⊎_elim (λ (e : k ≡ n). rw e (right (all_to n f) (f n) h)) (λ (q : k < n). all_to_at n f (left (all_to n f) (f n) h) k q)
    (eq-or-lt_of_le (le_of_suc-le-suc p))

pub all_to_of : (n : ℕ) (f : ℕ → Bool) → ((k : ℕ) → k < n → f k ≡ true) → all_to n f ≡ true
unfolding all_to
all_to_of zero f h = refl
all_to_of (suc n) f h = rw (all_to_of n f (λ (k : ℕ) (p : k < n). h k (omega arith)), h n (omega arith))

all_to_front : (n : ℕ) (f : ℕ → Bool) → all_to (suc n) f ≡ (f 0 && all_to n (λ (i : ℕ). f (suc i)))
unfolding all_to
all_to_front zero f = sym (and-true (f 0))
all_to_front (suc n) f = rw (all_to_front n f) (and_assoc (f 0) (all_to n (λ (i : ℕ). f (suc i))) (f (suc n)))

-- the tests of a list's items are those at its places
pub all_to_list : {A : Type 0} (d : A) (p : A → Bool) (n : ℕ) (f : ℕ → Bool) (l : List A) → length l ≡ n → ((m : ℕ) → m < n → p (get_or l m d) ≡ f m) → list_all p l ≡ all_to n f
unfolding all_to
all_to_list d p zero f [] e h = refl
all_to_list d p zero f (a ∷ l) e h = absurd (omega arith)
all_to_list d p (suc n) f [] e h = absurd (omega arith)
all_to_list d p (suc n) f (a ∷ l) e h =
    rw (h zero (omega arith), all_to_list d p n (λ (m : ℕ). f (suc m)) l (omega arith) (λ (m : ℕ) (q : m < n). h (suc m) (omega arith)))
    (sym (all_to_front n f))

-- the tests of two lists' items, pair by pair
pub all_to_pairs : {A B : Type 0} (d : A) (e : B) (p : A → B → Bool) (n : ℕ) (l : List A) (k : List B) → length l ≡ n → length k ≡ n
    → list_all (λ (x : A × B). p x.0 x.1) (zip l k) ≡ all_to n (λ (m : ℕ). p (get_or l m d) (get_or k m e))
unfolding all_to
all_to_pairs d e p zero [] k g h = refl
all_to_pairs d e p zero (a ∷ l) k g h = absurd (omega arith)
all_to_pairs d e p (suc n) [] k g h = absurd (omega arith)
all_to_pairs d e p (suc n) (a ∷ l) [] g h = absurd (omega arith)
all_to_pairs d e p (suc n) (a ∷ l) (b ∷ k) g h =
    rw (all_to_pairs d e p n l k (omega arith) (omega arith))
    (sym (all_to_front n (λ (m : ℕ). p (get_or (a ∷ l) m d) (get_or (b ∷ k) m e))))

all_from_map : {A : Type 0} (p : A → Bool) (b : Bool) (l : List A) → (b && list_all p l) ≡ all_from b (map p l)
all_from_map p b [] = and-true b
all_from_map p b (a ∷ l) = sym (and_assoc b (p a) (list_all p l)) ∙ all_from_map p (b && p a) l

-- the tests of a list's items are the one test of all
pub all_of_map : {A : Type 0} (p : A → Bool) (l : List A) → list_all p l ≡ all_of (map p l)
all_of_map p l = all_from_map p true l

-- and so are the tests one after the other
pub fold_tests : {A : Type 0} (p : A → Bool) (b : Bool) (l : List A) → fold (λ (ok : Bool) (a : A). ok && p a) b l ≡ all_from b (map p l)
fold_tests p b [] = refl
fold_tests p b (a ∷ l) = fold_tests p (b && p a) l

pub sum_to_step : (n : ℕ) (f : ℕ → ℕ) → sum_to (n + 1) f ≡ sum_to n f + f n
unfolding sum_to
sum_to_step n f = rw add-one

pub sum_to_front : (n : ℕ) (f : ℕ → ℕ) → sum_to (suc n) f ≡ f 0 + sum_to n (λ (i : ℕ). f (suc i))
unfolding sum_to
sum_to_front zero f = omega arith
sum_to_front (suc n) f = omega (arith, sum_to_front n f)

pub sum_to_list : (n : ℕ) (l : List ℕ) → length l ≡ n → sum l ≡ sum_to n (λ (i : ℕ). get_or l i 0)
unfolding sum_to
sum_to_list zero [] e = refl
sum_to_list zero (a ∷ l) e = absurd (omega arith)
sum_to_list (suc n) [] e = absurd (omega arith)
sum_to_list (suc n) (a ∷ l) e =
    let s : sum l ≡ sum_to n (λ (i : ℕ). get_or l i 0) = sum_to_list n l (omega arith) in
    sum_by-cons (λ (x : ℕ). x) a l ∙ (ap (λ (k : ℕ). a + k) s ∙ sym (sum_to_front n (λ (i : ℕ). get_or (a ∷ l) i 0)))

pub sum_to_times : (k : ℕ) (f : ℕ → ℕ) (n : ℕ) → sum_to n (λ (i : ℕ). f i * k) ≡ sum_to n f * k
unfolding sum_to
sum_to_times k f zero = omega arith
sum_to_times k f (suc n) = omega (arith, sum_to_times k f n)

pub sum_to_bound : (b : ℕ) (f : ℕ → ℕ) (n : ℕ) → ((i : ℕ) → i < n → f i ≤ b) → sum_to n f ≤ n * b
unfolding sum_to
sum_to_bound b f zero h = omega arith
sum_to_bound b f (suc n) h =
    let e = sum_to_bound b f n (λ (i : ℕ) (p : i < n). h i (omega arith)) in
    let l = h n (omega arith) in
    omega arith

-- n numbers of which each is at most an n-th of b
pub sum_to_share : (b : ℕ) (f : ℕ → ℕ) (n : ℕ) → 0 < n → ((i : ℕ) → i < n → n * f i ≤ b) → sum_to n f ≤ b
sum_to_share b f n z h =
    le_of_mul-le-mul_right (omega (arith, sum_to_times n f n, sum_to_bound b (λ (i : ℕ). f i * n) n (λ (i : ℕ) (p : i < n). omega (arith, h i p)))) z

-- a list that a loop fills: one place more, and all of them
module _ {A : Type 0} (d : A) where
  pub filled : (l : List A) (i : ℕ) (a : A) (f : ℕ → A) → i < length l → ((m : ℕ) → m < i → get_or l m d ≡ f m) → a ≡ f i → (m : ℕ) → m < i + 1 → get_or (set l i a) m d ≡ f m
  filled l i a f p h e =
      below_more (λ (m : ℕ). get_or (set l i a) m d ≡ f m) i (λ (m : ℕ) (q : m < i). get_or-set_other l i m a d (λ r. omega arith) ∙ h m q) (get_or-set_same l i a d p ∙ e)

  pub list_to_is : (n : ℕ) (l : List A) (f : ℕ → A) → length l ≡ n → ((m : ℕ) → m < n → get_or l m d ≡ f m) → l ≡ list_to n f
  unfolding list_to
  list_to_is zero [] f e h = refl
  list_to_is zero (a ∷ l) f e h = absurd (omega arith)
  list_to_is (suc n) [] f e h = absurd (omega arith)
  list_to_is (suc n) (a ∷ l) f e h =
      rw (h zero (omega arith), list_to_is n l (λ (m : ℕ). f (suc m)) (omega arith) (λ (m : ℕ) (p : m < n). h (suc m) (omega arith)))

  pub list_to_at : (n : ℕ) (f : ℕ → A) (m : ℕ) → m < n → get_or (list_to n f) m d ≡ f m
  unfolding list_to
  list_to_at zero f m p = absurd (not-suc-le-zero p)
  list_to_at (suc n) f zero p = refl
  list_to_at (suc n) f (suc m) p = list_to_at n (λ (k : ℕ). f (suc k)) m (le_of_suc-le-suc p)

-- two lists that are the same place by place
pub list_to_same : {A : Type 0} (n : ℕ) (f g : ℕ → A) → ((i : ℕ) → i < n → f i ≡ g i) → list_to n f ≡ list_to n g
unfolding list_to
list_to_same zero f g h = refl
list_to_same (suc n) f g h = rw (h 0 (omega arith), list_to_same n (λ (i : ℕ). f (suc i)) (λ (i : ℕ). g (suc i)) (λ (i : ℕ) (p : i < n). h (suc i) (omega arith)))
