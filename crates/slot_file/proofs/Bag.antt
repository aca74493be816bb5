-- Two lists with the same elements, each as often, have the same total of any f: one element after another is taken out of both. A count is a total, so one
-- law serves the totals and the counts. Assumes nothing.
use Rattle.std.proofs.Common.{ℕ, zero, suc, ◌+◌, ◌<◌, ◌≡◌, refl, sym, ap, ◌∙◌, List, [], ◌∷◌, ◌++◌, Bool, true, false, ◌&&◌, arith, eqb, length, eqb-true}
use Rattle.slot_file.specs.Alike.{total, bit, count, all, alike}

pub total_append : {A : Type 0} (f : A → ℕ) (l m : List A) → total f (l ++ m) ≡ total f l + total f m
total_append f [] m = omega arith
total_append f (x ∷ xs) m = omega (arith, total_append f xs m)

module _ {A : Type 0} (same : A → A → Bool) (sound : (x y : A) → same x y ≡ true → x ≡ y) (reflexive : (x : A) → same x x ≡ true) where
  -- the list without its first x
  drop1 : A → List A → List A
  drop1 x [] = []
  drop1 x (y ∷ ys) = elim (same x y) [ true ↦ ys | false ↦ y ∷ drop1 x ys ]

  total_drop1 : (f : A → ℕ) (x : A) (l : List A) → 0 < count same x l → total f l ≡ f x + total f (drop1 x l)
  unfolding drop1
  total_drop1 f x [] h = omega arith
  total_drop1 f x (y ∷ ys) h = go (total_drop1 f x ys) (same x y) refl h
    where
      go : (0 < count same x ys → total f ys ≡ f x + total f (drop1 x ys)) → (b : Bool) → same x y ≡ b → 0 < bit b + count same x ys → f y + total f ys ≡ f x + total f (elim b [ true ↦ ys | false ↦ y ∷ drop1 x ys ])
      go ih true e k = ap (λ (z : A). f z + total f ys) (sym (sound x y e))
      go ih false e k = omega (arith, ih (omega arith))

  total_same : (f : A → ℕ) (l m : List A) → ((z : A) → count same z l ≡ count same z m) → total f l ≡ total f m
  total_same f [] [] h = refl
  total_same f [] (y ∷ ys) h = omega (arith, h y, ap bit (reflexive y))
  total_same f (x ∷ xs) m h =
      let at : 0 < count same x m = omega (arith, h x, ap bit (reflexive x)) in
      omega (arith, total_drop1 f x m at, total_same f xs (drop1 x m) (λ z. omega (arith, h z, total_drop1 (λ (y : A). bit (same z y)) x m at)))

  -- an element that is found passes what every element passes
  all_at : (p : A → Bool) (z : A) (l : List A) → all p l ≡ true → 0 < count same z l → p z ≡ true
  all_at p z [] e h = absurd (omega arith)
  all_at p z (x ∷ xs) e h = go (all_at p z xs) (p x) refl (same z x) refl e h
    where
      go : (all p xs ≡ true → 0 < count same z xs → p z ≡ true)
          → (a : Bool) → p x ≡ a → (b : Bool) → same z x ≡ b → (a && all p xs) ≡ true → 0 < bit b + count same z xs → p z ≡ true
      go ih true d true k e h = ap p (sound z x k) ∙ d
      go ih true d false k e h = ih e (omega arith)
      go ih false d b k e h = cc

  pub alike_total : (f : A → ℕ) (l m : List A) → alike same l m ≡ true → total f l ≡ total f m
  alike_total f l m e = total_same f l m (λ z. each z (count same z (l ++ m)) refl)
    where
      each : (z : A) (n : ℕ) → count same z (l ++ m) ≡ n → count same z l ≡ count same z m
      each z zero k = omega (arith, total_append (λ (y : A). bit (same z y)) l m)
      each z (suc n) k = eqb-true _ _ (all_at (λ (y : A). eqb (count same y l) (count same y m)) z (l ++ m) e (omega arith))

  length_total : (l : List A) → length l ≡ total (λ (x : A). 1) l
  length_total [] = refl
  length_total (x ∷ xs) = omega (arith, length_total xs)

  pub alike_length : (l m : List A) → alike same l m ≡ true → length l ≡ length m
  alike_length l m e = length_total l ∙ alike_total (λ (x : A). 1) l m e ∙ sym (length_total m)
