-- An array made of a function of its places is the list of what that gives. Assumes nothing.
use Rattle.std.proofs.Common.{◌≡◌, ◌∙◌, ℕ, zero, suc, ◌+◌, ◌<◌, zero-add, add-zero, List, get_or, arith}
use Rattle.std.specs.Array.{IsFromFnResult, IsFromFnResultFrom}
use Rattle.std.specs.Fn.{Called}
use denote.Param.Members.{Mut}
use Rattle.sums.specs.Choice.{list_to}
use Rattle.sums.proofs.Choices.{list_to_is}

module _ {F A : Type 0} (g : Mut F (ℕ × Unit {0}) A) (d : A) (h : ℕ → A) (P : F → Type 0)
    (step : (i : ℕ) (y : A) (p q : F) → P p → Called g p (i, tt) y q → (y ≡ h i) × P q) where
  at_place : (ys : List A) (i n : ℕ) (p : F) → P p → IsFromFnResultFrom g p ys i n → (m : ℕ) → m < n → get_or ys (i + m) d ≡ h (i + m)
  at_place ys i zero p a r m l = absurd (omega arith)
  at_place ys i (suc n) p a r zero l = rw add-zero (r.2.1 d ∙ (step i r.1 p r.0 a r.3).0)
  at_place ys i (suc n) p a r (suc m) l =
      let e : i + 1 + m ≡ i + suc m = omega arith in
      rw e at (at_place ys (i + 1) n r.0 (step i r.1 p r.0 a r.3).1 r.4 m (omega arith))

  pub made : (f : F) (ys : List A) (n : ℕ) → P f → IsFromFnResult g f ys n → ys ≡ list_to n h
  made f ys n a r = list_to_is d n ys h r.long (λ (m : ℕ) (l : m < n). rw zero-add at (at_place ys 0 n f a r.each m l))
