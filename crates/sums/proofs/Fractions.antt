-- Fractions by their whole numbers of parts: each operation on fractions is one on the numerators over a common denominator, so a formula's
-- number of parts is found by a term that is written as the formula is. Assumes nothing.
use Rattle.std.proofs.Common.{◌≡◌, ℕ, zero, suc, ◌+◌, ◌*◌, ◌/◌, ◌<◌, sym, refl, ap, ◌∙◌, mul-pos, mul-div_cancel, arith, lit<}
use Rattle.sums.specs.Choice.{sum_to}
use Rattle.sums.specs.Fraction.{Frac, ◌over◌, ◌⊙◌, ◌⊞◌, ◌≈◌, ◌per◌, total_to, parts_of}

pub ≈_refl : (n d : ℕ) → 0 < d → (n over d) ≈ (n over d)
≈_refl n d p = record { left = p; right = p; cross = refl }

pub ≈_⊙ : {x y : Frac} {a b d e : ℕ} → x ≈ (a over d) → y ≈ (b over e) → x ⊙ y ≈ ((a * b) over (d * e))
≈_⊙ {x} {y} {a} {e = e} p q = record {
  left = mul-pos p.left q.left;
  right = mul-pos p.right q.right;
  cross = omega (arith, ap (λ (k : ℕ). k * (y.num * e)) p.cross, ap (λ (k : ℕ). k * (a * x.den)) q.cross);
}

pub ≈_⊞ : {x y : Frac} {a b d : ℕ} → x ≈ (a over d) → y ≈ (b over d) → x ⊞ y ≈ ((a + b) over d)
≈_⊞ {x} {y} p q = record {
  left = mul-pos p.left q.left;
  right = p.right;
  cross = omega (arith, ap (λ (k : ℕ). k * y.den) p.cross, ap (λ (k : ℕ). k * x.den) q.cross);
}

pub ≈_per : {x : Frac} {a d : ℕ} (k : ℕ) → 0 < k → x ≈ (a over d) → x per k ≈ (a over (d * k))
≈_per k h p = record { left = mul-pos p.left h; right = mul-pos p.right h; cross = omega (arith, ap (λ (n : ℕ). n * k) p.cross) }

-- the same number over another denominator
pub ≈_over : {x : Frac} {a d : ℕ} (b e : ℕ) → 0 < e → a * e ≡ b * d → x ≈ (a over d) → x ≈ (b over e)
≈_over {x} {a} {d} b e p f h =
    let g : x.num * e * d ≡ b * x.den * d = omega (arith, ap (λ (k : ℕ). k * e) h.cross, ap (λ (k : ℕ). k * x.den) f) in
    record {
      left = h.left;
      right = p;
      cross = sym (mul-div_cancel (x.num * e) h.right) ∙ ap (λ (k : ℕ). k / d) g ∙ mul-div_cancel (b * x.den) h.right;
    }

pub total_to_parts : (f : ℕ → Frac) (g : ℕ → ℕ) (d : ℕ) → 0 < d → (n : ℕ) → ((i : ℕ) → i < n → f i ≈ (g i over d)) → total_to n f ≈ (sum_to n g over d)
unfolding total_to sum_to
total_to_parts f g d p zero h = record { left = lit< tt; right = p; cross = omega arith }
total_to_parts f g d p (suc n) h = ≈_⊞ (total_to_parts f g d p n (λ (i : ℕ) (q : i < n). h i (omega arith))) (h n (omega arith))

-- so many whole parts are what it has
pub parts : {x : Frac} {n d : ℕ} → x ≈ (n over d) → parts_of d x ≡ n
unfolding parts_of
parts {x} {n} e = ap (λ (k : ℕ). k / x.den) e.cross ∙ mul-div_cancel n e.left
