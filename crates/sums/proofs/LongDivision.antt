-- A division by steps of 16 bits: what is left of the bits so far goes on with the next ones, which are the quotient's last. Assumes nothing.
use Rattle.std.proofs.Common.{◌≡◌, ℕ, ◌+◌, ◌*◌, ◌/◌, ◌%◌, ◌^◌, ◌<◌, ◌≤◌, length, get_or, List, take, sym, ap, ◌∙◌, div-lt_iff_lt-mul, div-add-mod', arith}
use Rattle.std.specs.Prelude.{fold}
use Rattle.std.proofs.lemmas.List.Sums.{fold_more}
use native.Mathlib.Nat.{add-mul-div_right, add-mul-mod_self_right}
use Rattle.sums.specs.Arithmetic.{step_of}
use Rattle.sums.specs.Figures.{mixed_of}
use Rattle.sums.specs.declared.mixed.Mixed.{Mixed}

-- a digit has 16 bits
pub digit : (n d : ℕ) → 0 < d → n < d * 65536 → n / d ≤ 65535
digit n d z b = let k : n / d < 65536 = (div-lt_iff_lt-mul z).1 (omega (arith, b)) in omega (arith, k)

-- x and then these digits of 16 bits, the highest first
abbrev pub number : ℕ → List ℕ → ℕ
number = fold (λ (x bits : ℕ). x * 65536 + bits)

-- m is x over d, and so it is with 16 bits more
one_more : (d x bits : ℕ) {m next : Mixed} → 0 < d → m ≡ mixed_of d x → next ≡ step_of d m.part bits → next.whole ≤ 65535
    → record { whole = m.whole * 65536 % 2 ^ 64 + next.whole; part = next.part } ≡ mixed_of d (x * 65536 + bits)
unfolding mixed_of
one_more d x bits {m} {next} z e f u =
    let r = x % d * 65536 + bits in
    let n : x * 65536 + bits ≡ r + x / d * 65536 * d = omega (arith, div-add-mod' x d) in
    let q : next.whole ≡ r / d = ap (λ (k : Mixed). k.whole) f ∙ ap (λ (k : Mixed). (k.part * 65536 + bits) / d) e in
    let p : next.part ≡ r % d = ap (λ (k : Mixed). k.part) f ∙ ap (λ (k : Mixed). (k.part * 65536 + bits) % d) e in
    let w : m.whole ≡ x / d % 2 ^ 64 = ap (λ (k : Mixed). k.whole) e in
    let t : (x * 65536 + bits) / d ≡ r / d + x / d * 65536 = ap (λ (k : ℕ). k / d) n ∙ add-mul-div_right r (x / d * 65536) z in
    let v : m.whole * 65536 % 2 ^ 64 + next.whole ≡ (x * 65536 + bits) / d % 2 ^ 64 = omega (arith, w, q, t, u) in
    let s : next.part ≡ (x * 65536 + bits) % d = p ∙ sym (ap (λ (k : ℕ). k % d) n ∙ add-mul-mod_self_right r (x / d * 65536) d) in
    λ i. record { whole = v i; part = s i }

-- m is x and i digits over d, and so it is with the next one
pub next_digit : (d x : ℕ) (digits : List ℕ) (i : ℕ) {m next : Mixed} → 0 < d → i < length digits → m ≡ mixed_of d (number x (take i digits))
    → next ≡ step_of d m.part (get_or digits i 0) → next.whole ≤ 65535
    → record { whole = m.whole * 65536 % 2 ^ 64 + next.whole; part = next.part } ≡ mixed_of d (number x (take (i + 1) digits))
next_digit d x digits i z h e f u =
    one_more d _ _ z e f u ∙ ap (mixed_of d) (sym (fold_more (λ (y bits : ℕ). y * 65536 + bits) x digits i 0 h))
