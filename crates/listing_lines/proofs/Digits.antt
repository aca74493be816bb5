-- A number's digits are those of the library, whose lemmas say how they go on and how many there are; and the same of digits with zeros in front.
-- Assumes nothing.
use Rattle.std.proofs.Common.{ℕ, zero, suc, ◌+◌, ◌-◌, ◌*◌, ◌/◌, ◌%◌, ◌^◌, ◌<◌, ◌≤◌, div-lt_iff_lt-mul, arith, ◌≡◌, sym, ap, ◌∙◌, [], ◌∷◌, ◌++◌, inl, inr, lt-ltb, le-ltb, lit<, pow-add, length, length-append}
use native.Mathlib.Nat.{one-le-pow}
use Rattle.std.specs.Fmt as fmt
use Rattle.std.proofs.lemmas.Bool.{cases_lt}
use Rattle.std.proofs.lemmas.Fmt.{AppendsLastDigit, decimal_from_appends, decimal_digit, decimal_step, length-decimal-le, length-decimal-le_succ}
use Rattle.sums.specs.Choice.{if_then_else}
use Rattle.slot_file.specs.Listing.{digits, decimal, padded}

appends : AppendsLastDigit digits
unfolding digits if_then_else
appends = record {
  one = λ k n h. rw (lt-ltb n 10 h);
  more = λ k n h. rw (le-ltb n 10 h);
}

short : (x : ℕ) → 0 < x → x < 2 ^ 64 → length (fmt.decimal x) ≤ x
short x p h = elim (cases_lt x 10) [
  | inl l ↦ rw (decimal_digit x l) (omega arith)
  | inr m ↦ omega (arith, simp length-append at (ap length (decimal_step x m h)), length-decimal-le_succ (x / 10) (omega arith))
]

pub same : (x : ℕ) → x < 2 ^ 64 → decimal x ≡ fmt.decimal x
unfolding digits
same zero h = sym (decimal_digit 0 (lit< tt))
same (suc n) h = decimal_from_appends digits appends (suc n) (suc n) h (short (suc n) (omega arith) h)

pub decimal_less : (x : ℕ) → x < 10 → decimal x ≡ (48 + x) ∷ []
decimal_less x h = same x (omega arith) ∙ decimal_digit x h

pub decimal_more : (x : ℕ) → 10 ≤ x → x < 2 ^ 64 → decimal x ≡ decimal (x / 10) ++ ((48 + x % 10) ∷ [])
decimal_more x h g = rw (same x g, same (x / 10) (omega arith)) (decimal_step x h g)

pub decimal_short : (k x : ℕ) → 0 < k → x < 10 ^ k → x < 2 ^ 64 → length (decimal x) ≤ k
decimal_short k x p h g = rw (same x g) (length-decimal-le k x p h g)

-- a number of 20 digits has n behind its point, and the rest before it
pub whole_short : (n p x : ℕ) → n < 20 → p ≡ 10 ^ n → x < 2 ^ 64 → length (decimal (x / p)) + n ≤ 20
whole_short n p x l q h =
    let k = 20 - n in
    let e : k + n ≡ 20 = omega arith in
    let g : x < 10 ^ k * 10 ^ n = rw (← pow-add 10 k n, e) (omega arith) in
    let s = decimal_short k (x / 10 ^ n) (omega arith) ((div-lt_iff_lt-mul (one-le-pow n 10 (lit< tt))).1 g) (omega arith) in
    rw q (omega arith)

pub padded_turn : (n x : ℕ) → 0 < n → padded n x ≡ (48 + x / 10 ^ (n - 1) % 10) ∷ padded (n - 1) x
unfolding padded
padded_turn zero x h = absurd (omega arith)
padded_turn (suc n) x h = let e : suc n - 1 ≡ n = omega arith in rw e

pub padded_end : (n x : ℕ) → n ≡ 0 → padded n x ≡ []
unfolding padded
padded_end n x e = rw e
