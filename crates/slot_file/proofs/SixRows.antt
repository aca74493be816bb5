-- The questions of a group's coefficient links, one link after another. Assumes nothing.
use Rattle.std.proofs.Common.{ℕ, zero, suc, ◌+◌, ◌<◌, arith, add-one, ◌≡◌, List}
use native.Mathlib.Decide.{dec_lt}
use Rattle.sums.specs.declared.answer.Refusal.{Refusal}
use Rattle.slot_file.specs.Questions.{coefficient_asks, rows_asks}
use Rattle.slot_file.specs.Meaning.{AllYes, FirstNo}
use Rattle.slot_file.proofs.Asking.{all_append, all_left, all_right, no_before, no_after}

module _ (s : List ℕ) (g : ℕ) where
  pub rows_yes : (n : ℕ) → AllYes (rows_asks s g n) → AllYes (coefficient_asks s g n) → AllYes (rows_asks s g (n + 1))
  unfolding rows_asks
  rows_yes n a b = rw add-one (all_append (rows_asks s g n) (coefficient_asks s g n) a b)

  pub rows_no : {r : Refusal} (m n : ℕ) → n < m → AllYes (rows_asks s g n) → FirstNo (coefficient_asks s g n) r → FirstNo (rows_asks s g m) r
  unfolding rows_asks
  rows_no zero n h a f = absurd (omega arith)
  rows_no (suc m) n h a f =
      elim (dec_lt n m) [
        | yes l ↦ no_before (rows_asks s g m) (coefficient_asks s g m) (rows_no m n l a f)
        | no l ↦ (let e : m ≡ n = omega arith in rw e (no_after (rows_asks s g n) (coefficient_asks s g n) a f))
      ]

  pub row_yes : (m n : ℕ) → n < m → AllYes (rows_asks s g m) → AllYes (coefficient_asks s g n)
  unfolding rows_asks
  row_yes zero n h a = absurd (omega arith)
  row_yes (suc m) n h a =
      elim (dec_lt n m) [
        | yes l ↦ row_yes m n l (all_left (rows_asks s g m) (coefficient_asks s g m) a)
        | no l ↦ (let e : m ≡ n = omega arith in rw e at (all_right (rows_asks s g m) (coefficient_asks s g m) a))
      ]
