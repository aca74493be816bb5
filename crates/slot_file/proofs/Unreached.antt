-- Question 12 in other words: of an accepted file every slot from 1 up is among the sources and their coefficients, and a refusal 12 names the lowest that is not.
-- By counting up the questions. Assumes nothing.
use Rattle.std.proofs.Common.{ℕ, zero, suc, ◌+◌, ◌-◌, ◌≤◌, ◌<◌, ◌≡◌, ap, List, true, false, arith}
use native.Mathlib.Decide.{dec_lt}
use Rattle.sums.specs.declared.answer.Reason.TheVariants.{Unreached}
use Rattle.sums.specs.declared.answer.Refusal.{Refusal}
use Rattle.slot_file.specs.Sources.{Chains}
use Rattle.slot_file.specs.Questions.{question, slot_count, member, reached_of, reach_asks, last_asks}
use Rattle.slot_file.specs.Meaning.{AllYes, FirstNo, Accepts}
use Rattle.slot_file.specs.Demands.{LowestUnreached}
use Rattle.slot_file.proofs.Asking.{split, none}

all_in : (n i : ℕ) (l : List ℕ) → AllYes (reach_asks n i l) → (j : ℕ) → i ≤ j → j < i + n → member j l ≡ true
unfolding reach_asks
all_in zero i l a j p q = absurd (omega arith)
all_in (suc n) i l a j p q =
    elim (dec_lt i j) [ yes h ↦ all_in n (i + 1) l a.1 j (omega arith) (omega arith) | no h ↦ (let e : i ≡ j = omega arith in rw e at a.0) ]

-- every slot from 1 up is reached
pub all_reached : (s : List ℕ) (c : Chains) → Accepts s c → (j : ℕ) → 1 ≤ j → j < slot_count s → member j (reached_of s c) ≡ true
unfolding last_asks
all_reached s c a j p q = all_in (slot_count s - 1) 1 (reached_of s c) a.last j p (omega arith)

record Lowest (n i : ℕ) (l : List ℕ) (k : ℕ) : Type 0 where
  from : i ≤ k
  below : k < i + n
  out : member k l ≡ false
  lower : (j : ℕ) → i ≤ j → j < k → member j l ≡ true

lowest_no : (n i : ℕ) (l : List ℕ) (r : Refusal) → FirstNo (reach_asks n i l) r → Lowest n i l r.slot
unfolding reach_asks
lowest_no zero i l r f = none r f
lowest_no (suc n) i l r f =
    split (question (member i l) Unreached i) (reach_asks n (i + 1) l) r f
    (λ e p.
    let q : r.slot ≡ i = ap (λ (x : Refusal). x.slot) p in
    record { from = omega arith; below = omega arith; out = rw q e; lower = λ j a b. absurd (omega arith) })
    (λ e g.
    let h = lowest_no n (i + 1) l r g in
    record {
      from = omega arith;
      below = omega arith;
      out = h.out;
      lower = λ j a b. elim (dec_lt i j) [ yes p ↦ h.lower j (omega arith) b | no p ↦ (let d : i ≡ j = omega arith in rw d at e) ];
    })

-- the slot of a refusal by the last questions is the lowest that is not reached
pub lowest_unreached : (s : List ℕ) (c : Chains) (r : Refusal) → FirstNo (last_asks s c) r → LowestUnreached s c r.slot
unfolding last_asks
lowest_unreached s c r f =
    let h = lowest_no (slot_count s - 1) 1 (reached_of s c) r f in
    record { from = h.from; below = omega arith; out = h.out; lower = h.lower }
