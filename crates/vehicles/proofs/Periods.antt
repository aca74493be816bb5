-- A month adds to its own period alone. So a sum over the periods, each with its coefficient, is the sum over the months, each with its period's
-- coefficient; and what each month has at most bounds the periods together. Assumes nothing.
use Rattle.std.proofs.Common.{ℕ, zero, suc, ◌+◌, ◌*◌, ◌<◌, ◌≤◌, zero-le, le_refl, arith, ◌≡◌, ap, ◌∙◌, List, eqb-true, eqb, lit<, get_or, set, length, get_or-set_same, get_or-set_other}
use borrow.Author.Tests.{eqb-false}
use Rattle.sums.specs.Choice.{if_then_else, sum_to, list_to}
use Rattle.sums.proofs.Choices.{both, cases, sum_to_step, sum_to_bound}
use Rattle.sums.proofs.Products.{◌⊗◌}
use Rattle.vehicle_fields.specs.declared.group.Group.{Group}
use Rattle.vehicle_fields.specs.declared.group.Coefficients.{Coefficients}
use Rattle.warmups.specs.Parts.{period_in, TimesInRange}
use Rattle.warmups.proofs.Decided.{number_below, tenths_most}
use Rattle.vehicles.specs.Parts.{in_period, day_run, month_period, month_warmup, month_run, month_idle, activity_of, warmup_parts, run_parts, GroupInRange, CoefficientsInRange, ActivityInRange}
use Rattle.vehicles.specs.declared.activity.Activity.{Activity}
use Rattle.vehicles.proofs.Ranges.{three}

module _ (g : Group) (bs : List ℕ) (f : ℕ → ℕ) where
  -- the totals of the periods in a list, with one month more, whose period is q
  pub added : {A : Type 0} (d : A) (of : ℕ → A) (l : List A) (n q : ℕ) (v : A) → q ≡ month_period g bs n → q < length l →
      ((p : ℕ) → p < 3 → get_or l p d ≡ of (in_period g bs f n p)) → v ≡ of (in_period g bs f n q + f n) →
      (p : ℕ) → p < 3 → get_or (set l q v) p d ≡ of (in_period g bs f (n + 1) p)
  unfolding in_period
  added d of l n q v r b h e p k =
      rw (sum_to_step n (λ (m : ℕ). if_then_else (eqb p (month_period g bs m)) (f m) 0), ← r)
      (cases (λ (x : ℕ). get_or (set l q v) p d ≡ of (in_period g bs f n p + x)) (eqb p q)
      (λ y. rw (eqb-true p q y) (get_or-set_same l q v d b ∙ e))
      (λ y. get_or-set_other l q p v d (eqb-false p q y) ∙ h p k ∙ ap of (omega arith)))

  pub by_months : (a : ℕ → ℕ) (n : ℕ) → sum_to 3 (λ (p : ℕ). a p * in_period g bs f n p) ≡ sum_to n (λ (m : ℕ). a (month_period g bs m) * f m)
  unfolding sum_to in_period if_then_else
  by_months a zero = omega arith
  by_months a (suc n) =
      let e = by_months a n in
      three (λ (q : ℕ). sum_to 3 (λ (p : ℕ). a p * (in_period g bs f n p + if_then_else (eqb p q) (f n) 0)) ≡ sum_to n (λ (m : ℕ). a (month_period g bs m) * f m) + a q * f n)
      (omega arith) (omega arith) (omega arith) (month_period g bs n) (number_below (period_in g (get_or bs n 0)))

  -- what bounds each month bounds a period, and the three together
  pub alone : (b n : ℕ) → ((m : ℕ) → m < n → f m ≤ b) → (p : ℕ) → in_period g bs f n p ≤ n * b
  unfolding in_period
  alone b n h p = sum_to_bound b _ n (λ (m : ℕ) (l : m < n). both (λ (x : ℕ). x ≤ b) (eqb p (month_period g bs m)) (h m l) zero-le)

  pub together : (b n : ℕ) → ((m : ℕ) → m < n → f m ≤ b) → sum_to 3 (in_period g bs f n) ≤ n * b
  unfolding sum_to
  together b n h = omega (arith, by_months (λ (p : ℕ). 1) n, sum_to_bound b (λ (m : ℕ). 1 * f m) n (λ (m : ℕ) (p : m < n). omega (arith, h m p)))

-- coefficients up to b over no more than n together
weighted : (b n : ℕ) (a s : ℕ → ℕ) → ((p : ℕ) → p < 3 → a p ≤ b) → sum_to 3 s ≤ n → sum_to 3 (λ (p : ℕ). a p * s p) ≤ b * n
unfolding sum_to
weighted b n a s h e =
    omega (arith, h 0 (lit< tt) ⊗ le_refl (s 0), h 1 (lit< tt) ⊗ le_refl (s 1), h 2 (lit< tt) ⊗ le_refl (s 2), le_refl b ⊗ e)

module _ (k : Coefficients) (a : Activity) (h : CoefficientsInRange k) (e : ActivityInRange a) where
  pub warmup_parts_lem : warmup_parts k a ≤ 111600000000
  warmup_parts_lem = weighted 1000000 111600 _ _ h.warmup e.warmup

  pub run_parts_lem : run_parts k a ≤ 29760000000000
  run_parts_lem = weighted 1000000 29760000 _ _ h.run e.run

  pub idle_parts : k.idle.0 * a.idle.0 ≤ 186000000000
  idle_parts = h.idle ⊗ e.idle

-- what a group in range does in a day, in a month and in a year
module _ (g : Group) (r : GroupInRange g) where
  pub day_run_lem : (day_run g).0 ≤ 80000
  day_run_lem = omega arith

  pub run_most : (m : ℕ) → m < 12 → month_run g m ≤ 2480000
  run_most m p = r.days m p ⊗ day_run_lem

  pub idle_most : (m : ℕ) → m < 12 → month_idle g m ≤ 15500
  idle_most m p = r.days m p ⊗ (le_refl 2 ⊗ r.idle)

  pub idle_so_far : (n : ℕ) → n ≤ 12 → sum_to n (month_idle g) ≤ 186000
  idle_so_far n l = omega (arith, sum_to_bound 15500 (month_idle g) n (λ m q. idle_most m (omega arith)))

  module _ (bs : List ℕ) where
    pub run_so_far : (n p : ℕ) → n ≤ 12 → in_period g bs (month_run g) n p ≤ 29760000
    run_so_far n p l = omega (arith, alone g bs (month_run g) 2480000 n (λ m q. run_most m (omega arith)) p)

  module _ (times : List ℕ) (t : TimesInRange times) (bs : List ℕ) where
    pub warmup_most : (m : ℕ) → m < 12 → month_warmup times g bs m ≤ 9300
    warmup_most m p = r.days m p ⊗ tenths_most times t g r.timed (get_or bs m 0)

    pub warmup_so_far : (n p : ℕ) → n ≤ 12 → in_period g bs (month_warmup times g bs) n p ≤ 111600
    warmup_so_far n p l = omega (arith, alone g bs (month_warmup times g bs) 9300 n (λ m q. warmup_most m (omega arith)) p)

    pub activity_in_range : ActivityInRange (activity_of times g bs)
    unfolding activity_of list_to sum_to
    activity_in_range = record {
      warmup = together g bs (month_warmup times g bs) 9300 12 warmup_most;
      run = together g bs (month_run g) 2480000 12 run_most;
      idle = sum_to_bound 15500 (month_idle g) 12 idle_most;
    }
