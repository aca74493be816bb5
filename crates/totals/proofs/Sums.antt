-- An emission adds the units of its contribution to the sums of its code and to no others, since no code stands twice; and the emissions of a source add theirs, one
-- after the other. Assumes nothing.
use Rattle.std.proofs.Common.{ℕ, zero, suc, ◌+◌, add-zero, ◌≤◌, le_refl, arith, ◌≡◌, refl, sym, subst, ◌∙◌, Bool, true, false, ◌&&◌, List, [], ◌∷◌, eqb, leb, length, map, eqb-true, leb-true}
use Rattle.sums.specs.Choice.{if_then_else, sum_to, list_to}
use Rattle.sums.specs.Fraction.{parts_of}
use Rattle.sums.specs.Figures.{tonne_parts, gram_parts, sum_of, annual_of, peak_of}
use Rattle.sums.specs.Answer.{Contribution, emitted, no_emission}
use Rattle.sums.specs.declared.answer.Emission.{Emission}
use Rattle.sums.specs.declared.sum.Sum.{Sum}
use Rattle.sums.proofs.Choices.{left, right, cases, sum_to_front, list_to_at}
use Rattle.sums.proofs.Wrapping.{words_plus}
use Rattle.slot_file.specs.Codes.{codes, place_of}
use Rattle.slot_file.specs.Alike.{total}
use Rattle.slot_file.specs.Parts.{parts_to}
use Rattle.totals.specs.declared.Totals.{Totals}
use Rattle.totals.specs.Totals.{no_sums, plus_at, plus_in, plus_to_in, column, Sums}

-- none stands again after its place
abbrev distinct : List ℕ → Bool
distinct [] = true
distinct (k ∷ ks) = leb (length ks) (place_of ks k) && distinct ks

codes_distinct : distinct codes ≡ true
unfolding place_of if_then_else
codes_distinct = refl

-- sums of f k units of each code k, and y units more of the code c
module _ {u : Type 0} (f : ℕ → ℕ) (c y : ℕ) where
  abbrev before : ℕ → Sum u
  before k = sum_of (f k)

  abbrev after : ℕ → Sum u
  after k = sum_of (f k + if_then_else (eqb c k) y 0)

  -- for another code the same
  other : (k : ℕ) → eqb c k ≡ false → before k ≡ after k
  unfolding if_then_else
  other k e = rw (e, add-zero)

  absent : (ks : List ℕ) → length ks ≤ place_of ks c → map before ks ≡ map after ks
  unfolding place_of
  absent [] h = refl
  absent (k ∷ ks) h =
      cases (λ (p : ℕ). suc (length ks) ≤ p → map before (k ∷ ks) ≡ map after (k ∷ ks)) (eqb c k) (λ e l. absurd (omega arith))
      (λ e l. rw (other k e, absent ks (omega arith))) h

  more : (ks : List ℕ) → distinct ks ≡ true → plus_at (map before ks) (place_of ks c) (sum_of y) ≡ map after ks
  unfolding place_of if_then_else
  more [] h = refl
  more (k ∷ ks) h =
      let l = leb (length ks) (place_of ks k) in
      cases (λ (p : ℕ). plus_at (map before (k ∷ ks)) p (sum_of y) ≡ map after (k ∷ ks)) (eqb c k)
      (λ e. let n = leb-true (length ks) (place_of ks k) (left l (distinct ks) h) in
      rw (e, absent ks (subst (λ (n : ℕ). length ks ≤ place_of ks n) (sym (eqb-true c k e)) n), words_plus (f k) y))
      (λ e. rw (other k e, more ks (right l (distinct ks) h)))

-- the same units
pub same_sums : (f g : ℕ → ℕ → ℕ) (t : Totals) → ((q c : ℕ) → f q c ≡ g q c) → Sums f t → Sums g t
same_sums f g t e s = record {
  annual_are = s.annual_are ∙ (λ i. map (λ (c : ℕ). annual_of (e 0 c i)) codes);
  peak_are = s.peak_are ∙ (λ i. map (λ (c : ℕ). peak_of (e 1 c i)) codes);
}

pub sums_of_none : Sums (λ (q c : ℕ). 0) no_sums
sums_of_none = record { annual_are = refl; peak_are = refl }

pub plus_emitted : (f : ℕ → ℕ → ℕ) (t : Totals) → Sums f t → (x : Contribution) → Sums (λ (q c : ℕ). f q c + column q c x) (plus_in t (emitted x))
unfolding plus_in column parts_to
plus_emitted f t s x = record {
  annual_are = rw s.annual_are (more (f 0) x.code (parts_of tonne_parts x.tonnes) codes codes_distinct);
  peak_are = rw s.peak_are (more (f 1) x.code (parts_of gram_parts x.rate) codes codes_distinct);
}

-- a total of what a list has at each place
pub total_list_to : {A : Type 0} (h : A → ℕ) (n : ℕ) (x : ℕ → A) → total h (list_to n x) ≡ sum_to n (λ (i : ℕ). h (x i))
unfolding list_to sum_to
total_list_to h zero x = refl
total_list_to h (suc n) x = omega (arith, total_list_to h n (λ (i : ℕ). x (suc i)), sum_to_front n (λ (i : ℕ). h (x i)))

-- the emissions of a list of contributions, one after the other
module _ (f : ℕ → ℕ → ℕ) (t : Totals) (s : Sums f t) (x : ℕ → Contribution) (n : ℕ) where
  abbrev emissions : List Emission
  emissions = list_to n (λ (i : ℕ). emitted (x i))

  -- with the first m of them
  abbrev up : ℕ → ℕ → ℕ → ℕ
  up m q c = f q c + sum_to m (λ (i : ℕ). column q c (x i))

  plus_to : (m : ℕ) → m ≤ n → Sums (up m) (plus_to_in t emissions m)
  unfolding plus_to_in sum_to
  plus_to zero h = same_sums f (up 0) t (λ q c. omega arith) s
  plus_to (suc m) h =
      rw (list_to_at no_emission n (λ (i : ℕ). emitted (x i)) m h)
      (same_sums (λ (q c : ℕ). up m q c + column q c (x m)) (up (suc m)) (plus_in (plus_to_in t emissions m) (emitted (x m))) (λ q c. omega arith)
      (plus_emitted (up m) (plus_to_in t emissions m) (plus_to m (omega (arith, h))) (x m)))

  pub plus_all : Sums (λ (q c : ℕ). f q c + total (column q c) (list_to n x)) (plus_to_in t emissions n)
  plus_all =
      same_sums (up n) (λ (q c : ℕ). f q c + total (column q c) (list_to n x)) (plus_to_in t emissions n) (λ q c. omega (arith, total_list_to (column q c) n x)) (plus_to n (le_refl n))
