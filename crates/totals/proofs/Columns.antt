-- More at a place changes the sum there and no other, and keeps how many numbers there are. So lent memory has, of nothing, after an emission and after those of a source,
-- the sums that `Totals` has. Assumes nothing.
use Rattle.std.proofs.Common.{ℕ, zero, suc, ◌+◌, ◌*◌, ◌<◌, ◌≤◌, arith, ◌≡◌, refl, ap, sym, ◌∙◌, Bool, true, false, List, ltb, eqb, get_or, set, length, length-set, get_or-set_same, get_or-set_other, eqb-true, eq-eqb, ltb-true, ltb-false}
use Rattle.std.proofs.lemmas.List.{set_past}
use borrow.Author.Tests.{eqb-false}
use Rattle.sums.specs.Choice.{list_to}
use Rattle.sums.specs.Figures.{units_in, words_of, sum_in, sum_of, sum_parts}
use Rattle.sums.specs.declared.words.Words.{Words}
use Rattle.sums.specs.declared.sum.Sum.{Sum}
use Rattle.sums.specs.declared.sum.Annual.{Annual}
use Rattle.sums.specs.declared.sum.Peak.{Peak}
use Rattle.sums.specs.Answer.{no_emission}
use Rattle.sums.specs.declared.answer.Emission.{Emission}
use Rattle.sums.proofs.Choices.{both, cases, list_to_is, list_to_at, list_to_same}
use Rattle.slot_file.specs.Codes.{codes, code_count, place_of}
use Rattle.totals.specs.declared.Totals.{Totals}
use Rattle.totals.specs.Totals as totals
use Rattle.totals.specs.Lent.{sum_count, number_count, no_numbers, words_at, with_words, plus_at, plus_both, plus_in, plus_to_in, column_from, totals_of}

length_list_to : {A : Type 0} (n : ℕ) (f : ℕ → A) → length (list_to n f) ≡ n
unfolding list_to
length_list_to zero f = refl
length_list_to (suc n) f = ap suc (length_list_to n (λ (i : ℕ). f (suc i)))

module _ (l : List ℕ) (i : ℕ) (m : Words) where
  abbrev low_set : List ℕ
  low_set = set l (2 * i) m.low

  kept_length : length (with_words l i m) ≡ length l
  kept_length = length-set low_set (2 * i + 1) m.high ∙ length-set l (2 * i) m.low

  here : 2 * i + 1 < length l → words_at (with_words l i m) i ≡ m
  here h =
      let w = get_or-set_same low_set (2 * i + 1) m.high 0 (omega (arith, h, length-set l (2 * i) m.low)) in
      let p = get_or-set_other low_set (2 * i + 1) (2 * i) m.high 0 (λ e. omega (arith, e)) ∙ get_or-set_same l (2 * i) m.low 0 (omega (arith, h)) in
      λ t. record { high = w t; low = p t }

  there : (j : ℕ) → (j ≡ i → ⊥) → words_at (with_words l i m) j ≡ words_at l j
  there j n =
      let w = get_or-set_other low_set (2 * i + 1) (2 * j + 1) m.high 0 (λ e. n (omega (arith, e))) ∙ get_or-set_other l (2 * i) (2 * j + 1) m.low 0 (λ e. omega (arith, e)) in
      let p = get_or-set_other low_set (2 * i + 1) (2 * j) m.high 0 (λ e. omega (arith, e)) ∙ get_or-set_other l (2 * i) (2 * j) m.low 0 (λ e. n (omega (arith, e))) in
      λ t. record { high = w t; low = p t }

pub plus_length : (l : List ℕ) (i x : ℕ) → length (plus_at l i x) ≡ length l
unfolding plus_at
plus_length l i x = kept_length l i (words_of (units_in (words_at l i) + x))

-- more in a column, from place i on
more : {u : Type 0} (l : List ℕ) (i p : ℕ) (s : Sum u) → length l ≡ number_count → i + code_count ≤ sum_count → p < code_count
    → totals.plus_at (column_from i l) p s ≡ column_from i (plus_at l (i + p) (sum_parts s))
unfolding plus_at
more {u} l i p s w r h = list_to_is (sum_of 0) code_count (totals.plus_at (column_from i l) p s) after (length-set column p more_there ∙ long) each
  where
    column : List (Sum u)
    column = column_from i l

    long : length column ≡ code_count
    long = length_list_to code_count (λ (q : ℕ). sum_in (words_at l (i + q)))

    at : (q : ℕ) → q < code_count → get_or column q (sum_of 0) ≡ sum_in (words_at l (i + q))
    at q = list_to_at (sum_of 0) code_count (λ (q : ℕ). sum_in (words_at l (i + q))) q

    more_there : Sum u
    more_there = sum_of (sum_parts (get_or column p (sum_of 0)) + sum_parts s)

    m : Words
    m = words_of (units_in (words_at l (i + p)) + sum_parts s)

    after : ℕ → Sum u
    after q = sum_in (words_at (with_words l (i + p) m) (i + q))

    each : (q : ℕ) → q < code_count → get_or (set column p more_there) q (sum_of 0) ≡ after q
    each q k = go (eqb q p) refl
      where
        go : (t : Bool) → eqb q p ≡ t → get_or (set column p more_there) q (sum_of 0) ≡ after q
        go true e =
            let o = eqb-true q p e in
            rw o (get_or-set_same column p more_there (sum_of 0) (omega (arith, long, h))
            ∙ ap (λ (n : Sum u). sum_of (sum_parts n + sum_parts s)) (at p h) ∙ ap sum_in (sym (here l (i + p) m (omega (arith, w, r, h)))))
        go false e =
            let n = eqb-false q p e in
            get_or-set_other column p q more_there (sum_of 0) n ∙ at q k ∙ ap sum_in (sym (there l (i + p) m (i + q) (λ o. n (omega (arith, o)))))

-- another column
apart : {u : Type 0} (l : List ℕ) (i j x : ℕ) → ((p : ℕ) → p < code_count → i + p ≡ j → ⊥) → column_from {u = u} i (plus_at l j x) ≡ column_from i l
unfolding plus_at
apart l i j x n =
    list_to_same code_count (λ (p : ℕ). sum_in (words_at (plus_at l j x) (i + p))) (λ (p : ℕ). sum_in (words_at l (i + p)))
    (λ p h. ap sum_in (there l j (words_of (units_in (words_at l j) + x)) (i + p) (n p h)))

-- LENT MEMORY HAS THE SUMS OF TOTALS
pub sums_more : (l : List ℕ) (e : Emission) → length l ≡ number_count → totals_of (plus_in l e) ≡ totals.plus_in (totals_of l) e
unfolding plus_in totals_of totals.plus_in
sums_more l e w =
    cases (λ (m : List ℕ). totals_of m ≡ totals.plus_in (totals_of l) e) (eqb (length l) number_count)
    (λ _. cases (λ (m : List ℕ). totals_of m ≡ totals.plus_in (totals_of l) e) (ltb p code_count) (λ t. added (ltb-true p code_count t)) (λ t. absent (ltb-false p code_count t)))
    (λ f. absurd (cc (f, eq-eqb (length l) number_count w)))
  where
    p : ℕ
    p = place_of codes e.code

    first : List ℕ
    first = plus_at l p (units_in e.annual.0)

    added : p < code_count → totals_of (plus_both l p e) ≡ totals.plus_in (totals_of l) e
    added h =
        let z : 0 + p ≡ p = omega arith in
        let year : totals.plus_at (column_from 0 l) p e.annual ≡ column_from 0 first = rw z at (more {u = Annual} l 0 p e.annual w (omega arith) h) in
        let a = apart first 0 (code_count + p) (units_in e.peak.0) (λ q k o. omega (arith, o, k)) ∙ sym year in
        let b = sym (more first code_count p e.peak (plus_length l p (units_in e.annual.0) ∙ w) (omega arith) h) ∙ ap (λ (c : List (Sum _)). totals.plus_at c p e.peak) (apart l code_count p (units_in e.annual.0) (λ q k o. omega (arith, o, h))) in
        λ i. record { annual = a i; peak = b i }

    absent : code_count ≤ p → totals_of l ≡ totals.plus_in (totals_of l) e
    absent n =
        let a = sym (set_past (column_from 0 l) p _ (omega (arith, n, length_list_to code_count (λ (q : ℕ). sum_in {u = Annual} (words_at l (0 + q)))))) in
        let b = sym (set_past (column_from code_count l) p _ (omega (arith, n, length_list_to code_count (λ (q : ℕ). sum_in {u = Peak} (words_at l (code_count + q)))))) in
        λ i. record { annual = a i; peak = b i }

-- adding keeps the length
pub plus_room : (l : List ℕ) (e : Emission) → length (plus_in l e) ≡ length l
unfolding plus_in
plus_room l e =
    both (λ (m : List ℕ). length m ≡ length l) (eqb (length l) number_count)
    (both (λ (m : List ℕ). length m ≡ length l) (ltb (place_of codes e.code) code_count) (plus_length _ _ _ ∙ plus_length l _ _) refl) refl

pub plus_to_room : (l : List ℕ) (es : List Emission) (n : ℕ) → length (plus_to_in l es n) ≡ length l
unfolding plus_to_in
plus_to_room l es zero = refl
plus_to_room l es (suc n) = plus_room (plus_to_in l es n) (get_or es n no_emission) ∙ plus_to_room l es n

-- the sums of nothing, and after the first n of a list of emissions
pub sums_none : totals_of no_numbers ≡ totals.no_sums
unfolding totals_of list_to words_of
sums_none = refl

pub sums_all : (l : List ℕ) (es : List Emission) (n : ℕ) → length l ≡ number_count → totals_of (plus_to_in l es n) ≡ totals.plus_to_in (totals_of l) es n
unfolding plus_to_in totals.plus_to_in
sums_all l es zero w = refl
sums_all l es (suc n) w =
    sums_more (plus_to_in l es n) (get_or es n no_emission) (plus_to_room l es n ∙ w) ∙ ap (λ (t : Totals). totals.plus_in t (get_or es n no_emission)) (sums_all l es n w)
