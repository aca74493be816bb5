-- The numbers of emissions, one emission more each time, at the start of a buffer; and how many they are.
-- Assumes nothing.
use Rattle.std.proofs.Common.{ℕ, ◌+◌, ◌*◌, ◌<◌, ◌≡◌, refl, ap, ◌∙◌, arith, List, [], ◌∷◌, ◌++◌, append_assoc, get_or, length, take, drop, take_at, drop_at, drop-drop, length-take-le, Ok}
use Rattle.std.proofs.lemmas.List.{take_more}
use borrow.Rule.Slice.PartMut.{put_mid}
use Rattle.sums.specs.Answer.{no_emission}
use Rattle.sums.specs.declared.answer.Emission.{Emission}
use Rattle.answer_numbers.specs.Numbers.{emission_numbers, emission_size, emissions_numbers, rule_numbers, rule_size}

emissions_length : (es : List Emission) → length (emissions_numbers es) ≡ emission_size * length es
emissions_length [] = refl
emissions_length (e ∷ es) = omega (arith, emissions_length es)

pub accepted_length : (es : List Emission) → length (rule_numbers (length es) (Ok es)) ≡ rule_size (length es)
accepted_length es = omega (arith, emissions_length es)

emissions_push : (es : List Emission) (e : Emission) → emissions_numbers (es ++ e ∷ []) ≡ emissions_numbers es ++ emission_numbers e
emissions_push [] e = refl
emissions_push (d ∷ es) e = ap (λ (l : List ℕ). emission_numbers d ++ l) (emissions_push es e)

-- the first i emissions are written, and what lies behind is as it was
pub record Written (es : List Emission) (i : ℕ) (before out : List ℕ) : Type 0 where
  pub front : out ≡ rule_numbers i (Ok (take i es)) ++ drop (rule_size i) before

pub turn : {es : List Emission} {i : ℕ} {before out : List ℕ} (k : ℕ) (x : List ℕ) → Written es i before out → i < length es → k ≡ emission_size → x ≡ emission_numbers (get_or es i no_emission) → Written es (i + 1) before (put_mid (rule_size i) k out x)
turn {es} {i} {before} {out} k x w h f q =
    let p = rule_numbers i (Ok (take i es)) in
    let e = get_or es i no_emission in
    let l : length p ≡ rule_size i = accepted_length (take i es) ∙ ap rule_size (length-take-le i es (omega arith)) in
    let s : rule_size (i + 1) ≡ rule_size i + emission_size = omega arith in
    let n : emissions_numbers (take (i + 1) es) ≡ emissions_numbers (take i es) ++ emission_numbers e = rw (take_more es i no_emission h) (emissions_push (take i es) e) in
    record {
      front = rw (w.front, take_at p (drop (rule_size i) before) (rule_size i) l, drop_at p (drop (rule_size i) before) (rule_size i) l, drop-drop, f, q, n, s, append_assoc (emissions_numbers (take i es)) (emission_numbers e) (drop (rule_size i + emission_size) before));
    }
