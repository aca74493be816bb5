-- All that is asked of a link to a coefficient slot: of the link, of its slot, and whether its pollutant comes in turn. Assumes nothing.
use Rattle.std.proofs.Common.{ℕ, ◌+◌, List, [], ◌∷◌, ◌++◌, eqb}
use Rattle.sums.specs.declared.answer.Reason.TheVariants.{CoefficientChain}
use Rattle.sums.specs.declared.answer.Refusal.{Refusal}
use Rattle.slots.specs.Bytes.{slot_of}
use Rattle.slots.specs.Layout.{pollutant_of, coefficients_of, coefficients_kind, coefficients_good}
use Rattle.slot_file.specs.Sources.{coefficient_slot}
use Rattle.slot_file.specs.Questions.{Question, question, slot_asks, coefficient_holder, coefficient_asks}
use Rattle.slot_file.specs.Meaning.{AllYes, FirstNo}
use Rattle.slot_file.proofs.Asking.{all_append, no_before, no_after}
use Rattle.questions.specs.Told.{row_asked}

module _ (s : List ℕ) (g n : ℕ) where
  abbrev k : ℕ
  k = coefficient_slot s g n

  abbrev pub front : List Question
  front = row_asked s (coefficient_holder s g n) k

  abbrev pub slot : List Question
  slot = let t = slot_of s k in slot_asks (coefficients_kind t) (coefficients_good t (coefficients_of t)) k

  abbrev pub turn : List Question
  turn = question (eqb (pollutant_of (slot_of s k)) (n + 1)) CoefficientChain k ∷ []

  module _ {e : Refusal} where
    pub no_front : FirstNo front e → FirstNo (coefficient_asks s g n) e
    unfolding coefficient_asks
    no_front = no_before front (slot ++ turn)

    pub no_slot : AllYes front → FirstNo slot e → FirstNo (coefficient_asks s g n) e
    unfolding coefficient_asks
    no_slot y f = no_after front (slot ++ turn) y (no_before slot turn f)

    pub no_turn : AllYes front → AllYes slot → FirstNo turn e → FirstNo (coefficient_asks s g n) e
    unfolding coefficient_asks
    no_turn y z f = no_after front (slot ++ turn) y (no_after slot turn z f)

  pub all_row : AllYes front → AllYes slot → AllYes turn → AllYes (coefficient_asks s g n)
  unfolding coefficient_asks
  all_row y z u = all_append front (slot ++ turn) y (all_append slot turn z u)
