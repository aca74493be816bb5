-- What is asked of a group after its slot: of the coefficient links, and question 11. Assumes nothing.
use Rattle.std.proofs.Common.{ℕ, ◌≡◌, subst, List, [], ◌∷◌, ◌++◌, append_assoc}
use Rattle.sums.specs.declared.answer.Reason.TheVariants.{SootOrLead}
use Rattle.sums.specs.declared.answer.Refusal.{Refusal}
use Rattle.vehicle_fields.specs.Fields.{pollutant_count}
use Rattle.vehicle_fields.specs.SootAndLead.{zero_where_due}
use Rattle.slot_file.specs.Sources.{group_at}
use Rattle.slot_file.specs.Questions.{Question, question, rows_asks, closing_asks, after_sixth}
use Rattle.slot_file.specs.Meaning.{AllYes, FirstNo}
use Rattle.slot_file.proofs.Asking.{all_append, no_before, no_after}
use Rattle.walk.specs.ThreeChains.{groups}

module _ (s : List ℕ) (g : ℕ) where
  abbrev pub rows : List Question
  rows = rows_asks s g pollutant_count ++ after_sixth s g ∷ []

  abbrev pub eleven : List Question
  eleven = question (zero_where_due (group_at s g).group (group_at s g).coefficients) SootOrLead g ∷ []

  asks_are : rows ++ eleven ≡ groups.asked_after s g
  unfolding closing_asks
  asks_are = append_assoc (rows_asks s g pollutant_count) (after_sixth s g ∷ []) eleven

  module _ {e : Refusal} where
    pub no_rows : FirstNo rows e → FirstNo (groups.asked_after s g) e
    no_rows f = subst (λ (l : List Question). FirstNo l e) asks_are (no_before rows eleven f)

    pub no_eleven : AllYes rows → FirstNo eleven e → FirstNo (groups.asked_after s g) e
    no_eleven z f = subst (λ (l : List Question). FirstNo l e) asks_are (no_after rows eleven z f)

  pub all_group : AllYes rows → AllYes eleven → AllYes (groups.asked_after s g)
  all_group z u = subst AllYes asks_are (all_append rows eleven z u)
