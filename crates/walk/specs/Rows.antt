-- What reading a group's coefficient slots answers.
use Rattle.std.specs.Prelude.{ℕ, zero, suc, ◌≡◌, Bool, true, List, [], ◌∷◌, ◌++◌, set, Result, IfOk}
use Rattle.sums.specs.declared.answer.Refusal.{Refusal}
use Rattle.vehicle_fields.specs.Fields.{pollutant_count}
use Rattle.vehicle_fields.specs.declared.group.Coefficients.{Coefficients}
use Rattle.slot_file.specs.Sources.{coefficient_slot, group_at}
use Rattle.slot_file.specs.Questions.{after_sixth, rows_asks}
use Rattle.questions.specs.Told.{Told}

-- the marks with the first n coefficient slots of g
unfoldable pub marks_to : List ℕ → ℕ → List Bool → ℕ → List Bool
marks_to s g marks zero = marks
marks_to s g marks (suc n) = set (marks_to s g marks n) (coefficient_slot s g n) true

pub record RowsRead (s : List ℕ) (g : ℕ) (before after : List Bool) (r : Result (List Coefficients) Refusal) : Type 0 where
  pub told : Told (rows_asks s g pollutant_count ++ after_sixth s g ∷ []) r
  pub coefficients : IfOk r (λ ks. ks ≡ (group_at s g).coefficients)
  pub marks : IfOk r (λ _. after ≡ marks_to s g before pollutant_count)
