-- The numbers are cut into rows of seven, and what stands past a row changes nothing in it.
use Rattle.std.proofs.Common.{rules, arith, ℕ, List, ◌≡◌, ◌∙◌, ◌/◌, refl, [], length, get_or, get_or-take, take, drop-drop}
use Rattle.std.specs.Simd.{first_chunks}
use Rattle.sums.specs.Choice.{list_to}
use Rattle.vehicle_fields.specs.Fields.{no_coefficients, coefficients_from}
use Rattle.slots.proofs.Made.{made}
use Rattle.tezhebul.specs.Fields.{rows_of}
use Rattle.tezhebul.proofs.fields.rows_of.Goals as goal

row : (t : List ℕ) → coefficients_from (take 7 t) ≡ coefficients_from t
unfolding coefficients_from
row t = grind (get_or-take, arith)

rows : (l : List ℕ) → list_to 6 (λ (p : ℕ). coefficients_from (get_or (first_chunks 7 6 l) p [])) ≡ rows_of l
unfolding rows_of list_to
rows l = simp (row, drop-drop)

pub returns : goal.returns
returns c =
    let l = c.args.coefficients.now in
    let cut = c.as_chunks in
    let front : cut.result.0.now ≡ first_chunks 7 (length l / 7) l = cut.ensures.front in
    let e : cut.result.0.now ≡ first_chunks 7 6 l = rw c.told-coefficients at front in
    made _ no_coefficients (λ p. coefficients_from (get_or cut.result.0.now p [])) (λ p. p.0 ≡ cut.result.0) (λ i y p q a k. search rules) _ _ 6 refl c.from_fn.ensures.items
    ∙ rw e (rows l)
