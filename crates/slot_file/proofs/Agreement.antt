-- Two accepted files that are alike get the same answers. A figure goes by the number of exact units of its code alone (`Units`), which is a total over
-- the groups, one over the store records and one over the locomotives, and lists that are alike have the same totals and the same length (`Bag`, `Same`). And the counts are the lengths of the chains. Assumes
-- nothing.
use Rattle.std.proofs.Common.{ℕ, ◌*◌, ◌<◌, arith, ◌≡◌, sym, ap, ◌∙◌, List, map, reverse, lit<, ℤ, Ok}
use lib.ListN.{length-map, length-reverse}
use Rattle.sums.specs.Fraction.{Frac, ◌over◌, whole, ◌⊙◌, ◌≈◌, parts_of}
use Rattle.sums.specs.Figures.{nearest, tonne_parts, gram_parts}
use Rattle.sums.proofs.Figure.{nearest_same}
use Rattle.sums.specs.Answer.{Contribution}
use Rattle.locomotive_fields.specs.declared.fields.Locomotive.{Locomotive}
use Rattle.slots.specs.declared.store.StoreRecord.{StoreRecord}
use Rattle.slot_file.specs.Questions.{accepted}
use Rattle.slot_file.specs.Walk.{outcome}
use Rattle.slot_file.specs.Sources.{VehicleGroup, group_at, store_at, locomotive_at, Chains, Inventory, inventory_at}
use Rattle.slot_file.specs.Figures.{group_contributions, store_contributions, locomotive_contributions, contributions, exact_sum, annual_figure, peak_figure, counts_of, summed, answered, answer}
use Rattle.slot_file.specs.Codes.{codes}
use Rattle.slot_file.specs.Alike.{total, same_group, same_store, same_locomotive, AlikeFiles}
use Rattle.slot_file.proofs.Bag.{alike_total, alike_length}
use Rattle.slot_file.proofs.Same.{group_sound, group_same, store_sound, store_same, locomotive_sound, locomotive_same}
use Rattle.slot_file.proofs.Units.{Units, total_contributions, exact_parts}
use Rattle.slot_file.specs.Parts.{parts_to}

module _ (v w : Inventory) (e : AlikeFiles v w) where
  total_alike : (f : Contribution → ℕ) → total f (contributions v) ≡ total f (contributions w)
  total_alike f =
      omega (
        arith,
        total_contributions v f,
        total_contributions w f,
        ap (λ (ts : List ℤ). total (λ (g : VehicleGroup). total f (group_contributions ts g)) v.groups) e.temperatures,
        alike_total same_group group_sound group_same (λ (g : VehicleGroup). total f (group_contributions w.temperatures g)) v.groups w.groups e.groups,
        alike_total same_store store_sound store_same (λ (r : StoreRecord). total f (store_contributions r)) v.stores w.stores e.stores,
        alike_total same_locomotive locomotive_sound locomotive_same (λ (l : Locomotive). total f (locomotive_contributions l)) v.locomotives w.locomotives e.locomotives,
      )

  figure_alike : (f : Contribution → Frac) (k : ℕ) → 0 < k → ((x : Contribution) → Units x → f x ≈ (parts_of k (f x) over k)) → (u c : ℕ)
      → nearest (exact_sum f c (contributions v) ⊙ whole u) ≡ nearest (exact_sum f c (contributions w) ⊙ whole u)
  figure_alike f k pos exact u c =
      nearest_same (exact_parts f k pos exact c u v)
      ∙ ap (λ (n : ℕ). nearest ((n * u) over (k * 1))) (total_alike (parts_to f k c))
      ∙ sym (nearest_same (exact_parts f k pos exact c u w))

  pub same_answer : summed v ≡ summed w
  unfolding summed annual_figure peak_figure
  same_answer =
      let a = figure_alike (λ (x : Contribution). x.tonnes) tonne_parts (lit< tt) (λ (x : Contribution) (h : Units x). h.annual) 1000000 in
      let p = figure_alike (λ (x : Contribution). x.rate) gram_parts (lit< tt) (λ (x : Contribution) (h : Units x). h.peak) 10000000 in
      let n = alike_length same_group group_sound group_same v.groups w.groups e.groups in
      let m = alike_length same_store store_sound store_same v.stores w.stores e.stores in
      let l = alike_length same_locomotive locomotive_sound locomotive_same v.locomotives w.locomotives e.locomotives in
      λ i. record {
        annual = map (λ (c : ℕ). a c i) codes;
        peak = map (λ (c : ℕ). p c i) codes;
        counts = record { groups = n i; stores = m i; locomotives = l i };
      }

-- the answer to an accepted file
pub accepted_answer : (s : List ℕ) (c : Chains) → outcome s ≡ accepted c → answer s ≡ Ok (summed (inventory_at s c))
unfolding answer answered
accepted_answer s c e = rw e

-- the sources of the chains are as many as their slots
pub summed_counts : (s : List ℕ) (c : Chains) → (summed (inventory_at s c)).counts ≡ counts_of c
unfolding summed inventory_at
summed_counts s c =
    let g = length-map (reverse c.groups) (group_at s) ∙ length-reverse c.groups in
    let k = length-map (reverse c.stores) (store_at s) ∙ length-reverse c.stores in
    let l = length-map (reverse c.locomotives) (locomotive_at s) ∙ length-reverse c.locomotives in
    λ i. record { groups = g i; stores = k i; locomotives = l i }
