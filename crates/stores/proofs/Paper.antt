-- That the whole numbers are the papers' fractions: each rule's term is written as its formula is, and then taken to one denominator. Assumes nothing.
use Rattle.std.proofs.Common.{ℕ, ◌*◌, ◌-◌, arith, ◌≡◌, lit<}
use Rattle.sums.specs.Fraction.{Frac, ◌over◌, ◌≈◌}
use Rattle.sums.specs.Figures.{annual_of, peak_of}
use Rattle.sums.proofs.Fractions.{≈_refl, ≈_⊙, ≈_per, ≈_over, parts}
use Rattle.sums.specs.Exactness.{Counted}
use Rattle.sums.specs.Answer.{contribution, emitted}
use Rattle.store_records.specs.declared.records.Handling.{Handling}
use Rattle.store_records.specs.declared.records.Standing.{Standing}
use Rattle.store_records.specs.declared.records.Aspiration.{Aspiration}
use Rattle.stores.specs.Rules.{handling_peak, standing_peak, bulk_tonnes, aspiration_peak, aspiration_tonnes, dust_code, handling_contribution, standing_contribution, aspiration_contribution}
use Rattle.stores.specs.Parts.{exposure_parts, handling_parts, standing_parts, aspiration_parts, bulk_units, bulk_year_units, aspiration_units, aspiration_hour_units, emission_of}
use Rattle.stores.proofs.TableTests.{k1_scaled, k2_scaled, q_scaled, k3_scaled, k4_scaled, k5_scaled, k6_same, k7_scaled, drop_scaled}

handling_parts_lem : (h : Handling) → handling_peak h ≈ (handling_parts h over 6000000000000)
unfolding handling_peak handling_parts exposure_parts
handling_parts_lem h =
    let b = h.bulk in
    ≈_over _ _ (lit< tt) (omega arith)
    (≈_per 12 (lit< tt)
    (≈_⊙ (≈_⊙ (≈_⊙ (≈_⊙ (≈_⊙ (≈_⊙ (≈_⊙ (≈_⊙ (≈_refl 10000 1 (lit< tt))
    (k1_scaled b.material).same) (k2_scaled b.material).same) (k3_scaled b.wind).same) (k4_scaled b.openness).same)
    (k5_scaled b.moisture).same) (k7_scaled b.grain).same) (≈_refl b.amount 1000 (lit< tt))) (drop_scaled h.drop).same))

standing_parts_lem : (s : Standing) → standing_peak s ≈ (standing_parts s over 6000000000000)
unfolding standing_peak standing_parts exposure_parts
standing_parts_lem s =
    let b = s.bulk in
    ≈_over _ _ (lit< tt) (omega arith)
    (≈_⊙ (≈_⊙ (≈_⊙ (≈_⊙ (≈_⊙ (≈_⊙ (k3_scaled b.wind).same
    (k4_scaled b.openness).same) (k5_scaled b.moisture).same) (k6_same s.k6))
    (k7_scaled b.grain).same) (q_scaled b.material).same) (≈_refl b.amount 1 (lit< tt)))

aspiration_parts_lem : (a : Aspiration) → aspiration_peak a ≈ (aspiration_parts a over 10000000000)
unfolding aspiration_peak aspiration_parts
aspiration_parts_lem a = ≈_over _ _ (lit< tt) (omega arith)
    (≈_⊙ (≈_⊙ (≈_refl a.concentration 1000 (lit< tt)) (≈_refl a.flow 1000 (lit< tt))) (≈_refl (10000 - a.capture) 10000 (lit< tt)))

-- handling and standing alike
bulk_counted : {peak : Frac} {n : ℕ} → peak ≈ (n over 6000000000000) → Counted (bulk_tonnes peak) peak (n * bulk_year_units) (n * bulk_units)
unfolding bulk_tonnes
bulk_counted e = record {
  annual = ≈_over _ _ (lit< tt) (omega arith) (≈_⊙ (≈_⊙ (≈_refl 31536 1000 (lit< tt)) e) (≈_refl 7 10 (lit< tt)));
  peak = ≈_over _ _ (lit< tt) (omega arith) e;
}

pub handling_counted : (h : Handling) → Counted (bulk_tonnes (handling_peak h)) (handling_peak h) (handling_parts h * bulk_year_units) (handling_parts h * bulk_units)
handling_counted h = bulk_counted (handling_parts_lem h)

pub standing_counted : (s : Standing) → Counted (bulk_tonnes (standing_peak s)) (standing_peak s) (standing_parts s * bulk_year_units) (standing_parts s * bulk_units)
standing_counted s = bulk_counted (standing_parts_lem s)

pub aspiration_counted :
    (a : Aspiration) → Counted (aspiration_tonnes (aspiration_peak a) a.hours) (aspiration_peak a) (aspiration_parts a * a.hours * aspiration_hour_units) (aspiration_parts a * aspiration_units)
unfolding aspiration_tonnes
aspiration_counted a =
    let e = aspiration_parts_lem a in
    record {
      annual = ≈_over _ _ (lit< tt) (omega arith) (≈_⊙ (≈_⊙ (≈_refl 36 10000 (lit< tt)) e) (≈_refl a.hours 1 (lit< tt)));
      peak = ≈_over _ _ (lit< tt) (omega arith) e;
    }

-- the sums of so many units are the rule's answer
summed : {tonnes rate : Frac} {a p : ℕ} (dust : ℕ) → Counted tonnes rate a p → emission_of dust (annual_of a) (peak_of p) ≡ emitted (contribution (dust_code dust) tonnes rate)
summed dust e = rw (parts e.annual, parts e.peak)

pub handling_summed : (h : Handling) → emission_of h.bulk.dust (annual_of (handling_parts h * bulk_year_units)) (peak_of (handling_parts h * bulk_units)) ≡ emitted (handling_contribution h)
handling_summed h = summed h.bulk.dust (handling_counted h)

pub standing_summed : (s : Standing) → emission_of s.bulk.dust (annual_of (standing_parts s * bulk_year_units)) (peak_of (standing_parts s * bulk_units)) ≡ emitted (standing_contribution s)
standing_summed s = summed s.bulk.dust (standing_counted s)

pub aspiration_summed :
    (a : Aspiration) → emission_of a.dust (annual_of (aspiration_parts a * a.hours * aspiration_hour_units)) (peak_of (aspiration_parts a * aspiration_units)) ≡ emitted (aspiration_contribution a)
aspiration_summed a = summed a.dust (aspiration_counted a)
