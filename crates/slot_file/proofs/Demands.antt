-- THE LETTER'S THREE DEMANDS, of the definitions that `walk::check` and `walk::answer` are proved to equal. By what an outcome means (`Outcomes`), by the range of
-- each source that passed (`Ranged`), and by what two alike files have in common (`Agreement`). Assumes nothing.
use Rattle.std.proofs.Common.{ℕ, ◌-◌, ◌<◌, ◌≤◌, arith, ◌≡◌, refl, sym, ap, ◌∙◌, true, List, [], ◌∷◌, map, leb, eqb, lit<, get_or, length, eqb-true, leb-true, Result, Ok, Err}
use Rattle.std.proofs.lemmas.List.{get_or-map}
use Rattle.std.proofs.lemmas.Result.{IfOk-at_ok, IfErr-at_err}
use mathlib.Core.List.{reverse_aux}
use Rattle.sums.specs.Choice.{if_then_else, all_to}
use Rattle.sums.specs.Figures.{tonne_parts, gram_parts}
use Rattle.sums.specs.Answer.{Contribution, emitted, no_emission}
use Rattle.sums.specs.declared.answer.Emission.{Emission}
use Rattle.sums.specs.declared.answer.Reason.TheVariants.{Unreached, ShortBuffer}
use Rattle.sums.specs.declared.answer.Refusal.{Refusal}
use Rattle.sums.specs.Exactness.{Exactly}
use Rattle.sums.proofs.Choices.{cases, both, all_to_at, list_to_at}
use Rattle.sums.proofs.Rounding.{rounded}
use Rattle.stores.specs.Rules.{dust_codes, dust_code, handling_contribution, standing_contribution, aspiration_contribution}
use Rattle.stores.proofs.Ranges.{handling, standing, aspiration}
use Rattle.stores.proofs.Exactly.{handling_exactly, standing_exactly, aspiration_exactly}
use Rattle.vehicle_fields.specs.Fields.{pollutant_count, no_coefficients}
use Rattle.vehicles.specs.Rules.{petrol_codes, diesel_codes, pollutant_code, emission_count, emission_of, emissions_of}
use Rattle.vehicles.proofs.Bounds.{group_exactly}
use Rattle.locomotive_fields.specs.Fields.{locomotive_in_range, shares_add_up}
use Rattle.locomotive_fields.specs.declared.fields.Locomotive.{Locomotive}
use Rattle.locomotives.specs.Rules.{locomotive_codes, substance_count, locomotive_contribution, locomotive_emissions}
use Rattle.locomotives.proofs.Bounds.{locomotive_exactly}
use Rattle.slots.specs.Bytes.{slot_of}
use Rattle.slots.specs.Layout.{coefficients_of}
use Rattle.slots.specs.declared.store.StoreRecord.{StoreRecord}
use Rattle.slots.specs.declared.store.StoreRecord.TheVariants.{Handling, Standing, Aspiration}
use Rattle.slot_file.specs.Sources.{coefficient_slot, group_at, store_at, locomotive_at, temperatures_at, Chains, inventory_at}
use Rattle.slot_file.specs.Questions.{head_asks, member, coefficient_asks, closing_asks, groups_so_far, stores_so_far, locomotives_so_far, group_asks, store_asks, locomotive_asks, Question, Outcome, accepted, refused}
use Rattle.slot_file.specs.Walk.{outcome, told}
use Rattle.slot_file.specs.Meaning.{AllYes, Good, Accepts}
use Rattle.slot_file.specs.Codes.{codes, code_count}
use Rattle.slot_file.specs.Figures.{group_contributions, locomotive_contributions, contributions, annual_figure, peak_figure, summed, answer}
use Rattle.slot_file.specs.Alike.{AlikeFiles}
use Rattle.slot_file.specs.Listing.{Listed, listing, listed}
use Rattle.slot_file.specs.declared.Answer.{Answer}
use Rattle.slot_file.specs.Demands.{Checked, OwnCoefficients, OneGiven, GroupGives, StoreGives, LocomotiveGives, Each, Worked, FiguresRounded}
use Rattle.slot_file.proofs.Asking.{yes_at}
use Rattle.slot_file.proofs.Outcomes.{exactly_when}
use Rattle.slot_file.proofs.Numbers.{refused_last, refused_answer}
use Rattle.slot_file.proofs.Ranged.{row_asked_lem, closing_asked, all_in_range_lem, zero_where_due_lem, group_answered, store_in_range, store_answered, locomotive_in_range_lem, shares_add_up_lem}
use Rattle.slot_file.proofs.Units.{Units, exact_parts}
use Rattle.slot_file.proofs.Agreement.{accepted_answer, same_answer, summed_counts}

-- DEMAND 1
pub accepted_exactly : (s : List ℕ) → Checked s (told (outcome s))
accepted_exactly s = record {
  accepted_when = (λ z. let y = yes (outcome s) refl z in (y.0, y.1), λ a. rw ((exactly_when s (accepted a.0)).1 a.1) refl);
  refused_as_told = λ r z. (exactly_when s (refused r)).0 (no (outcome s) refl r z);
  numbered = λ r z. (refused_answer s r (no (outcome s) refl r z)).1;
  figures = λ z. let y = yes (outcome s) refl z in (summed (inventory_at s y.0), y.2);
  no_figures = λ r z. (refused_answer s r (no (outcome s) refl r z)).0;
  lowest = λ k z. let r : Refusal = record { reason = Unreached; slot = k } in refused_last s r refl ((exactly_when s (refused r)).0 (no (outcome s) refl r z));
}
  where
    yes : (v : Outcome) → outcome s ≡ v → told v ≡ Ok tt → (c : Chains) × Accepts s c × (answer s ≡ Ok (summed (inventory_at s c)))
    yes (accepted c) e z = (c, (exactly_when s (accepted c)).0 e, accepted_answer s c e)
    yes (refused r) e z = absurd (IfOk-at_ok (λ _. ⊥) z tt)

    no : (v : Outcome) → outcome s ≡ v → (r : Refusal) → told v ≡ Err r → outcome s ≡ refused r
    no (accepted c) e r z = absurd (IfErr-at_err (λ _. ⊥) z tt)
    no (refused q) e r z = e ∙ ap refused (IfErr-at_err (λ d. q ≡ d) z refl)

-- DEMAND 1: "A listing that does not fit the lent buffer writes nothing"
pub writes_nothing : (a : Answer) (buffer : List ℕ) → length buffer < length (listing a)
    → listed (Ok a) buffer ≡ record { listing = Err (record { reason = ShortBuffer; slot = 0 }); buffer = buffer }
unfolding listed
writes_nothing a buffer h =
    cases (λ (l : Listed). l ≡ record { listing = Err (record { reason = ShortBuffer; slot = 0 }); buffer = buffer }) (leb (length (listing a)) (length buffer))
    (λ t. absurd (omega (arith, leb-true (length (listing a)) (length buffer) t, h))) (λ _. refl)

-- and nor does the listing of a refused file
pub refused_writes_nothing : (r : Refusal) (buffer : List ℕ) → listed (Err r) buffer ≡ record { listing = Err r; buffer = buffer }
unfolding listed
refused_writes_nothing r buffer = refl

-- what holds of each is kept where a list is turned round and mapped
pub each_onto : {A B : Type 0} (P : B → Type 0) (f : A → B) (l m : List A) → Each (λ x. P (f x)) l → Each P (map f m) → Each P (map f (reverse_aux l m))
each_onto P f [] m h k = k
each_onto P f (x ∷ l) m h k = each_onto P f l (x ∷ m) h.1 (h.0, k)

-- what follows of each slot of a chain from what is asked of it
pub each_good : (asks : List ℕ → ℕ → List Question) (P : ℕ → Type 0) → ((b : List ℕ) (k : ℕ) → AllYes (asks b k) → P k) → (l : List ℕ) → Good asks l → Each P l
each_good asks P f [] w = tt
each_good asks P f (k ∷ b) w = (f b k w.0, each_good asks P f b w.1)

-- each code that a source gives to is one of the listing's: of a list of codes, one computed test
listed_at : (xs : List ℕ) (n : ℕ) → all_to n (λ (i : ℕ). member (get_or xs i 0) codes) ≡ true → (i : ℕ) → i < n → member (get_or xs i 0) codes ≡ true
listed_at xs n = all_to_at n (λ (i : ℕ). member (get_or xs i 0) codes)

dust_listed : (d : ℕ) → 1 ≤ d → d ≤ 3 → member (dust_code d) codes ≡ true
unfolding all_to member if_then_else
dust_listed d h l = listed_at dust_codes 3 refl (d - 1) (omega arith)

pollutant_listed : (fuel p : ℕ) → p < emission_count → member (pollutant_code fuel p) codes ≡ true
unfolding pollutant_code all_to member if_then_else
pollutant_listed fuel p h =
    both (λ (c : ℕ). member c codes ≡ true) (eqb fuel 1) (listed_at petrol_codes emission_count refl p h) (listed_at diesel_codes emission_count refl p h)

substances_listed : (p : ℕ) → p < substance_count → member (get_or locomotive_codes p 0) codes ≡ true
unfolding all_to member if_then_else
substances_listed = listed_at locomotive_codes substance_count refl

one_gives : {a : Result Emission Refusal} (x : Contribution) → member x.code codes ≡ true → (a ≡ Ok (emitted x)) × Exactly (emitted x) x.tonnes x.rate → OneGiven a x
one_gives x l e = record { emission = emitted x; answered = e.0; gives = record { code = refl; listed = l; exactly = e.1 } }

store_gives : (r : StoreRecord) → store_in_range r ≡ true → StoreGives r
store_gives (Handling h) e =
    let d = (handling h e).bulk.dust in
    one_gives (handling_contribution h) (dust_listed h.bulk.dust d.0 d.1) (handling_exactly h e)
store_gives (Standing s) e =
    let d = (standing s e).bulk.dust in
    one_gives (standing_contribution s) (dust_listed s.bulk.dust d.0 d.1) (standing_exactly s e)
store_gives (Aspiration a) e =
    let d = (aspiration a e).dust in
    one_gives (aspiration_contribution a) (dust_listed a.dust d.0 d.1) (aspiration_exactly a e)

locomotive_gives : (l : Locomotive) → locomotive_in_range l ≡ true → shares_add_up l ≡ true → LocomotiveGives l
unfolding locomotive_emissions
locomotive_gives l r u = record {
  emissions = locomotive_emissions l;
  answered = (locomotive_exactly l r 0 u (omega arith)).0;
  each = λ p q. record {
    listed = substances_listed p q;
    code = ap (λ (x : Emission). x.code) (list_to_at no_emission substance_count (λ (m : ℕ). emitted (locomotive_contribution l m)) p q);
    exactly = (locomotive_exactly l r p u q).1;
  };
}

module _ (s : List ℕ) (h : AllYes (head_asks s)) where
  group_gives : (c : Chains) (g : ℕ) → AllYes (group_asks s c g) → GroupGives (temperatures_at s) (group_at s g)
  unfolding emissions_of emission_of
  group_gives c g a =
      let v = group_at s g in
      let ts = temperatures_at s in
      record {
        emissions = emissions_of v.group ts v.coefficients;
        answered = group_answered s c g a h;
        each = λ p l. record {
          listed = pollutant_listed v.group.fuel p l;
          code = ap (λ (x : Emission). x.code) (list_to_at no_emission emission_count (λ (m : ℕ). emission_of v.group ts (get_or v.coefficients m no_coefficients) m) p l);
          exactly = (group_exactly v.group ts v.coefficients (all_in_range_lem s c g a h) (zero_where_due_lem s c g a) p l).1;
        };
      }

  own_row : (c : Chains) (g : ℕ) → AllYes (group_asks s c g) → OwnCoefficients s g
  unfolding coefficient_asks closing_asks group_at
  own_row c g a = record {
    in_turn = λ n l. eqb-true _ _ (yes_at (coefficient_asks s g n) (row_asked_lem s c g a n l) 4);
    ends = eqb-true _ 0 (yes_at (closing_asks s g) (closing_asked s c g a) 0);
    used = λ n l. list_to_at no_coefficients pollutant_count (λ (m : ℕ). coefficients_of (slot_of s (coefficient_slot s g m))) n l;
  }

module _ (s : List ℕ) (c : Chains) (v : outcome s ≡ accepted c) where
  -- DEMAND 1: "We don't want a program that supplies a missing coefficient"
  pub own_coefficients : Each (OwnCoefficients s) c.groups
  own_coefficients = let a = (exactly_when s (accepted c)).0 v in each_good (λ b. group_asks s (groups_so_far b)) (OwnCoefficients s) (λ b g y. own_row s a.head (groups_so_far b) g y) c.groups a.groups.good

  -- DEMAND 2
  pub each_source : Worked s c (inventory_at s c)
  unfolding inventory_at contributions group_contributions locomotive_contributions
  each_source =
      let a = (exactly_when s (accepted c)).0 v in
      record {
        groups = each_onto (GroupGives (temperatures_at s)) (group_at s) c.groups [] (each_good (λ b. group_asks s (groups_so_far b)) _ (λ b g y. group_gives s a.head (groups_so_far b) g y) c.groups a.groups.good) tt;
        stores = each_onto StoreGives (store_at s) c.stores [] (each_good (λ b. store_asks s (stores_so_far c b)) _ (λ b k y. store_gives (store_at s k) (store_answered s (stores_so_far c b) k y).1) c.stores a.stores.good) tt;
        locomotives = each_onto LocomotiveGives (locomotive_at s) c.locomotives [] (each_good (λ b. locomotive_asks s (locomotives_so_far c b)) _
            (λ b k y. let d = locomotives_so_far c b in locomotive_gives (locomotive_at s k) (locomotive_in_range_lem s d k y) (shares_add_up_lem s d k y)) c.locomotives a.locomotives.good) tt;
        counts = (summed (inventory_at s c), accepted_answer s c v, summed_counts s c);
        summed = refl;
      }

  -- DEMAND 3, of every accepted file
  pub figures_rounded : (i : ℕ) → i < code_count → (a : Answer) × (answer s ≡ Ok a) × FiguresRounded a (contributions (inventory_at s c)) i
  unfolding summed annual_figure peak_figure
  figures_rounded i h =
      let xs = contributions (inventory_at s c) in
      let a = exact_parts (λ (x : Contribution). x.tonnes) tonne_parts (lit< tt) (λ (x : Contribution) (u : Units x). u.annual) (get_or codes i 0) 1000000 (inventory_at s c) in
      let p = exact_parts (λ (x : Contribution). x.rate) gram_parts (lit< tt) (λ (x : Contribution) (u : Units x). u.peak) (get_or codes i 0) 10000000 (inventory_at s c) in (
        summed (inventory_at s c),
        accepted_answer s c v,
        record { annual = rw (get_or-map (annual_figure xs) codes i 0 0 h) (rounded _ a.left); peak = rw (get_or-map (peak_figure xs) codes i 0 0 h) (rounded _ p.left) },
      )

-- DEMAND 3: "Every two such files alike in the twelve temperatures, month by month, in their vehicle groups, each with its own coefficients for the six pollutants,
-- and in their store records, repeats included, get the same answers: every annual figure, every peak figure and both counts. This holds whatever order either file
-- has its slots and chains in, and however either shares its coefficient slots": the two accepted files are s and t, with any chains, alike in their locomotives
-- too, and the third count is the same as well
pub same_answers : (s t : List ℕ) (c d : Chains) → outcome s ≡ accepted c → outcome t ≡ accepted d → AlikeFiles (inventory_at s c) (inventory_at t d) → answer s ≡ answer t
same_answers s t c d p q a = accepted_answer s c p ∙ ap Ok (same_answer (inventory_at s c) (inventory_at t d) a) ∙ sym (accepted_answer t d q)
