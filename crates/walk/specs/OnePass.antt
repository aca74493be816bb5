-- 02, U3: "walk a file once, checking and summing together ... Show that after each step of the walk its sums are the exact sums of the sources passed so far, that
-- the figures come from the sums at its end, and that it visits each source of an accepted file once. Drop the partial sums on a refusal." What is claimed of the
-- walk, in these words: a reader has to believe this file, with what `ChainKind` and `ThreeChains` say of the three chains, and no other of this crate.
-- The marks, by which the walk asks questions 7 and 12, are no claim of 02; they stand in `Holds` since the walk goes by them.
use Rattle.std.specs.Prelude.{ℕ, ◌≡◌, Bool, true, false, List, [], ◌∷◌, length, map, Result, Ok, IfOk, IfErr, MatchResult}
use Rattle.sums.specs.Fraction.{Frac, ◌over◌, ◌≈◌}
use Rattle.sums.specs.Figures.{tonne_parts, gram_parts, annual_parts, annual_sum, peak_parts, peak_sum}
use Rattle.sums.specs.Answer.{Contribution}
use Rattle.sums.specs.declared.answer.Refusal.{Refusal}
use Rattle.slot_file.specs.Sources.{Chains, inventory_at}
use Rattle.slot_file.specs.Questions.{member, last_of, sources_of, reached_of, accepted}
use Rattle.slot_file.specs.Walk.{outcome}
use Rattle.slot_file.specs.Meaning.{Refuses}
use Rattle.slot_file.specs.Codes.{codes}
use Rattle.slot_file.specs.Figures.{contributions, exact_sum, counts_of, answer}
use Rattle.slot_file.specs.Parts.{marks_of}
use Rattle.slot_file.specs.declared.Counts.{Counts}
use Rattle.totals.specs.Totals.{no_sums, figures_in}
use Rattle.totals.specs.declared.Totals.{Totals}
use Rattle.walk.specs.ChainKind.{ChainKind, Along}
use Rattle.walk.specs.declared.chain.Position.{Position}
use Rattle.walk.specs.declared.state.State.{State}

-- 01's exact sums of a code, in tonnes a year and in grams per second
abbrev pub tonnes_of : List Contribution → ℕ → Frac
tonnes_of xs c = exact_sum (λ (x : Contribution). x.tonnes) c xs

abbrev pub grams_of : List Contribution → ℕ → Frac
grams_of xs c = exact_sum (λ (x : Contribution). x.rate) c xs

-- the sums are the exact sums of what xs give: each of the listing's codes has its exact sum, counted in exact units, in its place; and counting drops nothing, since
-- so many units of a tonne or of a gram per second are that fraction
pub record ExactSums (xs : List Contribution) (t : Totals) : Type 0 where
  pub annual_are : t.annual ≡ map (λ (c : ℕ). annual_sum (tonnes_of xs c)) codes
  pub peak_are : t.peak ≡ map (λ (c : ℕ). peak_sum (grams_of xs c)) codes
  pub annual_exact : (c : ℕ) → tonnes_of xs c ≈ (annual_parts (annual_sum (tonnes_of xs c)) over tonne_parts)
  pub peak_exact : (c : ℕ) → grams_of xs c ≈ (peak_parts (peak_sum (grams_of xs c)) over gram_parts)

-- WHAT THE WALK HOLDS after the sources on the chains so far: their marks, those of all that they reach, and, where sums are wanted, "the exact sums of the sources
-- passed so far", else none
pub record Holds (s : List ℕ) (summing : Bool) (m : State) (c : Chains) : Type 0 where
  pub sources_are : m.sources ≡ marks_of (sources_of c)
  pub reached_are : m.reached ≡ marks_of (reached_of s c)
  pub sums_are : summing ≡ true → ExactSums (contributions (inventory_at s c)) m.totals
  pub none_summed : summing ≡ false → m.totals ≡ no_sums

-- a link, and how many sources are passed before it
abbrev pub at_link : ℕ → ℕ → ℕ → Position
at_link holder slot n = record { link = record { holder = holder; slot = slot }; passed = n }

-- where the walk stands on a chain of the kind k: the chains of c before it are passed, and of its own the slots b, the last one first, which the position counts; it
-- goes on at the position's link
pub record Passed (k : ChainKind) (s : List ℕ) (summing : Bool) (m : State) (at : Position) (c : Chains) (b : List ℕ) : Type 0 where
  pub before : k.Before s c
  pub chain : Along k s c b at.link.slot
  pub holder_is : at.link.holder ≡ last_of b
  pub count_is : at.passed ≡ length b
  pub holds : Holds s summing m (k.so_far c b)

-- it stands somewhere: the invariant of the walk's one loop, in `walk_chain`, and what `step_along` asks of its caller
pub record Stands (k : ChainKind) (s : List ℕ) (summing : Bool) (m : State) (at : Position) : Type 0 where
  pub c : Chains
  pub b : List ℕ
  pub passed : Passed k s summing m at c b

-- CLAIM (a), "after each step of the walk its sums are the exact sums of the sources passed so far": wherever the walk stands before the step, it stands after it with
-- the slot of the link, and no other, passed besides; or the file is refused, and the step has added nothing. The promise of `step_along`, for each chain
pub record Stepped (k : ChainKind) (s : List ℕ) (summing : Bool) (m m' : State) (at : Position) (r : Result Position Refusal) : Type 0 where
  pub passed : (c : Chains) (b : List ℕ) → Passed k s summing m at c b → IfOk r (λ after. Passed k s summing m' after c (at.link.slot ∷ b))
  pub refused : IfErr r (Refuses s)
  pub kept : IfErr r (λ _. m'.totals ≡ m.totals)

-- at the chain's end n sources are passed; or the file is refused. The promise of `walk_chain`, for each chain
pub record Ends (k : ChainKind) (s : List ℕ) (summing : Bool) (m : State) (n : ℕ) : Type 0 where
  pub holder : ℕ
  pub stands : Stands k s summing m (at_link holder 0 n)

abbrev pub Walked : ChainKind → List ℕ → Bool → State → Result ℕ Refusal → Type 0
Walked k s summing m r = MatchResult r (Ends k s summing m) (Refuses s)

-- CLAIM (b), "the figures come from the sums at its end": the file's answer has those of the sums, each rounded, beside the counts
abbrev pub FiguresFrom : List ℕ → Counts → Totals → Type 0
FiguresFrom s counts t = answer s ≡ Ok (record { annual = (figures_in t).annual; peak = (figures_in t).peak; counts = counts })

-- no slot comes twice
abbrev pub Once : List ℕ → Type 0
Once [] = Unit {0}
Once (k ∷ l) = (member k l ≡ false) × Once l

-- CLAIM (c), "it visits each source of an accepted file once": the chains c are the file's, each slot on them comes once, and the counts, which the walk has made, say
-- how many there are. That the walk has passed the slots of c, one a step, and no other, is what `Walked` and `Stepped` say of it
pub record VisitedOnce (s : List ℕ) (c : Chains) (counts : Counts) : Type 0 where
  pub chains : outcome s ≡ accepted c
  pub once : Once (sources_of c)
  pub counted : counts ≡ counts_of c

-- what the walk hands over of an accepted file, its counts and the sums at its end; "Drop the partial sums on a refusal": of a refused one its refusal, and no sums. The
-- promise of `walk_file`
pub record FileAccepted (s : List ℕ) (summing : Bool) (counts : Counts) (totals : Totals) : Type 0 where
  pub c : Chains
  pub visited : VisitedOnce s c counts
  pub sums_are : summing ≡ true → ExactSums (contributions (inventory_at s c)) totals
  pub figures : summing ≡ true → FiguresFrom s counts totals
  pub none_summed : summing ≡ false → totals ≡ no_sums

abbrev pub FileWalked : List ℕ → Bool → Result (Counts × Totals) Refusal → Type 0
FileWalked s summing r = MatchResult r (λ w. FileAccepted s summing w.0 w.1) (Refuses s)
