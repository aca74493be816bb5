-- What was said of a file before there were locomotives: two chains, question 4 over 32..63, and the sums over groups and store records. A file with zeros in 32..33 is answered so, and its
-- third count is 0 (`proofs/Before.as_before`). What is asked of a group or a store record, and what it gives, is today's; of a group
-- that is not timed it is 01's (`Untimed`).
use Rattle.std.specs.Prelude.{ℕ, List, [], ◌++◌, map, length, Result, Ok, Err}
use Rattle.sums.specs.Answer.{Contribution}
use Rattle.sums.specs.declared.answer.Refusal.{Refusal}
use Rattle.slots.specs.Bytes.{zero_from, slot_of}
use Rattle.slots.specs.declared.header.Header.{Header}
use Rattle.slot_file.specs.declared.Answer.{Answer}
use Rattle.slot_file.specs.Sources.{header_at, Chains, Inventory, inventory_at}
use Rattle.slot_file.specs.Questions.{most_slots, head_asks_of, groups_so_far, stores_so_far, group_asks, store_asks, Outcome, accepted, refused}
use Rattle.slot_file.specs.Walk.{first, chain, after_all}
use Rattle.slot_file.specs.Codes.{codes}
use Rattle.slot_file.specs.Figures.{group_contributions, store_contributions, gathered, annual_figure, peak_figure}

-- "Are bytes 32..63 of slot 0 zero?"
abbrev pub header_before : List ℕ → Header
header_before s =
    let h = header_at s in
    record { format = h.format; count = h.count; heads = h.heads; temperatures = h.temperatures; rest = zero_from (slot_of s 0) 32 32 }

-- "The walk takes the group chain, then the store chain", and then question 12 is asked
unfoldable pub store_walk_before : List ℕ → Chains → Outcome
store_walk_before s c = chain (λ (b : List ℕ). store_asks s (stores_so_far c b)) (λ (b : List ℕ). after_all s (stores_so_far c b)) most_slots s [] (header_at s).heads.stores

unfoldable pub outcome_before : List ℕ → Outcome
outcome_before s =
    first (head_asks_of s (header_before s))
    (chain (λ (b : List ℕ). group_asks s (groups_so_far b)) (λ (b : List ℕ). store_walk_before s (groups_so_far b)) most_slots s [] (header_at s).heads.groups)

-- "what the rules above give ... from each source"
abbrev pub contributions_before : Inventory → List Contribution
contributions_before v = gathered (group_contributions v.temperatures) v.groups ++ gathered store_contributions v.stores

-- an accepted file's answer, with a third count of 0, and a refusal
abbrev pub answered_before : List ℕ → Outcome → Result Answer Refusal
answered_before s (accepted c) =
    let v = inventory_at s c in
    Ok (record {
      annual = map (annual_figure (contributions_before v)) codes;
      peak = map (peak_figure (contributions_before v)) codes;
      counts = record { groups = length v.groups; stores = length v.stores; locomotives = 0 };
    })
answered_before s (refused r) = Err r
