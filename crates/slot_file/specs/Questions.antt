-- 01, "Questions in order", and 02, U1: each question is written once, as a value with its answer and the refusal that it gives, a reason, whose number is that of 01 and 02, and a slot; and what a file is told.
use Rattle.std.specs.Prelude.{ℕ, zero, suc, ◌+◌, ◌*◌, ◌-◌, ◌/◌, ◌%◌, Bool, true, false, ◌&&◌, not, List, [], ◌∷◌, ◌++◌, leb, ltb, eqb, length}
use Rattle.sums.specs.Choice.{if_then_else}
use Rattle.sums.specs.declared.answer.Reason.{Reason}
use Rattle.sums.specs.declared.answer.Reason.TheVariants.{Length, Format, Count, HeaderBytes, Temperatures, LinkPastEnd, Repeated, WrongKind, OutOfRange, CoefficientChain, SootOrLead, Unreached, Shares}
use Rattle.sums.specs.declared.answer.Refusal.{Refusal}
use Rattle.vehicle_fields.specs.Fields.{pollutant_count, temperatures_in_range}
use Rattle.vehicle_fields.specs.SootAndLead.{zero_where_due}
use Rattle.locomotive_fields.specs.Fields.{shares_add_up}
use Rattle.slots.specs.Bytes.{slot_size, slot_of}
use Rattle.slots.specs.Layout.{group_of, group_good, group_kind, coefficients_of, coefficients_good, coefficients_kind, pollutant_of, store_kind, store_good, locomotive_of, locomotive_kind, locomotive_good}
use Rattle.slots.specs.declared.header.Header.{Header}
use Rattle.slot_file.specs.Sources.{coefficient_slot, group_at, locomotive_at, header_at, Chains}

-- a question: its answer, and the refusal of what it is answered no of
pub record Question : Type 0 where
  pub yes : Bool
  pub refusal : Refusal

abbrev pub question : Bool → Reason → ℕ → Question
question t n k = record { yes = t; refusal = record { reason = n; slot = k } }

-- accepted, with the chains; or refused
pub data Outcome : Type 0 where
  accepted : Chains → Outcome
  refused : Refusal → Outcome

-- the last number that a refusal of a file can have
abbrev pub last_number : ℕ
last_number = 14

-- the listing's own number, which no check and no answer of a file has: "Only a listing asks 13, last"
abbrev pub listing_number : ℕ
listing_number = 13

-- slots of a file at most: "from 64 to 65,536" bytes
abbrev pub most_slots : ℕ
most_slots = 1024

abbrev pub most_bytes : ℕ
most_bytes = slot_size * most_slots

-- slots of the file
abbrev pub slot_count : List ℕ → ℕ
slot_count s = length s / slot_size

-- questions 1 to 5, of the file s and what its slot 0 holds; "The slot is 0 for 1 to 5"
abbrev pub head_asks_of : List ℕ → Header → List Question
head_asks_of s h =
    question (leb slot_size (length s) && leb (length s) most_bytes && eqb (length s % slot_size) 0) Length 0  -- 1: "Is the length a multiple of 64, from 64 to 65,536?"
    ∷ question (eqb h.format 1) Format 0  -- 2: "Is the format number 1?"
    ∷ question (eqb h.count (slot_count s)) Count 0  -- 3: "Does the slot count equal length / 64?"
    ∷ question h.rest HeaderBytes 0  -- 4: "Are bytes 32..63 of slot 0 zero?", where "question 4 skips the two bytes" 32..33
    ∷ question (temperatures_in_range h.temperatures) Temperatures 0  -- 5: "Is each temperature from -600 to 600?"
    ∷ []

unfoldable pub head_asks : List ℕ → List Question
head_asks s = head_asks_of s (header_at s)

-- whether k is among the slots
unfoldable pub member : ℕ → List ℕ → Bool
member k [] = false
member k (x ∷ xs) = if_then_else (eqb k x) true (member k xs)

-- of a slot k, by its kind and by its fields and unnamed bytes
abbrev pub slot_asks : Bool → Bool → ℕ → List Question
slot_asks kind good k =
    question kind WrongKind k  -- 8: "Has it a kind this chain carries?"
    ∷ question good OutOfRange k  -- 9: "Is each field in range and every unnamed byte zero?"
    ∷ []

-- "At each nonzero link 6, 7, 8 and 9 are asked": of a link k, which the slot `holder` holds, where `before` are the slots reached before as groups, store
-- records and locomotives; the refusal's slot is "the slot holding the link for 6", else "the slot asked about"
unfoldable pub link_asks : List ℕ → ℕ → List ℕ → ℕ → Bool → Bool → List Question
link_asks s holder before k kind good =
    question (ltb k (slot_count s)) LinkPastEnd holder  -- 6: "Is the link below the slot count?"
    ∷ question (not (member k before)) Repeated k  -- 7: "Is the slot new on this walk as a group or store record?"; "question 7 includes locomotives"
    ∷ slot_asks kind good k

-- the slot that holds the link to a group's coefficient slot at place n
unfoldable pub coefficient_holder : List ℕ → ℕ → ℕ → ℕ
coefficient_holder s g zero = g
coefficient_holder s g (suc n) = coefficient_slot s g n

-- "its six coefficient links, each asking: nonzero (10), 6, 8, 9, pollutant in turn (10)"; "Question 7 is not asked of coefficient slots"; "the slot holding the
-- link for 6 and for a zero link under 10"
unfoldable pub coefficient_asks : List ℕ → ℕ → ℕ → List Question
coefficient_asks s g n =
    let k = coefficient_slot s g n in
    let t = slot_of s k in
    question (not (eqb k 0)) CoefficientChain (coefficient_holder s g n)
    ∷ question (ltb k (slot_count s)) LinkPastEnd (coefficient_holder s g n)
    ∷ slot_asks (coefficients_kind t) (coefficients_good t (coefficients_of t)) k
    ++ question (eqb (pollutant_of t) (n + 1)) CoefficientChain k
    ∷ []

-- of the first n of them
unfoldable pub rows_asks : List ℕ → ℕ → ℕ → List Question
rows_asks s g zero = []
rows_asks s g (suc n) = rows_asks s g n ++ coefficient_asks s g n

-- "after the sixth, next is zero (10)": at "the sixth coefficient slot where its next isn't zero"
abbrev pub after_sixth : List ℕ → ℕ → Question
after_sixth s g = question (eqb (coefficient_slot s g pollutant_count) 0) CoefficientChain (coefficient_slot s g (pollutant_count - 1))

-- "then 11 for the group": "the group for 11"
unfoldable pub closing_asks : List ℕ → ℕ → List Question
closing_asks s g =
    after_sixth s g  -- 10: "Does the coefficient chain hold pollutants 1 to 6 in order, then end?"
    ∷ question (zero_where_due (group_at s g).group (group_at s g).coefficients) SootOrLead g  -- 11: "Is soot zero throughout for petrol, lead for diesel?"
    ∷ []

-- the last slot of a chain so far, which holds the next link; slot 0 holds the first
abbrev pub last_of : List ℕ → ℕ
last_of [] = 0
last_of (k ∷ b) = k

-- the first n coefficient slots of a group, the last first
unfoldable pub coefficient_slots : List ℕ → ℕ → ℕ → List ℕ
coefficient_slots s g zero = []
coefficient_slots s g (suc n) = coefficient_slot s g n ∷ coefficient_slots s g n

-- every slot that the groups reach, the last first: themselves and their coefficient slots
unfoldable pub reached_by : List ℕ → List ℕ → List ℕ
reached_by s [] = []
reached_by s (g ∷ b) = coefficient_slots s g pollutant_count ++ g ∷ reached_by s b

-- the sources on the chains, and every slot that the chains reach
abbrev pub sources_of : Chains → List ℕ
sources_of c = c.locomotives ++ (c.stores ++ c.groups)

abbrev pub reached_of : List ℕ → Chains → List ℕ
reached_of s c = c.locomotives ++ (c.stores ++ reached_by s c.groups)

-- "The walk takes the group chain, then the store chain", and "the first locomotive slot, walked after the stores": the chains while the groups b are passed;
-- then, after the groups of c, the store records b; then, after both of c, the locomotives b
abbrev pub groups_so_far : List ℕ → Chains
groups_so_far b = record { groups = b; stores = []; locomotives = [] }

abbrev pub stores_so_far : Chains → List ℕ → Chains
stores_so_far c b = record { groups = c.groups; stores = b; locomotives = [] }

abbrev pub locomotives_so_far : Chains → List ℕ → Chains
locomotives_so_far c b = record { groups = c.groups; stores = c.stores; locomotives = b }

-- of a link g to a group, of a link k to a store record and of one to a locomotive, by the chains so far; and all that is asked of the group
abbrev pub group_link_asks : List ℕ → Chains → ℕ → List Question
group_link_asks s c g =
    let t = slot_of s g in
    link_asks s (last_of c.groups) (sources_of c) g (group_kind t) (group_good t (group_of t))

unfoldable pub group_asks : List ℕ → Chains → ℕ → List Question
group_asks s c g = group_link_asks s c g ++ rows_asks s g pollutant_count ++ closing_asks s g

unfoldable pub store_asks : List ℕ → Chains → ℕ → List Question
store_asks s c k =
    let t = slot_of s k in
    link_asks s (last_of c.stores) (sources_of c) k (store_kind t) (store_good t)

-- "14 when a locomotive's shares don't total 1,000, asked after its 9"
unfoldable pub locomotive_asks : List ℕ → Chains → ℕ → List Question
locomotive_asks s c k =
    let t = slot_of s k in
    link_asks s (last_of c.locomotives) (sources_of c) k (locomotive_kind t) (locomotive_good t (locomotive_of t))
    ++ question (shares_add_up (locomotive_at s k)) Shares k
    ∷ []

-- "Is each slot from 1 up reached?": n slots from i up, so that the first that is not is "the lowest unreached"
unfoldable pub reach_asks : ℕ → ℕ → List ℕ → List Question
reach_asks zero i reached = []
reach_asks (suc n) i reached = question (member i reached) Unreached i ∷ reach_asks n (i + 1) reached

unfoldable pub last_asks : List ℕ → Chains → List Question
last_asks s c = reach_asks (slot_count s - 1) 1 (reached_of s c)
