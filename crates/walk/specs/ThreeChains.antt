-- The kinds of the three chains, of which the claims of `OnePass` speak by the fields that `ChainKind` names; their sources, and the sums with one more. Nothing else here
-- has to be believed.
use Rattle.std.specs.Prelude.{ℕ, List, [], ◌∷◌, ◌++◌}
use Rattle.sums.specs.declared.answer.Reason.TheVariants.{Shares}
use Rattle.vehicle_fields.specs.Fields.{pollutant_count}
use Rattle.warmups.specs.declared.climate.Climate.{Climate}
use Rattle.vehicles.specs.Rules.{emission_count}
use Rattle.vehicles.specs.Parts.{answer_in}
use Rattle.locomotive_fields.specs.Fields.{shares_add_up}
use Rattle.locomotive_fields.specs.declared.fields.Locomotive.{Locomotive}
use Rattle.locomotives.specs.Rules.{substance_count, locomotive_answer}
use Rattle.slots.specs.Layout.{group_of, group_kind, group_good, store_kind, store_good, locomotive_of, locomotive_kind, locomotive_good}
use Rattle.slots.specs.declared.store.StoreRecord.{StoreRecord}
use Rattle.slot_file.specs.Sources.{group_at, locomotive_at}
use Rattle.slot_file.specs.Questions.{head_asks, groups_so_far, stores_so_far, locomotives_so_far, group_asks, store_asks, locomotive_asks, question, rows_asks, closing_asks}
use Rattle.slot_file.specs.Meaning.{AllYes, Groups, Stores}
use Rattle.source_sums.specs.Added.{plus_answer, plus_one, record_answer}
use Rattle.source_sums.specs.declared.GroupSource.{GroupSource}
use Rattle.totals.specs.declared.Totals.{Totals}
use Rattle.walk.specs.Rows.{marks_to}
use Rattle.walk.specs.ChainKind.{ChainKind}

abbrev pub groups : ChainKind
groups = record {
  head = λ h. h.heads.groups;
  asks = group_asks;
  so_far = λ c b. groups_so_far b;
  Before = λ s c. AllYes (head_asks s);
  of_kind = group_kind;
  good = λ t. group_good t (group_of t);
  asked_after = λ s g. rows_asks s g pollutant_count ++ closing_asks s g;
  reaches = λ s g l. marks_to s g l pollutant_count;
}

abbrev pub stores : ChainKind
stores = record {
  head = λ h. h.heads.stores;
  asks = store_asks;
  so_far = stores_so_far;
  Before = λ s c. AllYes (head_asks s) × Groups s c 0;
  of_kind = store_kind;
  good = store_good;
  asked_after = λ s k. [];
  reaches = λ s k l. l;
}

abbrev pub locomotives : ChainKind
locomotives = record {
  head = λ h. h.heads.locomotives;
  asks = locomotive_asks;
  so_far = locomotives_so_far;
  Before = λ s c. AllYes (head_asks s) × Groups s c 0 × Stores s c 0;
  of_kind = locomotive_kind;
  good = λ t. locomotive_good t (locomotive_of t);
  asked_after = λ s k. question (shares_add_up (locomotive_at s k)) Shares k ∷ [];
  reaches = λ s k l. l;
}

-- a group with its coefficients, and the sums with it
abbrev pub group_source_at : List ℕ → ℕ → GroupSource
group_source_at s g = record { group = (group_at s g).group; coefficients = (group_at s g).coefficients }

abbrev pub plus_group : Climate → Totals → GroupSource → Totals
plus_group y t x = plus_answer emission_count t (answer_in x.group y x.coefficients)

-- the sums with a store record, and with a locomotive
abbrev pub plus_store : Totals → StoreRecord → Totals
plus_store t r = plus_one t (record_answer r)

abbrev pub plus_locomotive : Totals → Locomotive → Totals
plus_locomotive t l = plus_answer substance_count t (locomotive_answer l)
