-- 01, "Figures": "A source is a group or store record on its chain", and by 02, U1, a locomotive on its own chain. A source is a value with the fields that two alike sources share: all but the next index and
-- the first coefficient slot, and of a group the seven coefficients for each of the six pollutants.
use Rattle.std.specs.Prelude.{ℕ, zero, suc, List, map, reverse, ℤ}
use Rattle.sums.specs.Choice.{list_to}
use Rattle.vehicle_fields.specs.Fields.{pollutant_count}
use Rattle.vehicle_fields.specs.declared.group.Group.{Group}
use Rattle.vehicle_fields.specs.declared.group.Coefficients.{Coefficients}
use Rattle.locomotive_fields.specs.declared.fields.Locomotive.{Locomotive}
use Rattle.slots.specs.Bytes.{slot_of}
use Rattle.slots.specs.Layout.{next_of, header_of, group_of, first_of, coefficients_of, store_of, locomotive_of}
use Rattle.slots.specs.declared.header.Header.{Header}
use Rattle.slots.specs.declared.store.StoreRecord.{StoreRecord}

-- "34..35 first coefficient slot", and the chain from there: the coefficient slot of a group for the pollutant at place n from 0
unfoldable pub coefficient_slot : List ℕ → ℕ → ℕ → ℕ
coefficient_slot s g zero = first_of (slot_of s g)
coefficient_slot s g (suc n) = next_of (slot_of s (coefficient_slot s g n))

-- a group with its own coefficients
pub record VehicleGroup : Type 0 where
  pub group : Group
  pub coefficients : List Coefficients

unfoldable pub group_at : List ℕ → ℕ → VehicleGroup
group_at s g = record {
  group = group_of (slot_of s g);
  coefficients = list_to pollutant_count (λ (n : ℕ). coefficients_of (slot_of s (coefficient_slot s g n)));
}

-- the record of a slot that reads as one
unfoldable pub store_at : List ℕ → ℕ → StoreRecord
store_at s k = store_of (slot_of s k)

unfoldable pub locomotive_at : List ℕ → ℕ → Locomotive
locomotive_at s k = locomotive_of (slot_of s k)

-- slot 0
abbrev pub header_at : List ℕ → Header
header_at s = header_of (slot_of s 0)

unfoldable pub temperatures_at : List ℕ → List ℤ
temperatures_at s = (header_at s).temperatures

-- the slots of the groups, of the store records and of the locomotives on the chains, the last of each first
pub record Chains : Type 0 where
  pub groups : List ℕ
  pub stores : List ℕ
  pub locomotives : List ℕ

-- what a file says: the temperatures, and the sources in the order of the chains
pub record Inventory : Type 0 where
  pub temperatures : List ℤ
  pub groups : List VehicleGroup
  pub stores : List StoreRecord
  pub locomotives : List Locomotive

unfoldable pub inventory_at : List ℕ → Chains → Inventory
inventory_at s c = record {
  temperatures = temperatures_at s;
  groups = map (group_at s) (reverse c.groups);
  stores = map (store_at s) (reverse c.stores);
  locomotives = map (locomotive_at s) (reverse c.locomotives);
}
