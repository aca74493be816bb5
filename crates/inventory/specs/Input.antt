-- What the program takes from a reader.
use Rattle.std.specs.Prelude.{ℕ, ◌<◌, ◌≤◌, List, length, Option}
use Rattle.std.specs.Io.KnownBytes.{Consumes, IsAtEnd}

-- The file is what the reader had left; or of that as much as there is room for.
abbrev pub IsTaken : Option (List ℕ) → Option (List ℕ) → ℕ → List ℕ → Type 0
IsTaken old new room file = Consumes old new file × (length file ≤ room) × (length file < room → IsAtEnd new)
