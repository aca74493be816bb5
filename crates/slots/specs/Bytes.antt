-- 01, "The slot file": "Slots of 64 bytes, numbered from 0; numbers are unsigned, little-endian".
use Rattle.std.specs.Prelude.{ℕ, zero, suc, ◌+◌, ◌*◌, ◌-◌, ◌/◌, Bool, true, ◌&&◌, List, ltb, eqb, ℤ, pos, negsuc, get_or, length, replicate}
use Rattle.sums.specs.Choice.{if_then_else, list_to}

abbrev pub slot_size : ℕ
slot_size = 64

-- the bytes of a slot, from a place of the file on
unfoldable pub bytes_from : List ℕ → ℕ → List ℕ
bytes_from s base = list_to slot_size (λ (i : ℕ). get_or s (base + i) 0)

-- slot n; a slot that the file does not have reads as zero
unfoldable pub slot_of : List ℕ → ℕ → List ℕ
slot_of s n = if_then_else (ltb n (length s / slot_size)) (bytes_from s (slot_size * n)) (replicate slot_size 0)

-- 01's "a..b": the byte at a, and the two and four from a on
abbrev pub byte_at : List ℕ → ℕ → ℕ
byte_at t a = get_or t a 0

abbrev pub u16_at : List ℕ → ℕ → ℕ
u16_at t a = byte_at t a + 256 * byte_at t (a + 1)

abbrev pub u32_at : List ℕ → ℕ → ℕ
u32_at t a = u16_at t a + 65536 * u16_at t (a + 2)

-- "signed 16-bit tenths"
abbrev pub signed : ℕ → ℤ
signed n = if_then_else (ltb n 32768) (pos n) (negsuc (65535 - n))

unfoldable pub i16_at : List ℕ → ℕ → ℤ
i16_at t a = signed (u16_at t a)

-- "Bytes not named are zero": n bytes from a on
unfoldable pub zero_from : List ℕ → ℕ → ℕ → Bool
zero_from t a zero = true
zero_from t a (suc n) = zero_from t a n && eqb (byte_at t (a + n)) 0

-- of questions 8 and 9, "Has it a kind this chain carries?" and "Is each field in range and every unnamed byte zero?", the first that is answered no
unfoldable pub number_of : Bool → Bool → ℕ
number_of kind good = if_then_else kind (if_then_else good 0 9) 8
