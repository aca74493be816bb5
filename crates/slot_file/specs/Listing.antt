-- 01, "Figures": the listing, the refusal line, and question 13 with the buffer after it.
use Rattle.std.specs.Prelude.{ℕ, zero, suc, ◌+◌, ◌/◌, ◌%◌, ◌^◌, List, [], ◌∷◌, ◌++◌, leb, ltb, get_or, length, drop, Result, Ok, Err}
use Prim.Native.Char.{code}
use Prim.Native.String as string
use Prim.Native.String.{String}
use Rattle.sums.specs.Choice.{if_then_else}
use Rattle.sums.specs.Answer.{number_of}
use Rattle.sums.specs.declared.answer.Reason.TheVariants.{ShortBuffer}
use Rattle.sums.specs.declared.answer.Refusal.{Refusal}
use Rattle.slot_file.specs.declared.Answer.{Answer}
use Rattle.slot_file.specs.declared.Listing.{Listing}
use Rattle.slot_file.specs.Codes.{codes}

-- the bytes of a text, whose characters are all of ASCII
unfoldable pub text : String → List ℕ
text string.[] = []
text (string.◌∷◌ c t) = code c ∷ text t

-- "Every number is decimal with no leading zeros": the digits of x, which has at most n + 1 of them
unfoldable pub digits : ℕ → ℕ → List ℕ
digits zero x = (48 + x % 10) ∷ []
digits (suc n) x = if_then_else (ltb x 10) ((48 + x) ∷ []) (digits n (x / 10) ++ ((48 + x % 10) ∷ []))

abbrev pub decimal : ℕ → List ℕ
decimal x = digits x x

-- the last n digits of x, zeros in front too
unfoldable pub padded : ℕ → ℕ → List ℕ
padded zero x = []
padded (suc n) x = (48 + x / 10 ^ n % 10) ∷ padded n x

-- "except one zero before the point": x units of the last of n decimals
unfoldable pub fixed : ℕ → ℕ → List ℕ
fixed n x = decimal (x / 10 ^ n) ++ text "." ++ padded n x

-- "codes have four digits": code, tonnes, grams per second
unfoldable pub line : ℕ → ℕ → ℕ → List ℕ
line c annual peak = padded 4 c ++ text " " ++ fixed 6 annual ++ text " " ++ fixed 7 peak ++ text "\n"

unfoldable pub lines : List ℕ → List ℕ → List ℕ → List ℕ
lines [] annual peak = []
lines (c ∷ cs) annual peak = line c (get_or annual 0 0) (get_or peak 0 0) ++ lines cs (drop 1 annual) (drop 1 peak)

-- "the sources line gains a third count"
unfoldable pub listing : Answer → List ℕ
listing a =
    text "code t/year g/s\n" ++ lines codes a.annual a.peak
    ++ text "sources " ++ decimal a.counts.groups ++ text " " ++ decimal a.counts.stores ++ text " " ++ decimal a.counts.locomotives ++ text "\n"

-- "`refused`, number and slot, parted by spaces"
unfoldable pub refusal_line : Refusal → List ℕ
refusal_line r = text "refused " ++ decimal (number_of r.reason) ++ text " " ++ decimal r.slot ++ text "\n"

-- what the program prints
unfoldable pub printed : Result Answer Refusal → List ℕ
printed (Ok a) = listing a
printed (Err r) = refusal_line r

-- a listing into a lent buffer: its answer and its length, or its refusal, and the buffer's bytes after it. That the length of a refused one is handed over as 0 is said where
-- it is a number (`written_of` in tezhebul's `Memory`)
pub record Listed : Type 0 where
  pub listing : Result Listing Refusal
  pub buffer : List ℕ

-- "Is the lent buffer as long as the listing?", asked last, of slot 0; "A refused listing has length 0 and changes no byte of the buffer. An accepted one writes from byte 0,
-- returns its length, and changes nothing beyond it"
unfoldable pub listed : Result Answer Refusal → List ℕ → Listed
listed (Ok a) buffer =
    if_then_else (leb (length (listing a)) (length buffer))
    (record { listing = Ok (record { answer = a; written = length (listing a) }); buffer = listing a ++ drop (length (listing a)) buffer })
    (record { listing = Err (record { reason = ShortBuffer; slot = 0 }); buffer = buffer })
listed (Err r) buffer = record { listing = Err r; buffer = buffer }
