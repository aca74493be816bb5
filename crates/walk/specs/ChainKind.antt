-- What the chains have in common. The claims of `OnePass` speak of `head`, `asks`, `so_far` and `Before`, and of `asks_after` and `Along`, which are made of them; nothing
-- else here has to be believed.
use Rattle.std.specs.Prelude.{ℕ, Bool, List}
use Rattle.slots.specs.Bytes.{slot_of}
use Rattle.slots.specs.declared.header.Header.{Header}
use Rattle.slot_file.specs.Sources.{header_at, Chains}
use Rattle.slot_file.specs.Questions.{Question, last_of, sources_of, link_asks}
use Rattle.slot_file.specs.Meaning.{Reached}

pub record ChainKind : Type 1 where
  -- its head in the header
  pub head : Header → ℕ
  -- what is asked of a link, by the chains so far
  pub asks : List ℕ → Chains → ℕ → List Question
  -- the chains so far, by those before it and its own slots, the last one first
  pub so_far : Chains → List ℕ → Chains
  -- that questions 1 to 5 are answered yes, and the chains before it are passed
  pub Before : List ℕ → Chains → Type 0
  -- whether a slot's bytes are of a kind that it carries, and whether they are good
  pub of_kind : List ℕ → Bool
  pub good : List ℕ → Bool
  -- what is asked of a source after its slot
  pub asked_after : List ℕ → ℕ → List Question
  -- the marks with what a source reaches beside its own slot
  pub reaches : List ℕ → ℕ → List Bool → List Bool

module _ (k : ChainKind) (s : List ℕ) where
  -- what is asked of a link after the slots b
  abbrev pub asks_after : Chains → List ℕ → ℕ → List Question
  asks_after c b = k.asks s (k.so_far c b)

  -- of that, what is asked of every link
  abbrev pub front : Chains → List ℕ → ℕ → List Question
  front c b n = link_asks s (last_of b) (sources_of (k.so_far c b)) n (k.of_kind (slot_of s n)) (k.good (slot_of s n))

  -- the slots b are the chain from its head on, up to a link, and of each every question was answered yes when it came
  abbrev pub Along : Chains → List ℕ → ℕ → Type 0
  Along c b link = Reached (asks_after c) s (k.head (header_at s)) b link
