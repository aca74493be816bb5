-- Five numbers, and after them the figures as they stand.
use Rattle.std.proofs.Common.{rules, ◌≡◌, ℕ, List, [], ◌∷◌, append-nil, length, take_at, drop_at}
use Rattle.slot_file.specs.Codes.{code_count}
use Rattle.answer_numbers.proofs.numbers.numbers_of.Goals as goal

-- the places behind the annual figures, before the peak figures stand in them
abbrev zeros : List ℕ
zeros = 0 ∷ 0 ∷ 0 ∷ 0 ∷ 0 ∷ 0 ∷ 0 ∷ 0 ∷ 0 ∷ 0 ∷ []

pub returns : goal.returns
returns c =
    let a = c.args.a in
    let l : length a.annual ≡ code_count = search rules in
    let x : c.copy_from_slice.new.self ≡ a.annual = c.copy_from_slice.ensures.after in
    let y : c.copy_from_slice-2.new.self ≡ a.peak = c.copy_from_slice-2.ensures.after in
    rw (c.from.ensures, c.from-2.ensures, c.from-3.ensures, x, y, take_at a.annual zeros code_count l, drop_at a.annual zeros code_count l, append-nil)
