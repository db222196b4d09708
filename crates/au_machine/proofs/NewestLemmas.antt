-- The newest operands, and what is done on them.
use Rattle.std.proofs.Common.{◌≡◌, ℕ, ◌+◌, ◌-◌, ◌<◌, ◌≤◌, List, [], ◌∷◌, ◌++◌, length, reverse, take, get_or}
use Rattle.std.proofs.Common.{refl, sym, ap, ◌∙◌, arith}
use Rattle.std.proofs.Math.Seq.{take-length}
use Rattle.std.proofs.lemmas.List.{take_more}
use Rattle.au_effects.specs.Answers.{Result, no_rule}
use Rattle.au_low.specs.Machines.{Low, Machine, popping_two}
use Rattle.au_low.specs.Instructions.{comes}
use Rattle.au_cells.specs.declared.cells.Cell.{Cell}
use Rattle.au_cells.specs.Cells.{low, lows}
use Rattle.au_machine.specs.declared.states.State.{State}
use Rattle.au_machine.specs.States.{machine_with, machine_of}
use Rattle.au_machine.specs.Newest.{of_newest, HasTwo}
use Rattle.au_machine.proofs.StateLemmas.{newest}

-- the operands of a state's machine
pub operands_in : (s : State) → (machine_of s).operands ≡ reverse (lows s.operands.0)
unfolding machine_with
operands_in s = refl

-- the two newest stand last
pub two_newest : (cells : List Cell) (a b : Cell) → 2 ≤ length cells → a ≡ get_or cells (length cells - 2) a
    → b ≡ get_or cells (length cells - 1) b
    → reverse (lows cells) ≡ low b ∷ low a ∷ reverse (lows (take (length cells - 2) cells))
two_newest cells a b many first second =
    let k : ℕ = length cells - 2 in
    let j : ℕ = length cells - 1 in
    let in_k : k < length cells = omega arith in
    let in_j : j < length cells = omega arith in
    let next : k + 1 ≡ j = omega arith in
    let all : j + 1 ≡ length cells = omega arith in
    let front : take j cells ≡ take k cells ++ a ∷ [] =
    ap (λ (n : ℕ). take n cells) (sym next) ∙ take_more cells k a in_k
    ∙ ap (λ (one : Cell). take k cells ++ one ∷ []) (sym first) in
    let whole : cells ≡ (take k cells ++ a ∷ []) ++ b ∷ [] =
    sym (take-length cells) ∙ ap (λ (n : ℕ). take n cells) (sym all) ∙ take_more cells j b in_j
    ∙ ap (λ (one : Cell). take j cells ++ one ∷ []) (sym second)
    ∙ ap (λ (those : List Cell). those ++ b ∷ []) front in
    ap (λ (those : List Cell). reverse (lows those)) whole
    ∙ newest (take k cells ++ a ∷ []) b
    ∙ ap (λ (rest : List Low). low b ∷ rest) (newest (take k cells) a)

-- an operation on them
pub on_newest : (s : State) (go : Low → Low → Result ℕ) (a b : Cell) → 2 ≤ length s.operands.0
    → a ≡ get_or s.operands.0 (length s.operands.0 - 2) a
    → b ≡ get_or s.operands.0 (length s.operands.0 - 1) b
    → go (low a) (low b) ≡ of_newest go (machine_of s).operands
on_newest s go a b many first second =
    sym (ap (of_newest go) (operands_in s ∙ two_newest s.operands.0 a b many first second))

-- there are fewer
too_few_in : (cells : List Cell) (go : Low → Low → Result ℕ) → length cells < 2
    → no_rule ≡ of_newest go (reverse (lows cells))
too_few_in [] go few = refl
too_few_in (a ∷ []) go few = refl
too_few_in (a ∷ b ∷ rest) go few = absurd (omega arith)

pub none_newest : (s : State) (go : Low → Low → Result ℕ) → length s.operands.0 < 2
    → no_rule ≡ of_newest go (machine_of s).operands
none_newest s go few = too_few_in s.operands.0 go few ∙ sym (ap (of_newest go) (operands_in s))

-- what was computed on two operands that are popped
pub come_of_two : (go : Low → Low → Result ℕ) (a b : Low) (old new : Machine) (r : Result ℕ)
    → HasTwo a b old new → r ≡ of_newest go old.operands
    → comes r new ≡ popping_two old.operands old (λ a b m. comes (go a b) m)
come_of_two go a b old new r has is =
    ap (λ (r : Result ℕ). comes r new) (is ∙ ap (λ (m : Machine). of_newest go m.operands) has)
    ∙ sym (ap (λ (m : Machine). popping_two m.operands m (λ a b m. comes (go a b) m)) has)
