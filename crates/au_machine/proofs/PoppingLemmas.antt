-- Operands that are popped together, and arguments that are put into declared order.
use Rattle.std.proofs.Common.{◌≡◌, ℕ, suc, ◌+◌, ◌<◌, List, [], ◌∷◌, ◌++◌, length, reverse, take, drop, Option}
use Rattle.std.proofs.Common.{Some, None, slice_get, slice_set, refl, sym, ap, ◌∙◌, arith, length-append}
use Rattle.std.proofs.Common.{get_or, drop-cons}
use Rattle.std.specs.Prelude.{IfSome}
use Rattle.std.proofs.lemmas.Bool.{lt-ltb, le-ltb}
use Rattle.std.proofs.lemmas.List.{length-map}
use Rattle.au_effects.specs.Parts.{along}
use Rattle.au_low.specs.Machines.{Low, Machine, Next, stuck, where_true, pushed, popping_all, still_there, arguments_at}
use Rattle.au_cells.specs.declared.cells.Cell.{Cell}
use Rattle.au_cells.specs.Cells.{low, lows}
use Rattle.au_cells.proofs.CellLemmas.{lows_push}
use Rattle.au_machine.specs.States.{all_pushed}

front_taken : (values rest : List Low) → take (length values) (values ++ rest) ≡ values
front_taken [] rest = refl
front_taken (value ∷ values) rest = ap (λ (those : List Low). value ∷ those) (front_taken values rest)

front_dropped : (values rest : List Low) → drop (length values) (values ++ rest) ≡ rest
front_dropped [] rest = refl
front_dropped (value ∷ values) rest = front_dropped values rest

behind_all : (values rest : List Low) (value : Low) → (values ++ value ∷ []) ++ rest ≡ values ++ value ∷ rest
behind_all [] rest value = refl
behind_all (one ∷ values) rest value = ap (λ (those : List Low). one ∷ those) (behind_all values rest value)

pub none_pushed : (m : Machine) → m ≡ all_pushed [] m
none_pushed m = refl

pub one_more : (old mid new : Machine) (cells more : List Cell) (cell : Cell) → old
    ≡ all_pushed (lows cells) mid
    → mid ≡ pushed (low cell) new → more ≡ cells ++ cell ∷ [] → old ≡ all_pushed (lows more) new
one_more old mid new cells more cell before popped is =
    before
    ∙ ap (λ (m : Machine). all_pushed (lows cells) m) popped
    ∙ ap (λ (values : List Low). record new { operands = values })
    (sym (behind_all (lows cells) new.operands (low cell)))
    ∙ ap (λ (values : List Low). all_pushed values new) (sym (lows_push cells cell))
    ∙ ap (λ (those : List Cell). all_pushed (lows those) new) (sym is)

pub too_few : (old m : Machine) (cells : List Cell) (count : ℕ) (go : List Low → Machine → Next)
    → old ≡ all_pushed (lows cells) m → m.operands ≡ [] → length cells < count → popping_all count old go
    ≡ stuck
too_few old m cells count go before none few =
    let size : length m.operands ≡ 0 = ap (λ (those : List Low). length those) none in
    let past = le-ltb count (length (lows cells ++ m.operands) + 1)
    (omega (arith, length-append (lows cells) m.operands, length-map cells low, size)) in
    ap (λ (all : Machine). popping_all count all go) before
    ∙ ap (λ b. where_true b (go (reverse (take count (lows cells ++ m.operands)))
    (record m { operands = drop count (lows cells ++ m.operands) }))) past

pub enough : (old m : Machine) (cells : List Cell) (count : ℕ) (go : List Low → Machine → Next)
    → old ≡ all_pushed (lows cells) m → length cells ≡ count
    → popping_all count old go ≡ go (reverse (lows cells)) m
enough old m cells count go before is =
    let all = lows cells ++ m.operands in
    let size : count ≡ length (lows cells) = sym is ∙ sym (length-map cells low) in
    let within = lt-ltb count (length all + 1)
    (omega (arith, length-append (lows cells) m.operands, length-map cells low, is)) in
    ap (λ (it : Machine). popping_all count it go) before
    ∙ ap (λ b. where_true b (go (reverse (take count all)) (record m { operands = drop count all }))) within
    ∙ ap (λ n. go (reverse (take n all)) (record m { operands = drop n all })) size
    ∙ ap (λ (those : List Low). go (reverse those) (record m { operands = drop (length (lows cells)) all }))
    (front_taken (lows cells) m.operands)
    ∙ ap (λ (those : List Low). go (reverse (lows cells)) (record m { operands = those })) (front_dropped
    (lows cells) m.operands)

pub always : {A : Type 0} (found : Option A) (Fact : Type 0) → Fact → IfSome found (λ one. Fact)
always None Fact is = tt
always (Some one) Fact is = is

-- arguments are picked one after another
pub none_picked : (found : Option (List Low)) → along found (λ (rest : List Low). Some ([] ++ rest)) ≡ found
none_picked None = refl
none_picked (Some rest) = refl

all_picked : (values rest : List Low) → rest ≡ [] → values ++ rest ≡ values
all_picked [] rest is = is
all_picked (value ∷ values) rest is = ap (λ (those : List Low). value ∷ those) (all_picked values rest is)

pub last_picked : (values : List Low) (left : List (Option Low)) → Some values ≡ along (arguments_at [] left)
    (λ (rest : List Low). Some (values ++ rest))
last_picked values left = ap (λ (those : List Low). Some those) (sym (all_picked values [] refl))

then_picked : (found : Option (List Low)) (values : List Low) (value : Low)
    → along found (λ (rest : List Low). Some ((values ++ value ∷ []) ++ rest))
    ≡ along (along found (λ (rest : List Low). Some (value ∷ rest)))
    (λ (rest : List Low). Some (values ++ rest))
then_picked None values value = refl
then_picked (Some rest) values value = ap (λ (those : List Low). Some those) (behind_all values rest value)

pub one_picked : (whole order : List ℕ) (index : ℕ) (left new : List (Option Low)) (value : Low)
    (values : List Low)
    → whole ≡ index ∷ order → Some value ≡ still_there (slice_get left index) → new
    ≡ slice_set left index None
    → along (arguments_at order new) (λ (rest : List Low). Some ((values ++ value ∷ []) ++ rest))
    ≡ along (arguments_at whole left) (λ (rest : List Low). Some (values ++ rest))
one_picked whole order index left new value values begins is now =
    ap (λ (those : List (Option Low)). along (arguments_at order those)
    (λ (rest : List Low). Some ((values ++ value ∷ []) ++ rest))) now
    ∙ then_picked (arguments_at order (slice_set left index None)) values value
    ∙ ap (λ (found : Option Low). along (along found
    (λ v. along (arguments_at order (slice_set left index None)) (λ (rest : List Low). Some (v ∷ rest))))
    (λ (rest : List Low). Some (values ++ rest))) is
    ∙ ap (λ (all : List ℕ). along (arguments_at all left) (λ (rest : List Low). Some (values ++ rest)))
    (sym begins)

pub none_there : (whole order : List ℕ) (index : ℕ) (left : List (Option Low)) (values : List Low)
    → whole ≡ index ∷ order → None ≡ still_there (slice_get left index)
    → None ≡ along (arguments_at whole left) (λ (rest : List Low). Some (values ++ rest))
none_there whole order index left values begins is =
    ap (λ (found : Option Low). along (along found
    (λ v. along (arguments_at order (slice_set left index None)) (λ (rest : List Low). Some (v ∷ rest))))
    (λ (rest : List Low). Some (values ++ rest))) is
    ∙ ap (λ (all : List ℕ). along (arguments_at all left) (λ (rest : List Low). Some (values ++ rest)))
    (sym begins)

-- the rest of a list from an item on
pub begins_at : (xs : List ℕ) (i : ℕ) → i < length xs → drop i xs ≡ get_or xs i 0 ∷ drop (i + 1) xs
begins_at xs i within =
    let next : suc i ≡ i + 1 = omega arith in
    drop-cons xs i 0 within ∙ ap (λ n. get_or xs i 0 ∷ drop n xs) next
