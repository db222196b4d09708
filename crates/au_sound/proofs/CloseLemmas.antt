-- All tokens of a frame end at once.
use Rattle.std.proofs.Common.{◌≡◌, ◌⊎◌, inl, inr, ℕ, ◌+◌, ◌-◌, ◌<◌, ◌≤◌, Bool, true, false, List, [], ◌∷◌}
use Rattle.std.proofs.Common.{◌++◌, length, map, take, drop, Option, refl, sym, ap, subst, ◌∙◌, arith}
use Rattle.std.proofs.Math.Seq.{take-add}
use Rattle.std.proofs.lemmas.List.{drop-drop}
use Rattle.std.proofs.lemmas.Bool.{cases_lt}
use Rattle.std.proofs.Math.ListN.{length-append, length-drop}
use Rattle.au_effects.specs.References.{newer, oldest}
use Rattle.au_effects.specs.Worlds as effects
use Rattle.au_type_texts.specs.Types.{ClosedType}
use Rattle.au_memory.specs.Forests.{Made}
use Rattle.au_memory.specs.Loans.{Types}
use Rattle.au_lending.specs.Ending.{freed}
use Rattle.au_safe_ships.specs.Orders.{Act, AreSorted, AreStacked, Lying, is_active}
use Rattle.au_safe_ships.specs.Frames.{Frame}
use Rattle.au_meaning.specs.Acts.{closed_to}
use Rattle.au_meaning.specs.Worlds.{Borrow, Store, World}
use Rattle.au_safe_ships.specs.Good.{IsIn, lying_in}
use Rattle.au_sound_blocks.specs.Blocks.{Names}
use Rattle.au_sound_blocks.specs.Lives.{Standing, freed_each}
use Rattle.au_sound_blocks.specs.Actions.{ActionsAreSafe}
use Rattle.au_sound_blocks.specs.Safe.{AllWait, frame}
use Rattle.au_sound_blocks.proofs.WaitLemmas.{all_more, frames_stay}
use Rattle.au_sound_blocks.specs.Flows.{IsBottom, tokens}
use Rattle.au_sound_blocks.proofs.StateLemmas.{more_active}
use Rattle.au_sound_blocks.specs.Held.{Permits}

-- ---- borrows are closed in two steps

closes_both : (xs ys : List ℕ) (s : Store) → effects.closes ys (effects.closes xs s) ≡ effects.closes (xs ++ ys) s
closes_both [] ys s = refl
closes_both (x ∷ xs) ys s = closes_both xs ys (effects.tells (effects.closed x) s)

map_both : {A B : Type 0} (go : A → B) (xs ys : List A) → map go (xs ++ ys) ≡ map go xs ++ map go ys
map_both go [] ys = refl
map_both go (x ∷ xs) ys = ap (λ zs. go x ∷ zs) (map_both go xs ys)

newest_both : {A : Type 0} (c d : ℕ) (xs : List A) → c ≤ d
    → newer d xs ++ newer c (oldest d xs) ≡ newer c xs
newest_both c d xs less =
    let rest : length (drop (length xs - d) xs) ≡ length xs - (length xs - d) = length-drop (length xs - d) xs in
    by (cases_lt (length xs) d) rest
  where
    by : (length xs < d) ⊎ (d ≤ length xs) → length (drop (length xs - d) xs) ≡ length xs - (length xs - d)
        → newer d xs ++ newer c (oldest d xs) ≡ newer c xs
    by (inl few) rest =
        let none : length xs - d ≡ 0 = omega arith in
        ap (λ (n : ℕ). take n xs ++ take (length (drop n xs) - c) (drop n xs)) none
    by (inr many) rest =
        let count : length (drop (length xs - d) xs) - c ≡ d - c = omega arith in
        let sum : (length xs - d) + (d - c) ≡ length xs - c = omega arith in
        ap (λ (n : ℕ). take (length xs - d) xs ++ take n (drop (length xs - d) xs)) count
        ∙ (sym (take-add (length xs - d) (d - c) xs) ∙ ap (λ (n : ℕ). take n xs) sum)

oldest_both : {A : Type 0} (c d : ℕ) (xs : List A) → c ≤ d → oldest c (oldest d xs) ≡ oldest c xs
oldest_both c d xs less =
    let rest : length (drop (length xs - d) xs) ≡ length xs - (length xs - d) = length-drop (length xs - d) xs in
    drop-drop (length (drop (length xs - d) xs) - c) (length xs - d) xs
    ∙ by (cases_lt (length xs) d) rest
  where
    by : (length xs < d) ⊎ (d ≤ length xs) → length (drop (length xs - d) xs) ≡ length xs - (length xs - d)
        → drop ((length xs - d) + (length (drop (length xs - d) xs) - c)) xs ≡ drop (length xs - c) xs
    by (inl few) rest =
        let same : (length xs - d) + (length (drop (length xs - d) xs) - c) ≡ length xs - c = omega arith in
        ap (λ (n : ℕ). drop n xs) same
    by (inr many) rest =
        let same : (length xs - d) + (length (drop (length xs - d) xs) - c) ≡ length xs - c = omega arith in
        ap (λ (n : ℕ). drop n xs) same

pub closed_twice : (c d : ℕ) (n : World) → c ≤ d → closed_to c (closed_to d n) ≡ closed_to c n
closed_twice c d n less =
    let numbers : map (λ (one : Borrow). one.number) (newer d n.borrows)
    ++ map (λ (one : Borrow). one.number) (newer c (oldest d n.borrows))
    ≡ map (λ (one : Borrow). one.number) (newer c n.borrows) =
    sym (map_both (λ (one : Borrow). one.number) (newer d n.borrows) (newer c (oldest d n.borrows)))
    ∙ ap (λ (xs : List Borrow). map (λ (one : Borrow). one.number) xs) (newest_both c d n.borrows less) in
    let store : effects.closes (map (λ (one : Borrow). one.number) (newer c (oldest d n.borrows)))
    (effects.closes (map (λ (one : Borrow). one.number) (newer d n.borrows)) n.store)
    ≡ effects.closes (map (λ (one : Borrow). one.number) (newer c n.borrows)) n.store =
    closes_both (map (λ (one : Borrow). one.number) (newer d n.borrows))
    (map (λ (one : Borrow). one.number) (newer c (oldest d n.borrows))) n.store
    ∙ ap (λ (xs : List ℕ). effects.closes xs n.store) numbers in
    λ i. record n { store = store i; borrows = oldest_both c d n.borrows less i }

-- ---- what lay open when a frame began lies below

bottom_below : (own below : List Act) (lying base : Lying) → AreStacked (own ++ below) lying → IsBottom own lying base
    → length base ≤ length lying
bottom_below [] below lying base stacked bottom =
    let same : length lying ≡ length base = ap (λ (xs : Lying). length xs) bottom in
    omega arith
bottom_below (a ∷ own) below lying base stacked bottom =
    let rest = bottom_below own below a.base base stacked.1 bottom in
    let sum : length lying ≡ length stacked.0.newer + length a.base =
    ap (λ (xs : Lying). length xs) stacked.0.is ∙ length-append stacked.0.newer a.base in
    omega arith

-- the newest token isn't among those before it
newest_off : (a : Act) (older : List Act) → AreSorted (a ∷ older) → is_active older a.token ≡ false
newest_off a older sorted = by (is_active older a.token) refl
  where
    by : (b : Bool) → is_active older a.token ≡ b → is_active older a.token ≡ false
    by true is = let less = sorted.0 a.token is in absurd (omega arith)
    by false is = is

-- ---- all tokens of a frame

module _ (types : Types) (owner : ClosedType → Option (List ℕ)) {V W : Type 0} (permits : Permits V W)
    (ways : List V)
    (laws : ActionsAreSafe types owner) (below : List Act)
    (base : Lying) (fs : List Frame) (sizes : List ℕ) (waiting : AllWait permits ways (is_active below) fs) where
  -- the newest one ends
  one_ended : (a : Act) (own : List Act) (hold : Standing) (names : Names) (made : Made) (n : World)
      → IsIn types owner (a ∷ (own ++ below)) (frame hold names ∷ fs) sizes made n
      → IsIn types owner (own ++ below) (frame (λ k. freed a.token (hold k)) names ∷ fs) sizes made
      (closed_to (length a.base) n)
  one_ended a own hold names made n state =
      subst (λ (gs : List Frame). IsIn types owner (own ++ below) (frame (λ k. freed a.token (hold k)) names ∷ gs) sizes
      made (closed_to (length a.base) n))
      (frames_stay permits ways (is_active (own ++ below)) a.token fs
      (all_more permits ways (is_active below) (is_active (own ++ below)) (more_active own below) fs waiting)
      (newest_off a (own ++ below) state.safe.inv.sorted))
      (laws.ended (a ∷ (own ++ below)) (frame hold names ∷ fs) sizes made n a (own ++ below) refl state)

  pub all_ended : (a : Act) (own : List Act) (hold : Standing) (names : Names) (made : Made) (n : World)
      → IsBottom (a ∷ own) (lying_in n) base
      → IsIn types owner (a ∷ (own ++ below)) (frame hold names ∷ fs) sizes made n
      → IsIn types owner below (frame (λ k. freed_each (tokens (a ∷ own)) (hold k)) names ∷ fs) sizes made
      (closed_to (length base) n) × (lying_in (closed_to (length base) n) ≡ base)
  all_ended a [] hold names made n bottom state =
      subst (λ (xs : Lying). IsIn types owner below (frame (λ k. freed a.token (hold k)) names ∷ fs) sizes made
      (closed_to (length xs) n) × (lying_in (closed_to (length xs) n) ≡ xs)) bottom (
        one_ended a [] hold names made n state,
        (laws.counted (a ∷ below) (frame hold names ∷ fs) sizes made n).1 a below refl state,
      )
  all_ended a (b ∷ own) hold names made n bottom state =
      let one = one_ended a (b ∷ own) hold names made n state in
      let rest = all_ended b own (λ k. freed a.token (hold k)) names made (closed_to (length a.base) n) bottom one in
      let less : length base ≤ length a.base =
      bottom_below (b ∷ own) below a.base base state.safe.inv.stacked.1 bottom in
      subst (λ (m : World). IsIn types owner below
      (frame (λ k. freed_each (tokens (b ∷ own)) (freed a.token (hold k))) names ∷ fs) sizes made m
      × (lying_in m ≡ base)) (closed_twice (length base) (length a.base) n less) rest
