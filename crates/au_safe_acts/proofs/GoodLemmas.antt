-- What actions come to, one after another.
use Rattle.std.proofs.Common.{◌≡◌, ℕ, zero, suc, ◌<◌, List, [], ◌∷◌, length, Option, Some, refl, sym, ap, subst}
use Rattle.std.proofs.Common.{slice_get, arith}
use Rattle.std.specs.Prelude.{map}
use Rattle.au_type_texts.specs.Types.{ClosedType}
use Rattle.au_agreeing.specs.Stores.{HasName, sizes_of}
use Rattle.au_frames.specs.Frames.{Frame}
use Rattle.au_meaning.specs.Acts.{frame_in}
use Rattle.au_meaning.specs.Ticks.{Action, Out, aborts, cut, follows, gives, needing, no_rule, tick, ticked}
use Rattle.au_meaning.specs.Worlds.{Value, World}
use Rattle.au_safe_acts.specs.Good.{Good, GoodBy, IsRunning}

-- ---- one action, and then another

pub good_then : {A B : Type 0} (owner : ClosedType → Option (List ℕ)) (cuts : World → Type 0) (mid : A → World → Type 0)
    (q : B → World → Type 0) (out : Out A) (go : A → Action B) → GoodBy owner cuts mid out
    → ((a : A) (w : World) (left : ℕ) → mid a w → GoodBy owner cuts q (go a w left))
    → GoodBy owner cuts q (follows out go)
unfolding follows
good_then owner cuts mid q (gives a w left) go good next = next a w left good
good_then owner cuts mid q (aborts fault w left) go good next = good
good_then owner cuts mid q (cut w) go good next = good
good_then owner cuts mid q (no_rule w left) go good next = absurd good

-- a tick, and then an action
pub good_tick : {A : Type 0} (owner : ClosedType → Option (List ℕ)) (cuts : World → Type 0) (q : A → World → Type 0)
    (m : Action A) (w : World) (ticks : ℕ) → cuts w → ((left : ℕ) → GoodBy owner cuts q (m w left))
    → GoodBy owner cuts q (tick m w ticks)
unfolding ticked
good_tick owner cuts q m w zero told next = told
good_tick owner cuts q m w (suc left) told next = next left

-- what is good in one way is in another
pub good_so : {A : Type 0} (owner : ClosedType → Option (List ℕ)) (cuts : World → Type 0) (q r : A → World → Type 0)
    (out : Out A) → ((a : A) (w : World) → q a w → r a w) → GoodBy owner cuts q out → GoodBy owner cuts r out
good_so owner cuts q r (gives a w left) so good = so a w good
good_so owner cuts q r (aborts fault w left) so good = good
good_so owner cuts q r (cut w) so good = good
good_so owner cuts q r (no_rule w left) so good = absurd good

-- what makes no tick is good whatever is asked of worlds where a run is cut
pub good_uncut : {A : Type 0} (owner : ClosedType → Option (List ℕ)) (cuts : World → Type 0) (q : A → World → Type 0)
    (out : Out A) → Good owner q out → GoodBy owner cuts q out
good_uncut owner cuts q (gives a w left) good = good
good_uncut owner cuts q (aborts fault w left) good = good
good_uncut owner cuts q (cut w) good = absurd good
good_uncut owner cuts q (no_rule w left) good = absurd good

-- what is needed is there
pub good_needing : {A B : Type 0} (owner : ClosedType → Option (List ℕ)) (cuts : World → Type 0)
    (q : B → World → Type 0) (o : Option A) (a : A) (go : A → Action B) (w : World) (ticks : ℕ) → o ≡ Some a
    → GoodBy owner cuts q (go a w ticks) → GoodBy owner cuts q (needing o go w ticks)
good_needing owner cuts q o a go w ticks is good =
    subst (λ x. GoodBy owner cuts q (needing x go w ticks)) (sym is) good

-- ---- the running frame

length_map : {A B : Type 0} (go : A → B) (xs : List A) → length (map go xs) ≡ length xs
length_map go [] = refl
length_map go (x ∷ xs) = ap suc (length_map go xs)

-- it is the newest one
pub frame_is : (sizes : List ℕ) (fs : List Frame) (size : ℕ) (w : World) → IsRunning sizes fs size
    → sizes_of w.store ≡ sizes → frame_in w ≡ length fs
frame_is sizes fs size w running sized =
    let all = length_map (λ (names : List (Option Value)). length names) w.store.frames in
    let many = ap (λ (xs : List ℕ). length xs) sized in
    let count = running.count in
    omega arith

name_there : (frames : List (List (Option Value))) (k n x : ℕ)
    → slice_get (map (λ (names : List (Option Value)). length names) frames) k ≡ Some n → x < n
    → (names : List (Option Value)) × (slice_get frames k ≡ Some names) × (x < length names)
name_there [] k n x h less = absurd cc
name_there (one ∷ rest) zero n x h less = let same : length one ≡ n = cc in (one, refl, omega arith)
name_there (one ∷ rest) (suc k) n x h less = name_there rest k n x h less

-- it has names below the size
pub has_room : (sizes : List ℕ) (fs : List Frame) (size : ℕ) (w : World) (x : ℕ) → IsRunning sizes fs size
    → sizes_of w.store ≡ sizes → x < size → HasName w.store (length fs) x
has_room sizes fs size w x running sized less =
    let here : slice_get (sizes_of w.store) (length fs) ≡ Some running.names =
    subst (λ (xs : List ℕ). slice_get xs (length fs) ≡ Some running.names) (sym sized) running.there in
    let room = running.room in
    let there = name_there w.store.frames (length fs) running.names x here (omega arith) in
    record { names = there.0; there = there.1; within = there.2 }
