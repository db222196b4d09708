-- What runs of programs give that are judged so.
use Rattle.std.specs.Prelude.{◌≡◌, ℕ, suc, true, List, [], ◌∷◌, length, Option, codes}
use Rattle.au_events.specs.Events.{AllClosed, AtMostOnce, Inside, Once, OwnMade}
use Rattle.au_type_texts.specs.Types.{ClosedType}
use Rattle.au_types.specs.Types.{Meaning}
use Rattle.au_memory.specs.Forests.{Made}
use Rattle.au_memory.specs.Loans.{Types}
use Rattle.au_lending.specs.Records.{onto, types_made}
use Rattle.au_safe_ships.specs.Orders.{Act, is_active}
use Rattle.au_safe_ships.specs.Frames.{Frame}
use Rattle.au_meaning.specs.Meanings.{call_at, mean, parameters_of}
use Rattle.au_meaning.specs.Views.{Field, Function}
use Rattle.au_meaning.specs.Worlds.{Ending, Outcome, Value, World, abort, exit, running, stuck}
use Rattle.au_safe_ships.specs.Good.{IsIn, lying_in}
use Rattle.au_safe_ships.specs.Making.{values_of}
use Rattle.au_safe_ships.specs.Exclusive.{IsExclusive}
use Rattle.au_safe_ships.specs.Entering.{EntersWell, LeavesWell}
use Rattle.au_safe_ships.specs.Sound.{IsHomeOf}
use Rattle.au_safe_ships.specs.Beginning.{ExitsWell, FinishesWell, IsExitOf, RootsComeWell, StartsWell}
use Rattle.au_sound_blocks.specs.Blocks.{AllRun}
use Rattle.au_sound_blocks.specs.Held.{GoodHeld, HoldsPermitted, Permits}
use Rattle.au_sound_blocks.specs.Known.{AreActive, Callables, Calls}
use Rattle.au_sound_blocks.specs.Safe.{AllWait}
use Rattle.au_sound_blocks.specs.Steps.{StepsAreSafe}

-- Each action of a run is safe.
pub record RunsAreSafe (types : Types) (owner : ClosedType → Option (List ℕ)) : Type 0 where
  pub steps : StepsAreSafe types owner
  pub entered : (acts : List Act) (fs : List Frame) (sizes : List ℕ) (under : Made) (w : World)
      → EntersWell types owner acts fs sizes under w
  pub left : (acts : List Act) (fs : List Frame) (sizes : List ℕ) (under : Made) (w : World)
      → LeavesWell types owner acts fs sizes under w
  pub rooted : (acts : List Act) (fs : List Frame) (sizes : List ℕ) (under : Made) (w : World)
      → RootsComeWell types owner acts fs sizes under w
  pub exits : (acts : List Act) (fs : List Frame) (sizes : List ℕ) (under : Made) (w : World)
      → ExitsWell types owner acts fs sizes under w
  pub starts : StartsWell
  pub finishes : FinishesWell

-- What is seen of a run is as it should be, by how it ended: it isn't stuck; each birth is told once and
-- consumed at most once, and exactly once where it exits, and then each borrow was closed; each use of a
-- borrow stands inside it; and what is born of a type that has an owner is born there. Where a run is cut
-- off, before whichever of its ticks, borrows are exclusive.
abbrev pub EndsWell : World → Ending → Type 0
EndsWell w (exit b) = Once w.store.deeds × AllClosed w.store.deeds
EndsWell w (abort fault) = Unit {0}
EndsWell w running = IsExclusive w
EndsWell w stuck = ⊥

pub record IsSeenWell (owner : ClosedType → Option (List ℕ)) (seen : Outcome) : Type 0 where
  pub once : AtMostOnce seen.world.store.deeds
  pub inside : Inside seen.world.store.deeds
  pub own : OwnMade owner seen.world.store.deeds
  pub ended : EndsWell seen.world seen.ending

-- An entry takes nothing, or the root, and gives an exit.
abbrev pub TakesRoot : Types → (ClosedType → Option (List ℕ)) → List Meaning → List Field → Type 0
TakesRoot types owner [] [] = Unit {0}
TakesRoot types owner (t ∷ []) (p ∷ []) =
    (types.is_root t ≡ true) × IsHomeOf owner p.of (codes "Austral.Pervasive")
TakesRoot types owner ts ps = ⊥

pub record IsEntry (types : Types) (owner : ClosedType → Option (List ℕ)) {I T C K : Type 0}
    (known : Callables I K)
    (functions : I → Option (Function I T C)) (key : K) : Type 0 where
  pub takes : TakesRoot types owner (known.parameters key) (parameters_of (functions (known.of key)))
  pub gives : IsExitOf types (known.result key)
  pub open_none : known.tokens key ≡ []

-- Where a run is cut off, before whichever of its ticks, each frame is of a function that was called in some
-- way, the oldest ones in these, and each of its names that holds something is of a type that is permitted in
-- this way.
abbrev pub HoldsWhereCut : (types : Types) → (ClosedType → Option (List ℕ)) → {V W : Type 0} → Permits V W
    → List V → Outcome → Type 0
HoldsWhereCut types owner permits ways seen =
    seen.ending ≡ running → HoldsPermitted types owner permits ways seen.world

-- A call in some way, from wherever its arguments are under way, comes to something good; and wherever it is
-- cut off, its own frame lies on those that were there, and its names hold what they may in this way.
abbrev pub CallsHold : (types : Types) → (ClosedType → Option (List ℕ)) → {K W : Type 0} → Permits K W
    → {I T C : Type 0} → Callables I K → (I → Option (Function I T C)) → Type 0
CallsHold types owner {K} permits known functions =
    (ways : List K) (depth : ℕ) (key : K) (acts : List Act) (fs : List Frame) (sizes : List ℕ)
    (made under : Made) (w : World) (ticks : ℕ) → AreActive (is_active acts) (known.tokens key)
    → AllWait permits ways (is_active acts) fs → length sizes ≡ length fs
    → types_made made ≡ known.parameters key → IsIn types owner acts fs sizes (onto made under) w
    → GoodHeld types owner permits (key ∷ ways)
    (λ (v : Value) n. IsIn types owner acts fs sizes ((v, known.result key) ∷ under) n
    × (lying_in n ≡ lying_in w))
    (call_at functions (suc depth) (known.of key) (values_of made) w ticks)

-- Where each function may be run at each key, every run from an entry is seen well, whatever the input and
-- however many ticks there are; and names hold what they may wherever it is cut off.
abbrev pub RunsWell : (types : Types) → (ClosedType → Option (List ℕ)) → {K W : Type 0} → Permits K W
    → {I T C E : Type 0} → Callables I K → Calls K E → (I → Option (Function I T C)) → Type 0
RunsWell types owner {K} {W} permits {I} {T} {C} known calls functions =
    AllRun types owner permits known calls functions → (key : K) → IsEntry types owner known functions key
    → (input : List ℕ) (ticks : ℕ) → IsSeenWell owner (mean functions (known.of key) input ticks)
    × HoldsWhereCut types owner permits (key ∷ []) (mean functions (known.of key) input ticks)
