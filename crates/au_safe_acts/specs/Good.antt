-- What actions of the meaning come to, where they are safe.
use Rattle.std.specs.Prelude.{◌≡◌, ℕ, suc, ◌≤◌, Bool, true, false, List, length, map, slice_get, Option, Some}
use Rattle.au_syntax.specs.declared.types.Access.{Access}
use Rattle.au_syntax.specs.declared.types.Access.TheVariants.{Read, Write}
use Rattle.au_events.specs.Events.{AtMostOnce, Inside, OwnMade}
use Rattle.au_memory.specs.Forests.{Made}
use Rattle.au_memory.specs.Loans.{Types}
use Rattle.au_type_texts.specs.Types.{ClosedType}
use Rattle.au_borrows.specs.Orders.{Act, Lying}
use Rattle.au_borrows.specs.Told.{Open}
use Rattle.au_frames.specs.Frames.{Frame, hold_at, type_at}
use Rattle.au_meaning.specs.Ticks.{Out, aborts, cut, gives, no_rule}
use Rattle.au_meaning.specs.Worlds.{Borrow, World}
use Rattle.au_sound_calls.specs.Sound.{IsSound}
use Rattle.au_safe_acts.specs.Exclusive.{IsExclusive}

-- a borrow of the world as one that lies open
abbrev pub writes_to : Access → Bool
writes_to Read = false
writes_to Write = true

abbrev pub open_of : Borrow → Open
open_of one = record { number = one.number; writes = writes_to one.access; place = one.place }

-- the borrows that lie open, the newest first
abbrev pub lying_in : World → Lying
lying_in w = map open_of w.borrows

-- The newest frame is the running one, with so many names at least.
pub record IsRunning (sizes : List ℕ) (fs : List Frame) (size : ℕ) : Type 0 where
  pub count : length sizes ≡ suc (length fs)
  pub names : ℕ
  pub there : slice_get sizes (length fs) ≡ Some names
  pub room : size ≤ names

-- A world is as it should be: its store is, where names stand as these frames say, which have so many names.
abbrev pub IsIn : Types → (ClosedType → Option (List ℕ)) → List Act → List Frame → List ℕ → Made → World
    → Type 0
IsIn types owner acts fs sizes under w =
    IsSound types owner acts (hold_at fs) (type_at fs) under (lying_in w) sizes w.store

-- what was told of a world is as it should be
abbrev pub IsOrderly : (ClosedType → Option (List ℕ)) → World → Type 0
IsOrderly owner w = AtMostOnce w.store.deeds × Inside w.store.deeds × OwnMade owner w.store.deeds

-- A world is as it should be where its run is cut off: what was told of it is, and its borrows are exclusive.
abbrev pub IsCutWell : (ClosedType → Option (List ℕ)) → World → Type 0
IsCutWell owner w = IsOrderly owner w × IsExclusive w

-- An action comes to something good: what it gives and the world that it leaves are so; or it aborts in a
-- world that was told well, or is cut in one of which this holds. There is a rule for it.
abbrev pub GoodBy : {A : Type 0} → (ClosedType → Option (List ℕ)) → (World → Type 0) → (A → World → Type 0)
    → Out A → Type 0
GoodBy owner cuts q (gives a w left) = q a w
GoodBy owner cuts q (aborts fault w left) = IsOrderly owner w
GoodBy owner cuts q (cut w) = cuts w
GoodBy owner cuts q (no_rule w left) = ⊥

-- So does one that makes no tick: it is never cut.
abbrev pub Good : {A : Type 0} → (ClosedType → Option (List ℕ)) → (A → World → Type 0) → Out A → Type 0
Good owner q out = GoodBy owner (λ w. ⊥) q out
