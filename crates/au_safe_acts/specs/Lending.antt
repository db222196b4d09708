-- Borrows that the meaning opens are safe, each for the newest token.
use Rattle.std.specs.Prelude.{◌≡◌, ℕ, true, List, ◌∷◌, Option}
use Rattle.au_running_types.specs.Running.{token}
use Rattle.au_types.specs.Types.{Meaning, reads, writes}
use Rattle.au_type_texts.specs.Types.{ClosedType}
use Rattle.au_syntax.specs.declared.expressions.BorrowMode.TheVariants as mode
use Rattle.au_memory.specs.Forests.{Made, ready, shut}
use Rattle.au_memory.specs.Loans.{Types}
use Rattle.au_memory.specs.Shown.{AreDeclared}
use Rattle.au_lending.specs.Laws.{IsReadable, also_watched}
use Rattle.au_borrows.specs.Orders.{Act, is_active}
use Rattle.au_frames.specs.Frames.{Frame, standing}
use Rattle.au_meaning.specs.Acts.{lends}
use Rattle.au_meaning.specs.Worlds.{Value, World}
use Rattle.au_safe_acts.specs.Good.{Good, IsIn, IsRunning}

module _ (types : Types) (owner : ClosedType → Option (List ℕ)) (acts : List Act) (f : Frame)
    (fs : List Frame) (sizes : List ℕ) (size : ℕ) (under : Made) (w : World) (ticks : ℕ) where
  -- `&!x`, and a borrow statement that writes
  abbrev pub LendsWell : Type 0
  LendsWell =
      IsRunning sizes fs size → (a : Act) (older : List Act) → acts ≡ a ∷ older → (x : ℕ) → f.hold x ≡ ready
      → IsIn types owner acts (f ∷ fs) sizes under w
      → Good owner (λ (v : Value) n. IsIn types owner acts (standing x (shut a.token) f ∷ fs) sizes
      ((v, writes (f.type x) (token a.token)) ∷ under) n) (lends mode.Write x w ticks)

  -- `&x`, and one that reads
  abbrev pub ReadsWell : Type 0
  ReadsWell =
      IsRunning sizes fs size → (a : Act) (older : List Act) → acts ≡ a ∷ older
      → (x : ℕ) → IsReadable (f.hold x) → IsIn types owner acts (f ∷ fs) sizes under w
      → Good owner (λ (v : Value) n.
      IsIn types owner acts (standing x (also_watched a.token (f.hold x)) f ∷ fs) sizes
      ((v, reads (f.type x) (token a.token)) ∷ under) n) (lends mode.Read x w ticks)

  -- `&~r`, and one that borrows again
  abbrev pub RelendsWell : Type 0
  RelendsWell =
      AreDeclared types → IsRunning sizes fs size → (a : Act) (older : List Act) → acts ≡ a ∷ older
      → (x : ℕ) (t : Meaning) (y : ℕ) → f.hold x ≡ ready → f.type x ≡ writes t (token y)
      → is_active acts y ≡ true → IsIn types owner acts (f ∷ fs) sizes under w
      → Good owner (λ (v : Value) n. IsIn types owner acts (standing x (shut a.token) f ∷ fs) sizes
      ((v, writes t (token a.token)) ∷ under) n) (lends mode.Reborrow x w ticks)
