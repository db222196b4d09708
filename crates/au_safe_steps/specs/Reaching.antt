-- References to parts, and copies through write references: all safe.
use Rattle.std.specs.Prelude.{◌≡◌, ℕ, true, List, [], ◌∷◌, Option}
use Rattle.au_effects.specs.References.{reference_in, referring}
use Rattle.au_running_types.specs.Running.{token}
use Rattle.au_types.specs.Types.{Meaning, reads, writes}
use Rattle.au_type_texts.specs.Types.{ClosedType}
use Rattle.au_memory.specs.Forests.{Made}
use Rattle.au_memory.specs.Loans.{Types}
use Rattle.au_lending.specs.Laws.{IsReadable}
use Rattle.au_lending.specs.Seeing.{LeadsOn}
use Rattle.au_safe_acts.specs.Orders.{Act, is_active}
use Rattle.au_safe_acts.specs.Frames.{Frame}
use Rattle.au_meaning.specs.Acts as meaning
use Rattle.au_meaning.specs.Acts.{looks, refers}
use Rattle.au_meaning.specs.Ticks.{follows, gives, needing, pure}
use Rattle.au_meaning.specs.Worlds.{Value, World}
use Rattle.au_safe_acts.specs.Sound.{AreTyped}
use Rattle.au_safe_acts.specs.Good.{Good, IsIn, IsRunning}

module _ (types : Types) (owner : ClosedType → Option (List ℕ)) (acts : List Act) (fs : List Frame)
    (sizes : List ℕ) (under : Made) (w : World) (ticks : ℕ) where
  -- `!` of a write reference whose token is active
  abbrev pub CopiesWritersWell : Type 0
  CopiesWritersWell =
      AreTyped types → (r : Value) (t : Meaning) (z : ℕ) → types.is_free t ≡ true → is_active acts z ≡ true
      → IsIn types owner acts fs sizes ((r, writes t (token z)) ∷ under) w
      → Good owner (λ (v : Value) n. IsIn types owner acts fs sizes ((v, t) ∷ under) n)
      (needing (reference_in r) meaning.reads w ticks)

module _ (types : Types) (owner : ClosedType → Option (List ℕ)) (acts : List Act) (f : Frame)
    (fs : List Frame)
    (sizes : List ℕ) (size : ℕ) (under : Made) (w : World) (ticks : ℕ) where
  -- `&(r->f)`, where the name holds a read reference
  abbrev pub RefersWell : Type 0
  RefersWell =
      AreTyped types → IsRunning sizes fs size → (x : ℕ) (path : List ℕ) (t u : Meaning) (z : ℕ)
      → IsReadable (f.hold x) → f.type x ≡ reads t (token z) → types.is_free (reads t (token z)) ≡ true
      → is_active acts z ≡ true → LeadsOn types t path u → IsIn types owner acts (f ∷ fs) sizes under w
      → Good owner (λ (v : Value) n. IsIn types owner acts (f ∷ fs) sizes ((v, reads u (token z)) ∷ under) n)
      (follows (refers x path w ticks) (λ one. pure (referring one)))

  -- `!` of a write reference in a name: a copy of it is taken, with which what it leads to is copied.
  abbrev pub OperandsCopyWell : Type 0
  OperandsCopyWell =
      AreTyped types → IsRunning sizes fs size → (x : ℕ) (t : Meaning) (z : ℕ)
      → IsReadable (f.hold x) → f.type x ≡ writes t (token z) → types.is_free t ≡ true
      → is_active acts z ≡ true
      → IsIn types owner acts (f ∷ fs) sizes under w
      → (r : Value) × (looks x [] w ticks ≡ gives r w ticks)
      × ((later : ℕ) → Good owner (λ (v : Value) n. IsIn types owner acts (f ∷ fs) sizes ((v, t) ∷ under) n)
      (needing (reference_in r) meaning.reads w later))
