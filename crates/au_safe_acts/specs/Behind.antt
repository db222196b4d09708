-- What stands behind the reference in a name of the running frame is copied and set: all safe.
use Rattle.std.specs.Prelude.{◌≡◌, ℕ, true, List, ◌∷◌, Option}
use Rattle.au_running_types.specs.Running.{token}
use Rattle.au_types.specs.Types.{Meaning, reads, writes}
use Rattle.au_type_texts.specs.Types.{ClosedType}
use Rattle.au_memory.specs.Forests.{Made}
use Rattle.au_memory.specs.Loans.{Types}
use Rattle.au_lending.specs.Laws.{IsReadable}
use Rattle.au_lending.specs.Seeing.{LeadsOn}
use Rattle.au_borrows.specs.Orders.{Act, is_active}
use Rattle.au_frames.specs.Frames.{Frame}
use Rattle.au_meaning.specs.Acts as meaning
use Rattle.au_meaning.specs.Acts.{puts, refers}
use Rattle.au_meaning.specs.Ticks.{follows}
use Rattle.au_meaning.specs.Worlds.{Value, World}
use Rattle.au_sound_calls.specs.Sound.{AreTyped}
use Rattle.au_safe_acts.specs.Good.{Good, IsIn, IsRunning}

module _ (types : Types) (owner : ClosedType → Option (List ℕ)) (acts : List Act) (f : Frame)
    (fs : List Frame)
    (sizes : List ℕ) (size : ℕ) (under : Made) (w : World) (ticks : ℕ) where
  -- `r->f`, where the name holds a write reference, and where it holds one that reads
  abbrev pub WritersReadWell : Type 0
  WritersReadWell =
      AreTyped types → IsRunning sizes fs size → (x : ℕ) (path : List ℕ) (t u : Meaning) (z : ℕ)
      → IsReadable (f.hold x) → f.type x ≡ writes t (token z) → is_active acts z ≡ true
      → LeadsOn types t path u
      → types.is_free u ≡ true → IsIn types owner acts (f ∷ fs) sizes under w
      → Good owner (λ (v : Value) n. IsIn types owner acts (f ∷ fs) sizes ((v, u) ∷ under) n)
      (follows (refers x path w ticks) meaning.reads)

  abbrev pub ReadersReadWell : Type 0
  ReadersReadWell =
      AreTyped types → IsRunning sizes fs size → (x : ℕ) (path : List ℕ) (t u : Meaning) (z : ℕ)
      → IsReadable (f.hold x) → f.type x ≡ reads t (token z) → types.is_free (reads t (token z)) ≡ true
      → is_active acts z ≡ true → LeadsOn types t path u → types.is_free u ≡ true
      → IsIn types owner acts (f ∷ fs) sizes under w
      → Good owner (λ (v : Value) n. IsIn types owner acts (f ∷ fs) sizes ((v, u) ∷ under) n)
      (follows (refers x path w ticks) meaning.reads)

  -- `r->f := e`
  abbrev pub WritersPutWell : Type 0
  WritersPutWell =
      AreTyped types → IsRunning sizes fs size → (x : ℕ) (path : List ℕ) (v : Value) (t u : Meaning) (z : ℕ)
      → IsReadable (f.hold x) → f.type x ≡ writes t (token z) → is_active acts z ≡ true
      → LeadsOn types t path u
      → types.is_free u ≡ true → IsIn types owner acts (f ∷ fs) sizes ((v, u) ∷ under) w
      → Good owner (λ (old : Value) n. IsIn types owner acts (f ∷ fs) sizes under n)
      (follows (refers x path w ticks) (λ one. puts one v))
