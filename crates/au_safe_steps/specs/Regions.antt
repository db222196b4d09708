-- The regions of references are tokens.
use Rattle.std.specs.Prelude.{◌≡◌, ℕ, List, ◌∷◌, ◌++◌, Option}
use Rattle.au_running_types.specs.Running.{token}
use Rattle.au_types.specs.declared.types.Region.{Region}
use Rattle.au_types.specs.Types.{Meaning, reads, writes}
use Rattle.au_type_texts.specs.Types.{ClosedType}
use Rattle.au_memory.specs.Forests.{Made}
use Rattle.au_memory.specs.Loans.{Types}
use Rattle.au_lending.specs.Laws.{IsReadable}
use Rattle.au_safe_acts.specs.Orders.{Act}
use Rattle.au_safe_acts.specs.Frames.{Frame}
use Rattle.au_meaning.specs.Worlds.{Value, World}
use Rattle.au_safe_acts.specs.Sound.{AreTyped}
use Rattle.au_safe_acts.specs.Good.{IsIn}

-- a region is a token
abbrev pub IsToken : Region → Type 0
IsToken region = (z : ℕ) × (region ≡ token z)

-- So is that of a reference under way, below whichever other values.
abbrev pub ReferencesHaveTokens : Type 0
ReferencesHaveTokens =
    (types : Types) (owner : ClosedType → Option (List ℕ)) (acts : List Act) (fs : List Frame)
    (sizes : List ℕ)
    (newer under : Made) (w : World) → AreTyped types → (v : Value) (t : Meaning) (region : Region)
    → (IsIn types owner acts fs sizes (newer ++ (v, reads t region) ∷ under) w → IsToken region)
    × (IsIn types owner acts fs sizes (newer ++ (v, writes t region) ∷ under) w → IsToken region)

-- So it is where a name of the running frame may be looked at.
abbrev pub NamesHaveTokens : Type 0
NamesHaveTokens =
    (types : Types) (owner : ClosedType → Option (List ℕ)) (acts : List Act) (f : Frame) (fs : List Frame)
    (sizes : List ℕ) (under : Made) (w : World) → AreTyped types → (x : ℕ) (t : Meaning) (region : Region)
    → IsReadable (f.hold x) → IsIn types owner acts (f ∷ fs) sizes under w
    → (f.type x ≡ reads t region → IsToken region) × (f.type x ≡ writes t region → IsToken region)
