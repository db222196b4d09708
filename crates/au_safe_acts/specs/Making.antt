-- Values of cases are made and taken apart, and what read references lead to is copied: all safe.
use Rattle.std.specs.Prelude.{◌≡◌, ℕ, true, false, List, ◌∷◌, map, Option, Some}
use Rattle.au_effects.specs.References.{reference_in}
use Rattle.au_running_types.specs.Running.{token}
use Rattle.au_types.specs.Types.{Meaning, reads}
use Rattle.au_type_texts.specs.Types.{ClosedType}
use Rattle.au_syntax.specs.Plain.{Bytes}
use Rattle.au_memory.specs.Forests.{Made}
use Rattle.au_memory.specs.Loans.{Types}
use Rattle.au_lending.specs.Records.{onto, types_made}
use Rattle.au_borrows.specs.Orders.{Act, is_active}
use Rattle.au_frames.specs.Frames.{Frame}
use Rattle.au_meaning.specs.Acts as meaning
use Rattle.au_meaning.specs.Acts.{apart, makes_value}
use Rattle.au_meaning.specs.Ticks.{needing}
use Rattle.au_meaning.specs.Worlds.{Value, World}
use Rattle.au_sound_calls.specs.Sound.{AreTyped, IsHomeOf}
use Rattle.au_safe_acts.specs.Good.{Good, IsIn}

-- the values of some under way
abbrev pub values_of : Made → List Value
values_of vs = map (λ (v : Value × Meaning). v.0) vs

module _ (types : Types) (owner : ClosedType → Option (List ℕ)) (acts : List Act) (fs : List Frame)
    (sizes : List ℕ) (under : Made) (w : World) (ticks : ℕ) where
  -- a value of a case of a Free type, and one of another
  abbrev pub MakesFreeWell : Type 0
  MakesFreeWell =
      (vs : Made) (t : Meaning) (of : ClosedType) (tag : ℕ) (home : Bytes)
      → types.fields t tag ≡ Some (types_made vs) → types.is_free t ≡ true
      → IsIn types owner acts fs sizes (onto vs under) w
      → Good owner (λ (v : Value) n. IsIn types owner acts fs sizes ((v, t) ∷ under) n)
      (makes_value false of tag home (values_of vs) w ticks)

  abbrev pub MakesLinearWell : Type 0
  MakesLinearWell =
      (vs : Made) (t : Meaning) (of : ClosedType) (tag : ℕ) (home : Bytes)
      → types.fields t tag ≡ Some (types_made vs) → types.is_free t ≡ false → IsHomeOf owner of home
      → IsIn types owner acts fs sizes (onto vs under) w
      → Good owner (λ (v : Value) n. IsIn types owner acts fs sizes ((v, t) ∷ under) n)
      (makes_value true of tag home (values_of vs) w ticks)

  -- The fields of a value that is taken apart are under way.
  abbrev pub ApartWell : Type 0
  ApartWell =
      AreTyped types → (v : Value) (t : Meaning) (tag : ℕ) (of : List Meaning) → types.fields t tag ≡ Some of
      → IsIn types owner acts fs sizes ((v, t) ∷ under) w
      → Good owner
      (λ (p : ℕ × List Value) n.
      (parts : Made) × (p.1 ≡ values_of parts) × (types.fields t p.0 ≡ Some (types_made parts))
      × IsIn types owner acts fs sizes (onto parts under) n) (apart v w ticks)

  -- `!` of a read reference whose token is active
  abbrev pub CopiesWell : Type 0
  CopiesWell =
      AreTyped types → (r : Value) (t : Meaning) (z : ℕ) → types.is_free t ≡ true → is_active acts z ≡ true
      → IsIn types owner acts fs sizes ((r, reads t (token z)) ∷ under) w
      → Good owner (λ (v : Value) n. IsIn types owner acts fs sizes ((v, t) ∷ under) n)
      (needing (reference_in r) meaning.reads w ticks)
