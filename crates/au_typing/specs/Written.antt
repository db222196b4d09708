-- What is written in a declaration of a program means what it means where the declaration stands.
use Rattle.std.specs.Prelude.{ℕ, List, [], ◌∷◌, Option, None, Some, slice_get}
use Rattle.std.specs.Option.{option_map}
use Rattle.au_syntax.specs.declared.modules.Part.{Part}
use Rattle.au_syntax.specs.Plain.{Bytes}
use Rattle.au_syntax.specs.Types.{WrittenType, Labelled}
use Rattle.au_types.specs.declared.spaces.Space.{Space}
use Rattle.au_types.specs.declared.spaces.Space.TheVariants.{Types}
use Rattle.au_types.specs.declared.parameters.Parameter.{Parameter}
use Rattle.au_types.specs.declared.types.DeclAt.{DeclAt}
use Rattle.au_types.specs.Types.{Meaning}
use Rattle.au_modules.specs.Programs.{ModuleParts}
use Rattle.au_names.specs.declared.targets.Target.{Target}
use Rattle.au_names.specs.HeadsOf.{heads_of}
use Rattle.au_names.specs.Meanings.{declared_by, seen}
use Rattle.au_names.specs.Standing.{Standing}
use Rattle.au_types.specs.Meant.{meant}
use Rattle.au_typing.specs.Scopes.{Typed}

-- what the names of a space mean in a part of the module at a place, if the module is there
abbrev pub seen_in : Space → List ModuleParts → ℕ → Part → Option ModuleParts → List (Bytes × Target)
seen_in space program place part None = []
seen_in space program place part (Some m) = seen space program place m part

-- the same of a program's module at a place
abbrev pub seen_at : Space → List ModuleParts → ℕ → Part → List (Bytes × Target)
seen_at space program place part = seen_in space program place part (slice_get program place)

-- the types and classes that names mean there
abbrev pub types_at : List ModuleParts → ℕ → Part → List (Bytes × DeclAt)
types_at program place part = declared_by (seen_at Types program place part)

-- one before others, where all are there
abbrev pub followed : {A : Type 0} → Option A → Option (List A) → Option (List A)
followed (Some one) (Some rest) = Some (one ∷ rest)
followed one rest = None

-- in a declaration of a program, over these type parameters
module _ (program : List ModuleParts) (d : Standing) (params : List Parameter) where
  -- what a written type means
  abbrev pub meant_in : WrittenType → Option Meaning
  meant_in t = meant [] params (types_at program d.place d.part) (heads_of program) t

  -- a field or a parameter with its type
  abbrev pub typed : Labelled Bytes → Option Typed
  typed one = option_map (λ t. record { name = one.name.name; of = t }) (meant_in one.of)

  -- fields or parameters with their types, where all types mean something
  abbrev pub all_typed : List (Labelled Bytes) → Option (List Typed)
  all_typed [] = Some []
  all_typed (one ∷ rest) = followed (typed one) (all_typed rest)
