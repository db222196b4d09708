-- What the types mean that are written in the methods of a class and in those of an instance.
use Rattle.std.specs.Prelude.{List, [], ◌∷◌, Option}
use Rattle.std.specs.Option.{option_map}
use Rattle.au_syntax.specs.Plain.{Bytes}
use Rattle.au_syntax.specs.Types.{WrittenType}
use Rattle.au_types.specs.declared.headings.Head.{Head}
use Rattle.au_types.specs.declared.parameters.Parameter.{Parameter}
use Rattle.au_types.specs.declared.types.DeclAt.{DeclAt}
use Rattle.au_types.specs.Types.{Meaning, of_type}
use Rattle.au_matching.specs.Bindings.{Bindings}
use Rattle.au_matching.specs.Substituted.{substituted}
use Rattle.au_types.specs.Meant.{meant}
use Rattle.au_classes.specs.Classes.{ClassText}

-- a type for the parameter of a class
abbrev pub head_for : ClassText → Meaning → Bindings
head_for class head = (class.parameter.name, of_type head) ∷ []

-- over the rows of declared types
module _ (heads : List (DeclAt × Head)) where
  -- what a type that is written in a class means, with the head of an instance in the place of the class's
  -- parameter
  abbrev pub wanted : ClassText → Meaning → WrittenType → Option Meaning
  wanted class head t =
      option_map (substituted (head_for class head)) (meant [] (class.parameter ∷ []) class.visible heads t)

  -- what a type that is written in an instance means, with the type parameters of the instance in scope,
  -- where these names are seen
  abbrev pub given : List (Bytes × DeclAt) → List Parameter → WrittenType → Option Meaning
  given names params t = meant [] params names heads t
