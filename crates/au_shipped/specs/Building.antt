-- The parts of a shipped interface, as it is written. Everything in it has one and the same place.
use Rattle.std.specs.Prelude.{ℕ, List, [], None}
use Rattle.au_base.specs.declared.places.Pos.{Pos}
use Rattle.au_syntax.specs.declared.declarations.Universe.{Universe}
use Rattle.au_syntax.specs.declared.modules.Part.TheVariants.{Interface}
use Rattle.au_syntax.specs.declared.types.Access.TheVariants as access
use Rattle.au_syntax.specs.Names.{Placed}
use Rattle.au_syntax.specs.Types.{WrittenType, named, reference, no_types, types, Labelled}
use Rattle.au_syntax.specs.Modules.{InUniverse, Constrained, Header, Variant, opaque_type, union_type}
use Rattle.au_syntax.specs.Modules.{function, class, instance}
use Rattle.au_syntax.specs.Plain.{Bytes, PlainDeclaration, PlainModule}

-- the place of everything in the interface of this file
abbrev pub place : ℕ → Pos
place file = record { file = file; line = 1; column = 1 }

module _ (at : Pos) where
  -- a name
  abbrev pub name : Bytes → Placed Bytes
  name bytes = record { name = bytes; at = at }

  -- NAME: a type
  abbrev pub simple : Bytes → WrittenType
  simple bytes = named (name bytes) no_types

  -- NAME[TYPE]
  abbrev pub applied : Bytes → WrittenType → WrittenType
  applied bytes one = named (name bytes) (types one no_types)

  -- NAME[TYPE, TYPE]
  abbrev pub applied_to_two : Bytes → WrittenType → WrittenType → WrittenType
  applied_to_two bytes one other = named (name bytes) (types one (types other no_types))

  -- &[TYPE, REGION]
  abbrev pub reads : WrittenType → Bytes → WrittenType
  reads target region = reference at access.Read target (name region)

  -- &![TYPE, REGION]
  abbrev pub writes : WrittenType → Bytes → WrittenType
  writes target region = reference at access.Write target (name region)

  -- NAME: UNIVERSE, a type parameter of a type or of a class
  abbrev pub over : Bytes → Universe → InUniverse Bytes
  over bytes universe = record { name = name bytes; universe = universe }

  -- NAME: UNIVERSE, a type parameter behind `generic`
  abbrev pub generic : Bytes → Universe → Constrained Bytes
  generic bytes universe = record { parameter = over bytes universe; classes = [] }

  -- NAME: TYPE, a parameter or a field
  abbrev pub takes : Bytes → WrittenType → Labelled Bytes
  takes bytes of = record { name = name bytes; of = of }

  -- NAME(PARAMETER, ..): TYPE
  abbrev pub signature : Bytes → List (Labelled Bytes) → WrittenType → Header Bytes
  signature bytes parameters result = record { name = name bytes; parameters = parameters; result = result }

  -- case NAME is FIELD ..
  abbrev pub a_case : Bytes → List (Labelled Bytes) → Variant Bytes
  a_case bytes fields = record { name = name bytes; fields = fields }

  -- type NAME[PARAMETER, ..]: UNIVERSE;
  abbrev pub an_opaque : Bytes → List (InUniverse Bytes) → Universe → PlainDeclaration
  an_opaque bytes parameters universe = opaque_type at (name bytes) parameters universe

  -- union NAME[PARAMETER, ..]: UNIVERSE is CASE .. end;
  abbrev pub a_union : Bytes → List (InUniverse Bytes) → Universe → List (Variant Bytes) → PlainDeclaration
  a_union bytes parameters universe cases = union_type at (name bytes) parameters universe cases

  -- generic [PARAMETER, ..] function NAME(PARAMETER, ..): TYPE;
  abbrev pub a_function : List (Constrained Bytes) → Bytes → List (Labelled Bytes) → WrittenType
      → PlainDeclaration
  a_function generics bytes parameters result = function at generics (signature bytes parameters result)

  -- typeclass NAME(PARAMETER) is method SIGNATURE; .. end;
  abbrev pub a_class : Bytes → InUniverse Bytes → List (Header Bytes) → PlainDeclaration
  a_class bytes parameter methods = class at (name bytes) parameter methods

  -- instance NAME(TYPE);
  abbrev pub an_instance : Bytes → WrittenType → PlainDeclaration
  an_instance bytes of = instance at [] (name bytes) of

  -- module NAME. .. is DECLARATION .. end module.
  abbrev pub interface : List (Placed Bytes) → List PlainDeclaration → PlainModule
  interface parts declarations = record {
    imports = [];
    at = at;
    part = Interface;
    name = parts;
    pragma = None;
    declarations = declarations;
  }
