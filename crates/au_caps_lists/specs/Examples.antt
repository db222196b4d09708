-- Types, statements and calls, and by hand what stands in them.
use Rattle.std.specs.Prelude.{List, [], ◌∷◌, Option, None, Some, codes, if◌then◌else◌}
use Rattle.std.specs.Str.{bytes_eq}
use Rattle.au_base.specs.declared.places.Pos.{Pos}
use Rattle.au_syntax.specs.declared.declarations.Universe.TheVariants as universes
use Rattle.au_syntax.specs.declared.statements.Binding.{Binding}
use Rattle.au_syntax.specs.Names.{Placed}
use Rattle.au_syntax.specs.Plain.{Bytes}
use Rattle.au_syntax.specs.Statements.{declare, no_statements, statements, while_loop}
use Rattle.au_syntax.specs.Types.{WrittenType, named, no_types, types}
use Rattle.au_types.specs.declared.parameters.Parameter.{Parameter}
use Rattle.au_types.specs.Senses as senses
use Rattle.au_types.specs.Senses.{Sense}
use Rattle.au_types.specs.Types as mean
use Rattle.au_types.specs.Types.{Meaning}
use Rattle.au_instances.specs.Examples.{box, of_one, option}
use Rattle.au_typing.specs.Notes.{NotedExpression}
use Rattle.au_typing.specs.Trees.{NotedStatements}
use Rattle.au_caps_lists.specs.Mentions.{Mention, declared, generic}

-- ---- types

-- `Option[Box[T]]`
abbrev pub maybe_boxed : Meaning
maybe_boxed = of_one option (of_one box (mean.parameter (codes "T")))

-- what stands in it: two declared types and a type parameter
abbrev pub in_maybe_boxed : List Mention
in_maybe_boxed = declared option ∷ declared box ∷ generic (codes "T") ∷ []

-- under `[T: Type]` values of T may be capabilities, and under `[T: Free]` none is
abbrev pub any : List Parameter
any = record { name = codes "T"; universe = universes.AnyType } ∷ []

abbrev pub free : List Parameter
free = record { name = codes "T"; universe = universes.Free } ∷ []

-- ---- variables

-- a body that names two types: `Cell`, as an import calls the box here, and `T`
abbrev pub means : Bytes → Option Sense
means name =
    if bytes_eq name (codes "Cell") then Some (senses.declared box [])
    else if bytes_eq name (codes "T") then Some (senses.a_type (mean.parameter (codes "T")))
    else None

module _ (at : Pos) (binding : Binding) (e : NotedExpression) where
  abbrev pub here : Bytes → Placed Bytes
  here name = record { name = name; at = at }

  -- `Cell[T]`
  abbrev pub cell : WrittenType
  cell = named (here (codes "Cell")) (types (named (here (codes "T")) no_types) no_types)

  -- `while .. do let x: Cell[T] := ..; end while;`, and after it another variable of the type T
  abbrev pub looped : NotedStatements
  looped =
      statements (while_loop at e (statements (declare at binding (here (codes "x")) cell e) no_statements))
      (statements (declare at binding (here (codes "y")) (named (here (codes "T")) no_types) e) no_statements)

-- what stands in the types of its variables, in the order of the text
abbrev pub in_looped : List Mention
in_looped = declared box ∷ generic (codes "T") ∷ generic (codes "T") ∷ []
