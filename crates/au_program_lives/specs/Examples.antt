-- A few bodies, and by hand what the types of their variables ask.
use Rattle.std.specs.Prelude.{List, [], ◌∷◌, codes}
use Rattle.au_lives.specs.declared.lives.Sort.{Sort}
use Rattle.au_lives.specs.declared.lives.Sort.TheVariants as asks
use Rattle.au_lives.specs.Examples.{block_of}
use Rattle.au_program_lives.specs.Scopes.{TypeScope}
use Rattle.au_syntax.specs.declared.declarations.Universe.TheVariants as universes
use Rattle.au_syntax.specs.declared.expressions.BorrowMode.{BorrowMode}
use Rattle.au_syntax.specs.declared.expressions.BorrowMode.TheVariants as modes
use Rattle.au_syntax.specs.declared.statements.Binding.TheVariants as bindings
use Rattle.au_syntax.specs.declared.types.Access.{Access}
use Rattle.au_syntax.specs.declared.types.Access.TheVariants as access
use Rattle.au_syntax.specs.Examples.{here, name, x, T}
use Rattle.au_syntax.specs.Plain.{Bytes, PlainStatement, PlainStatements}
use Rattle.au_syntax.specs.Statements.{declare, for_loop, borrow_in, borrow_typed}
use Rattle.au_syntax.specs.Types.{WrittenType, named, reference, no_types}

-- where T is a type parameter of universe `Type`, and F one of universe Free
abbrev pub over_two : TypeScope
over_two = record {
  regions = [];
  params = record { name = codes "T"; universe = universes.AnyType }
      ∷ record { name = codes "F"; universe = universes.Free }
      ∷ [];
  visible = [];
  heads = [];
}

-- a name alone, and a reference into R
abbrev pub of_name : Bytes → WrittenType
of_name bytes = named (name bytes) no_types

abbrev pub into_R : Access → WrittenType → WrittenType
into_R kind t = reference here kind t (name (codes "R"))

-- `let x: t := x;`
abbrev pub let_x : WrittenType → PlainStatement
let_x t = declare here bindings.Let (name (codes "x")) t x

-- two of them, whose types are references into R: one that reads, and one that writes
abbrev pub both_written : PlainStatements
both_written = block_of (let_x (into_R access.Read T) ∷ let_x (into_R access.Write T) ∷ [])

-- `borrow y as r in R do .. end borrow;` or with `borrow!`
abbrev pub lends : Access → PlainStatement
lends kind = borrow_in here kind (name (codes "y")) (name (codes "r")) (name (codes "R")) both_written here

-- `borrow r: t := &y do .. end borrow;` or with `&!` or `&~`
abbrev pub lends_as : WrittenType → BorrowMode → PlainStatement
lends_as t mode = borrow_typed here (name (codes "r")) t mode (name (codes "y")) both_written here

-- bodies, and what is asked
abbrev pub examples : List (PlainStatements × List Sort)
examples = (
  block_of
      (let_x (of_name (codes "Nat8")) ∷ let_x T
      ∷ let_x (of_name (codes "F")) ∷ let_x (of_name (codes "G")) ∷ []),
  asks.Free ∷ asks.Linear ∷ asks.Free ∷ asks.Linear ∷ [],
)
    ∷ (
      block_of (for_loop here (name (codes "i")) x x (block_of (let_x T ∷ [])) ∷ []),
      asks.Free ∷ asks.Linear ∷ [],
    )
    ∷ (
      block_of (lends access.Read ∷ let_x (into_R access.Write T) ∷ []),
      asks.Free ∷ asks.Free ∷ asks.WriteReference ∷ asks.Linear ∷ [],
    )
    ∷ (
      block_of (lends access.Write ∷ let_x (into_R access.Read T) ∷ []),
      asks.WriteReference ∷ asks.Free ∷ asks.WriteReference ∷ asks.Linear ∷ [],
    )
    ∷ (
      block_of (lends_as (into_R access.Read T) modes.Read ∷ []),
      asks.Free ∷ asks.Free ∷ asks.WriteReference ∷ [],
    )
    ∷ (
      block_of (lends_as (into_R access.Write T) modes.Reborrow ∷ []),
      asks.WriteReference ∷ asks.Free ∷ asks.WriteReference ∷ [],
    )
    ∷ []
