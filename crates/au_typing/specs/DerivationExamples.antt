-- A few blocks where nothing is declared outside of them and the result is Unit, and what each is refused
-- for.
use Rattle.std.specs.Prelude.{ℕ, true, List, [], ◌∷◌, codes, Option, None, Some, Ok, Err}
use Rattle.au_base.specs.declared.places.Pos.{Pos}
use Rattle.au_syntax.specs.declared.expressions.BorrowMode.TheVariants as modes
use Rattle.au_syntax.specs.declared.statements.Binding.TheVariants.{Let, Var}
use Rattle.au_syntax.specs.declared.types.Access.TheVariants as access
use Rattle.au_syntax.specs.Expressions.{Node, path, truth, nil}
use Rattle.au_syntax.specs.Names.{Placed}
use Rattle.au_syntax.specs.Plain.{Bytes, PlainExpression, PlainStatement, PlainStatements}
use Rattle.au_syntax.specs.Statements.{skip, declare, assign, conditional, conditional_else, while_loop}
use Rattle.au_syntax.specs.Statements.{for_loop, borrow_in, borrow_typed, return_of, no_statements}
use Rattle.au_syntax.specs.Statements.{statements, no_branches, branches}
use Rattle.au_syntax.specs.Types.{WrittenType, named, reference, no_types}
use Rattle.au_types.specs.declared.types.Region.TheVariants as regions
use Rattle.au_types.specs.Types as mean
use Rattle.au_typing.specs.Scopes.{Outside, Scope}
use Rattle.au_typing.specs.Faults.{Why, unknown, different, shape, after_return, integer_wanted}
use Rattle.au_typing.specs.Faults.{assignable_wanted, reference_wanted}
use Rattle.au_typing.specs.Bodies.{outer_scope}
use Rattle.au_typing.specs.DerivationFaults.{Judged, StatementFault, refused}

-- nothing outside of functions, and a body in which nothing is in scope and whose result is Unit
abbrev pub nothing : Outside
nothing = record {
  constant = λ name. None;
  callable = λ name. None;
  target = λ name. None;
  fields = λ t. None;
  cases = λ t. None;
  visible = [];
  heads = [];
  instances = [];
}

abbrev pub body : Scope
body = outer_scope nothing []

-- ---- trees

-- the first place of a line
abbrev pub at_line : ℕ → Pos
at_line line = record { file = 0; line = line; column = 1 }

abbrev pub put : Bytes → Placed Bytes
put name = record { name = name; at = at_line 0 }

abbrev pub node : Node (Unit {0})
node = record { at = at_line 0; note = tt }

abbrev pub a_type : Bytes → WrittenType
a_type name = named (put name) no_types

abbrev pub yes_value : PlainExpression
yes_value = truth node true

abbrev pub unit_value : PlainExpression
unit_value = nil node

abbrev pub a_variable : Bytes → PlainExpression
a_variable name = path node (put name) []

-- statements as a block
abbrev pub block : List PlainStatement → PlainStatements
block [] = no_statements
block (s ∷ rest) = statements s (block rest)

-- statements at a line: `return nil;`, `let b: Bool := true;`, `var b: Bool := true;` and `b := e;`
abbrev pub returns_at : ℕ → PlainStatement
returns_at line = return_of (at_line line) unit_value

abbrev pub let_at : ℕ → PlainStatement
let_at line = declare (at_line line) Let (put (codes "b")) (a_type (codes "Bool")) yes_value

abbrev pub var_at : ℕ → PlainStatement
var_at line = declare (at_line line) Var (put (codes "b")) (a_type (codes "Bool")) yes_value

abbrev pub assigns_at : ℕ → PlainExpression → PlainStatement
assigns_at line e = assign (at_line line) (put (codes "b")) [] e

-- `borrow b as r in R do .. end borrow;` at a line
abbrev pub borrows_at : ℕ → List PlainStatement → PlainStatement
borrows_at line inner =
    borrow_in (at_line line) access.Read (put (codes "b")) (put (codes "r")) (put (codes "R")) (block inner)
    (at_line 9)

-- `borrow r: T := &b do return nil; end borrow;` at a line
abbrev pub borrows_typed_at : ℕ → WrittenType → PlainStatement
borrows_typed_at line t =
    borrow_typed (at_line line) (put (codes "r")) t modes.Read (put (codes "b")) (block (returns_at 3 ∷ []))
    (at_line 9)

-- `&[Bool, R]` and `&![Bool, R]`
abbrev pub reads_bool : WrittenType
reads_bool = reference (at_line 0) access.Read (a_type (codes "Bool")) (put (codes "R"))

abbrev pub writes_bool : WrittenType
writes_bool = reference (at_line 0) access.Write (a_type (codes "Bool")) (put (codes "R"))

-- ---- examples

-- a block, and what it is refused for, if for anything
pub record Example : Type 0 where
  pub written : PlainStatements
  pub fault : Option StatementFault

-- what is refused
abbrev pub fault_of : {A : Type 0} → Judged A → Option StatementFault
fault_of (Ok x) = None
fault_of (Err fault) = Some fault

abbrev pub good : List PlainStatement → Example
good written = record { written = block written; fault = None }

abbrev pub bad : List PlainStatement → ℕ → Why → Example
bad written line cause = record { written = block written; fault = Some (refused (at_line line) cause) }

-- A `return`; an assignment to a `var`, and one to a `let`; a value of another type; a type that means
-- nothing, before the expression; a statement behind a `return`, and one behind a conditional with `else`
-- that returns on both paths, but none behind one without `else`; the second test of a conditional before
-- its first block; a loop whose test is no Bool, and one over what is no integer; and borrow statements
-- without and with a written type, where that is no reference, has another access, or holds the region.
abbrev pub examples : List Example
examples =
    good (returns_at 1 ∷ [])
    ∷ good (var_at 1 ∷ assigns_at 2 (a_variable (codes "b")) ∷ returns_at 3 ∷ [])
    ∷ bad (let_at 1 ∷ assigns_at 2 yes_value ∷ returns_at 3 ∷ []) 2 (shape assignable_wanted)
    ∷ bad (var_at 1 ∷ assigns_at 2 unit_value ∷ returns_at 3 ∷ []) 2 (different mean.truth mean.unit)
    ∷ bad
    (declare (at_line 1) Let (put (codes "b")) (a_type (codes "Foo")) (a_variable (codes "c"))
    ∷ returns_at 2 ∷ [])
    1 (unknown (codes "Foo"))
    ∷ bad (returns_at 1 ∷ assigns_at 2 yes_value ∷ []) 2 after_return
    ∷ bad
    (conditional_else (at_line 1) (branches yes_value (block (returns_at 2 ∷ [])) no_branches)
    (block (returns_at 3 ∷ []))
    ∷ skip (at_line 4) ∷ [])
    4 after_return
    ∷ good
    (conditional (at_line 1) (branches yes_value (block (returns_at 2 ∷ [])) no_branches)
    ∷ returns_at 3 ∷ [])
    ∷ bad
    (conditional (at_line 1)
    (branches yes_value (block (assigns_at 2 yes_value ∷ []))
    (branches unit_value (block []) no_branches))
    ∷ returns_at 3 ∷ [])
    1 (different mean.truth mean.unit)
    ∷ bad (while_loop (at_line 1) unit_value (block []) ∷ []) 1 (different mean.truth mean.unit)
    ∷ bad (for_loop (at_line 1) (put (codes "i")) yes_value yes_value (block []) ∷ []) 1
    (shape integer_wanted)
    ∷ good (let_at 1 ∷ borrows_at 2 (returns_at 3 ∷ []) ∷ [])
    ∷ bad (borrows_at 1 (returns_at 2 ∷ []) ∷ []) 1 (unknown (codes "b"))
    ∷ good (let_at 1 ∷ borrows_typed_at 2 reads_bool ∷ [])
    ∷ bad (let_at 1 ∷ borrows_typed_at 2 (a_type (codes "Bool")) ∷ []) 2 (shape reference_wanted)
    ∷ bad (let_at 1 ∷ borrows_typed_at 2 writes_bool ∷ []) 2
    (different (mean.reads mean.truth (regions.Named (codes "R"))) (mean.writes mean.truth (regions.Named
    (codes "R"))))
    ∷ bad
    (let_at 1
    ∷ borrows_typed_at 2 (reference (at_line 0) access.Read reads_bool (put (codes "R")))
    ∷ [])
    2 (unknown (codes "R"))
    ∷ []
