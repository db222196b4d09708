-- Declarations and modules, by what a phase keeps for a name, an expression and a call.
use Rattle.std.specs.Prelude.{List, Option}
use Rattle.au_base.specs.declared.places.Pos.{Pos}
use Rattle.au_syntax.specs.declared.declarations.Universe.{Universe}
use Rattle.au_syntax.specs.declared.modules.Part.{Part}
use Rattle.au_syntax.specs.Names.{Placed, Renaming}
use Rattle.au_syntax.specs.Types.{WrittenType, Labelled}
use Rattle.au_syntax.specs.Expressions.{Expression}
use Rattle.au_syntax.specs.Statements.{Statements}

-- a type parameter and its universe
pub record InUniverse (N : Type 0) : Type 0 where
  pub name : Placed N
  pub universe : Universe

-- a type parameter behind `generic`, and the classes of its constraints
pub record Constrained (N : Type 0) : Type 0 where
  pub parameter : InUniverse N
  pub classes : List (Placed N)

-- a function's name, parameters and result
pub record Header (N : Type 0) : Type 0 where
  pub name : Placed N
  pub parameters : List (Labelled N)
  pub result : WrittenType

-- a case of a union, and its fields
pub record Variant (N : Type 0) : Type 0 where
  pub name : Placed N
  pub fields : List (Labelled N)

-- a method of an instance, and the place of its `end`
pub record MethodBody (N T C : Type 0) : Type 0 where
  pub header : Header N
  pub body : Statements N T C
  pub stop : Pos

-- a declaration, one constructor for each row of the grammar
pub data Declaration (N T C : Type 0) : Type 0 where
  constant : Pos → Placed N → WrittenType → Declaration N T C
  opaque_type : Pos → Placed N → List (InUniverse N) → Universe → Declaration N T C
  record_type : Pos → Placed N → List (InUniverse N) → Universe → List (Labelled N) → Declaration N T C
  union_type : Pos → Placed N → List (InUniverse N) → Universe → List (Variant N) → Declaration N T C
  function : Pos → List (Constrained N) → Header N → Declaration N T C
  class : Pos → Placed N → InUniverse N → List (Header N) → Declaration N T C
  instance : Pos → List (Constrained N) → Placed N → WrittenType → Declaration N T C
  constant_body : Pos → Placed N → WrittenType → Expression N T C → Declaration N T C
  function_body : Pos → List (Constrained N) → Header N → Statements N T C → Pos → Declaration N T C
  instance_body : Pos → List (Constrained N) → Placed N → WrittenType → List (MethodBody N T C)
      → Declaration N T C

-- an import: its place, the module's name by its parts, and its items
pub record Importing (N : Type 0) : Type 0 where
  pub at : Pos
  pub from : List (Placed N)
  pub items : List (Renaming N)

-- the module of a file: its imports, the place of `module`, its part, its name by parts, the place of
-- its pragma and its declarations
pub record ModuleTree (N T C : Type 0) : Type 0 where
  pub imports : List (Importing N)
  pub at : Pos
  pub part : Part
  pub name : List (Placed N)
  pub pragma : Option Pos
  pub declarations : List (Declaration N T C)
