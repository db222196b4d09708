-- Rows of bodies, constants and programs: those that are accepted, and those that are refused.
use Rattle.std.specs.Prelude.{ℕ, List, [], ◌∷◌, true, Option, Some, None, codes}
use Rattle.au_base.specs.declared.kinds.IntKind.TheVariants as kinds
use Rattle.au_syntax.specs.declared.modules.Part.{Part}
use Rattle.au_syntax.specs.declared.modules.Part.TheVariants.{Interface, Body}
use Rattle.au_syntax.specs.Expressions.{nil, parenthesized, truth}
use Rattle.au_syntax.specs.Modules.{Header, constant_body, function, function_body, instance_body}
use Rattle.au_syntax.specs.Plain.{Bytes, PlainDeclaration, PlainExpression, PlainMethod, PlainStatement}
use Rattle.au_syntax.specs.Statements.{conditional_else, skip, return_of, while_loop, branches, no_branches}
use Rattle.au_syntax.specs.Types.{Labelled, WrittenType}
use Rattle.au_types.specs.Types as mean
use Rattle.au_modules.specs.Programs.{Entry, ModuleParts}
use Rattle.au_instances.specs.Examples.{nat8}
use Rattle.au_typing.specs.Scopes.{Outside}
use Rattle.au_typing.specs.TypingExamples.{alone, here, mention, named, whole}
use Rattle.au_typing.specs.Faults.{Why, unknown, different, shape, assignable_wanted, range_wanted, falls_out}
use Rattle.au_typing.specs.DerivationExamples.{at_line, block}
use Rattle.au_typing.specs.DerivationFaults.{StatementFault, refused}
use Rattle.au_laws.specs.Statements.{nat8_type, returns_one, skips}
use Rattle.au_laws.specs.Things.{outside}

-- ---- trees

-- `(x: T): Nat8`, of a function that is declared at a line
abbrev pub header : ℕ → WrittenType → Header Bytes
header line t = record {
  name = record { name = codes "f"; at = at_line line };
  parameters = record { name = named (codes "x"); of = t } ∷ [];
  result = nat8_type;
}

-- a function at a line, with its `end` at another one
abbrev pub function_at : ℕ → WrittenType → List PlainStatement → ℕ → PlainDeclaration
function_at line t statements stop =
    function_body (at_line line) [] (header line t) (block statements) (at_line stop)

abbrev pub constant_at : ℕ → PlainExpression → PlainDeclaration
constant_at line e = constant_body (at_line line) (named (codes "d")) nat8_type e

abbrev pub method_at : ℕ → List PlainStatement → ℕ → PlainMethod
method_at line statements stop =
    record { header = header line nat8_type; body = block statements; stop = at_line stop }

abbrev pub instance_of : List PlainMethod → PlainDeclaration
instance_of methods = instance_body (at_line 1) [] (named (codes "Show")) nat8_type methods

-- ---- rows

-- a declaration, and what it is refused for, if for anything
pub record Row : Type 0 where
  pub written : PlainDeclaration
  pub fault : Option StatementFault

abbrev pub ok : PlainDeclaration → Row
ok d = record { written = d; fault = None }

abbrev pub bad : PlainDeclaration → ℕ → Why → Row
bad d line cause = record { written = d; fault = Some (refused (at_line line) cause) }

abbrev pub rows : List Row
rows =
    ok (function_at 1 nat8_type (return_of (at_line 2) (mention (codes "x")) ∷ []) 3)
    ∷ bad (function_at 1 nat8_type (skip (at_line 2) ∷ []) 3) 3 falls_out
    ∷ bad
    (function_at 1 nat8_type
    (while_loop (at_line 2) (truth here true) (block (returns_one 3 ∷ [])) ∷ []) 4)
    4 falls_out
    ∷ bad
    (function_at 1 nat8_type
    (conditional_else (at_line 2) (branches (truth here true) (block (returns_one 3 ∷ [])) no_branches) skips
    ∷ []) 5)
    5 falls_out
    ∷ bad (function_at 1 nat8_type (return_of (at_line 2) (truth here true) ∷ []) 3) 2
    (different nat8 mean.truth)
    ∷ bad (function_at 1 (alone (codes "Foo")) (return_of (at_line 2) (mention (codes "x")) ∷ []) 3) 1
    (unknown (codes "Foo"))
    ∷ ok (constant_at 1 (whole 5))
    ∷ bad (constant_at 1 (whole 256)) 1 (shape (range_wanted kinds.Nat8))
    ∷ bad (constant_at 1 (truth here true)) 1 (different nat8 mean.truth)
    ∷ bad (constant_at 1 (parenthesized here (whole 5))) 1 (shape assignable_wanted)
    ∷ bad (constant_at 1 (mention (codes "c"))) 1 (shape assignable_wanted)
    ∷ ok (instance_of (method_at 2 (returns_one 3 ∷ []) 4 ∷ method_at 5 (returns_one 6 ∷ []) 7 ∷ []))
    ∷ bad (instance_of (method_at 2 (returns_one 3 ∷ []) 4 ∷ method_at 5 [] 7 ∷ [])) 7 falls_out
    ∷ ok (function (at_line 1) [] (header 1 nat8_type))
    ∷ []

-- ---- programs

-- a file of these declarations
abbrev pub file_of : Part → List PlainDeclaration → Entry
file_of part declarations = record {
  file = 0;
  tree = record {
    imports = [];
    at = at_line 1;
    part = part;
    name = [];
    pragma = None;
    declarations = declarations;
  };
}

-- a module whose body has these declarations, and whose interface declares a function
abbrev pub module_of : List PlainDeclaration → ModuleParts
module_of declarations = record {
  name = codes "M";
  interface = Some (file_of Interface (function (at_line 1) [] (header 1 nat8_type) ∷ []));
  body = Some (file_of Body declarations);
}

abbrev pub everywhere : ℕ → Part → Outside
everywhere place part = outside

pub record ProgramRow : Type 0 where
  pub modules : List ModuleParts
  pub fault : Option StatementFault

-- a program of two modules; the first fault in the text of the modules in order
abbrev pub programs : List ProgramRow
programs =
    record {
      modules = module_of (constant_at 1 (whole 5) ∷ []) ∷ module_of (constant_at 2 (whole 6) ∷ []) ∷ [];
      fault = None;
    }
    ∷ record {
      modules =
          module_of (constant_at 1 (whole 5) ∷ constant_at 2 (whole 256) ∷ [])
          ∷ module_of (constant_at 3 (truth here true) ∷ []) ∷ [];
      fault = Some (refused (at_line 2) (shape (range_wanted kinds.Nat8)));
    }
    ∷ record {
      modules =
          module_of (constant_at 1 (whole 5) ∷ [])
          ∷ module_of (function_at 2 nat8_type [] 3 ∷ constant_at 4 (truth here true) ∷ []) ∷ [];
      fault = Some (refused (at_line 3) falls_out);
    }
    ∷ []
