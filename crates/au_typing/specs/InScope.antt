-- What is in scope after a statement and inside of its blocks.
use Rattle.std.specs.Prelude.{Bool, true, false, List, [], ◌∷◌, Ok, Err}
use Rattle.au_syntax.specs.declared.statements.Binding.{Binding}
use Rattle.au_syntax.specs.declared.statements.Binding.TheVariants.{Let, Var}
use Rattle.au_syntax.specs.Plain.{Bytes}
use Rattle.au_syntax.specs.Statements.{Statement, declare, destructure}
use Rattle.au_syntax.specs.Types.{Bound}
use Rattle.au_types.specs.Types.{Meaning}
use Rattle.au_names.specs.Importing.{given_name}
use Rattle.au_typing.specs.Scopes.{Scope, Variable}
use Rattle.au_typing.specs.Faults.{Noting}
use Rattle.au_typing.specs.Lookups.{written_type}

-- a variable that isn't assigned to
abbrev pub fixed_variable : Bytes → Meaning → Variable
fixed_variable name of = record { name = name; of = of; assignable = false }

-- a scope with one more variable, the innermost
abbrev pub with_variable : Variable → Scope → Scope
with_variable one sc = record sc { variables = one ∷ sc.variables }

-- the scope in the block of a borrow statement: its region, and its reference
abbrev pub with_reference : Bytes → Bytes → Meaning → Scope → Scope
with_reference name region of sc =
    with_variable (fixed_variable name of) (record sc { regions = region ∷ sc.regions })

-- `var` declares a variable that may be assigned to, `let` doesn't
abbrev pub is_var : Binding → Bool
is_var Let = false
is_var Var = true

-- a variable with the type that is written with it, and none where that is no type
abbrev pub with_typed : Bytes → Bool → Noting Meaning → Scope → Scope
with_typed name assignable (Ok t) sc =
    with_variable (record { name = name; of = t; assignable = assignable }) sc
with_typed name assignable (Err fault) sc = sc

-- variables that are bound to fields, with the types that are written with them
abbrev pub with_bound : List (Bound Bytes) → Scope → Scope
with_bound [] sc = sc
with_bound (b ∷ rest) sc =
    with_bound rest (with_typed (given_name b.name) false (written_type sc b.of) sc)

-- What is in scope after a statement: what was before, and the variables that `let` and `var` declare.
abbrev pub after : {T C : Type 0} → Statement Bytes T C → Scope → Scope
after (declare at binding name t e) sc = with_typed name.name (is_var binding) (written_type sc t) sc
after (destructure at binds e) sc = with_bound binds sc
after other sc = sc
