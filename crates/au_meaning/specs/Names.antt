-- The names of a function: what is in scope at a place, and the number of each declaration.
use Rattle.std.specs.Prelude.{ℕ, ◌+◌, List, [], ◌∷◌, length, map, Option, Some, None, if◌then◌else◌}
use Rattle.std.specs.Prelude.{option_map}
use Rattle.std.specs.List.{find}
use Rattle.std.specs.Str.{bytes_eq}
use Rattle.au_type_texts.specs.Types as types
use Rattle.au_type_texts.specs.Types.{ClosedType}
use Rattle.au_effects.specs.Parts.{along}
use Rattle.au_syntax.specs.declared.expressions.BorrowMode.{BorrowMode}
use Rattle.au_syntax.specs.declared.expressions.BorrowMode.TheVariants as mode
use Rattle.au_syntax.specs.declared.types.Access.{Access}
use Rattle.au_syntax.specs.declared.types.Access.TheVariants as access
use Rattle.au_syntax.specs.Names.{Placed, Renaming}
use Rattle.au_syntax.specs.Plain.{Bytes}
use Rattle.au_syntax.specs.Statements.{Statement, Statements, Branches, Arms, skip, declare, destructure}
use Rattle.au_syntax.specs.Statements.{assign, assign_through, conditional, conditional_else, case_of}
use Rattle.au_syntax.specs.Statements.{while_loop, for_loop, borrow_in, borrow_typed, discard, return_of}
use Rattle.au_syntax.specs.Statements.{no_statements, statements, no_branches, branches, no_arms, arms}
use Rattle.au_syntax.specs.Types.{Bound}
use Rattle.au_meaning.specs.Views.{Field}

-- ---- declarations

-- how many names are declared in a statement
abbrev mutual
  pub names_in : {N T C : Type 0} → Statement N T C → ℕ
  names_in (skip at) = 0
  names_in (declare at binding name t e) = 1
  names_in (destructure at binds e) = length binds
  names_in (assign at x path e) = 0
  names_in (assign_through at r path e) = 0
  names_in (conditional at tests) = names_in_tests tests
  names_in (conditional_else at tests block) = names_in_tests tests + names_in_block block
  names_in (case_of at e all) = names_in_arms all
  names_in (while_loop at e block) = names_in_block block
  names_in (for_loop at name first last block) = 1 + names_in_block block
  names_in (borrow_in at access x r region block stop) = 1 + names_in_block block
  names_in (borrow_typed at r t mode x block stop) = 1 + names_in_block block
  names_in (discard at e) = 0
  names_in (return_of at e) = 0

  -- in a block
  pub names_in_block : {N T C : Type 0} → Statements N T C → ℕ
  names_in_block no_statements = 0
  names_in_block (statements s rest) = names_in s + names_in_block rest

  -- in the branches of a conditional
  pub names_in_tests : {N T C : Type 0} → Branches N T C → ℕ
  names_in_tests no_branches = 0
  names_in_tests (branches e block rest) = names_in_block block + names_in_tests rest

  -- in the arms of a case
  pub names_in_arms : {N T C : Type 0} → Arms N T C → ℕ
  names_in_arms no_arms = 0
  names_in_arms (arms at name binds block rest) =
      (length binds + names_in_block block) + names_in_arms rest

-- ---- what is in scope

-- a variable: its name, the number of its declaration, and its closed type, if it is known
pub record Variable : Type 0 where
  pub name : Bytes
  pub number : ℕ
  pub of : Option ClosedType

-- the variables in scope, the innermost first
abbrev pub Scope : Type 0
Scope = List Variable

-- the variable that a name means
abbrev pub variable_of : Scope → Bytes → Option Variable
variable_of scope name = find (λ one. bytes_eq one.name name) scope

-- a scope with one more variable
abbrev pub with_name : Bytes → ℕ → Option ClosedType → Scope → Scope
with_name name number of scope = record { name = name; number = number; of = of } ∷ scope

-- a scope with parameters, the first of which has this number
abbrev pub with_parameters : ℕ → List Field → Scope → Scope
with_parameters number [] scope = scope
with_parameters number (p ∷ rest) scope =
    with_parameters (number + 1) rest (with_name p.name number (Some p.of) scope)

-- ---- fields

-- the number and the type of the field of a name, where the first field has this number
abbrev pub field_from : ℕ → Bytes → List Field → Option (ℕ × ClosedType)
field_from number name [] = None
field_from number name (one ∷ rest) =
    if bytes_eq one.name name then Some (number, one.of) else field_from (number + 1) name rest

abbrev pub field_of : Bytes → List Field → Option (ℕ × ClosedType)
field_of name fields = field_from 0 name fields

-- the numbers of the fields along a path from a record of a type
abbrev pub path_numbers : (ClosedType → Option (List Field)) → Option ClosedType → List Bytes
    → Option (List ℕ)
path_numbers fields of [] = Some []
path_numbers fields of (name ∷ names) =
    along (along (along of fields) (field_of name)) (λ one.
    along (path_numbers fields (Some one.1) names) (λ rest. Some (one.0 ∷ rest)))

-- ---- fields that are bound

-- the name of the variable that a field is bound to
abbrev pub bound_name : Renaming Bytes → Bytes
bound_name name = named_by name.alias
  where
    named_by : Option (Placed Bytes) → Bytes
    named_by None = name.name.name
    named_by (Some alias) = alias.name

-- a scope with the variables that fields are bound to, the first of which has this number
abbrev pub with_bound : Option (List Field) → ℕ → List (Bound Bytes) → Scope → Scope
with_bound fields number [] scope = scope
with_bound fields number (b ∷ rest) scope =
    with_bound fields (number + 1) rest (with_name (bound_name b.name) number
    (option_map (λ (one : ℕ × ClosedType). one.1) (along fields (field_of b.name.name.name))) scope)

-- ---- references

-- the type of what a reference refers to
abbrev pub target_behind : Option ClosedType → Option ClosedType
target_behind (Some (types.reads t)) = Some t
target_behind (Some (types.writes t)) = Some t
target_behind other = None

-- the type whose cases a `case` over a type tells apart: the type itself, or the one behind a reference
abbrev pub told_type : ClosedType → ClosedType
told_type (types.reads t) = t
told_type (types.writes t) = t
told_type other = other

-- The fields of a case, as they are reached through a type: behind a reference they are references of the
-- same access.
abbrev pub fields_through : ClosedType → Option (List Field) → Option (List Field)
fields_through (types.reads t) fields =
    option_map (map (λ (field : Field). record field { of = types.reads field.of })) fields
fields_through (types.writes t) fields =
    option_map (map (λ (field : Field). record field { of = types.writes field.of })) fields
fields_through other fields = fields

-- how `borrow` and `borrow!` borrow
abbrev pub mode_of : Access → BorrowMode
mode_of access.Read = mode.Read
mode_of access.Write = mode.Write

-- the type of the reference that a borrow of a variable of a type gives: one that is borrowed again is of the
-- type of the reference that the variable holds
abbrev pub borrowed : BorrowMode → Option ClosedType → Option ClosedType
borrowed mode.Read t = option_map (λ (of : ClosedType). types.reads of) t
borrowed mode.Write t = option_map (λ (of : ClosedType). types.writes of) t
borrowed mode.Reborrow t = t

-- the type of a variable
abbrev pub type_in : Option Variable → Option ClosedType
type_in None = None
type_in (Some x) = x.of

-- a scope with the reference that a borrow of a variable gives
abbrev pub with_reference : BorrowMode → Option Variable → ℕ → Bytes → Scope → Scope
with_reference mode variable number name scope =
    with_name name number (borrowed mode (type_in variable)) scope
