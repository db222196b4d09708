-- What the text of a declaration says of names and of their scopes, in order: where blocks begin and end, and
-- which names are declared. A record or a union defines a type of the interface only in a body. The methods
-- of an instance are those of its class, so that their names aren't declared there.
use Rattle.std.specs.Prelude.{List, [], ◌∷◌, ◌++◌, map}
use Rattle.std.specs.List.{flat_map}
use Rattle.au_syntax.specs.declared.modules.Part.{Part}
use Rattle.au_syntax.specs.declared.modules.Part.TheVariants.{Interface, Body}
use Rattle.au_syntax.specs.Modules.{Constrained, Header, InUniverse, Variant, constant, opaque_type}
use Rattle.au_syntax.specs.Modules.{record_type, union_type, function, class, instance, constant_body}
use Rattle.au_syntax.specs.Modules.{function_body, instance_body}
use Rattle.au_syntax.specs.Names.{Placed}
use Rattle.au_syntax.specs.Plain.{Bytes, PlainArms, PlainBranches, PlainDeclaration, PlainMethod}
use Rattle.au_syntax.specs.Plain.{PlainStatement, PlainStatements}
use Rattle.au_syntax.specs.Statements.{skip, declare, destructure, assign, assign_through, conditional}
use Rattle.au_syntax.specs.Statements.{conditional_else, case_of, while_loop, for_loop, borrow_in}
use Rattle.au_syntax.specs.Statements.{borrow_typed, discard, return_of, no_statements, statements}
use Rattle.au_syntax.specs.Statements.{no_branches, branches, no_arms, arms}
use Rattle.au_syntax.specs.Types.{Bound, Labelled, WrittenType, named, reference}
use Rattle.au_imports.specs.NameFaults.{given}
use Rattle.au_rules.specs.declared.marks.Kind.{Kind}
use Rattle.au_rules.specs.declared.marks.Kind.TheVariants.{Values, Callables, Types, Fields}
use Rattle.au_rules.specs.declared.marks.Mark.{Mark}
use Rattle.au_rules.specs.declared.marks.Mark.TheVariants.{Opens, Closes, Declares}
use Rattle.au_rules.specs.declared.marks.Role.{Role}
use Rattle.au_rules.specs.declared.marks.Role.TheVariants.{Local, Whole, Promise, Definition}

-- a name that is declared, and one in a block
abbrev pub declared : Role → Kind → Placed Bytes → Mark
declared role kind name = Declares role kind name.name name.at

abbrev pub local : Kind → Placed Bytes → Mark
local kind name = declared Local kind name

-- a block in which this stands
abbrev pub enclosed : List Mark → List Mark
enclosed inside = Opens ∷ (inside ++ Closes ∷ [])

-- a field or a parameter; a bound field, by the name that it is given; a type parameter, and one behind
-- `generic`
abbrev pub labelled_mark : Kind → Labelled Bytes → Mark
labelled_mark kind field = local kind field.name

abbrev pub bound_mark : Bound Bytes → Mark
bound_mark bind = local Values (given bind.name)

abbrev pub parameter_mark : InUniverse Bytes → Mark
parameter_mark p = local Types p.name

abbrev pub generic_mark : Constrained Bytes → Mark
generic_mark p = parameter_mark p.parameter

-- the region that the written type of a borrow statement's reference declares
abbrev pub region_marks : WrittenType → List Mark
region_marks (named name args) = []
region_marks (reference at access t region) = local Types region ∷ []

-- what a borrow statement with a written type declares
abbrev pub typed_marks : Placed Bytes → WrittenType → List Mark
typed_marks r t = local Values r ∷ region_marks t

unfoldable mutual
  -- a statement. What `let` and `var` declare is in scope in the rest of the block; the variable of a loop,
  -- the bound fields of an arm and the names of a borrow statement are in scope in their own blocks.
  pub statement_marks : PlainStatement → List Mark
  statement_marks (skip at) = []
  statement_marks (declare at binding name t e) = local Values name ∷ []
  statement_marks (destructure at binds e) = map bound_mark binds
  statement_marks (assign at name fields e) = []
  statement_marks (assign_through at name fields e) = []
  statement_marks (conditional at tests) = branch_marks tests
  statement_marks (conditional_else at tests block) = branch_marks tests ++ enclosed (block_marks block)
  statement_marks (case_of at e rest) = arm_marks rest
  statement_marks (while_loop at e block) = enclosed (block_marks block)
  statement_marks (for_loop at name a z block) = enclosed (local Values name ∷ block_marks block)
  statement_marks (borrow_in at access x r region block stop) = enclosed (local Values r ∷ local Types region
      ∷ block_marks block)
  statement_marks (borrow_typed at r t mode x block stop) = enclosed (typed_marks r t ++ block_marks block)
  statement_marks (discard at e) = []
  statement_marks (return_of at e) = []

  -- the statements of a block
  pub block_marks : PlainStatements → List Mark
  block_marks no_statements = []
  block_marks (statements s rest) = statement_marks s ++ block_marks rest

  -- the branches of a conditional
  pub branch_marks : PlainBranches → List Mark
  branch_marks no_branches = []
  branch_marks (branches e block rest) = enclosed (block_marks block) ++ branch_marks rest

  -- the arms of a case
  pub arm_marks : PlainArms → List Mark
  arm_marks no_arms = []
  arm_marks (arms at name binds block rest) = enclosed (map bound_mark binds ++ block_marks block)
      ++ arm_marks rest

-- a case of a union with its fields, and a method of a class with its parameters
abbrev pub case_marks : Variant Bytes → List Mark
case_marks c = declared Whole Callables c.name ∷ enclosed (map (labelled_mark Fields) c.fields)

abbrev pub method_marks : Header Bytes → List Mark
method_marks h = declared Whole Callables h.name ∷ enclosed (map (labelled_mark Values) h.parameters)

-- a method of an instance
abbrev pub method_body_marks : PlainMethod → List Mark
method_body_marks m = enclosed (map (labelled_mark Values) m.header.parameters ++ block_marks m.body)

-- the type parameters of a function, its name and its parameters
abbrev pub function_marks : Role → List (Constrained Bytes) → Header Bytes → List Mark
function_marks role generics header =
    map generic_mark generics ++ declared role Callables header.name
    ∷ map (labelled_mark Values) header.parameters

-- how a record or a union is declared in a part
abbrev pub type_role : Part → Role
type_role Interface = Whole
type_role Body = Definition

-- a declaration of a part
abbrev pub marks : Part → PlainDeclaration → List Mark
marks part (constant at name t) = declared Promise Values name ∷ []
marks part (opaque_type at name parameters universe) = declared Promise Types name
    ∷ enclosed (map parameter_mark parameters)
marks part (record_type at name parameters universe fields) =
    declared (type_role part) Types name ∷ declared Whole Callables name
    ∷ enclosed (map parameter_mark parameters ++ map (labelled_mark Fields) fields)
marks part (union_type at name parameters universe cases) =
    declared (type_role part) Types name ∷ enclosed (map parameter_mark parameters
    ++ flat_map case_marks cases)
marks part (function at generics header) = enclosed (function_marks Promise generics header)
marks part (class at name parameter methods) =
    declared Whole Types name ∷ enclosed (parameter_mark parameter ∷ flat_map method_marks methods)
marks part (instance at generics name t) = enclosed (map generic_mark generics)
marks part (constant_body at name t value) = declared Definition Values name ∷ []
marks part (function_body at generics header body stop) = enclosed (function_marks Definition generics header
    ++ block_marks body)
marks part (instance_body at generics name t methods) = enclosed (map generic_mark generics
    ++ flat_map method_body_marks methods)
