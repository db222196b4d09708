-- The sizes of written types and of module names, and the limits that every file keeps.
use Rattle.std.specs.Prelude.{ℕ, ◌+◌, Bool, ◌&&◌, nat_le, List, [], ◌∷◌, ◌++◌, map, length, max}
use Rattle.std.specs.List.{list_all, flat_map}
use Rattle.au_base.specs.Limits.{most_name_bytes, most_nesting, most_type_depth, most_type_nodes}
use Rattle.au_syntax.specs.Names.{Placed}
use Rattle.au_syntax.specs.Types.{WrittenType, WrittenTypes, named, reference, no_types, types, Labelled}
use Rattle.au_syntax.specs.Types.{Bound}
use Rattle.au_syntax.specs.Expressions.{number, negative, text, truth, nil, path, arrow, call, named_call}
use Rattle.au_syntax.specs.Expressions.{parenthesized, dereference, borrow, borrow_part, binary, negation}
use Rattle.au_syntax.specs.Expressions.{typed, choice, no_expressions, expressions, no_arguments, arguments}
use Rattle.au_syntax.specs.Statements.{skip, declare, destructure, assign, assign_through, conditional}
use Rattle.au_syntax.specs.Statements.{conditional_else, case_of, while_loop, for_loop, borrow_in}
use Rattle.au_syntax.specs.Statements.{borrow_typed, discard, return_of, no_statements, statements}
use Rattle.au_syntax.specs.Statements.{no_branches, branches, no_arms, arms}
use Rattle.au_syntax.specs.Modules.{Header, Variant, constant, opaque_type, record_type, union_type, function}
use Rattle.au_syntax.specs.Modules.{class, instance, constant_body, function_body, instance_body, Importing}
use Rattle.au_syntax.specs.Plain.{Bytes, PlainExpression, PlainExpressions, PlainArguments, PlainStatement}
use Rattle.au_syntax.specs.Plain.{PlainStatements, PlainBranches, PlainArms, PlainMethod, PlainDeclaration}
use Rattle.au_syntax.specs.Plain.{PlainModule}
use Rattle.au_syntax.specs.Depths.{module_depth}

abbrev mutual
  -- the depth of a type: a name alone is 1
  pub type_depth : WrittenType → ℕ
  type_depth (named name args) = 1 + types_depth args
  type_depth (reference at access target region) = 1 + type_depth target

  pub types_depth : WrittenTypes → ℕ
  types_depth no_types = 0
  types_depth (types t rest) = max (type_depth t) (types_depth rest)

abbrev mutual
  -- the nodes of a type: its names, regions among them, and its `&` and `&!`
  pub type_nodes : WrittenType → ℕ
  type_nodes (named name args) = 1 + types_nodes args
  type_nodes (reference at access target region) = 2 + type_nodes target

  pub types_nodes : WrittenTypes → ℕ
  types_nodes no_types = 0
  types_nodes (types t rest) = type_nodes t + types_nodes rest

-- the types of fields and of bound names
abbrev pub labelled_types : List (Labelled Bytes) → List WrittenType
labelled_types fields = map (λ (field : Labelled Bytes). field.of) fields

abbrev pub bound_types : List (Bound Bytes) → List WrittenType
bound_types binds = map (λ (bind : Bound Bytes). bind.of) binds

abbrev mutual
  -- the types that are written in an expression, in order
  pub expression_types : PlainExpression → List WrittenType
  expression_types (number node literal) = []
  expression_types (negative node literal) = []
  expression_types (text node bytes) = []
  expression_types (truth node value) = []
  expression_types (nil node) = []
  expression_types (path node name fields) = []
  expression_types (arrow node name fields) = []
  expression_types (call node name args note) = expressions_types args
  expression_types (named_call node name args note) = arguments_types args
  expression_types (parenthesized node e) = expression_types e
  expression_types (dereference node e) = expression_types e
  expression_types (borrow node mode name) = []
  expression_types (borrow_part node name fields) = []
  expression_types (binary node operator a b) = expression_types a ++ expression_types b
  expression_types (negation node e) = expression_types e
  expression_types (typed node e t) = expression_types e ++ t ∷ []
  expression_types (choice node c a b) = expression_types c ++ expression_types a ++ expression_types b

  pub expressions_types : PlainExpressions → List WrittenType
  expressions_types no_expressions = []
  expressions_types (expressions e rest) = expression_types e ++ expressions_types rest

  pub arguments_types : PlainArguments → List WrittenType
  arguments_types no_arguments = []
  arguments_types (arguments label e rest) = expression_types e ++ arguments_types rest

abbrev mutual
  -- the types that are written in a statement, in order
  pub statement_types : PlainStatement → List WrittenType
  statement_types (skip at) = []
  statement_types (declare at binding name t e) = t ∷ expression_types e
  statement_types (destructure at binds e) = bound_types binds ++ expression_types e
  statement_types (assign at name fields e) = expression_types e
  statement_types (assign_through at name fields e) = expression_types e
  statement_types (conditional at tests) = branches_types tests
  statement_types (conditional_else at tests block) = branches_types tests ++ block_types block
  statement_types (case_of at e rest) = expression_types e ++ arms_types rest
  statement_types (while_loop at e block) = expression_types e ++ block_types block
  statement_types (for_loop at name a z block) = expression_types a ++ expression_types z ++ block_types block
  statement_types (borrow_in at access x r region block stop) = block_types block
  statement_types (borrow_typed at r t mode x block stop) = t ∷ block_types block
  statement_types (discard at e) = expression_types e
  statement_types (return_of at e) = expression_types e

  pub block_types : PlainStatements → List WrittenType
  block_types no_statements = []
  block_types (statements s rest) = statement_types s ++ block_types rest

  pub branches_types : PlainBranches → List WrittenType
  branches_types no_branches = []
  branches_types (branches e block rest) = expression_types e ++ block_types block ++ branches_types rest

  pub arms_types : PlainArms → List WrittenType
  arms_types no_arms = []
  arms_types (arms at name binds block rest) = bound_types binds ++ block_types block ++ arms_types rest

-- the types of a function's parameters and result
abbrev pub header_types : Header Bytes → List WrittenType
header_types h = labelled_types h.parameters ++ h.result ∷ []

abbrev pub method_types : PlainMethod → List WrittenType
method_types m = header_types m.header ++ block_types m.body

-- the types that are written in a declaration, in order
abbrev pub declaration_types : PlainDeclaration → List WrittenType
declaration_types (constant at name t) = t ∷ []
declaration_types (opaque_type at name parameters universe) = []
declaration_types (record_type at name parameters universe fields) = labelled_types fields
declaration_types (union_type at name parameters universe cases) =
    flat_map (λ (one : Variant Bytes). labelled_types one.fields) cases
declaration_types (function at generics header) = header_types header
declaration_types (class at name parameter methods) = flat_map header_types methods
declaration_types (instance at generics name t) = t ∷ []
declaration_types (constant_body at name t e) = t ∷ expression_types e
declaration_types (function_body at generics header body stop) = header_types header ++ block_types body
declaration_types (instance_body at generics name t methods) = t ∷ flat_map method_types methods

-- a type within the limits
abbrev pub fits_type : WrittenType → Bool
fits_type t = nat_le (type_depth t) most_type_depth && nat_le (type_nodes t) most_type_nodes

-- the bytes of a module's name, with the dots
abbrev pub joined : List (Placed Bytes) → Bytes
joined [] = []
joined (first ∷ rest) = first.name ++ flat_map (λ (one : Placed Bytes). 46 ∷ one.name) rest

-- a module's name within the limit
abbrev pub fits_name : List (Placed Bytes) → Bool
fits_name names = nat_le (length (joined names)) most_name_bytes

-- every module's name in a file is within its limit
abbrev pub names_fit : PlainModule → Bool
names_fit m = fits_name m.name && list_all (λ (one : Importing Bytes). fits_name one.from) m.imports

-- every type in a file is within its limits
abbrev pub types_fit : PlainModule → Bool
types_fit m = list_all fits_type (flat_map declaration_types m.declarations)

-- a file within the limits: its nesting, its types and the names of modules
abbrev pub fits : PlainModule → Bool
fits m = nat_le (module_depth m) most_nesting && types_fit m && names_fit m
