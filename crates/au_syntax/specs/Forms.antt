-- The form of a tree: what the grammar asks for beyond its rows.
use Rattle.std.specs.Prelude.{Bool, true, false, not, ◌&&◌, List, [], ◌∷◌}
use Rattle.std.specs.List.{list_all}
use Rattle.au_syntax.specs.declared.modules.Part.{Part}
use Rattle.au_syntax.specs.declared.modules.Part.TheVariants.{Interface, Body}
use Rattle.au_syntax.specs.Expressions.{number, negative, text, truth, nil, path, arrow, call, named_call}
use Rattle.au_syntax.specs.Expressions.{parenthesized, dereference, borrow, borrow_part, binary, negation}
use Rattle.au_syntax.specs.Expressions.{typed, choice, no_expressions, expressions, no_arguments, arguments}
use Rattle.au_syntax.specs.Statements.{skip, declare, destructure, assign, assign_through, conditional}
use Rattle.au_syntax.specs.Statements.{conditional_else, case_of, while_loop, for_loop, borrow_in}
use Rattle.au_syntax.specs.Statements.{borrow_typed, discard, return_of, no_statements, statements}
use Rattle.au_syntax.specs.Statements.{no_branches, branches, no_arms, arms}
use Rattle.au_syntax.specs.Modules.{constant, opaque_type, record_type, union_type, function, class, instance}
use Rattle.au_syntax.specs.Modules.{constant_body, function_body, instance_body, Importing}
use Rattle.au_syntax.specs.Plain.{Bytes, PlainExpression, PlainExpressions, PlainArguments, PlainStatement}
use Rattle.au_syntax.specs.Plain.{PlainStatements, PlainBranches, PlainArms, PlainMethod, PlainDeclaration}
use Rattle.au_syntax.specs.Plain.{PlainModule}

-- a list that isn't empty
abbrev pub some : {A : Type 0} → List A → Bool
some [] = false
some (first ∷ rest) = true

-- an atom: what can be an operand
abbrev pub is_atom : PlainExpression → Bool
is_atom (binary node operator a b) = false
is_atom (negation node e) = false
is_atom (typed node e t) = false
is_atom (choice node c a b) = false
is_atom other = true

-- a call: what can be a statement
abbrev pub is_call : PlainExpression → Bool
is_call (call node name args note) = true
is_call (named_call node name args note) = true
is_call other = false

abbrev pub some_arguments : PlainArguments → Bool
some_arguments no_arguments = false
some_arguments (arguments label e rest) = true

abbrev mutual
  -- operands are atoms; a part has a field, and a call by names has an argument
  pub formed_expression : PlainExpression → Bool
  formed_expression (number node literal) = true
  formed_expression (negative node literal) = true
  formed_expression (text node bytes) = true
  formed_expression (truth node value) = true
  formed_expression (nil node) = true
  formed_expression (path node name fields) = true
  formed_expression (arrow node name fields) = some fields
  formed_expression (call node name args note) = formed_expressions args
  formed_expression (named_call node name args note) = some_arguments args && formed_arguments args
  formed_expression (parenthesized node e) = formed_expression e
  formed_expression (dereference node e) = is_atom e && formed_expression e
  formed_expression (borrow node mode name) = true
  formed_expression (borrow_part node name fields) = some fields
  formed_expression (binary node operator a b) =
      is_atom a && is_atom b && formed_expression a && formed_expression b
  formed_expression (negation node e) = is_atom e && formed_expression e
  formed_expression (typed node e t) = is_atom e && formed_expression e
  formed_expression (choice node c a b) = formed_expression c && formed_expression a && formed_expression b

  pub formed_expressions : PlainExpressions → Bool
  formed_expressions no_expressions = true
  formed_expressions (expressions e rest) = formed_expression e && formed_expressions rest

  pub formed_arguments : PlainArguments → Bool
  formed_arguments no_arguments = true
  formed_arguments (arguments label e rest) = formed_expression e && formed_arguments rest

-- whether a statement is a conditional
abbrev pub is_conditional : PlainStatement → Bool
is_conditional (conditional at tests) = true
is_conditional (conditional_else at tests block) = true
is_conditional other = false

-- whether a block begins with a conditional
abbrev pub begins_with_if : PlainStatements → Bool
begins_with_if no_statements = false
begins_with_if (statements s rest) = is_conditional s

abbrev pub some_branches : PlainBranches → Bool
some_branches no_branches = false
some_branches (branches e block rest) = true

abbrev mutual
  -- a conditional has a branch, and its last block doesn't begin with an `if`; what is called is a call
  pub formed_statement : PlainStatement → Bool
  formed_statement (skip at) = true
  formed_statement (declare at binding name t e) = formed_expression e
  formed_statement (destructure at binds e) = some binds && formed_expression e
  formed_statement (assign at name fields e) = formed_expression e
  formed_statement (assign_through at name fields e) = some fields && formed_expression e
  formed_statement (conditional at tests) = some_branches tests && formed_branches tests
  formed_statement (conditional_else at tests block) =
      some_branches tests && formed_branches tests && not (begins_with_if block) && formed_block block
  formed_statement (case_of at e rest) = formed_expression e && formed_arms rest
  formed_statement (while_loop at e block) = formed_expression e && formed_block block
  formed_statement (for_loop at name a z block) =
      formed_expression a && formed_expression z && formed_block block
  formed_statement (borrow_in at access x r region block stop) = formed_block block
  formed_statement (borrow_typed at r t mode x block stop) = formed_block block
  formed_statement (discard at e) = is_call e && formed_expression e
  formed_statement (return_of at e) = formed_expression e

  pub formed_block : PlainStatements → Bool
  formed_block no_statements = true
  formed_block (statements s rest) = formed_statement s && formed_block rest

  pub formed_branches : PlainBranches → Bool
  formed_branches no_branches = true
  formed_branches (branches e block rest) = formed_expression e && formed_block block && formed_branches rest

  pub formed_arms : PlainArms → Bool
  formed_arms no_arms = true
  formed_arms (arms at name binds block rest) = formed_block block && formed_arms rest

abbrev pub formed_method : PlainMethod → Bool
formed_method m = formed_block m.body

-- a declaration of this part of a module
abbrev pub formed_declaration : Part → PlainDeclaration → Bool
formed_declaration Interface (constant at name t) = true
formed_declaration Interface (opaque_type at name parameters universe) = true
formed_declaration Interface (function at generics header) = true
formed_declaration Interface (instance at generics name t) = true
formed_declaration Body (constant_body at name t e) = formed_expression e
formed_declaration Body (function_body at generics header body stop) = formed_block body
formed_declaration Body (instance_body at generics name t methods) = list_all formed_method methods
formed_declaration part (record_type at name parameters universe fields) = true
formed_declaration part (union_type at name parameters universe cases) = true
formed_declaration part (class at name parameter methods) = true
formed_declaration part other = false

-- an import names a module and brings an item
abbrev pub formed_import : Importing Bytes → Bool
formed_import i = some i.from && some i.items

-- a module has a name, and its declarations are those of its part
abbrev pub formed_module : PlainModule → Bool
formed_module m =
    some m.name && list_all formed_import m.imports && list_all (formed_declaration m.part) m.declarations
