-- A plain tree made plain is the same tree, and what is noted in plain trees is always allowed.
use Rattle.std.proofs.Common.{◌≡◌, Bool, true, List, [], ◌∷◌, map, Option, Some, None, option_map, refl}
use Rattle.std.specs.List.{list_all}
use Rattle.std.proofs.lemmas.Bool.{and_from}
use Rattle.au_syntax.specs.contracts.parsed.ParsedPhase.TheImpl.{ghosts as parsed}
use Rattle.au_syntax.specs.declared.modules.Module.{Module}
use Rattle.au_base.specs.declared.names.Name.{Name}
use Rattle.au_base.proofs.ListLemmas.{map_same}
use Rattle.au_syntax.specs.declared.parsed.Parsed.{Parsed}
use Rattle.au_syntax.specs.Names.{Placed, Renaming}
use Rattle.au_syntax.specs.Types.{Labelled, Bound}
use Rattle.au_syntax.specs.Expressions.{number, negative, text, truth, nil, path, arrow, call, named_call}
use Rattle.au_syntax.specs.Expressions.{parenthesized, dereference, borrow, borrow_part, binary, negation}
use Rattle.au_syntax.specs.Expressions.{typed, choice, no_expressions, expressions, no_arguments, arguments}
use Rattle.au_syntax.specs.Statements.{skip, declare, destructure, assign, assign_through, conditional}
use Rattle.au_syntax.specs.Statements.{conditional_else, case_of, while_loop, for_loop, borrow_in}
use Rattle.au_syntax.specs.Statements.{borrow_typed, discard, return_of, no_statements, statements}
use Rattle.au_syntax.specs.Statements.{no_branches, branches, no_arms, arms}
use Rattle.au_syntax.specs.Modules.{Constrained, Header, Variant, constant, opaque_type, record_type}
use Rattle.au_syntax.specs.Modules.{union_type, function, class, instance, constant_body, function_body}
use Rattle.au_syntax.specs.Modules.{instance_body, Importing}
use Rattle.au_syntax.specs.Plain.{Bytes, PlainExpression, PlainExpressions, PlainArguments, PlainStatement}
use Rattle.au_syntax.specs.Plain.{PlainStatements, PlainBranches, PlainArms, PlainMethod, PlainDeclaration}
use Rattle.au_syntax.specs.Plain.{PlainModule, plain_name, plain_renaming, plain_labelled, plain_bound}
use Rattle.au_syntax.specs.Plain.{plain_in_universe, plain_constrained, plain_header, plain_variant}
use Rattle.au_syntax.specs.Plain.{plain_importing, plain_expression, plain_expressions, plain_arguments}
use Rattle.au_syntax.specs.Plain.{plain_statement, plain_statements, plain_branches, plain_arms, plain_method}
use Rattle.au_syntax.specs.Plain.{plain_declaration, plain_module}
use Rattle.au_syntax.specs.Notes.{notes_of_expression, notes_of_expressions, notes_of_arguments}
use Rattle.au_syntax.specs.Notes.{notes_of_statement, notes_of_statements, notes_of_branches, notes_of_arms}
use Rattle.au_syntax.specs.Notes.{notes_of_method, notes_of_declaration, notes_of_module}
use Rattle.au_syntax.specs.Files.{says, is_allowed}
use Rattle.au_syntax.specs.Views.{module_tree}

-- a list of which each item passes
all_pass : {A : Type 0} (test : A → Bool) → ((x : A) → test x ≡ true) → (xs : List A) → list_all test xs ≡ true
all_pass test passes [] = refl
all_pass test passes (x ∷ xs) = and_from (test x) (list_all test xs) (passes x) (all_pass test passes xs)

-- ---- the same tree

-- the bytes of a name that is its bytes
abbrev bytes : Bytes → Bytes
bytes name = name

names_same : (names : List (Placed Bytes)) → map (plain_name bytes) names ≡ names
names_same = map_same (plain_name bytes) (λ name. refl)

alias_same : (alias : Option (Placed Bytes)) → option_map (plain_name bytes) alias ≡ alias
alias_same None = refl
alias_same (Some name) = refl

renaming_same : (name : Renaming Bytes) → plain_renaming bytes name ≡ name
renaming_same name = λ i. record { name = name.name; alias = alias_same name.alias i }

bound_same : (bind : Bound Bytes) → plain_bound bytes bind ≡ bind
bound_same bind = λ i. record { name = renaming_same bind.name i; of = bind.of }

binds_same : (binds : List (Bound Bytes)) → map (plain_bound bytes) binds ≡ binds
binds_same = map_same (plain_bound bytes) bound_same

fields_same : (fields : List (Labelled Bytes)) → map (plain_labelled bytes) fields ≡ fields
fields_same = map_same (plain_labelled bytes) (λ field. refl)

constrained_same : (p : Constrained Bytes) → plain_constrained bytes p ≡ p
constrained_same p = λ i. record { parameter = p.parameter; classes = names_same p.classes i }

generics_same : (ps : List (Constrained Bytes)) → map (plain_constrained bytes) ps ≡ ps
generics_same = map_same (plain_constrained bytes) constrained_same

header_same : (h : Header Bytes) → plain_header bytes h ≡ h
header_same h = λ i. record { name = h.name; parameters = fields_same h.parameters i; result = h.result }

variant_same : (v : Variant Bytes) → plain_variant bytes v ≡ v
variant_same v = λ i. record { name = v.name; fields = fields_same v.fields i }

importing_same : (one : Importing Bytes) → plain_importing bytes one ≡ one
importing_same one = λ i. record {
  at = one.at;
  from = names_same one.from i;
  items = map_same (plain_renaming bytes) renaming_same one.items
      i;
}

mutual
  expression_same : (e : PlainExpression) → plain_expression bytes e ≡ e
  expression_same (number n l) = refl
  expression_same (negative n l) = refl
  expression_same (text n t) = refl
  expression_same (truth n b) = refl
  expression_same (nil n) = refl
  expression_same (path n x fields) = λ i. path n x (names_same fields i)
  expression_same (arrow n x fields) = λ i. arrow n x (names_same fields i)
  expression_same (call n f es c) = λ i. call n f (expressions_same es i) c
  expression_same (named_call n f es c) = λ i. named_call n f (arguments_same es i) c
  expression_same (parenthesized n e) = λ i. parenthesized n (expression_same e i)
  expression_same (dereference n e) = λ i. dereference n (expression_same e i)
  expression_same (borrow n m x) = refl
  expression_same (borrow_part n x fields) = λ i. borrow_part n x (names_same fields i)
  expression_same (binary n op a b) = λ i. binary n op (expression_same a i) (expression_same b i)
  expression_same (negation n e) = λ i. negation n (expression_same e i)
  expression_same (typed n e t) = λ i. typed n (expression_same e i) t
  expression_same (choice n c a b) = λ i. choice n (expression_same c i) (expression_same a i) (expression_same b i)

  expressions_same : (es : PlainExpressions) → plain_expressions bytes es ≡ es
  expressions_same no_expressions = refl
  expressions_same (expressions e rest) = λ i. expressions (expression_same e i) (expressions_same rest i)

  arguments_same : (es : PlainArguments) → plain_arguments bytes es ≡ es
  arguments_same no_arguments = refl
  arguments_same (arguments label e rest) = λ i. arguments label (expression_same e i) (arguments_same rest i)

mutual
  statement_same : (s : PlainStatement) → plain_statement bytes s ≡ s
  statement_same (skip at) = refl
  statement_same (declare at b n t e) = λ i. declare at b n t (expression_same e i)
  statement_same (destructure at binds e) = λ i. destructure at (binds_same binds i) (expression_same e i)
  statement_same (assign at n fields e) = λ i. assign at n (names_same fields i) (expression_same e i)
  statement_same (assign_through at n fields e) = λ i. assign_through at n (names_same fields i) (expression_same e i)
  statement_same (conditional at bs) = λ i. conditional at (branches_same bs i)
  statement_same (conditional_else at bs b) = λ i. conditional_else at (branches_same bs i) (statements_same b i)
  statement_same (case_of at e rest) = λ i. case_of at (expression_same e i) (arms_same rest i)
  statement_same (while_loop at e b) = λ i. while_loop at (expression_same e i) (statements_same b i)
  statement_same (for_loop at n a z b) = λ i. for_loop at n (expression_same a i) (expression_same z i)
      (statements_same b i)
  statement_same (borrow_in at access x r region b stop) =
      λ i. borrow_in at access x r region (statements_same b i) stop
  statement_same (borrow_typed at r t m x b stop) = λ i. borrow_typed at r t m x (statements_same b i) stop
  statement_same (discard at e) = λ i. discard at (expression_same e i)
  statement_same (return_of at e) = λ i. return_of at (expression_same e i)

  statements_same : (b : PlainStatements) → plain_statements bytes b ≡ b
  statements_same no_statements = refl
  statements_same (statements s rest) = λ i. statements (statement_same s i) (statements_same rest i)

  branches_same : (bs : PlainBranches) → plain_branches bytes bs ≡ bs
  branches_same no_branches = refl
  branches_same (branches e b rest) = λ i. branches (expression_same e i) (statements_same b i) (branches_same rest i)

  arms_same : (rest : PlainArms) → plain_arms bytes rest ≡ rest
  arms_same no_arms = refl
  arms_same (arms at n binds b rest) = λ i. arms at n (binds_same binds i) (statements_same b i) (arms_same rest i)

method_same : (m : PlainMethod) → plain_method bytes m ≡ m
method_same m = λ i. record { header = header_same m.header i; body = statements_same m.body i; stop = m.stop }

declaration_same : (d : PlainDeclaration) → plain_declaration bytes d ≡ d
declaration_same (constant at n t) = refl
declaration_same (opaque_type at n ps u) = λ i. opaque_type at n (map_same (plain_in_universe bytes) (λ p. refl) ps i) u
declaration_same (record_type at n ps u fs) =
    λ i. record_type at n (map_same (plain_in_universe bytes) (λ p. refl) ps i) u (fields_same fs i)
declaration_same (union_type at n ps u vs) =
    λ i. union_type at n (map_same (plain_in_universe bytes) (λ p. refl) ps i) u
    (map_same (plain_variant bytes) variant_same vs i)
declaration_same (function at gs h) = λ i. function at (generics_same gs i) (header_same h i)
declaration_same (class at n p hs) = λ i. class at n p (map_same (plain_header bytes) header_same hs i)
declaration_same (instance at gs n t) = λ i. instance at (generics_same gs i) n t
declaration_same (constant_body at n t e) = λ i. constant_body at n t (expression_same e i)
declaration_same (function_body at gs h b stop) = λ i. function_body at (generics_same gs i) (header_same h i)
    (statements_same b i) stop
declaration_same (instance_body at gs n t ms) = λ i. instance_body at (generics_same gs i) n t
    (map_same (plain_method bytes) method_same ms i)

pub module_same : (m : PlainModule) → plain_module bytes m ≡ m
module_same m = λ i. record {
  imports = map_same (plain_importing bytes) importing_same m.imports i;
  at = m.at;
  part = m.part;
  name = names_same m.name i;
  pragma = m.pragma;
  declarations = map_same (plain_declaration bytes) declaration_same m.declarations i;
}

-- ---- all notes are allowed

abbrev allowed : Unit {0} → Bool
allowed note = true

mutual
  expression_noted : (e : PlainExpression) → notes_of_expression allowed allowed e ≡ true
  expression_noted (number n l) = refl
  expression_noted (negative n l) = refl
  expression_noted (text n t) = refl
  expression_noted (truth n b) = refl
  expression_noted (nil n) = refl
  expression_noted (path n x fields) = refl
  expression_noted (arrow n x fields) = refl
  expression_noted (call n f es c) = expressions_noted es
  expression_noted (named_call n f es c) = arguments_noted es
  expression_noted (parenthesized n e) = expression_noted e
  expression_noted (dereference n e) = expression_noted e
  expression_noted (borrow n m x) = refl
  expression_noted (borrow_part n x fields) = refl
  expression_noted (binary n op a b) = and_from _ _ (expression_noted a) (expression_noted b)
  expression_noted (negation n e) = expression_noted e
  expression_noted (typed n e t) = expression_noted e
  expression_noted (choice n c a b) = and_from _ _ (and_from _ _ (expression_noted c) (expression_noted a))
      (expression_noted b)

  expressions_noted : (es : PlainExpressions) → notes_of_expressions allowed allowed es ≡ true
  expressions_noted no_expressions = refl
  expressions_noted (expressions e rest) = and_from _ _ (expression_noted e) (expressions_noted rest)

  arguments_noted : (es : PlainArguments) → notes_of_arguments allowed allowed es ≡ true
  arguments_noted no_arguments = refl
  arguments_noted (arguments label e rest) = and_from _ _ (expression_noted e) (arguments_noted rest)

mutual
  statement_noted : (s : PlainStatement) → notes_of_statement allowed allowed s ≡ true
  statement_noted (skip at) = refl
  statement_noted (declare at b n t e) = expression_noted e
  statement_noted (destructure at binds e) = expression_noted e
  statement_noted (assign at n fields e) = expression_noted e
  statement_noted (assign_through at n fields e) = expression_noted e
  statement_noted (conditional at bs) = branches_noted bs
  statement_noted (conditional_else at bs b) = and_from _ _ (branches_noted bs) (statements_noted b)
  statement_noted (case_of at e rest) = and_from _ _ (expression_noted e) (arms_noted rest)
  statement_noted (while_loop at e b) = and_from _ _ (expression_noted e) (statements_noted b)
  statement_noted (for_loop at n a z b) =
      and_from _ _ (and_from _ _ (expression_noted a) (expression_noted z)) (statements_noted b)
  statement_noted (borrow_in at access x r region b stop) = statements_noted b
  statement_noted (borrow_typed at r t m x b stop) = statements_noted b
  statement_noted (discard at e) = expression_noted e
  statement_noted (return_of at e) = expression_noted e

  statements_noted : (b : PlainStatements) → notes_of_statements allowed allowed b ≡ true
  statements_noted no_statements = refl
  statements_noted (statements s rest) = and_from _ _ (statement_noted s) (statements_noted rest)

  branches_noted : (bs : PlainBranches) → notes_of_branches allowed allowed bs ≡ true
  branches_noted no_branches = refl
  branches_noted (branches e b rest) = and_from _ _ (and_from _ _ (expression_noted e) (statements_noted b))
      (branches_noted rest)

  arms_noted : (rest : PlainArms) → notes_of_arms allowed allowed rest ≡ true
  arms_noted no_arms = refl
  arms_noted (arms at n binds b rest) = and_from _ _ (statements_noted b) (arms_noted rest)

method_noted : (m : PlainMethod) → notes_of_method allowed allowed m ≡ true
method_noted m = statements_noted m.body

declaration_noted : (d : PlainDeclaration) → notes_of_declaration allowed allowed d ≡ true
declaration_noted (constant at n t) = refl
declaration_noted (opaque_type at n ps u) = refl
declaration_noted (record_type at n ps u fs) = refl
declaration_noted (union_type at n ps u vs) = refl
declaration_noted (function at gs h) = refl
declaration_noted (class at n p hs) = refl
declaration_noted (instance at gs n t) = refl
declaration_noted (constant_body at n t e) = expression_noted e
declaration_noted (function_body at gs h b stop) = statements_noted b
declaration_noted (instance_body at gs n t ms) = all_pass (notes_of_method allowed allowed) method_noted ms

pub module_noted : (m : PlainModule) → notes_of_module allowed allowed m ≡ true
module_noted m = all_pass (notes_of_declaration allowed allowed) declaration_noted m.declarations

-- ---- trees as they are read

-- a tree as it is read
abbrev pub ParsedModule : Type 0
ParsedModule = Module Parsed Name (Unit {0}) (Unit {0})

-- what a tree says is the tree of the definitions itself
pub says_itself : (tree : ParsedModule) → says parsed tree ≡ module_tree parsed tree
says_itself tree = module_same (module_tree parsed tree)

pub is_noted : (tree : ParsedModule) → is_allowed parsed tree ≡ true
is_noted tree = module_noted (module_tree parsed tree)
