-- A tree without notes, of which names are their bytes, is read plainly as it is.
use Rattle.std.proofs.Common.{◌≡◌, List, map, refl, ap}
use Rattle.std.specs.Prelude.{Option, Some, None}
use Rattle.std.specs.Option.{option_map}
use Rattle.au_base.proofs.ListLemmas.{map_same}
use Rattle.au_syntax.specs.Expressions.{path, arrow, call, named_call, parenthesized, dereference}
use Rattle.au_syntax.specs.Expressions.{borrow_part, binary, negation, typed, choice, no_expressions}
use Rattle.au_syntax.specs.Expressions.{expressions, no_arguments, arguments}
use Rattle.au_syntax.specs.Modules.{Constrained, Header, Importing, Variant, constant, opaque_type}
use Rattle.au_syntax.specs.Modules.{record_type, union_type, function, class, instance, constant_body}
use Rattle.au_syntax.specs.Modules.{function_body, instance_body}
use Rattle.au_syntax.specs.Names.{Placed, Renaming}
use Rattle.au_syntax.specs.Plain.{Bytes, PlainArguments, PlainArms, PlainBranches, PlainDeclaration}
use Rattle.au_syntax.specs.Plain.{PlainExpression, PlainExpressions, PlainMethod, PlainModule, PlainStatement}
use Rattle.au_syntax.specs.Plain.{PlainStatements}
use Rattle.au_syntax.specs.Plain.{plain_arguments, plain_arms, plain_bound, plain_branches, plain_constrained}
use Rattle.au_syntax.specs.Plain.{plain_declaration, plain_expression, plain_expressions, plain_header}
use Rattle.au_syntax.specs.Plain.{plain_importing, plain_in_universe, plain_labelled, plain_method}
use Rattle.au_syntax.specs.Plain.{plain_module, plain_name, plain_renaming, plain_statement, plain_statements}
use Rattle.au_syntax.specs.Plain.{plain_variant}
use Rattle.au_syntax.specs.Statements.{skip, declare, destructure, assign, assign_through, conditional}
use Rattle.au_syntax.specs.Statements.{conditional_else, case_of, while_loop, for_loop, borrow_in}
use Rattle.au_syntax.specs.Statements.{borrow_typed, discard, return_of, no_statements, statements}
use Rattle.au_syntax.specs.Statements.{no_branches, branches, no_arms, arms}
use Rattle.au_syntax.specs.Types.{Bound, Labelled}

-- names stay as they are
abbrev same_name : Bytes → Bytes
same_name name = name

names_kept : (names : List (Placed Bytes)) → map (plain_name same_name) names ≡ names
names_kept names = map_same (plain_name same_name) (λ x. refl) names

alias_kept : (alias : Option (Placed Bytes)) → option_map (plain_name same_name) alias ≡ alias
alias_kept None = refl
alias_kept (Some x) = refl

renaming_kept : (r : Renaming Bytes) → plain_renaming same_name r ≡ r
renaming_kept r = λ i. record { name = r.name; alias = alias_kept r.alias i }

bound_kept : (b : Bound Bytes) → plain_bound same_name b ≡ b
bound_kept b = λ i. record { name = renaming_kept b.name i; of = b.of }

binds_kept : (binds : List (Bound Bytes)) → map (plain_bound same_name) binds ≡ binds
binds_kept binds = map_same (plain_bound same_name) bound_kept binds

labels_kept : (fields : List (Labelled Bytes)) → map (plain_labelled same_name) fields ≡ fields
labels_kept fields = map_same (plain_labelled same_name) (λ x. refl) fields

-- ---- expressions

mutual
  expression_kept : (e : PlainExpression) → plain_expression same_name e ≡ e
  expression_kept (path n x fields) = ap (path n x) (names_kept fields)
  expression_kept (arrow n x fields) = ap (arrow n x) (names_kept fields)
  expression_kept (call n f es c) = ap (λ all. call n f all tt) (expressions_kept es)
  expression_kept (named_call n f es c) = ap (λ all. named_call n f all tt) (arguments_kept es)
  expression_kept (parenthesized n e) = ap (parenthesized n) (expression_kept e)
  expression_kept (dereference n e) = ap (dereference n) (expression_kept e)
  expression_kept (borrow_part n x fields) = ap (borrow_part n x) (names_kept fields)
  expression_kept (binary n op a b) = λ i. binary n op (expression_kept a i) (expression_kept b i)
  expression_kept (negation n e) = ap (negation n) (expression_kept e)
  expression_kept (typed n e t) = ap (λ f. typed n f t) (expression_kept e)
  expression_kept (choice n c a b) = λ i. choice n (expression_kept c i) (expression_kept a i) (expression_kept b i)
  expression_kept e = refl

  expressions_kept : (es : PlainExpressions) → plain_expressions same_name es ≡ es
  expressions_kept no_expressions = refl
  expressions_kept (expressions e rest) = λ i. expressions (expression_kept e i) (expressions_kept rest i)

  arguments_kept : (es : PlainArguments) → plain_arguments same_name es ≡ es
  arguments_kept no_arguments = refl
  arguments_kept (arguments label e rest) = λ i. arguments label (expression_kept e i) (arguments_kept rest i)

-- ---- statements

mutual
  statement_kept : (s : PlainStatement) → plain_statement same_name s ≡ s
  statement_kept (skip at) = refl
  statement_kept (declare at b n t e) = ap (declare at b n t) (expression_kept e)
  statement_kept (destructure at binds e) = λ i. destructure at (binds_kept binds i) (expression_kept e i)
  statement_kept (assign at n fields e) = λ i. assign at n (names_kept fields i) (expression_kept e i)
  statement_kept (assign_through at n fields e) = λ i. assign_through at n (names_kept fields i) (expression_kept e i)
  statement_kept (conditional at tests) = ap (conditional at) (branches_kept tests)
  statement_kept (conditional_else at tests b) = λ i. conditional_else at (branches_kept tests i) (block_kept b i)
  statement_kept (case_of at e all) = λ i. case_of at (expression_kept e i) (arms_kept all i)
  statement_kept (while_loop at e b) = λ i. while_loop at (expression_kept e i) (block_kept b i)
  statement_kept (for_loop at n a z b) = λ i. for_loop at n (expression_kept a i) (expression_kept z i) (block_kept b i)
  statement_kept (borrow_in at access x r region b stop) = ap (λ c. borrow_in at access x r region c stop)
      (block_kept b)
  statement_kept (borrow_typed at r t mode x b stop) = ap (λ c. borrow_typed at r t mode x c stop) (block_kept b)
  statement_kept (discard at e) = ap (discard at) (expression_kept e)
  statement_kept (return_of at e) = ap (return_of at) (expression_kept e)

  block_kept : (ss : PlainStatements) → plain_statements same_name ss ≡ ss
  block_kept no_statements = refl
  block_kept (statements s rest) = λ i. statements (statement_kept s i) (block_kept rest i)

  branches_kept : (all : PlainBranches) → plain_branches same_name all ≡ all
  branches_kept no_branches = refl
  branches_kept (branches e b rest) = λ i. branches (expression_kept e i) (block_kept b i) (branches_kept rest i)

  arms_kept : (all : PlainArms) → plain_arms same_name all ≡ all
  arms_kept no_arms = refl
  arms_kept (arms at n binds b rest) = λ i. arms at n (binds_kept binds i) (block_kept b i) (arms_kept rest i)

-- ---- declarations

header_kept : (h : Header Bytes) → plain_header same_name h ≡ h
header_kept h = λ i. record { name = h.name; parameters = labels_kept h.parameters i; result = h.result }

constrained_kept : (p : Constrained Bytes) → plain_constrained same_name p ≡ p
constrained_kept p = λ i. record { parameter = p.parameter; classes = names_kept p.classes i }

generics_kept : (gs : List (Constrained Bytes)) → map (plain_constrained same_name) gs ≡ gs
generics_kept gs = map_same (plain_constrained same_name) constrained_kept gs

variant_kept : (v : Variant Bytes) → plain_variant same_name v ≡ v
variant_kept v = λ i. record { name = v.name; fields = labels_kept v.fields i }

method_kept : (m : PlainMethod) → plain_method same_name m ≡ m
method_kept m = λ i. record { header = header_kept m.header i; body = block_kept m.body i; stop = m.stop }

declaration_kept : (d : PlainDeclaration) → plain_declaration same_name d ≡ d
declaration_kept (constant at n t) = refl
declaration_kept (opaque_type at n ps u) =
    ap (λ qs. opaque_type at n qs u) (map_same (plain_in_universe same_name) (λ p. refl) ps)
declaration_kept (record_type at n ps u fields) =
    λ i. record_type at n (map_same (plain_in_universe same_name) (λ p. refl) ps i) u (labels_kept fields i)
declaration_kept (union_type at n ps u cases) =
    λ i. union_type at n (map_same (plain_in_universe same_name) (λ p. refl) ps i) u
    (map_same (plain_variant same_name) variant_kept cases i)
declaration_kept (function at gs h) = λ i. function at (generics_kept gs i) (header_kept h i)
declaration_kept (class at n p hs) = ap (class at n p) (map_same (plain_header same_name) header_kept hs)
declaration_kept (instance at gs n t) = ap (λ all. instance at all n t) (generics_kept gs)
declaration_kept (constant_body at n t e) = ap (constant_body at n t) (expression_kept e)
declaration_kept (function_body at gs h b stop) = λ i. function_body at (generics_kept gs i) (header_kept h i)
    (block_kept b i) stop
declaration_kept (instance_body at gs n t ms) = λ i. instance_body at (generics_kept gs i) n t
    (map_same (plain_method same_name) method_kept ms i)

-- ---- a file

importing_kept : (one : Importing Bytes) → plain_importing same_name one ≡ one
importing_kept one = λ i. record {
  at = one.at;
  from = names_kept one.from i;
  items = map_same (plain_renaming same_name) renaming_kept one.items i;
}

pub module_kept : (m : PlainModule) → plain_module same_name m ≡ m
module_kept m = λ i. record {
  imports = map_same (plain_importing same_name) importing_kept m.imports i;
  at = m.at;
  part = m.part;
  name = names_kept m.name i;
  pragma = m.pragma;
  declarations = map_same (plain_declaration same_name) declaration_kept m.declarations i;
}
