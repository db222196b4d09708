-- Trees of the code that are seen by marks: their words are those that the trees say.
use Rattle.std.proofs.Common.{◌≡◌, Bool, List, [], ◌∷◌, map, Option, None, Some, ap, ◌∙◌, refl}
use Rattle.std.specs.Option.{option_map}
use mathlib.Core.Former.{Count}
use Rattle.au_syntax.specs.declared.phases.Phase.{Ghosts}
use Rattle.au_syntax.specs.declared.names.Ident.{Ident}
use Rattle.au_syntax.specs.declared.names.Renamed.{Renamed}
use Rattle.au_syntax.specs.declared.names.Field.{Field}
use Rattle.au_syntax.specs.declared.names.Bind.{Bind}
use Rattle.au_syntax.specs.declared.expressions.Expr.{Expr, Row_of-Expr, end_of-Expr, more_of-Expr}
use Rattle.au_syntax.specs.declared.expressions.Expr.{Row_of-Argument, end_of-Argument, more_of-Argument}
use Rattle.au_syntax.specs.declared.expressions.Expr as code
use Rattle.au_syntax.specs.Expressions.{path, arrow, call, named_call, parenthesized, dereference}
use Rattle.au_syntax.specs.Expressions.{borrow_part, binary, negation, typed, choice, expressions, arguments}
use Rattle.au_syntax.specs.declared.statements.Stmt.{Stmt, Row_of-Stmt, end_of-Stmt, more_of-Stmt}
use Rattle.au_syntax.specs.declared.statements.Stmt.{Row_of-Branch, end_of-Branch, more_of-Branch, Row_of-Arm}
use Rattle.au_syntax.specs.declared.statements.Stmt.{end_of-Arm, more_of-Arm}
use Rattle.au_syntax.specs.declared.statements.Block.{Block}
use Rattle.au_syntax.specs.declared.statements.Stmt as stmt
use Rattle.au_syntax.specs.declared.declarations.TypeParameter.{TypeParameter}
use Rattle.au_syntax.specs.declared.declarations.Generic.{Generic}
use Rattle.au_syntax.specs.declared.declarations.Signature.{Signature}
use Rattle.au_syntax.specs.declared.declarations.UnionCase.{UnionCase}
use Rattle.au_syntax.specs.declared.declarations.Method.{Method}
use Rattle.au_syntax.specs.declared.declarations.Decl.{Decl}
use Rattle.au_syntax.specs.declared.declarations.Decl.TheVariants as decl
use Rattle.au_syntax.specs.declared.modules.Import.{Import}
use Rattle.au_syntax.specs.declared.modules.Module.{Module}
use Rattle.au_syntax.specs.Statements.{declare, destructure, assign, assign_through, conditional}
use Rattle.au_syntax.specs.Statements.{conditional_else, case_of, while_loop, for_loop, borrow_in}
use Rattle.au_syntax.specs.Statements.{borrow_typed, discard, return_of, statements, branches, arms}
use Rattle.au_syntax.specs.Modules.{opaque_type, record_type, union_type, function, class, instance}
use Rattle.au_syntax.specs.Modules.{constant_body, function_body, instance_body}
use Rattle.au_syntax.specs.Views.{written, placed, renaming, labelled, bound, node, expression}
use Rattle.au_syntax.specs.Views.{row_expressions, row_arguments, statement, row_statements, row_branches}
use Rattle.au_syntax.specs.Views.{row_arms, statement_all, block, in_universe, constrained, header, variant}
use Rattle.au_syntax.specs.Views.{method_body, declaration, importing, module_tree}
use Rattle.au_syntax.specs.Plain.{Bytes, plain_name, plain_renaming, plain_labelled, plain_bound, plain_node}
use Rattle.au_syntax.specs.Plain.{plain_in_universe, plain_constrained, plain_header, plain_variant}
use Rattle.au_syntax.specs.Plain.{plain_expression, plain_expressions, plain_arguments, plain_statement}
use Rattle.au_syntax.specs.Plain.{plain_statements, plain_branches, plain_arms, plain_method}
use Rattle.au_syntax.specs.Plain.{plain_declaration, plain_importing, plain_module}
use Rattle.au_mapping.proofs.Words.{by_marks}

-- lists that are mapped twice to the same items
pub twice : {A B C D : Type 0} (f : A → B) (p : B → D) (h : A → C) (q : C → D) →
    ((x : A) → p (f x) ≡ q (h x)) → (xs : List A) → map p (map f xs) ≡ map q (map h xs)
twice f p h q same [] = refl
twice f p h q same (x ∷ xs) =
    ap (λ one. one ∷ map p (map f xs)) (same x) ∙ ap (λ rest. q (h x) ∷ rest) (twice f p h q same xs)

-- the bytes of a name that is seen by its bytes
abbrev pub kept : Bytes → Bytes
kept bytes = bytes

module _ {X N T C : Type 0} (g : Ghosts X N T C) (of_type : g.SeenType → Bool)
    (of_call : g.SeenCall → Bool) where
  abbrev m : Ghosts X N T C
  m = by_marks g of_type of_call

  names : (xs : List (Ident X N T C)) →
      map (plain_name kept) (map (placed m) xs) ≡ map (plain_name g.name_bytes) (map (placed g) xs)
  names xs = twice (placed m) (plain_name kept) (placed g) (plain_name g.name_bytes) (λ x. refl) xs

  fields_words : (xs : List (Field X N T C)) →
      map (plain_labelled kept) (map (labelled m) xs)
      ≡ map (plain_labelled g.name_bytes) (map (labelled g) xs)
  fields_words xs =
      twice (labelled m) (plain_labelled kept) (labelled g) (plain_labelled g.name_bytes) (λ x. refl) xs

  alias_words : (x : Option (Ident X N T C)) →
      option_map (plain_name kept) (option_map (placed m) x)
      ≡ option_map (plain_name g.name_bytes) (option_map (placed g) x)
  alias_words None = refl
  alias_words (Some x) = refl

  renaming_words : (x : Renamed X N T C) →
      plain_renaming kept (renaming m x) ≡ plain_renaming g.name_bytes (renaming g x)
  renaming_words x =
      ap (λ alias. record { name = plain_name g.name_bytes (placed g x.name); alias = alias })
      (alias_words x.alias)

  bound_words : (x : Bind X N T C) → plain_bound kept (bound m x) ≡ plain_bound g.name_bytes (bound g x)
  bound_words x = ap (λ name. record { name = name; of = written x.of }) (renaming_words x.name)

  binds_words : (xs : List (Bind X N T C)) →
      map (plain_bound kept) (map (bound m) xs) ≡ map (plain_bound g.name_bytes) (map (bound g) xs)
  binds_words xs = twice (bound m) (plain_bound kept) (bound g) (plain_bound g.name_bytes) bound_words xs

  mutual
    unfolding expression row_expressions row_arguments

    pub expression_words : (e : Expr X N T C) →
        plain_expression kept (expression m e) ≡ plain_expression g.name_bytes (expression g e)
    expression_words (code.Number s l) = refl
    expression_words (code.Negative s l) = refl
    expression_words (code.Text s t) = refl
    expression_words (code.Bool s b) = refl
    expression_words (code.Nil s) = refl
    expression_words (code.Path s n fields) =
        ap (path (plain_node (node g s)) (plain_name g.name_bytes (placed g n))) (names fields.items)
    expression_words (code.Arrow s n fields) =
        ap (arrow (plain_node (node g s)) (plain_name g.name_bytes (placed g n))) (names fields.items)
    expression_words (code.Call' s n shape args note) =
        ap (λ es. call (plain_node (node g s)) (plain_name g.name_bytes (placed g n)) es tt)
        (row_words _ args)
    expression_words (code.NamedCall' s n shape args note) =
        ap (λ es. named_call (plain_node (node g s)) (plain_name g.name_bytes (placed g n)) es tt)
        (argument_words _ args)
    expression_words (code.Parenthesized' s p e) =
        ap (parenthesized (plain_node (node g s))) (expression_words e)
    expression_words (code.Dereference' s p e) = ap (dereference (plain_node (node g s))) (expression_words e)
    expression_words (code.Borrow s mode n) = refl
    expression_words (code.BorrowPart s n fields) =
        ap (borrow_part (plain_node (node g s)) (plain_name g.name_bytes (placed g n))) (names fields.items)
    expression_words (code.Binary' s op p a q b) =
        ap (λ x. binary (plain_node (node g s)) op x (plain_expression kept (expression m b)))
        (expression_words a)
        ∙ ap (binary (plain_node (node g s)) op (plain_expression g.name_bytes (expression g a)))
        (expression_words b)
    expression_words (code.Not' s p e) = ap (negation (plain_node (node g s))) (expression_words e)
    expression_words (code.Typed' s p e t) =
        ap (λ x. typed (plain_node (node g s)) x (written t)) (expression_words e)
    expression_words (code.If' s p c q a r b) =
        ap (λ x. choice (plain_node (node g s)) x (plain_expression kept (expression m a))
        (plain_expression kept (expression m b))) (expression_words c)
        ∙ ap (λ x. choice (plain_node (node g s)) (plain_expression g.name_bytes (expression g c)) x
        (plain_expression kept (expression m b))) (expression_words a)
        ∙ ap (choice (plain_node (node g s)) (plain_expression g.name_bytes (expression g c))
        (plain_expression g.name_bytes (expression g a))) (expression_words b)

    row_words : (n : Count) (row : Row_of-Expr X N T C n) →
        plain_expressions kept (row_expressions m row)
        ≡ plain_expressions g.name_bytes (row_expressions g row)
    row_words n end_of-Expr = refl
    row_words n (more_of-Expr e rest) =
        ap (λ x. expressions x (plain_expressions kept (row_expressions m rest))) (expression_words e)
        ∙ ap (expressions (plain_expression g.name_bytes (expression g e))) (row_words _ rest)

    argument_words : (n : Count) (row : Row_of-Argument X N T C n) →
        plain_arguments kept (row_arguments m row) ≡ plain_arguments g.name_bytes (row_arguments g row)
    argument_words n end_of-Argument = refl
    argument_words n (more_of-Argument label e rest) =
        ap (λ x. arguments (plain_name g.name_bytes (placed g label)) x
        (plain_arguments kept (row_arguments m rest))) (expression_words e)
        ∙ ap (arguments (plain_name g.name_bytes (placed g label))
        (plain_expression g.name_bytes (expression g e)))
        (argument_words _ rest)

  mutual
    unfolding statement row_statements row_branches row_arms

    pub statement_words : (s : Stmt X N T C) →
        plain_statement kept (statement m s) ≡ plain_statement g.name_bytes (statement g s)
    statement_words (stmt.Skip at) = refl
    statement_words (stmt.Let at b n t e) =
        ap (declare at b (plain_name g.name_bytes (placed g n)) (written t)) (expression_words e.value)
    statement_words (stmt.Destructure at binds e) =
        ap (λ bs. destructure at bs (plain_expression kept (expression m e.value))) (binds_words binds.items)
        ∙ ap (destructure at (map (plain_bound g.name_bytes) (map (bound g) binds.items)))
        (expression_words e.value)
    statement_words (stmt.Assign at n fields e) =
        ap (λ ns. assign at (plain_name g.name_bytes (placed g n)) ns
        (plain_expression kept (expression m e.value)))
        (names fields.items)
        ∙ ap (assign at (plain_name g.name_bytes (placed g n))
        (map (plain_name g.name_bytes) (map (placed g) fields.items))) (expression_words e.value)
    statement_words (stmt.AssignThrough at n fields e) =
        ap (λ ns. assign_through at (plain_name g.name_bytes (placed g n)) ns
        (plain_expression kept (expression m e.value))) (names fields.items)
        ∙ ap (assign_through at (plain_name g.name_bytes (placed g n))
        (map (plain_name g.name_bytes) (map (placed g) fields.items))) (expression_words e.value)
    statement_words (stmt.If' at shape bs) = ap (conditional at) (branch_words _ bs)
    statement_words (stmt.IfElse' at shape bs shape' ss) =
        ap (λ x. conditional_else at x (plain_statements kept (row_statements m ss))) (branch_words _ bs)
        ∙ ap (conditional_else at (plain_branches g.name_bytes (row_branches g bs)))
        (row_statement_words _ ss)
    statement_words (stmt.Case' at e shape rest) =
        ap (λ x. case_of at x (plain_arms kept (row_arms m rest))) (expression_words e.value)
        ∙ ap (case_of at (plain_expression g.name_bytes (expression g e.value))) (arm_words _ rest)
    statement_words (stmt.While' at e shape ss) =
        ap (λ x. while_loop at x (plain_statements kept (row_statements m ss))) (expression_words e.value)
        ∙ ap (while_loop at (plain_expression g.name_bytes (expression g e.value))) (row_statement_words _ ss)
    statement_words (stmt.For' at n a b shape ss) =
        ap (λ x. for_loop at (plain_name g.name_bytes (placed g n)) x
        (plain_expression kept (expression m b.value)) (plain_statements kept (row_statements m ss)))
        (expression_words a.value)
        ∙ ap (λ x. for_loop at (plain_name g.name_bytes (placed g n))
        (plain_expression g.name_bytes (expression g a.value)) x
        (plain_statements kept (row_statements m ss)))
        (expression_words b.value)
        ∙ ap (for_loop at (plain_name g.name_bytes (placed g n))
        (plain_expression g.name_bytes (expression g a.value))
        (plain_expression g.name_bytes (expression g b.value))) (row_statement_words _ ss)
    statement_words (stmt.Borrow' at access ns shape ss stop) =
        ap (λ x. borrow_in at access (plain_name g.name_bytes (placed g ns.variable))
        (plain_name g.name_bytes (placed g ns.reference)) (plain_name g.name_bytes (placed g ns.region))
        x stop)
        (row_statement_words _ ss)
    statement_words (stmt.BorrowTyped' at r t mode x shape ss stop) =
        ap (λ y. borrow_typed at (plain_name g.name_bytes (placed g r)) (written t) mode
        (plain_name g.name_bytes (placed g x)) y stop) (row_statement_words _ ss)
    statement_words (stmt.Call at e) = ap (discard at) (expression_words e.value)
    statement_words (stmt.Return at e) = ap (return_of at) (expression_words e.value)

    row_statement_words : (n : Count) (row : Row_of-Stmt X N T C n) →
        plain_statements kept (row_statements m row) ≡ plain_statements g.name_bytes (row_statements g row)
    row_statement_words n end_of-Stmt = refl
    row_statement_words n (more_of-Stmt s rest) =
        ap (λ x. statements x (plain_statements kept (row_statements m rest))) (statement_words s)
        ∙ ap (statements (plain_statement g.name_bytes (statement g s))) (row_statement_words _ rest)

    branch_words : (n : Count) (row : Row_of-Branch X N T C n) →
        plain_branches kept (row_branches m row) ≡ plain_branches g.name_bytes (row_branches g row)
    branch_words n end_of-Branch = refl
    branch_words n (more_of-Branch e shape ss rest) =
        ap (λ x. branches x (plain_statements kept (row_statements m ss))
        (plain_branches kept (row_branches m rest))) (expression_words e.value)
        ∙ ap (λ x. branches (plain_expression g.name_bytes (expression g e.value)) x
        (plain_branches kept (row_branches m rest))) (row_statement_words _ ss)
        ∙ ap (branches (plain_expression g.name_bytes (expression g e.value))
        (plain_statements g.name_bytes (row_statements g ss))) (branch_words _ rest)

    arm_words : (n : Count) (row : Row_of-Arm X N T C n) →
        plain_arms kept (row_arms m row) ≡ plain_arms g.name_bytes (row_arms g row)
    arm_words n end_of-Arm = refl
    arm_words n (more_of-Arm at name binds shape ss rest) =
        ap (λ x. arms at (plain_name g.name_bytes (placed g name)) x
        (plain_statements kept (row_statements m ss))
        (plain_arms kept (row_arms m rest))) (binds_words binds.items)
        ∙ ap (λ x. arms at (plain_name g.name_bytes (placed g name))
        (map (plain_bound g.name_bytes) (map (bound g) binds.items)) x (plain_arms kept (row_arms m rest)))
        (row_statement_words _ ss)
        ∙ ap (arms at (plain_name g.name_bytes (placed g name))
        (map (plain_bound g.name_bytes) (map (bound g) binds.items))
        (plain_statements g.name_bytes (row_statements g ss))) (arm_words _ rest)

  all_words : (ss : List (Stmt X N T C)) →
      plain_statements kept (statement_all m ss) ≡ plain_statements g.name_bytes (statement_all g ss)
  all_words [] = refl
  all_words (s ∷ rest) =
      ap (λ x. statements x (plain_statements kept (statement_all m rest))) (statement_words s)
      ∙ ap (statements (plain_statement g.name_bytes (statement g s))) (all_words rest)

  pub block_words : (b : Block X N T C) →
      plain_statements kept (block m b) ≡ plain_statements g.name_bytes (block g b)
  block_words b = all_words b.statements.items

  parameters_words : (xs : List (TypeParameter X N T C)) →
      map (plain_in_universe kept) (map (in_universe m) xs)
      ≡ map (plain_in_universe g.name_bytes) (map (in_universe g) xs)
  parameters_words xs =
      twice (in_universe m) (plain_in_universe kept) (in_universe g) (plain_in_universe g.name_bytes)
      (λ x. refl) xs

  generic_words : (x : Generic X N T C) →
      plain_constrained kept (constrained m x) ≡ plain_constrained g.name_bytes (constrained g x)
  generic_words x =
      ap (λ classes. record {
        parameter = plain_in_universe g.name_bytes (in_universe g x.parameter);
        classes = classes;
      }) (names x.classes.items)

  generics_words : (xs : List (Generic X N T C)) →
      map (plain_constrained kept) (map (constrained m) xs)
      ≡ map (plain_constrained g.name_bytes) (map (constrained g) xs)
  generics_words xs =
      twice (constrained m) (plain_constrained kept) (constrained g) (plain_constrained g.name_bytes)
      generic_words xs

  header_words : (x : Signature X N T C) → plain_header kept (header m x)
      ≡ plain_header g.name_bytes (header g x)
  header_words x =
      ap (λ fields. record {
        name = plain_name g.name_bytes (placed g x.name);
        parameters = fields;
        result = written x.result;
      }) (fields_words x.parameters.items)

  headers_words : (xs : List (Signature X N T C)) →
      map (plain_header kept) (map (header m) xs) ≡ map (plain_header g.name_bytes) (map (header g) xs)
  headers_words xs =
      twice (header m) (plain_header kept) (header g) (plain_header g.name_bytes) header_words xs

  variant_words : (x : UnionCase X N T C) →
      plain_variant kept (variant m x) ≡ plain_variant g.name_bytes (variant g x)
  variant_words x =
      ap (λ fields. record { name = plain_name g.name_bytes (placed g x.name); fields = fields })
      (fields_words x.fields.items)

  variants_words : (xs : List (UnionCase X N T C)) →
      map (plain_variant kept) (map (variant m) xs) ≡ map (plain_variant g.name_bytes) (map (variant g) xs)
  variants_words xs =
      twice (variant m) (plain_variant kept) (variant g) (plain_variant g.name_bytes) variant_words xs

  method_words : (x : Method X N T C) →
      plain_method kept (method_body m x) ≡ plain_method g.name_bytes (method_body g x)
  method_words x =
      ap (λ h. record { header = h; body = plain_statements kept (block m x.body); stop = x.end })
      (header_words x.signature)
      ∙ ap (λ b. record { header = plain_header g.name_bytes (header g x.signature); body = b; stop = x.end })
      (block_words x.body)

  methods_words : (xs : List (Method X N T C)) →
      map (plain_method kept) (map (method_body m) xs)
      ≡ map (plain_method g.name_bytes) (map (method_body g) xs)
  methods_words xs =
      twice (method_body m) (plain_method kept) (method_body g) (plain_method g.name_bytes) method_words xs

  pub declaration_words : (d : Decl X N T C) →
      plain_declaration kept (declaration m d) ≡ plain_declaration g.name_bytes (declaration g d)
  unfolding declaration
  declaration_words (decl.Constant at n t) = refl
  declaration_words (decl.Opaque at n ps u) =
      ap (λ x. opaque_type at (plain_name g.name_bytes (placed g n)) x u) (parameters_words ps.items)
  declaration_words (decl.Record at n ps u fs) =
      ap (λ x. record_type at (plain_name g.name_bytes (placed g n)) x u
      (map (plain_labelled kept) (map (labelled m) fs.items))) (parameters_words ps.items)
      ∙ ap (record_type at (plain_name g.name_bytes (placed g n))
      (map (plain_in_universe g.name_bytes) (map (in_universe g) ps.items)) u) (fields_words fs.items)
  declaration_words (decl.Union at n ps u cs) =
      ap (λ x. union_type at (plain_name g.name_bytes (placed g n)) x u
      (map (plain_variant kept) (map (variant m) cs.items))) (parameters_words ps.items)
      ∙ ap (union_type at (plain_name g.name_bytes (placed g n))
      (map (plain_in_universe g.name_bytes) (map (in_universe g) ps.items)) u) (variants_words cs.items)
  declaration_words (decl.Function at gs s) =
      ap (λ x. function at x (plain_header kept (header m s))) (generics_words gs.items)
      ∙ ap (function at (map (plain_constrained g.name_bytes) (map (constrained g) gs.items)))
      (header_words s)
  declaration_words (decl.Class at n p ms) =
      ap (class at (plain_name g.name_bytes (placed g n)) (plain_in_universe g.name_bytes (in_universe g p)))
      (headers_words ms.items)
  declaration_words (decl.Instance at gs n t) =
      ap (λ x. instance at x (plain_name g.name_bytes (placed g n)) (written t)) (generics_words gs.items)
  declaration_words (decl.ConstantBody at n t e) =
      ap (constant_body at (plain_name g.name_bytes (placed g n)) (written t)) (expression_words e.value)
  declaration_words (decl.FunctionBody at gs s b stop) =
      ap (λ x. function_body at x (plain_header kept (header m s)) (plain_statements kept (block m b)) stop)
      (generics_words gs.items)
      ∙ ap (λ x. function_body at (map (plain_constrained g.name_bytes) (map (constrained g) gs.items)) x
      (plain_statements kept (block m b)) stop) (header_words s)
      ∙ ap (λ x. function_body at (map (plain_constrained g.name_bytes) (map (constrained g) gs.items))
      (plain_header g.name_bytes (header g s)) x stop) (block_words b)
  declaration_words (decl.InstanceBody at gs n t ms) =
      ap (λ x. instance_body at x (plain_name g.name_bytes (placed g n)) (written t)
      (map (plain_method kept) (map (method_body m) ms.items))) (generics_words gs.items)
      ∙ ap (instance_body at (map (plain_constrained g.name_bytes) (map (constrained g) gs.items))
      (plain_name g.name_bytes (placed g n)) (written t)) (methods_words ms.items)

  declarations_words : (ds : List (Decl X N T C)) →
      map (plain_declaration kept) (map (declaration m) ds)
      ≡ map (plain_declaration g.name_bytes) (map (declaration g) ds)
  declarations_words ds =
      twice (declaration m) (plain_declaration kept) (declaration g) (plain_declaration g.name_bytes)
      declaration_words ds

  import_words : (x : Import X N T C) →
      plain_importing kept (importing m x) ≡ plain_importing g.name_bytes (importing g x)
  import_words x =
      ap (λ from. record {
        at = x.at;
        from = from;
        items = map (plain_renaming kept) (map (renaming m) x.items.items);
      }) (names x.module.items)
      ∙ ap (λ items. record {
        at = x.at;
        from = map (plain_name g.name_bytes) (map (placed g) x.module.items);
        items = items;
      })
      (twice (renaming m) (plain_renaming kept) (renaming g) (plain_renaming g.name_bytes) renaming_words
      x.items.items)

  imports_words : (xs : List (Import X N T C)) →
      map (plain_importing kept) (map (importing m) xs)
      ≡ map (plain_importing g.name_bytes) (map (importing g) xs)
  imports_words xs =
      twice (importing m) (plain_importing kept) (importing g) (plain_importing g.name_bytes) import_words xs

  pub module_words : (x : Module X N T C) →
      plain_module kept (module_tree m x) ≡ plain_module g.name_bytes (module_tree g x)
  module_words x =
      ap (λ imports. record {
        imports = imports;
        at = x.at;
        part = x.part;
        name = map (plain_name kept) (map (placed m) x.name.items);
        pragma = x.pragma;
        declarations = map (plain_declaration kept) (map (declaration m) x.declarations.items);
      })
      (imports_words x.imports.items)
      ∙ ap (λ name. record {
        imports = map (plain_importing g.name_bytes) (map (importing g) x.imports.items);
        at = x.at;
        part = x.part;
        name = name;
        pragma = x.pragma;
        declarations = map (plain_declaration kept) (map (declaration m) x.declarations.items);
      })
      (names x.name.items)
      ∙ ap (λ declarations. record {
        imports = map (plain_importing g.name_bytes) (map (importing g) x.imports.items);
        at = x.at;
        part = x.part;
        name = map (plain_name g.name_bytes) (map (placed g) x.name.items);
        pragma = x.pragma;
        declarations = declarations;
      }) (declarations_words x.declarations.items)
