-- Trees of the code that are seen by marks: all marks are true where each note is as asked for.
use Rattle.std.proofs.Common.{◌≡◌, Bool, true, List, [], ◌∷◌, map, ap, ◌∙◌, refl, ◌&&◌}
use Rattle.std.specs.List.{list_all}
use Rattle.std.proofs.lemmas.Bool.{and_from}
use mathlib.Core.Former.{Count}
use Rattle.au_syntax.specs.declared.phases.Phase.{Ghosts}
use Rattle.au_syntax.specs.declared.expressions.Expr.{Expr, Row_of-Expr, end_of-Expr, more_of-Expr}
use Rattle.au_syntax.specs.declared.expressions.Expr.{Row_of-Argument, end_of-Argument, more_of-Argument}
use Rattle.au_syntax.specs.declared.expressions.Expr as code
use Rattle.au_syntax.specs.Expressions.{Expression, Expressions, Arguments, number, negative, text, truth}
use Rattle.au_syntax.specs.Expressions.{nil, path, arrow, call, named_call, parenthesized, dereference}
use Rattle.au_syntax.specs.Expressions.{borrow, borrow_part, binary, negation, typed, choice, no_expressions}
use Rattle.au_syntax.specs.Expressions.{expressions, no_arguments, arguments}
use Rattle.au_syntax.specs.declared.statements.Stmt.{Stmt, Row_of-Stmt, end_of-Stmt, more_of-Stmt}
use Rattle.au_syntax.specs.declared.statements.Stmt.{Row_of-Branch, end_of-Branch, more_of-Branch, Row_of-Arm}
use Rattle.au_syntax.specs.declared.statements.Stmt.{end_of-Arm, more_of-Arm}
use Rattle.au_syntax.specs.declared.statements.Block.{Block}
use Rattle.au_syntax.specs.declared.statements.Stmt as stmt
use Rattle.au_syntax.specs.declared.declarations.Method.{Method}
use Rattle.au_syntax.specs.declared.declarations.Decl.{Decl}
use Rattle.au_syntax.specs.declared.declarations.Decl.TheVariants as decl
use Rattle.au_syntax.specs.declared.modules.Module.{Module}
use Rattle.au_syntax.specs.Statements.{Statement, Statements, Branches, Arms, skip, declare, destructure}
use Rattle.au_syntax.specs.Statements.{assign, assign_through, conditional, conditional_else, case_of}
use Rattle.au_syntax.specs.Statements.{while_loop, for_loop, borrow_in, borrow_typed, discard, return_of}
use Rattle.au_syntax.specs.Statements.{no_statements, statements, no_branches, branches, no_arms, arms}
use Rattle.au_syntax.specs.Modules.{MethodBody, Declaration, constant, opaque_type, record_type, union_type}
use Rattle.au_syntax.specs.Modules.{function, class, instance, constant_body, function_body, instance_body}
use Rattle.au_syntax.specs.Views.{expression, row_expressions, row_arguments, statement, row_statements}
use Rattle.au_syntax.specs.Views.{row_branches, row_arms, statement_all, block, method_body, declaration}
use Rattle.au_syntax.specs.Views.{module_tree}
use Rattle.au_syntax.specs.Notes.{notes_of_expression, notes_of_expressions, notes_of_arguments}
use Rattle.au_syntax.specs.Notes.{notes_of_statement, notes_of_statements, notes_of_branches, notes_of_arms}
use Rattle.au_syntax.specs.Notes.{notes_of_method, notes_of_declaration, notes_of_module}
use Rattle.au_mapping.proofs.Words.{by_marks}

-- a mark that is true
abbrev pub held : Bool → Bool
held mark = mark

and_both : (a b c d : Bool) → a ≡ c → b ≡ d → (a && b) ≡ (c && d)
and_both a b c d one other = ap (λ x. x && b) one ∙ ap (λ y. c && y) other

module _ {X N T C : Type 0} (g : Ghosts X N T C) (of_type : g.SeenType → Bool)
    (of_call : g.SeenCall → Bool) where
  abbrev m : Ghosts X N T C
  m = by_marks g of_type of_call

  mutual
    unfolding expression row_expressions row_arguments

    pub expression_marks : (e : Expr X N T C) →
        notes_of_expression held held (expression m e) ≡ notes_of_expression of_type of_call (expression g e)
    expression_marks (code.Number s l) = refl
    expression_marks (code.Negative s l) = refl
    expression_marks (code.Text s t) = refl
    expression_marks (code.Bool s b) = refl
    expression_marks (code.Nil s) = refl
    expression_marks (code.Path s n fields) = refl
    expression_marks (code.Arrow s n fields) = refl
    expression_marks (code.Call' s n shape args note) =
        ap (λ x. of_type (g.see_type s.note) && of_call (g.see_call note) && x) (row_marks _ args)
    expression_marks (code.NamedCall' s n shape args note) =
        ap (λ x. of_type (g.see_type s.note) && of_call (g.see_call note) && x) (argument_marks _ args)
    expression_marks (code.Parenthesized' s p e) =
        ap (λ x. of_type (g.see_type s.note) && x) (expression_marks e)
    expression_marks (code.Dereference' s p e) =
        ap (λ x. of_type (g.see_type s.note) && x) (expression_marks e)
    expression_marks (code.Borrow s mode n) = refl
    expression_marks (code.BorrowPart s n fields) = refl
    expression_marks (code.Binary' s op p a q b) =
        and_both _ _ _ _ (ap (λ x. of_type (g.see_type s.note) && x) (expression_marks a))
        (expression_marks b)
    expression_marks (code.Not' s p e) = ap (λ x. of_type (g.see_type s.note) && x) (expression_marks e)
    expression_marks (code.Typed' s p e t) = ap (λ x. of_type (g.see_type s.note) && x) (expression_marks e)
    expression_marks (code.If' s p c q a r b) =
        and_both _ _ _ _
        (and_both _ _ _ _ (ap (λ x. of_type (g.see_type s.note) && x) (expression_marks c))
        (expression_marks a))
        (expression_marks b)

    row_marks : (n : Count) (row : Row_of-Expr X N T C n) →
        notes_of_expressions held held (row_expressions m row)
        ≡ notes_of_expressions of_type of_call (row_expressions g row)
    row_marks n end_of-Expr = refl
    row_marks n (more_of-Expr e rest) = and_both _ _ _ _ (expression_marks e) (row_marks _ rest)

    argument_marks : (n : Count) (row : Row_of-Argument X N T C n) →
        notes_of_arguments held held (row_arguments m row)
        ≡ notes_of_arguments of_type of_call (row_arguments g row)
    argument_marks n end_of-Argument = refl
    argument_marks n (more_of-Argument label e rest) =
        and_both _ _ _ _ (expression_marks e) (argument_marks _ rest)

  mutual
    unfolding statement row_statements row_branches row_arms

    pub statement_marks : (s : Stmt X N T C) →
        notes_of_statement held held (statement m s) ≡ notes_of_statement of_type of_call (statement g s)
    statement_marks (stmt.Skip at) = refl
    statement_marks (stmt.Let at b n t e) = expression_marks e.value
    statement_marks (stmt.Destructure at binds e) = expression_marks e.value
    statement_marks (stmt.Assign at n fields e) = expression_marks e.value
    statement_marks (stmt.AssignThrough at n fields e) = expression_marks e.value
    statement_marks (stmt.If' at shape bs) = branch_marks _ bs
    statement_marks (stmt.IfElse' at shape bs shape' ss) =
        and_both _ _ _ _ (branch_marks _ bs) (row_statement_marks _ ss)
    statement_marks (stmt.Case' at e shape rest) =
        and_both _ _ _ _ (expression_marks e.value) (arm_marks _ rest)
    statement_marks (stmt.While' at e shape ss) =
        and_both _ _ _ _ (expression_marks e.value) (row_statement_marks _ ss)
    statement_marks (stmt.For' at n a b shape ss) =
        and_both _ _ _ _ (and_both _ _ _ _ (expression_marks a.value) (expression_marks b.value))
        (row_statement_marks _ ss)
    statement_marks (stmt.Borrow' at access ns shape ss stop) = row_statement_marks _ ss
    statement_marks (stmt.BorrowTyped' at r t mode x shape ss stop) = row_statement_marks _ ss
    statement_marks (stmt.Call at e) = expression_marks e.value
    statement_marks (stmt.Return at e) = expression_marks e.value

    row_statement_marks : (n : Count) (row : Row_of-Stmt X N T C n) →
        notes_of_statements held held (row_statements m row)
        ≡ notes_of_statements of_type of_call (row_statements g row)
    row_statement_marks n end_of-Stmt = refl
    row_statement_marks n (more_of-Stmt s rest) =
        and_both _ _ _ _ (statement_marks s) (row_statement_marks _ rest)

    branch_marks : (n : Count) (row : Row_of-Branch X N T C n) →
        notes_of_branches held held (row_branches m row)
        ≡ notes_of_branches of_type of_call (row_branches g row)
    branch_marks n end_of-Branch = refl
    branch_marks n (more_of-Branch e shape ss rest) =
        and_both _ _ _ _ (and_both _ _ _ _ (expression_marks e.value) (row_statement_marks _ ss))
        (branch_marks _ rest)

    arm_marks : (n : Count) (row : Row_of-Arm X N T C n) →
        notes_of_arms held held (row_arms m row) ≡ notes_of_arms of_type of_call (row_arms g row)
    arm_marks n end_of-Arm = refl
    arm_marks n (more_of-Arm at name binds shape ss rest) =
        and_both _ _ _ _ (row_statement_marks _ ss) (arm_marks _ rest)

  all_marks : (ss : List (Stmt X N T C)) →
      notes_of_statements held held (statement_all m ss)
      ≡ notes_of_statements of_type of_call (statement_all g ss)
  all_marks [] = refl
  all_marks (s ∷ rest) = and_both _ _ _ _ (statement_marks s) (all_marks rest)

  pub block_marks : (b : Block X N T C) →
      notes_of_statements held held (block m b) ≡ notes_of_statements of_type of_call (block g b)
  block_marks b = all_marks b.statements.items

  methods_marks : (ms : List (Method X N T C)) →
      list_all (notes_of_method held held) (map (method_body m) ms)
      ≡ list_all (notes_of_method of_type of_call) (map (method_body g) ms)
  methods_marks [] = refl
  methods_marks (one ∷ rest) = and_both _ _ _ _ (block_marks one.body) (methods_marks rest)

  pub declaration_marks : (d : Decl X N T C) →
      notes_of_declaration held held (declaration m d)
      ≡ notes_of_declaration of_type of_call (declaration g d)
  unfolding declaration
  declaration_marks (decl.Constant at n t) = refl
  declaration_marks (decl.Opaque at n ps u) = refl
  declaration_marks (decl.Record at n ps u fs) = refl
  declaration_marks (decl.Union at n ps u cs) = refl
  declaration_marks (decl.Function at gs s) = refl
  declaration_marks (decl.Class at n p ms) = refl
  declaration_marks (decl.Instance at gs n t) = refl
  declaration_marks (decl.ConstantBody at n t e) = expression_marks e.value
  declaration_marks (decl.FunctionBody at gs s b stop) = block_marks b
  declaration_marks (decl.InstanceBody at gs n t ms) = methods_marks ms.items

  declarations_marks : (ds : List (Decl X N T C)) →
      list_all (notes_of_declaration held held) (map (declaration m) ds)
      ≡ list_all (notes_of_declaration of_type of_call) (map (declaration g) ds)
  declarations_marks [] = refl
  declarations_marks (d ∷ rest) = and_both _ _ _ _ (declaration_marks d) (declarations_marks rest)

  pub module_marks : (x : Module X N T C) →
      notes_of_module held held (module_tree m x) ≡ notes_of_module of_type of_call (module_tree g x)
  module_marks x = declarations_marks x.declarations.items

-- where every note is allowed
module _ {N T C : Type 0} where
  mutual
    pub expression_free : (e : Expression N T C) → notes_of_expression (λ note. true) (λ note. true) e ≡ true
    expression_free (number n l) = refl
    expression_free (negative n l) = refl
    expression_free (text n t) = refl
    expression_free (truth n b) = refl
    expression_free (nil n) = refl
    expression_free (path n x fields) = refl
    expression_free (arrow n x fields) = refl
    expression_free (call n f es c) = expressions_free es
    expression_free (named_call n f es c) = arguments_free es
    expression_free (parenthesized n e) = expression_free e
    expression_free (dereference n e) = expression_free e
    expression_free (borrow n mode x) = refl
    expression_free (borrow_part n x fields) = refl
    expression_free (binary n op a b) = and_from _ _ (expression_free a) (expression_free b)
    expression_free (negation n e) = expression_free e
    expression_free (typed n e t) = expression_free e
    expression_free (choice n c a b) =
        and_from _ _ (and_from _ _ (expression_free c) (expression_free a)) (expression_free b)

    expressions_free : (es : Expressions N T C) → notes_of_expressions (λ note. true) (λ note. true) es ≡ true
    expressions_free no_expressions = refl
    expressions_free (expressions e rest) = and_from _ _ (expression_free e) (expressions_free rest)

    arguments_free : (es : Arguments N T C) → notes_of_arguments (λ note. true) (λ note. true) es ≡ true
    arguments_free no_arguments = refl
    arguments_free (arguments label e rest) = and_from _ _ (expression_free e) (arguments_free rest)

  mutual
    pub statement_free : (s : Statement N T C) → notes_of_statement (λ note. true) (λ note. true) s ≡ true
    statement_free (skip at) = refl
    statement_free (declare at b n t e) = expression_free e
    statement_free (destructure at binds e) = expression_free e
    statement_free (assign at n fields e) = expression_free e
    statement_free (assign_through at n fields e) = expression_free e
    statement_free (conditional at bs) = branches_free bs
    statement_free (conditional_else at bs b) = and_from _ _ (branches_free bs) (statements_free b)
    statement_free (case_of at e rest) = and_from _ _ (expression_free e) (arms_free rest)
    statement_free (while_loop at e b) = and_from _ _ (expression_free e) (statements_free b)
    statement_free (for_loop at n a z b) =
        and_from _ _ (and_from _ _ (expression_free a) (expression_free z)) (statements_free b)
    statement_free (borrow_in at access x r region b stop) = statements_free b
    statement_free (borrow_typed at r t mode x b stop) = statements_free b
    statement_free (discard at e) = expression_free e
    statement_free (return_of at e) = expression_free e

    pub statements_free : (ss : Statements N T C) → notes_of_statements (λ note. true) (λ note. true) ss
        ≡ true
    statements_free no_statements = refl
    statements_free (statements s rest) = and_from _ _ (statement_free s) (statements_free rest)

    branches_free : (bs : Branches N T C) → notes_of_branches (λ note. true) (λ note. true) bs ≡ true
    branches_free no_branches = refl
    branches_free (branches e b rest) =
        and_from _ _ (and_from _ _ (expression_free e) (statements_free b)) (branches_free rest)

    arms_free : (rest : Arms N T C) → notes_of_arms (λ note. true) (λ note. true) rest ≡ true
    arms_free no_arms = refl
    arms_free (arms at n binds b rest) = and_from _ _ (statements_free b) (arms_free rest)

  methods_free : (ms : List (MethodBody N T C)) → list_all (notes_of_method (λ note. true) (λ note. true)) ms
      ≡ true
  methods_free [] = refl
  methods_free (one ∷ rest) = and_from _ _ (statements_free one.body) (methods_free rest)

  pub declaration_free : (d : Declaration N T C) → notes_of_declaration (λ note. true) (λ note. true) d ≡ true
  declaration_free (constant at n t) = refl
  declaration_free (opaque_type at n ps u) = refl
  declaration_free (record_type at n ps u fs) = refl
  declaration_free (union_type at n ps u vs) = refl
  declaration_free (function at gs h) = refl
  declaration_free (class at n p hs) = refl
  declaration_free (instance at gs n t) = refl
  declaration_free (constant_body at n t e) = expression_free e
  declaration_free (function_body at gs h b stop) = statements_free b
  declaration_free (instance_body at gs n t ms) = methods_free ms

  pub declarations_free : (ds : List (Declaration N T C)) →
      list_all (notes_of_declaration (λ note. true) (λ note. true)) ds ≡ true
  declarations_free [] = refl
  declarations_free (d ∷ rest) = and_from _ _ (declaration_free d) (declarations_free rest)
