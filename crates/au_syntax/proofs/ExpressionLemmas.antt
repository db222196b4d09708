-- What the trees of the code say, variant by variant. The views are opaque; these equations stand for
-- them, and `tree_steps` names them all.
use Rattle.std.proofs.Common.{◌≡◌, ℕ, ◌+◌, ◌<◌, Bool, List, [], ◌∷◌, ◌++◌, length, take, map, Vec, ap, ◌∙◌}
use Rattle.std.proofs.Common.{refl, get_or}
use Rattle.std.specs.Global.{Global}
use mathlib.Core.Former.{Count}
use Rattle.std.proofs.lemmas.List.{take_more}
use Rattle.std.specs.declared.boxed.Box.{Box}
use Rattle.au_syntax.specs.declared.phases.Phase.{Ghosts}
use Rattle.au_syntax.specs.declared.types.TypeText.{TypeText}
use Rattle.au_syntax.specs.declared.names.Ident.{Ident}
use Rattle.au_syntax.specs.declared.expressions.Site.{Site}
use Rattle.au_syntax.specs.declared.expressions.Literal.{Literal}
use Rattle.au_syntax.specs.declared.expressions.BorrowMode.{BorrowMode}
use Rattle.au_syntax.specs.declared.expressions.BinaryOperator.{BinaryOperator}
use Rattle.au_syntax.specs.declared.expressions.Argument.{Argument}
use Rattle.au_syntax.specs.declared.expressions.Expr.{Expr, Row_of-Expr, end_of-Expr, more_of-Expr}
use Rattle.au_syntax.specs.declared.expressions.Expr.{items-the_row-Expr, items_hidden-the_row-Expr-0}
use Rattle.au_syntax.specs.declared.expressions.Expr.{Row_of-Argument, end_of-Argument, more_of-Argument}
use Rattle.au_syntax.specs.declared.expressions.Expr.{items-the_row-Argument, items_hidden-the_row-Argument-1}
use Rattle.au_syntax.specs.declared.expressions.Expr as code
use Rattle.au_syntax.specs.declared.expressions.Expr.TheBlock.{hidden-the_row-Expr-0, hidden-the_row-Argument-1}
use Rattle.au_syntax.specs.Expressions.{Expression, Expressions, Arguments, number, negative, text, truth}
use Rattle.au_syntax.specs.Expressions.{nil, path, arrow, call, named_call, parenthesized, dereference}
use Rattle.au_syntax.specs.Expressions.{borrow, borrow_part, binary, negation, typed, choice, no_expressions}
use Rattle.au_syntax.specs.Expressions.{expressions, no_arguments, arguments}
use Rattle.au_syntax.specs.Views.{written, placed, node, expression, row_expressions, row_arguments}
use Rattle.au_syntax.specs.Views.{expression_all, argument_all}

module _ {X N T C : Type 0} (g : Ghosts X N T C) where
  pub row_expressions_is : (n : Count) (row : Row_of-Expr X N T C n) → row_expressions g row
      ≡ expression_all g (items-the_row-Expr X N T C n row)
  unfolding row_expressions
  row_expressions_is n end_of-Expr = refl
  row_expressions_is n (more_of-Expr e rest) = ap (expressions (expression g e)) (row_expressions_is _ rest)

  pub row_arguments_is : (n : Count) (row : Row_of-Argument X N T C n) → row_arguments g row
      ≡ argument_all g (items-the_row-Argument X N T C n row)
  unfolding row_arguments
  row_arguments_is n end_of-Argument = refl
  row_arguments_is n (more_of-Argument label e rest) = ap (arguments (placed g label) (expression g e))
      (row_arguments_is _ rest)

  pub number_says : (s : Site X N T C) (l : Literal) → expression g (code.Number s l) ≡ number (node g s) l
  unfolding expression
  number_says s l = refl

  pub negative_says : (s : Site X N T C) (l : Literal) → expression g (code.Negative s l) ≡ negative (node g s) l
  unfolding expression
  negative_says s l = refl

  pub text_says : (s : Site X N T C) (t : List ℕ) → expression g (code.Text s t) ≡ text (node g s) t
  unfolding expression
  text_says s t = refl

  pub bool_says : (s : Site X N T C) (b : Bool) → expression g (code.Bool s b) ≡ truth (node g s) b
  unfolding expression
  bool_says s b = refl

  pub nil_says : (s : Site X N T C) → expression g (code.Nil s) ≡ nil (node g s)
  unfolding expression
  nil_says s = refl

  pub path_says : (s : Site X N T C) (n : Ident X N T C) (fields : Vec (Ident X N T C) Global) →
      expression g (code.Path s n fields) ≡ path (node g s) (placed g n) (map (placed g) fields.items)
  unfolding expression
  path_says s n fields = refl

  pub arrow_says : (s : Site X N T C) (n : Ident X N T C) (fields : Vec (Ident X N T C) Global) →
      expression g (code.Arrow s n fields) ≡ arrow (node g s) (placed g n) (map (placed g) fields.items)
  unfolding expression
  arrow_says s n fields = refl

  pub parenthesized_says : (s : Site X N T C) (e : Box (Expr X N T C) Global) →
      expression g (code.Parenthesized s e) ≡ parenthesized (node g s) (expression g e.value)
  unfolding expression
  parenthesized_says s e = refl

  pub dereference_says : (s : Site X N T C) (e : Box (Expr X N T C) Global) →
      expression g (code.Dereference s e) ≡ dereference (node g s) (expression g e.value)
  unfolding expression
  dereference_says s e = refl

  pub borrow_says : (s : Site X N T C) (m : BorrowMode) (n : Ident X N T C) → expression g (code.Borrow s m n)
      ≡ borrow (node g s) m (placed g n)
  unfolding expression
  borrow_says s m n = refl

  pub borrow_part_says : (s : Site X N T C) (n : Ident X N T C) (fields : Vec (Ident X N T C) Global) →
      expression g (code.BorrowPart s n fields) ≡ borrow_part (node g s) (placed g n)
      (map (placed g) fields.items)
  unfolding expression
  borrow_part_says s n fields = refl

  pub binary_says : (s : Site X N T C) (op : BinaryOperator) (a : Box (Expr X N T C) Global)
      (b : Box (Expr X N T C) Global) → expression g (code.Binary s op a b) ≡ binary (node g s) op
      (expression g a.value) (expression g b.value)
  unfolding expression
  binary_says s op a b = refl

  pub not_says : (s : Site X N T C) (e : Box (Expr X N T C) Global) → expression g (code.Not s e)
      ≡ negation (node g s) (expression g e.value)
  unfolding expression
  not_says s e = refl

  pub typed_says : (s : Site X N T C) (e : Box (Expr X N T C) Global) (t : TypeText) →
      expression g (code.Typed s e t) ≡ typed (node g s) (expression g e.value) (written t)
  unfolding expression
  typed_says s e t = refl

  pub if_says : (s : Site X N T C) (c : Box (Expr X N T C) Global) (a : Box (Expr X N T C) Global)
      (b : Box (Expr X N T C) Global) → expression g (code.If s c a b) ≡ choice (node g s)
      (expression g c.value) (expression g a.value) (expression g b.value)
  unfolding expression
  if_says s c a b = refl

  pub call_says : (s : Site X N T C) (n : Ident X N T C) (args : Vec (Expr X N T C) Global) (note : C) →
      expression g (code.Call s n args note) ≡ call (node g s) (placed g n) (expression_all g args.items)
      (g.see_call note)
  unfolding expression
  call_says s n args note = ap (λ es. call (node g s) (placed g n) es (g.see_call note))
      (row_expressions_is _ (hidden-the_row-Expr-0 X N T C args)
      ∙ ap (expression_all g) (items_hidden-the_row-Expr-0 X N T C args))

  pub named_call_says : (s : Site X N T C) (n : Ident X N T C) (args : Vec (Argument X N T C) Global)
      (note : C) → expression g (code.NamedCall s n args note) ≡ named_call (node g s) (placed g n)
      (argument_all g args.items) (g.see_call note)
  unfolding expression
  named_call_says s n args note = ap (λ es. named_call (node g s) (placed g n) es (g.see_call note))
      (row_arguments_is _ (hidden-the_row-Argument-1 X N T C args)
      ∙ ap (argument_all g) (items_hidden-the_row-Argument-1 X N T C args))

-- one more behind the others
module _ {N T C : Type 0} where
  pub snoc_expressions : Expressions N T C → Expression N T C → Expressions N T C
  snoc_expressions no_expressions e = expressions e no_expressions
  snoc_expressions (expressions one rest) e = expressions one (snoc_expressions rest e)

  pub snoc_arguments : Arguments N T C → Arguments N T C → Arguments N T C
  snoc_arguments no_arguments last = last
  snoc_arguments (arguments label one rest) last = arguments label one (snoc_arguments rest last)

module _ {X N T C : Type 0} (g : Ghosts X N T C) where
  pub expressions_push : (xs : List (Expr X N T C)) (x : Expr X N T C) → expression_all g (xs ++ x ∷ [])
      ≡ snoc_expressions (expression_all g xs) (expression g x)
  unfolding snoc_expressions
  expressions_push [] x = refl
  expressions_push (y ∷ ys) x = ap (expressions (expression g y)) (expressions_push ys x)

  pub expressions_more : (xs : List (Expr X N T C)) (i : ℕ) (d : Expr X N T C) → i < length xs →
      expression_all g (take (i + 1) xs) ≡ snoc_expressions (expression_all g (take i xs))
      (expression g (get_or xs i d))
  expressions_more xs i d h = ap (expression_all g) (take_more xs i d h) ∙ expressions_push (take i xs) (get_or xs i d)

  pub arguments_push : (xs : List (Argument X N T C)) (x : Argument X N T C) → argument_all g (xs ++ x ∷ [])
      ≡ snoc_arguments (argument_all g xs) (arguments (placed g x.label) (expression g x.value) no_arguments)
  unfolding snoc_arguments
  arguments_push [] x = refl
  arguments_push (y ∷ ys) x = ap (arguments (placed g y.label) (expression g y.value)) (arguments_push ys x)

  pub arguments_more : (xs : List (Argument X N T C)) (i : ℕ) (d : Argument X N T C) → i < length xs →
      argument_all g (take (i + 1) xs) ≡ snoc_arguments (argument_all g (take i xs))
      (arguments (placed g (get_or xs i d).label) (expression g (get_or xs i d).value) no_arguments)
  arguments_more xs i d h = ap (argument_all g) (take_more xs i d h) ∙ arguments_push (take i xs) (get_or xs i d)

pub ruleset expression_steps = (
  number_says,
  negative_says,
  text_says,
  bool_says,
  nil_says,
  path_says,
  arrow_says,
  parenthesized_says,
  dereference_says,
  borrow_says,
  borrow_part_says,
  binary_says,
  not_says,
  typed_says,
  if_says,
  call_says,
  named_call_says,
  expressions_push,
  expressions_more,
  arguments_push,
  arguments_more,
)
