-- How high expressions of the code are, which is what the recursion goes down by.
use Rattle.std.proofs.Common.{◌≡◌, ℕ, zero, suc, ◌+◌, ◌<◌, ◌≤◌, List, [], ◌∷◌, Vec, ap, ◌∙◌, refl, arith}
use Rattle.std.proofs.Common.{get_or, length, map, max}
use Rattle.std.specs.Global.{Global}
use mathlib.Core.Former.{Count}
use Rattle.au_syntax.specs.declared.names.Ident.{Ident}
use Rattle.au_syntax.specs.declared.expressions.Site.{Site}
use Rattle.au_syntax.specs.declared.expressions.Argument.{Argument}
use Rattle.au_syntax.specs.declared.expressions.Expr.{Expr, Row_of-Expr, end_of-Expr, more_of-Expr}
use Rattle.au_syntax.specs.declared.expressions.Expr.{items-the_row-Expr, items_hidden-the_row-Expr-0}
use Rattle.au_syntax.specs.declared.expressions.Expr.{Row_of-Argument, end_of-Argument, more_of-Argument}
use Rattle.au_syntax.specs.declared.expressions.Expr.{items-the_row-Argument, items_hidden-the_row-Argument-1}
use Rattle.au_syntax.specs.declared.expressions.Expr as code
use Rattle.au_syntax.specs.declared.expressions.Expr.TheBlock.{hidden-the_row-Expr-0, hidden-the_row-Argument-1}

module _ {X N T C : Type 0} where
  abbrev mutual
    -- one more than the highest operand
    pub height : Expr X N T C → ℕ
    height (code.Number s l) = 1
    height (code.Negative s l) = 1
    height (code.Text s t) = 1
    height (code.Bool s b) = 1
    height (code.Nil s) = 1
    height (code.Path s n fields) = 1
    height (code.Arrow s n fields) = 1
    height (code.Call' s n shape args note) = 1 + row_height args
    height (code.NamedCall' s n shape args note) = 1 + row_argument_height args
    height (code.Parenthesized' s p e) = 1 + height e
    height (code.Dereference' s p e) = 1 + height e
    height (code.Borrow s m n) = 1
    height (code.BorrowPart s n fields) = 1
    height (code.Binary' s op p a q b) = 1 + max (height a) (height b)
    height (code.Not' s p e) = 1 + height e
    height (code.Typed' s p e t) = 1 + height e
    height (code.If' s p c q a r b) = 1 + max (height c) (max (height a) (height b))

    pub row_height : {m : _} → Row_of-Expr X N T C m → ℕ
    row_height end_of-Expr = 0
    row_height (more_of-Expr e rest) = max (height e) (row_height rest)

    pub row_argument_height : {m : _} → Row_of-Argument X N T C m → ℕ
    row_argument_height end_of-Argument = 0
    row_argument_height (more_of-Argument label e rest) = max (height e) (row_argument_height rest)

  -- the height of the highest of some expressions
  abbrev pub highest : List (Expr X N T C) → ℕ
  highest [] = 0
  highest (e ∷ es) = max (height e) (highest es)

  abbrev pub value : Argument X N T C → Expr X N T C
  value one = one.value

  row_height_is : (n : Count) (row : Row_of-Expr X N T C n) →
      row_height row ≡ highest (items-the_row-Expr X N T C n row)
  row_height_is n end_of-Expr = refl
  row_height_is n (more_of-Expr e rest) = ap (max (height e)) (row_height_is _ rest)

  row_argument_height_is : (n : Count) (row : Row_of-Argument X N T C n) → row_argument_height row
      ≡ highest (map value (items-the_row-Argument X N T C n row))
  row_argument_height_is n end_of-Argument = refl
  row_argument_height_is n (more_of-Argument label e rest) = ap (max (height e)) (row_argument_height_is _ rest)

  -- a call is higher than its arguments
  pub height_call : (e : Expr X N T C) (s : Site X N T C) (n : Ident X N T C)
      (args : Vec (Expr X N T C) Global) (note : C) → e ≡ code.Call s n args note →
      height e ≡ 1 + highest args.items
  height_call e s n args note is = ap height is
      ∙ ap (λ k. 1 + k) (row_height_is _ (hidden-the_row-Expr-0 X N T C args)
      ∙ ap highest (items_hidden-the_row-Expr-0 X N T C args))

  pub height_named_call : (e : Expr X N T C) (s : Site X N T C) (n : Ident X N T C)
      (args : Vec (Argument X N T C) Global) (note : C) → e ≡ code.NamedCall s n args note →
      height e ≡ 1 + highest (map value args.items)
  height_named_call e s n args note is = ap height is
      ∙ ap (λ k. 1 + k) (row_argument_height_is _ (hidden-the_row-Argument-1 X N T C args)
      ∙ ap (λ rows. highest (map value rows)) (items_hidden-the_row-Argument-1 X N T C args))

  height_at : (es : List (Expr X N T C)) (i : ℕ) (d : Expr X N T C) → i < length es → height (get_or es i d)
      ≤ highest es
  height_at [] i d h = absurd (omega (arith, h))
  height_at (e ∷ es) zero d h = omega arith
  height_at (e ∷ es) (suc i) d h = omega (arith, height_at es i d (omega (arith, h)))

  -- an item is no higher than the highest
  pub item_height : (es : List (Expr X N T C)) (i : ℕ) (e : Expr X N T C) → i < length es →
      e ≡ get_or es i e → height e ≤ highest es
  item_height es i e h is = omega (arith, ap height is, height_at es i e h)
