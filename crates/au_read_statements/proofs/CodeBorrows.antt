-- Which borrow is read, by two tests.
use Rattle.std.proofs.Common.{◌≡◌, List, [], ◌∷◌, drop, Option, Some, None, cond, length, ◌<◌, get_or, refl}
use Rattle.std.proofs.Common.{sym, ap, subst, ◌∙◌, arith}
use Rattle.au_base.specs.declared.tokens.Sign.TheVariants.{Exclamation, Colon}
use Rattle.au_base.specs.declared.tokens.Token.{Token}
use Rattle.au_base.specs.declared.tokens.What.{What}
use borrow.Enum.Known.{ValuesAt}
use borrow.Enum.Total.{values_d}
use Rattle.au_base.specs.contracts.tokens.What.{enum}
use Rattle.au_base.specs.declared.tokens.Keyword.{Keyword}
use Rattle.au_base.specs.declared.tokens.Keyword.TheVariants.{KwBorrow}
use Rattle.au_base.specs.declared.tokens.What.TheVariants.{Word, Sign}
use Rattle.au_syntax.specs.declared.types.Access.TheVariants as access
use Rattle.au_syntax.specs.Plain.{PlainExpression, PlainStatements}
use Rattle.au_read_expressions.specs.Bounds.{Bounds}
use Rattle.au_read_expressions.specs.Reading.{Read, front, is_front, begins_with}
use Rattle.au_read_statements.specs.StatementReading.{borrow_by, borrow_in_with, borrow_typed_with}
use Rattle.au_read_statements.specs.StatementReading.{statement_by, statement_with}

-- what the first token is
pub front_is : (ts : List Token) (first : Token) (what : What) → 0 < length ts → first ≡ get_or ts 0 first →
    first.what ≡ what → front ts ≡ Some what
front_is [] first what some is says = absurd (omega (arith, some))
front_is (token ∷ ts) first what some is says = ap (λ (t : Token). Some t.what) (sym is) ∙ ap Some says

-- which word a token is
pub word_is : (what : What) (word : Keyword) (others : ValuesAt enum.parts 0) → what ≡ Word word →
    (values_d enum 0 others what).0 ≡ KwBorrow → word ≡ KwBorrow
word_is what word others is says = subst (λ w. (values_d enum 0 others w).0 ≡ KwBorrow) is says

drop_two : (ts : List Token) → drop 2 ts ≡ drop 1 (drop 1 ts)
drop_two [] = refl
drop_two (a ∷ []) = refl
drop_two (a ∷ b ∷ ts) = refl

module _ (b : Bounds) (inner calls : List Token → Read PlainExpression)
    (blocks : List Token → Read PlainStatements) (ts : List Token) where
  third_tells : (t : Option What) → borrow_by b inner calls blocks None t ts ≡ cond (is_front (Sign Colon) t)
      (borrow_typed_with b inner calls blocks ts) (borrow_in_with b inner calls blocks access.Read ts)
  third_tells (Some (Sign Colon)) = refl
  third_tells t = refl

  both_tell : (s t : Option What) → borrow_by b inner calls blocks s t ts
      ≡ cond (is_front (Sign Exclamation) s) (borrow_in_with b inner calls blocks access.Write ts)
      (cond (is_front (Sign Colon) t) (borrow_typed_with b inner calls blocks ts)
      (borrow_in_with b inner calls blocks access.Read ts))
  both_tell (Some (Sign Exclamation)) t = refl
  both_tell s t = third_tells t

  pub borrow_chosen : borrow_by b inner calls blocks (front (drop 1 ts)) (front (drop 2 ts)) ts
      ≡ cond (begins_with (Sign Exclamation) (drop 1 ts))
      (borrow_in_with b inner calls blocks access.Write ts)
      (cond (begins_with (Sign Colon) (drop 1 (drop 1 ts))) (borrow_typed_with b inner calls blocks ts)
      (borrow_in_with b inner calls blocks access.Read ts))
  borrow_chosen = ap (λ third. borrow_by b inner calls blocks (front (drop 1 ts)) (front third) ts)
      (drop_two ts) ∙ both_tell (front (drop 1 ts)) (front (drop 1 (drop 1 ts)))

  pub borrow_said : front ts ≡ Some (Word KwBorrow) → statement_with b inner calls blocks ts
      ≡ cond (begins_with (Sign Exclamation) (drop 1 ts))
      (borrow_in_with b inner calls blocks access.Write ts)
      (cond (begins_with (Sign Colon) (drop 1 (drop 1 ts))) (borrow_typed_with b inner calls blocks ts)
      (borrow_in_with b inner calls blocks access.Read ts))
  unfolding statement_with
  borrow_said is = ap (λ first. statement_by b inner calls blocks first ts) is ∙ borrow_chosen
