-- The mentions in a block whose first statement may hide the variable, and expressions that are a variable
-- alone.
use Rattle.std.proofs.Common.{◌≡◌, true, false, [], ◌∷◌, ◌++◌, ap, refl, sym, ◌∙◌}
use Rattle.std.proofs.lemmas.List.{append-nil}
use Rattle.au_explain.specs.Mentions.{is_declared_by, mentions_of, mentions_of_block, unless}
use Rattle.au_lives.specs.Mentions.{is_variable}
use Rattle.au_syntax.specs.Expressions.{number, negative, text, truth, nil, path, arrow, call, named_call}
use Rattle.au_syntax.specs.Expressions.{parenthesized, dereference, borrow, borrow_part, binary, negation}
use Rattle.au_syntax.specs.Expressions.{typed, choice}
use Rattle.au_syntax.specs.Plain.{Bytes, PlainExpression, PlainStatement, PlainStatements, plain_expression}
use Rattle.au_syntax.specs.Statements.{statements}

-- a statement that hides the variable from those behind it
pub hidden_behind : (x : Bytes) (s : PlainStatement) (more : PlainStatements) → true ≡ is_declared_by x s →
    mentions_of_block x (statements s more) ≡ mentions_of x s
hidden_behind x s more h =
    ap (λ b. mentions_of x s ++ unless x b (mentions_of_block x more)) (sym h) ∙ append-nil (mentions_of x s)

-- a statement that doesn't
pub shown_behind : (x : Bytes) (s : PlainStatement) (more : PlainStatements) → false ≡ is_declared_by x s →
    mentions_of_block x (statements s more) ≡ mentions_of x s ++ mentions_of_block x more
shown_behind x s more h = ap (λ b. mentions_of x s ++ unless x b (mentions_of_block x more)) (sym h)

-- the plain expression of a plain one is a variable alone where that is
pub plain_alone : (e : PlainExpression) → is_variable (plain_expression (λ (n : Bytes). n) e) ≡ is_variable e
plain_alone (path node name []) = refl
plain_alone (path node name (field ∷ fields)) = refl
plain_alone (parenthesized node e) = plain_alone e
plain_alone (number node literal) = refl
plain_alone (negative node literal) = refl
plain_alone (text node bytes) = refl
plain_alone (truth node value) = refl
plain_alone (nil node) = refl
plain_alone (arrow node name fields) = refl
plain_alone (call node name args note) = refl
plain_alone (named_call node name args note) = refl
plain_alone (dereference node e) = refl
plain_alone (borrow node mode name) = refl
plain_alone (borrow_part node name fields) = refl
plain_alone (binary node operator a b) = refl
plain_alone (negation node e) = refl
plain_alone (typed node e t) = refl
plain_alone (choice node c a b) = refl
