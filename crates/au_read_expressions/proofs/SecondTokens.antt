-- The second token of an expression, by which it is told what begins with a name.
use Rattle.std.proofs.Common.{◌≡◌, ◌<◌, Bool, true, false, List, [], ◌∷◌, ◌++◌, length, drop, Option, Some}
use Rattle.std.proofs.Common.{refl, ap, ◌∙◌, arith}
use Rattle.std.proofs.lemmas.Bool.{and_parts}
use Rattle.au_base.specs.declared.places.Pos.{Pos}
use Rattle.au_base.specs.declared.tokens.Sign.TheVariants.{FatArrow, LeftParenthesis, RightParenthesis, Colon}
use Rattle.au_base.specs.declared.tokens.Token.{Token}
use Rattle.au_base.specs.declared.tokens.What.{What}
use Rattle.au_base.specs.declared.tokens.What.TheVariants.{Sign, Name}
use Rattle.au_syntax.specs.declared.expressions.BinaryOperator.{BinaryOperator}
use Rattle.au_syntax.specs.declared.expressions.BinaryOperator.TheVariants as operator
use Rattle.au_syntax.specs.declared.expressions.BorrowMode.TheVariants as mode
use Rattle.au_syntax.specs.Expressions.{truth, path, call, named_call, borrow, binary, negation, typed, choice}
use Rattle.au_syntax.specs.Forms.{is_atom, is_call, formed_expression}
use Rattle.au_syntax.specs.Plain.{Bytes, PlainExpression}
use Rattle.au_syntax.specs.Words.{Words, begun, mark, type_words, expression_words, operator_words}
use Rattle.au_read_expressions.specs.ExpressionReading.{goes_on}
use Rattle.au_read_expressions.specs.Reading.{front}
use Rattle.au_read_expressions.specs.Spelling.{Begins}
use Rattle.au_read_expressions.proofs.Begins.{first_word, front_of}
use Rattle.au_read_expressions.proofs.ExpressionForm.{begun_first, before_some, before_first, expression_some}
use Rattle.au_read_expressions.proofs.ExpressionForm.{binary_good}

-- the first of words, or what stands behind them
abbrev pub first_or : Words → Option What → Option What
first_or [] behind = behind
first_or (w ∷ ws) behind = Some w.what

-- what stands behind the first of words
abbrev pub second_word : Words → Option What → Option What
second_word [] behind = behind
second_word (w ∷ ws) behind = first_or ws behind

first_is : (ws : Words) (ts rest : List Token) → Begins ws ts rest → front ts ≡ first_or ws (front rest)
first_is [] ts rest h = ap front h
first_is (w ∷ ws) [] rest h = absurd h
first_is (w ∷ ws) (t ∷ ts) rest h = ap (λ x. Some x) h.0.0

pub second_is : (ws : Words) (ts rest : List Token) → 0 < length ws → Begins ws ts rest →
    front (drop 1 ts) ≡ second_word ws (front rest)
second_is [] ts rest some h = absurd (let wrong : ⊥ = omega (arith, some) in wrong)
second_is (w ∷ ws) [] rest some h = absurd h
second_is (w ∷ ws) (t ∷ ts) rest some h = first_is ws ts rest h.1

begun_second : (at : Pos) (ws : Words) (behind : Option What) → second_word (begun at ws) behind ≡ second_word ws behind
begun_second at [] behind = refl
begun_second at (w ∷ ws) behind = refl

first_join : (a z : Words) (behind : Option What) → first_or (a ++ z) behind ≡ first_or a (first_or z behind)
first_join [] z behind = refl
first_join (w ∷ a) z behind = refl

second_join : (a z : Words) (behind : Option What) → 0 < length a → second_word (a ++ z) behind
    ≡ second_word a (first_or z behind)
second_join [] z behind some = absurd (let wrong : ⊥ = omega (arith, some) in wrong)
second_join (w ∷ a) z behind some = first_join a z behind

-- ---- what can't be the name of an argument

-- an argument that begins so is an expression
abbrev pub plain_argument : Option What → Option What → Bool
plain_argument (Some (Sign RightParenthesis)) second = false
plain_argument (Some (Name bytes)) second = goes_on second
plain_argument first second = true

atom_plain : (e : PlainExpression) → is_atom e ≡ true → (behind : Option What) → goes_on behind ≡ true →
    plain_argument (first_word (expression_words e)) (second_word (expression_words e) behind) ≡ true
atom_plain (path node name []) h behind ends = ends
atom_plain (path node name (f ∷ fs)) h behind ends = refl
atom_plain (truth node true) h behind ends = refl
atom_plain (truth node false) h behind ends = refl
atom_plain (borrow node mode.Read name) h behind ends = refl
atom_plain (borrow node mode.Write name) h behind ends = refl
atom_plain (borrow node mode.Reborrow name) h behind ends = refl
atom_plain (binary node op a z) h behind ends = absurd cc
atom_plain (negation node e) h behind ends = absurd cc
atom_plain (typed node e t) h behind ends = absurd cc
atom_plain (choice node c a z) h behind ends = absurd cc
atom_plain e h behind ends = refl

-- an atom with a token behind it
joined_plain : (at : Pos) (e : PlainExpression) (y z : Words) (behind : Option What) → is_atom e ≡ true →
    goes_on (first_or y (first_or z behind)) ≡ true
    → plain_argument (first_word (begun at (expression_words e ++ y ++ z)))
    (second_word (begun at (expression_words e ++ y ++ z)) behind) ≡ true
joined_plain at e y z behind h ends =
    let some = before_some (expression_words e) y (expression_some e) in
    let first : first_word (begun at (expression_words e ++ y ++ z)) ≡ first_word (expression_words e) =
    begun_first at (expression_words e ++ y ++ z) ∙ before_first (expression_words e ++ y) z some
    ∙ before_first (expression_words e) y (expression_some e) in
    let second : second_word (begun at (expression_words e ++ y ++ z)) behind
    ≡ second_word (expression_words e) (first_or y (first_or z behind)) =
    begun_second at (expression_words e ++ y ++ z) behind ∙ second_join (expression_words e ++ y) z behind
    some ∙ second_join (expression_words e) y (first_or z behind) (expression_some e) in
    ap (λ w. plain_argument w (second_word (begun at (expression_words e ++ y ++ z)) behind)) first
    ∙ ap (plain_argument (first_word (expression_words e))) second
    ∙ atom_plain e h (first_or y (first_or z behind)) ends

operator_goes_on : (op : BinaryOperator) (behind : Option What) → goes_on (first_or (operator_words op) behind) ≡ true
operator_goes_on operator.Add behind = refl
operator_goes_on operator.Subtract behind = refl
operator_goes_on operator.Multiply behind = refl
operator_goes_on operator.Divide behind = refl
operator_goes_on operator.Equal behind = refl
operator_goes_on operator.NotEqual behind = refl
operator_goes_on operator.Less behind = refl
operator_goes_on operator.LessEqual behind = refl
operator_goes_on operator.Greater behind = refl
operator_goes_on operator.GreaterEqual behind = refl
operator_goes_on operator.And behind = refl
operator_goes_on operator.Or behind = refl

expression_plain : (e : PlainExpression) → formed_expression e ≡ true → (behind : Option What) → goes_on behind ≡ true
    → plain_argument (first_word (expression_words e)) (second_word (expression_words e) behind) ≡ true
expression_plain (binary node op a z) h behind ends =
    joined_plain node.at a (operator_words op) (expression_words z) behind
    (and_parts (is_atom a) (formed_expression a) (binary_good a z h).0).0
    (operator_goes_on op (first_or (expression_words z) behind))
expression_plain (typed node e t) h behind ends = joined_plain node.at e (mark Colon) (type_words t) behind
    (and_parts (is_atom e) (formed_expression e) h).0 refl
expression_plain (negation node e) h behind ends = refl
expression_plain (choice node c a z) h behind ends = refl
expression_plain (path node name []) h behind ends = ends
expression_plain (path node name (f ∷ fs)) h behind ends = refl
expression_plain (truth node true) h behind ends = refl
expression_plain (truth node false) h behind ends = refl
expression_plain (borrow node mode.Read name) h behind ends = refl
expression_plain (borrow node mode.Write name) h behind ends = refl
expression_plain (borrow node mode.Reborrow name) h behind ends = refl
expression_plain e h behind ends = refl

-- what is an expression isn't read as a named argument
pub begins_plain : (e : PlainExpression) (ts rest : List Token) → Begins (expression_words e) ts rest →
    formed_expression e ≡ true → goes_on (front rest) ≡ true
    → plain_argument (front ts) (front (drop 1 ts)) ≡ true
begins_plain e ts rest h good ends =
    ap (λ w. plain_argument w (front (drop 1 ts))) (front_of (expression_words e) ts rest (expression_some e) h)
    ∙ ap (plain_argument (first_word (expression_words e)))
    (second_is (expression_words e) ts rest (expression_some e) h)
    ∙ expression_plain e good (front rest) ends

-- ---- calls

call_first : (e : PlainExpression) → is_call e ≡ true → (bytes : Bytes)
    × (first_word (expression_words e) ≡ Some (Name bytes))
call_first (call node name args note) h = (name.name, refl)
call_first (named_call node name args note) h = (name.name, refl)
call_first e h = absurd cc

call_second : (e : PlainExpression) → is_call e ≡ true → (behind : Option What) →
    second_word (expression_words e) behind ≡ Some (Sign LeftParenthesis)
call_second (call node name args note) h behind = refl
call_second (named_call node name args note) h behind = refl
call_second e h behind = absurd cc

-- a call begins with a name and a parenthesis
pub call_begins : (e : PlainExpression) (ts rest : List Token) → Begins (expression_words e) ts rest → is_call e ≡ true
    → (bytes : Bytes) × (front ts ≡ Some (Name bytes)) × (front (drop 1 ts) ≡ Some (Sign LeftParenthesis))
call_begins e ts rest h good =
    let f = call_first e good in (
      f.0,
      front_of (expression_words e) ts rest (expression_some e) h ∙ f.1,
      second_is (expression_words e) ts rest (expression_some e) h ∙ call_second e good (front rest),
    )
