-- The types that are written in an expression of the code, variant by variant, and in a list of them. The
-- definitions are opaque; these equations stand for them.
use Rattle.std.proofs.Common.{◌≡◌, ℕ, ◌+◌, ◌<◌, Bool, List, [], ◌∷◌, ◌++◌, length, map, take, get_or, Vec}
use Rattle.std.proofs.Common.{refl, sym, ap, ◌∙◌, append_assoc}
use Rattle.std.specs.Global.{Global}
use Rattle.std.specs.declared.boxed.Box.{Box}
use Rattle.std.proofs.lemmas.List.{append-nil, map-append, take_more}
use Rattle.au_syntax.specs.contracts.parsed.ParsedPhase.TheImpl.{ghosts as parsed}
use Rattle.au_syntax.specs.declared.parsed.Parsed.{Parsed}
use Rattle.au_syntax.specs.declared.names.Ident.{Ident}
use Rattle.au_syntax.specs.declared.types.TypeText.{TypeText}
use Rattle.au_syntax.specs.declared.expressions.Site.{Site}
use Rattle.au_syntax.specs.declared.expressions.Literal.{Literal}
use Rattle.au_syntax.specs.declared.expressions.BorrowMode.{BorrowMode}
use Rattle.au_syntax.specs.declared.expressions.BinaryOperator.{BinaryOperator}
use Rattle.au_syntax.specs.declared.expressions.Argument.{Argument}
use Rattle.au_syntax.specs.declared.expressions.Expr.{Expr}
use Rattle.au_syntax.specs.declared.expressions.Expr as code
use Rattle.au_syntax.specs.Expressions.{Expression}
use Rattle.au_syntax.specs.Plain.{Bytes, plain_expression}
use Rattle.au_syntax.specs.Sizes.{expression_types, expressions_types, arguments_types}
use Rattle.au_syntax.specs.Views.{expression, written}
use Rattle.au_syntax.proofs.ExpressionLemmas.{number_says, negative_says, text_says, bool_says, nil_says}
use Rattle.au_syntax.proofs.ExpressionLemmas.{path_says, arrow_says, call_says, named_call_says}
use Rattle.au_syntax.proofs.ExpressionLemmas.{parenthesized_says, dereference_says, borrow_says}
use Rattle.au_syntax.proofs.ExpressionLemmas.{borrow_part_says, binary_says, not_says, typed_says, if_says}
use Rattle.au_formed.specs.Writings.{a_type, value_writings, values_writings, named_values_writings}
use Rattle.au_promises.specs.Said.{arguments_said, expression_said, expressions_said}

abbrev TheSite : Type 0
TheSite = Site Parsed (List ℕ) (Unit {0}) (Unit {0})

abbrev TheIdent : Type 0
TheIdent = Ident Parsed (List ℕ) (Unit {0}) (Unit {0})

abbrev TheExpr : Type 0
TheExpr = Expr Parsed (List ℕ) (Unit {0}) (Unit {0})

abbrev TheArgument : Type 0
TheArgument = Argument Parsed (List ℕ) (Unit {0}) (Unit {0})

-- what an expression says decides
said : (e : TheExpr) (says : Expression Bytes (Unit {0}) (Unit {0})) → expression parsed e ≡ says
    → value_writings (expression_said e) ≡ value_writings (plain_expression parsed.name_bytes says)
said e says is = ap (λ x. value_writings (plain_expression parsed.name_bytes x)) is

-- ---- expressions in which no other stands

pub number_values : (s : TheSite) (l : Literal) → value_writings (expression_said (code.Number s l)) ≡ []
unfolding value_writings
number_values s l = said _ _ (number_says parsed s l)

pub negative_values : (s : TheSite) (l : Literal) → value_writings (expression_said (code.Negative s l)) ≡ []
unfolding value_writings
negative_values s l = said _ _ (negative_says parsed s l)

pub text_values : (s : TheSite) (t : List ℕ) → value_writings (expression_said (code.Text s t)) ≡ []
unfolding value_writings
text_values s t = said _ _ (text_says parsed s t)

pub bool_values : (s : TheSite) (b : Bool) → value_writings (expression_said (code.Bool s b)) ≡ []
unfolding value_writings
bool_values s b = said _ _ (bool_says parsed s b)

pub nil_values : (s : TheSite) → value_writings (expression_said (code.Nil s)) ≡ []
unfolding value_writings
nil_values s = said _ _ (nil_says parsed s)

pub path_values : (s : TheSite) (n : TheIdent) (fields : Vec TheIdent Global)
    → value_writings (expression_said (code.Path s n fields)) ≡ []
unfolding value_writings
path_values s n fields = said _ _ (path_says parsed s n fields)

pub arrow_values : (s : TheSite) (n : TheIdent) (fields : Vec TheIdent Global)
    → value_writings (expression_said (code.Arrow s n fields)) ≡ []
unfolding value_writings
arrow_values s n fields = said _ _ (arrow_says parsed s n fields)

pub borrow_values : (s : TheSite) (m : BorrowMode) (n : TheIdent)
    → value_writings (expression_said (code.Borrow s m n)) ≡ []
unfolding value_writings
borrow_values s m n = said _ _ (borrow_says parsed s m n)

pub borrow_part_values : (s : TheSite) (n : TheIdent) (fields : Vec TheIdent Global)
    → value_writings (expression_said (code.BorrowPart s n fields)) ≡ []
unfolding value_writings
borrow_part_values s n fields = said _ _ (borrow_part_says parsed s n fields)

-- ---- those with others in them

pub call_values : (s : TheSite) (n : TheIdent) (args : Vec TheExpr Global) (note : Unit {0})
    → value_writings (expression_said (code.Call s n args note))
    ≡ values_writings (expressions_said args.items)
unfolding value_writings values_writings
call_values s n args note = said _ _ (call_says parsed s n args note)

pub named_call_values : (s : TheSite) (n : TheIdent) (args : Vec TheArgument Global) (note : Unit {0})
    → value_writings (expression_said (code.NamedCall s n args note))
    ≡ named_values_writings (arguments_said args.items)
unfolding value_writings named_values_writings
named_call_values s n args note = said _ _ (named_call_says parsed s n args note)

pub parenthesized_values : (s : TheSite) (e : Box TheExpr Global)
    → value_writings (expression_said (code.Parenthesized s e)) ≡ value_writings (expression_said e.value)
unfolding value_writings
parenthesized_values s e = said _ _ (parenthesized_says parsed s e)

pub dereference_values : (s : TheSite) (e : Box TheExpr Global)
    → value_writings (expression_said (code.Dereference s e)) ≡ value_writings (expression_said e.value)
unfolding value_writings
dereference_values s e = said _ _ (dereference_says parsed s e)

pub not_values : (s : TheSite) (e : Box TheExpr Global)
    → value_writings (expression_said (code.Not s e)) ≡ value_writings (expression_said e.value)
unfolding value_writings
not_values s e = said _ _ (not_says parsed s e)

pub binary_values : (s : TheSite) (op : BinaryOperator) (a b : Box TheExpr Global)
    → value_writings (expression_said (code.Binary s op a b))
    ≡ value_writings (expression_said a.value) ++ value_writings (expression_said b.value)
unfolding value_writings
binary_values s op a b =
    said _ _ (binary_says parsed s op a b)
    ∙ map-append a_type (expression_types (expression_said a.value))
    (expression_types (expression_said b.value))

pub typed_values : (s : TheSite) (e : Box TheExpr Global) (t : TypeText)
    → value_writings (expression_said (code.Typed s e t))
    ≡ value_writings (expression_said e.value) ++ a_type (written t) ∷ []
unfolding value_writings
typed_values s e t =
    said _ _ (typed_says parsed s e t)
    ∙ map-append a_type (expression_types (expression_said e.value)) (written t ∷ [])

pub if_values : (s : TheSite) (c a b : Box TheExpr Global)
    → value_writings (expression_said (code.If s c a b))
    ≡ value_writings (expression_said c.value) ++ value_writings (expression_said a.value)
    ++ value_writings (expression_said b.value)
unfolding value_writings
if_values s c a b =
    let test = expression_types (expression_said c.value) in
    let one = expression_types (expression_said a.value) in
    let other = expression_types (expression_said b.value) in
    said _ _ (if_says parsed s c a b)
    ∙ map-append a_type (test ++ one) other
    ∙ ap (λ r. r ++ map a_type other) (map-append a_type test one)

-- ---- lists

pub no_values : values_writings (expressions_said []) ≡ []
unfolding values_writings
no_values = refl

pub no_named_values : named_values_writings (arguments_said []) ≡ []
unfolding named_values_writings
no_named_values = refl

last_types : (es : List TheExpr) (e : TheExpr)
    → expressions_types (expressions_said (es ++ e ∷ []))
    ≡ expressions_types (expressions_said es) ++ expression_types (expression_said e)
last_types [] e = append-nil (expression_types (expression_said e))
last_types (one ∷ rest) e =
    ap (λ r. expression_types (expression_said one) ++ r) (last_types rest e)
    ∙ sym (append_assoc (expression_types (expression_said one)) (expressions_types (expressions_said rest))
    (expression_types (expression_said e)))

last_named_types : (es : List TheArgument) (e : TheArgument)
    → arguments_types (arguments_said (es ++ e ∷ []))
    ≡ arguments_types (arguments_said es) ++ expression_types (expression_said e.value)
last_named_types [] e = append-nil (expression_types (expression_said e.value))
last_named_types (one ∷ rest) e =
    ap (λ r. expression_types (expression_said one.value) ++ r) (last_named_types rest e)
    ∙ sym (append_assoc (expression_types (expression_said one.value)) (arguments_types (arguments_said rest))
    (expression_types (expression_said e.value)))

-- those in one more
pub more_values : (es : List TheExpr) (i : ℕ) (e : TheExpr) → i < length es → e ≡ get_or es i e
    → values_writings (expressions_said (take (i + 1) es))
    ≡ values_writings (expressions_said (take i es)) ++ value_writings (expression_said e)
unfolding value_writings values_writings
more_values es i e within is =
    ap (λ r. map a_type (expressions_types (expressions_said r)))
    (take_more es i e within ∙ ap (λ x. take i es ++ x ∷ []) (sym is))
    ∙ ap (map a_type) (last_types (take i es) e)
    ∙ map-append a_type (expressions_types (expressions_said (take i es)))
    (expression_types (expression_said e))

pub more_named_values : (es : List TheArgument) (i : ℕ) (e : TheArgument) → i < length es → e ≡ get_or es i e
    → named_values_writings (arguments_said (take (i + 1) es))
    ≡ named_values_writings (arguments_said (take i es)) ++ value_writings (expression_said e.value)
unfolding value_writings named_values_writings
more_named_values es i e within is =
    ap (λ r. map a_type (arguments_types (arguments_said r)))
    (take_more es i e within ∙ ap (λ x. take i es ++ x ∷ []) (sym is))
    ∙ ap (map a_type) (last_named_types (take i es) e)
    ∙ map-append a_type (arguments_types (arguments_said (take i es)))
    (expression_types (expression_said e.value))
