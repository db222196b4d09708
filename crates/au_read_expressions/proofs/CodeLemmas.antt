-- What the code's steps need: a level more, an expression's depth as it is counted, and the arguments
-- of a call.
use Rattle.std.proofs.Common.{◌≡◌, ◌≢◌, ℕ, zero, suc, ◌-◌, ◌<◌, Bool, true, false, not, nat_le, cond, List, []}
use Rattle.std.proofs.Common.{◌∷◌, map, drop, Vec, Option, Some, None, Ok, Err, refl, sym, ap, ◌∙◌, arith}
use Rattle.std.specs.Global.{Global}
use Rattle.std.proofs.lemmas.Bool.{leb-true, leb-false, le-leb, lt-leb, cond-true}
use Rattle.au_base.specs.declared.places.Pos.{Pos}
use Rattle.au_base.specs.declared.tokens.Sign.TheVariants.{LeftParenthesis, RightParenthesis, FatArrow}
use Rattle.au_base.specs.declared.tokens.Token.{Token}
use Rattle.au_base.specs.declared.tokens.What.{What}
use Rattle.au_base.specs.declared.tokens.What.TheVariants.{Word, Sign, Name, Number, Text}
use Rattle.au_read_expressions.specs.Bounds.{Bounds}
use Rattle.au_read_expressions.specs.Reading.{Read, ◌>>=◌, front, is_front, begins_with, place_of, name_at}
use Rattle.au_read_expressions.specs.Reading.{tokens_at, nothing_at, behind_tokens, joined_at, joined_with, no}
use Rattle.au_read_expressions.specs.Reading.{built_at, closed, shaped, listed, exactly}
use Rattle.au_read_expressions.proofs.Steps.{given}
use Rattle.au_read_expressions.specs.Arguments.{argument, called, called_by_name, called_in_order}
use Rattle.au_read_expressions.specs.ExpressionReading.{site, call_of, begins_atom, begins_expression}
use Rattle.au_read_expressions.specs.ExpressionReading.{expressions_of, arguments_of, Given, in_order}
use Rattle.au_read_expressions.specs.ExpressionReading.{by_name, labelled, none_given, ordered, goes_on, given_by, given_at}
use Rattle.au_read_expressions.specs.ExpressionReading.{call_with, atom_with, expression_with, too_deep}
use Rattle.au_read_expressions.specs.ExpressionReading.{no_call, expression_at, atom_at, call_at}
use Rattle.au_read_expressions.specs.FirstTokens.{is_label, is_cut_short}
use Rattle.au_syntax.specs.declared.expressions.Argument.{Argument}
use Rattle.au_syntax.specs.declared.expressions.Expr.{Expr}
use Rattle.au_syntax.specs.declared.expressions.Expr as code
use Rattle.au_syntax.specs.declared.expressions.Site.{Site}
use Rattle.au_syntax.specs.declared.names.Ident.{Ident}
use Rattle.au_syntax.proofs.ExpressionLemmas.{call_says, named_call_says}
use Rattle.au_syntax.specs.Depths.{counted, most_counted}
use Rattle.au_syntax.specs.Expressions.{number, negative, text, truth, nil, path, arrow, call, named_call}
use Rattle.au_syntax.specs.Expressions.{parenthesized, dereference, borrow, borrow_part, binary, negation}
use Rattle.au_syntax.specs.Expressions.{typed, choice, no_expressions, expressions, no_arguments, arguments}
use Rattle.au_syntax.specs.Names.{Placed}
use Rattle.au_syntax.specs.Plain.{Bytes, PlainExpression, PlainExpressions, PlainArguments, plain_name}
use Rattle.au_syntax.specs.Plain.{plain_expression, plain_expressions, plain_arguments}
use Rattle.au_syntax.specs.Views.{placed, expression, expression_all, argument_all}
use Rattle.au_syntax.specs.contracts.parsed.ParsedPhase.TheImpl.{ghosts as parsed}

-- ---- levels

one_less : (n : ℕ) → n ≡ suc n - 1
one_less n = omega arith

module _ (b : Bounds) where
  pub expression_deeper : (n : ℕ) (ts : List Token) → n ≢ 0 → expression_at b n ts
      ≡ expression_with (expression_at b (n - 1)) (atom_at b (n - 1)) b (n - 1) ts
  unfolding expression_at
  expression_deeper zero ts some = absurd (some refl)
  expression_deeper (suc n) ts some = ap (λ m. expression_with (expression_at b m) (atom_at b m) b m ts) (one_less n)

  pub expression_deepest : (n : ℕ) (ts : List Token) → n ≡ 0 → expression_at b n ts
      ≡ too_deep b (begins_expression (front ts)) ts
  unfolding expression_at
  expression_deepest n ts is = ap (λ m. expression_at b m ts) is

  pub atom_deeper : (n : ℕ) (ts : List Token) → n ≢ 0 → atom_at b n ts ≡ atom_with (expression_at b (n - 1))
      (atom_at b (n - 1)) ts
  unfolding atom_at
  atom_deeper zero ts some = absurd (some refl)
  atom_deeper (suc n) ts some = ap (λ m. atom_with (expression_at b m) (atom_at b m) ts) (one_less n)

  pub atom_deepest : (n : ℕ) (ts : List Token) → n ≡ 0 → atom_at b n ts ≡ too_deep b (begins_atom (front ts)) ts
  unfolding atom_at
  atom_deepest n ts is = ap (λ m. atom_at b m ts) is

  pub call_deeper : (n : ℕ) (ts : List Token) → n ≢ 0 → call_at b n ts ≡ call_with (expression_at b (n - 1))
      (atom_at b (n - 1)) ts
  unfolding call_at
  call_deeper zero ts some = absurd (some refl)
  call_deeper (suc n) ts some = ap (λ m. call_with (expression_at b m) (atom_at b m) ts) (one_less n)

  pub call_deepest : (n : ℕ) (ts : List Token) → n ≡ 0 → call_at b n ts ≡ (name_at ts >>= no_call b)
  unfolding call_at
  call_deepest n ts is = ap (λ m. call_at b m ts) is

pub ruleset level_steps = (expression_deeper, expression_deepest, atom_deeper, atom_deepest, call_deeper, call_deepest)

-- ---- depths

same_names : (names : List (Placed Bytes)) → map (plain_name (λ (n : Bytes). n)) names ≡ names
same_names [] = refl
same_names (n ∷ ns) = ap (λ r. n ∷ r) (same_names ns)

-- a plain tree is its own plain tree
mutual
  pub plain_same : (e : PlainExpression) → plain_expression (λ (n : Bytes). n) e ≡ e
  plain_same (number n l) = refl
  plain_same (negative n l) = refl
  plain_same (text n t) = refl
  plain_same (truth n v) = refl
  plain_same (nil n) = refl
  plain_same (path n x fields) = ap (path n x) (same_names fields)
  plain_same (arrow n x fields) = ap (arrow n x) (same_names fields)
  plain_same (call n f es c) = ap (λ r. call n f r c) (plain_sames es)
  plain_same (named_call n f es c) = ap (λ r. named_call n f r c) (plain_arguments_same es)
  plain_same (parenthesized n e) = ap (parenthesized n) (plain_same e)
  plain_same (dereference n e) = ap (dereference n) (plain_same e)
  plain_same (borrow n m x) = refl
  plain_same (borrow_part n x fields) = ap (borrow_part n x) (same_names fields)
  plain_same (binary n op a b) = ap (λ r. binary n op r (plain_expression (λ (n : Bytes). n) b))
      (plain_same a) ∙ ap (binary n op a) (plain_same b)
  plain_same (negation n e) = ap (negation n) (plain_same e)
  plain_same (typed n e t) = ap (λ r. typed n r t) (plain_same e)
  plain_same (choice n c a b) =
      ap (λ r. choice n r (plain_expression (λ (n : Bytes). n) a) (plain_expression (λ (n : Bytes). n) b))
      (plain_same c)
      ∙ ap (λ r. choice n c r (plain_expression (λ (n : Bytes). n) b)) (plain_same a)
      ∙ ap (choice n c a) (plain_same b)

  pub plain_sames : (es : PlainExpressions) → plain_expressions (λ (n : Bytes). n) es ≡ es
  plain_sames no_expressions = refl
  plain_sames (expressions e rest) = ap (λ r. expressions r (plain_expressions (λ (n : Bytes). n) rest))
      (plain_same e) ∙ ap (expressions e) (plain_sames rest)

  pub plain_arguments_same : (es : PlainArguments) → plain_arguments (λ (n : Bytes). n) es ≡ es
  plain_arguments_same no_arguments = refl
  plain_arguments_same (arguments label e rest) =
      ap (λ r. arguments label r (plain_arguments (λ (n : Bytes). n) rest)) (plain_same e)
      ∙ ap (arguments label e) (plain_arguments_same rest)

counted_as : (d n c : ℕ) (v : Bool) → n < most_counted → c ≡ counted d → nat_le d n ≡ v → nat_le c n ≡ v
counted_as d n c true small is holds = let fits = leb-true d n holds in le-leb c n (omega (arith, is, fits))
counted_as d n c false small is fails = let passes = leb-false d n fails
    in lt-leb c n (omega (arith, is, passes, small))

-- a depth as it is counted is told from a smaller number as the depth is
pub counted_within : (d n c : ℕ) → n < most_counted → c ≡ counted d → nat_le c n ≡ nat_le d n
counted_within d n c small is = counted_as d n c (nat_le d n) small is refl

-- ---- arguments

module _ (inner inner_atom : List Token → Read PlainExpression) where
  -- the arguments of a call by four cases
  abbrev given_cases : Bool → Bool → Bool → List Token → Read Given
  given_cases true named cut ts = shaped (none_given inner inner_atom) (exactly (Sign RightParenthesis ∷ [])) ts
  given_cases false true cut ts = shaped by_name
      (closed (Sign RightParenthesis ∷ []) (listed (labelled inner inner_atom))) ts
  given_cases false false true ts = no (drop 1 ts)
  given_cases false false false ts = ordered inner inner_atom ts

  name_cases : (v : Bool) (ts : List Token) → cond v (ordered inner inner_atom ts) (no (drop 1 ts))
      ≡ given_cases false false (not v) ts
  name_cases true ts = refl
  name_cases false ts = refl

  given_is : (first second : Option What) (ts : List Token) → given_by inner inner_atom first second ts
      ≡ given_cases (is_front (Sign RightParenthesis) first) (is_label first second) (is_cut_short first second) ts
  given_is (Some (Sign RightParenthesis)) second ts = refl
  given_is (Some (Name bytes)) (Some (Sign FatArrow)) ts = refl
  given_is (Some (Name bytes)) second ts = name_cases (goes_on second) ts
  given_is first second ts = refl

  abbrev label_of : List Token → Bool
  label_of ts = is_label (front ts) (front (drop 1 ts))

  abbrev cut_of : List Token → Bool
  cut_of ts = is_cut_short (front ts) (front (drop 1 ts))

  given_cased : (ts : List Token) → given_at inner inner_atom ts
      ≡ given_cases (begins_with (Sign RightParenthesis) ts) (label_of ts) (cut_of ts) ts
  given_cased ts = given_is (front ts) (front (drop 1 ts)) ts

  given_none : (ts : List Token) → begins_with (Sign RightParenthesis) ts ≡ true
      → given_at inner inner_atom ts ≡ shaped (none_given inner inner_atom) (exactly (Sign RightParenthesis ∷ [])) ts
  given_none ts ends = given_cased ts ∙ ap (λ c. given_cases c (label_of ts) (cut_of ts) ts) ends

  given_named : (ts : List Token) → begins_with (Sign RightParenthesis) ts ≡ false → label_of ts ≡ true
      → given_at inner inner_atom ts
      ≡ shaped by_name (closed (Sign RightParenthesis ∷ []) (listed (labelled inner inner_atom))) ts
  given_named ts some label = given_cased ts ∙ ap (λ c. given_cases c (label_of ts) (cut_of ts) ts) some
      ∙ ap (λ c. given_cases false c (cut_of ts) ts) label

  given_plain : (ts : List Token) → begins_with (Sign RightParenthesis) ts ≡ false → label_of ts ≡ false →
      given_at inner inner_atom ts ≡ given_cases false false (cut_of ts) ts
  given_plain ts some label = given_cased ts ∙ ap (λ c. given_cases c (label_of ts) (cut_of ts) ts) some
      ∙ ap (λ c. given_cases false c (cut_of ts) ts) label

  module _ (at : Pos) (name : Placed Bytes) where
    -- what stands behind the parenthesis tells how the arguments are read
    pub called_none : (ts : List Token) → begins_with (Sign RightParenthesis) ts ≡ true →
        called inner inner_atom at name ts ≡ Ok (call (site at) name no_expressions tt, drop 1 ts)
    unfolding called
    called_none ts ends =
        ap (λ r. r >>= joined_with name >>= built_at (call_of at)) (given_none ts ends)
        ∙ ap (λ r. r >>= nothing_at >>= built_at (none_given inner inner_atom) >>= joined_with name >>=
        built_at (call_of at)) (ap (λ r. r >>= tokens_at [])
        (cond-true (begins_with (Sign RightParenthesis) ts) (given (drop 1 ts)) (Err _) ends))

    pub called_named : (ts : List Token) → begins_with (Sign RightParenthesis) ts ≡ false →
        is_label (front ts) (front (drop 1 ts)) ≡ true
        → called inner inner_atom at name ts ≡ called_by_name inner inner_atom at name ts
    unfolding called called_by_name
    called_named ts some label = ap (λ r. r >>= joined_with name >>= built_at (call_of at)) (given_named ts some label)

    pub called_cut : (ts : List Token) → begins_with (Sign RightParenthesis) ts ≡ false →
        is_label (front ts) (front (drop 1 ts)) ≡ false → is_cut_short (front ts) (front (drop 1 ts)) ≡ true
        → called inner inner_atom at name ts ≡ no (drop 1 ts)
    unfolding called
    called_cut ts some label cut = ap (λ r. r >>= joined_with name >>= built_at (call_of at))
        (given_plain ts some label ∙ ap (λ c. given_cases false false c ts) cut)

    pub called_ordered : (ts : List Token) → begins_with (Sign RightParenthesis) ts ≡ false →
        is_label (front ts) (front (drop 1 ts)) ≡ false → is_cut_short (front ts) (front (drop 1 ts)) ≡ false
        → called inner inner_atom at name ts ≡ called_in_order inner inner_atom at name ts
    unfolding called called_in_order
    called_ordered ts some label cut = ap (λ r. r >>= joined_with name >>= built_at (call_of at))
        (given_plain ts some label ∙ ap (λ c. given_cases false false c ts) cut)

    -- behind the name and the parenthesis stands the rest of a call
    pub call_called : (ts mid rest : List Token) → at ≡ place_of ts → name_at ts ≡ Ok (name, mid) →
        tokens_at (Sign LeftParenthesis ∷ []) mid ≡ Ok rest
        → call_with inner inner_atom ts ≡ called inner inner_atom at name rest
    unfolding call_with called
    call_called ts mid rest place named open_here =
        ap (λ r. r >>= joined_at (behind_tokens (Sign LeftParenthesis ∷ []) (given_at inner inner_atom)) >>=
        built_at (call_of (place_of ts))) named
        ∙ ap (λ r. r >>= given_at inner inner_atom >>= joined_with name >>= built_at (call_of (place_of ts))) open_here
        ∙ ap (λ p. given_at inner inner_atom rest >>= joined_with name >>= built_at (call_of p)) (sym place)

pub ruleset called_steps = (called_none, called_named, called_cut, called_ordered)

-- lists of the code's trees are those that reading builds
pub expressions_seen : (es : List (Expr _ _ _ _)) → expressions_of (map (expression parsed) es)
    ≡ expression_all parsed es
expressions_seen [] = refl
expressions_seen (e ∷ es) = ap (expressions (expression parsed e)) (expressions_seen es)

pub arguments_seen : (args : List (Argument _ _ _ _)) → arguments_of (map (argument parsed) args)
    ≡ argument_all parsed args
arguments_seen [] = refl
arguments_seen (a ∷ rest) = ap (arguments (placed parsed a.label) (expression parsed a.value)) (arguments_seen rest)

-- calls as reading builds them
pub ordered_says : (s : Site _ _ _ _) (n : Ident _ _ _ _) (args : Vec (Expr _ _ _ _) Global) (note : Unit {0})
    → expression parsed (code.Call s n args note) ≡ call (site s.at) (placed parsed n)
    (expressions_of (map (expression parsed) args.items)) tt
ordered_says s n args note = call_says parsed s n args note
    ∙ ap (λ es. call (site s.at) (placed parsed n) es tt) (sym (expressions_seen args.items))

pub named_says : (s : Site _ _ _ _) (n : Ident _ _ _ _) (args : Vec (Argument _ _ _ _) Global) (note : Unit {0})
    → expression parsed (code.NamedCall s n args note) ≡ named_call (site s.at) (placed parsed n)
    (arguments_of (map (argument parsed) args.items)) tt
named_says s n args note = named_call_says parsed s n args note
    ∙ ap (λ es. named_call (site s.at) (placed parsed n) es tt) (sym (arguments_seen args.items))
