-- What is told of the readers of arguments.
use Rattle.std.proofs.Common.{◌≡◌, ◌≤◌, ◌⊎◌, ℕ, suc, Bool, true, false, ◌&&◌, List, [], ◌∷◌, ◌++◌, length}
use Rattle.std.proofs.Common.{map, drop, Option, Some, None, Ok, Err, refl, sym, ap, ◌∙◌, subst, arith, inl}
use Rattle.std.proofs.Common.{inr, cond}
use Rattle.std.specs.List.{list_all}
use Rattle.std.proofs.lemmas.Bool.{and_parts}
use Rattle.au_base.specs.declared.tokens.Sign.TheVariants.{FatArrow, Arrow, LeftParenthesis, RightParenthesis}
use Rattle.au_base.specs.declared.tokens.Sign.TheVariants.{Comma, Dot, Colon}
use Rattle.au_base.specs.declared.tokens.Token.{Token}
use Rattle.au_base.specs.declared.tokens.What.{What}
use Rattle.au_base.specs.declared.tokens.What.TheVariants.{Word, Sign, Name}
use Rattle.au_base.specs.declared.tokens.Keyword.TheVariants.{KwNil}
use Rattle.au_syntax.specs.declared.expressions.BinaryOperator.{BinaryOperator}
use Rattle.au_syntax.specs.Forms.{some, some_arguments, formed_expression, formed_expressions}
use Rattle.au_syntax.specs.Forms.{formed_arguments}
use Rattle.au_syntax.specs.Names.{Placed}
use Rattle.au_syntax.specs.Plain.{Bytes, PlainExpression}
use Rattle.au_syntax.specs.Expressions as tree
use Rattle.au_syntax.specs.Types.{named, no_types}
use Rattle.au_syntax.specs.Words.{Words, mark}
use Rattle.au_read_expressions.specs.declared.faults.Fault.TheVariants.{Syntax, Passed}
use Rattle.au_read_expressions.specs.Bounds.{Bounds, nesting_limit}
use Rattle.au_read_expressions.specs.Reading.{Read, ◌>>=◌, behind_tokens, closed, shaped, name_at, exactly}
use Rattle.au_read_expressions.specs.Reading.{separated_at, after_part}
use Rattle.au_read_expressions.specs.Reading as reading
use Rattle.au_read_expressions.specs.Spelling.{fixed}
use Rattle.au_read_expressions.specs.TypeStops.{is_name}
use Rattle.au_read_expressions.specs.ExpressionReading.{Given, in_order, by_name, expressions_of}
use Rattle.au_read_expressions.specs.ExpressionReading.{arguments_of, site, labelled, none_given, ordered}
use Rattle.au_read_expressions.specs.ExpressionReading.{goes_on, given_by, given_at, begins_expression}
use Rattle.au_read_expressions.specs.ExpressionReading.{operator_of, is_none}
use Rattle.au_read_expressions.proofs.ExpressionForm.{operator_what, operator_fixed, operator_back}
use Rattle.au_parser.specs.Measures.{Measured, Measures, plain, plains, begun, inside, known_late}
use Rattle.au_parser.specs.Measures.{known_behind, not_first, lower, at_level, through_arguments}
use Rattle.au_parser.specs.Measures.{given_in_order, expression_measures, given_measures}
use Rattle.au_parser.specs.Measures.{labels_measures}
use Rattle.au_parser.specs.Passing.{passed_by, Keep, KeepOver, PassBehind, Agree, of_nesting}
use Rattle.au_parser.proofs.Told.{Passing, AreMeasured, Kind, Is, Whole, Tells, Past, Alike, Agrees}
use Rattle.au_parser.proofs.Told.{Honest, Carries, bind_past, past_alike, tells_past, tokens_past}
use Rattle.au_parser.proofs.Told.{token_of, tells_good, agrees_empty, covered, built_tells}
use Rattle.au_parser.proofs.Told.{built_agrees}
use Rattle.au_parser.proofs.Ways.{honest_past, no_alike, behind_kind, closed_kind, pair_kind}
use Rattle.au_parser.proofs.Ways.{behind_honest, closed_honest, pair_honest, shaped_honest}
use Rattle.au_parser.proofs.Turns.{moved_tells, turned, turned_honest, turned_agrees, late_agree}
use Rattle.au_parser.proofs.FirstTokens.{First, firsts_agree, pair_opens}
use Rattle.au_parser.proofs.Lists.{separated_kind, separated_honest, after_past}
use Rattle.au_parser.proofs.Single.{a_name, name_kind, name_honest, name_opens, exactly_kind}
use Rattle.au_parser.proofs.Single.{exactly_honest}
use Rattle.au_parser.proofs.Levels.{passing, plain_none, inside_turns, moves_late}
use Rattle.au_parser.proofs.ExpressionKinds.{expression_kind, inner_kind, expression_head, level_one}
use Rattle.au_parser.proofs.ExpressionKinds.{first_join}

-- ---- kinds

abbrev given_words : Given → Measures
given_words (in_order es) = given_in_order (given_measures (expressions_of es))
given_words (by_name args) = through_arguments (labels_measures (arguments_of args))

abbrev pub given_good : Given → Bool
given_good (in_order es) = formed_expressions (expressions_of es)
given_good (by_name args) = some_arguments (arguments_of args) && formed_arguments (arguments_of args)

abbrev pub given_kind : Kind Given
given_kind = record { words = given_words; good = given_good }

-- arguments in order, as each tells
abbrev order_kind : Kind (List PlainExpression)
order_kind = closed_kind (separated_kind expression_kind (fixed (Sign Comma ∷ []))) (Sign RightParenthesis ∷ [])

abbrev late_kind : Kind (List PlainExpression)
late_kind = turned known_late order_kind

abbrev labelled_kind : Kind (Placed Bytes × PlainExpression)
labelled_kind = pair_kind name_kind (behind_kind inner_kind (Sign FatArrow ∷ []))

expressions_words : (es : List PlainExpression) → given_measures (expressions_of es) ≡ map expression_kind.words es
expressions_words [] = refl
expressions_words (e ∷ es) = ap (λ ws. expression_measures e ∷ ws) (expressions_words es)

arguments_words : (args : List (Placed Bytes × PlainExpression)) → labels_measures (arguments_of args)
    ≡ map labelled_kind.words args
arguments_words [] = refl
arguments_words (a ∷ args) = ap (λ ws. labelled_kind.words a ∷ ws) (arguments_words args)

expressions_good : (es : List PlainExpression) → formed_expressions (expressions_of es) ≡ list_all formed_expression es
expressions_good [] = refl
expressions_good (e ∷ es) = ap (λ t. formed_expression e && t) (expressions_good es)

arguments_good : (args : List (Placed Bytes × PlainExpression)) → formed_arguments (arguments_of args)
    ≡ list_all labelled_kind.good args
arguments_good [] = refl
arguments_good (a ∷ args) = ap (λ t. formed_expression a.1 && t) (arguments_good args)

named_good : (args : List (Placed Bytes × PlainExpression)) →
    (some_arguments (arguments_of args) && formed_arguments (arguments_of args))
    ≡ (some args && list_all labelled_kind.good args)
named_good [] = refl
named_good (a ∷ args) = arguments_good (a ∷ args)

-- the words of arguments in order, through the parenthesis
order_line : (es : List PlainExpression) → through_arguments (given_measures (expressions_of es)) ≡ order_kind.words es
order_line es = ap through_arguments (expressions_words es)

order_carries : Carries (turned inside late_kind) given_kind [] in_order
order_carries = record {
  words = λ es g. ap (λ ws. inside (known_late ws)) (order_line es);
  good = λ es g. expressions_good es ∙ (and_parts (some es) (list_all formed_expression es) g).1;
}

-- ---- what begins with no name

abbrev names : Option What → Bool
names None = false
names (Some w) = is_name w

abbrev name_first : List Token → Bool
name_first [] = false
name_first (t ∷ ts) = is_name t.what

late_same : (ws : Measures) (ts : List Token) → AreMeasured ws ts → name_first ts ≡ false → known_late ws ≡ ws
late_same [] ts are e = refl
late_same (w ∷ ws) [] are e = absurd are
late_same (w ∷ ws) (t ∷ ts) are e = ap (λ v. known_behind v w ws) (sym (ap is_name are.0.0) ∙ e)

front_plain : (front behind ts : List Token) → ts ≡ front ++ behind → name_first ts ≡ false → name_first front ≡ false
front_plain [] behind ts same e = refl
front_plain (t ∷ front) behind ts same e = sym (ap name_first same) ∙ e

plain_is : (es : List PlainExpression) (ts : List Token) → name_first ts ≡ false → Is order_kind es ts → Is late_kind es ts
plain_is es ts e h = record {
  words = subst (λ ws. AreMeasured ws ts) (sym (late_same (order_kind.words es) ts h.words e)) h.words;
  good = h.good;
}

-- a tree that begins with another token than a name tells the same
plain_tells : (Q : Passing) (ts : List Token) → name_first ts ≡ false → (x : Read (List PlainExpression)) →
    Tells Q order_kind ts x → Tells Q late_kind ts x
plain_tells Q ts e (Ok x) h =
    let f = front_plain h.front x.1 ts h.same e in
    record {
      front = h.front;
      same = h.same;
      is = plain_is x.0 h.front f h.is;
      keeps = subst (Keep Q.of) (sym (late_same (order_kind.words x.0) h.front h.is.words f)) h.keeps;
    }
plain_tells Q ts e (Err (Syntax left)) h = by h.front h.same h.is h.keeps
  where
    by : (front : List Token) → ts ≡ front ++ h.back → Is order_kind h.tree (front ++ h.rest) →
        KeepOver Q.of front (order_kind.words h.tree) → Tells Q late_kind ts (Err (Syntax left))
    by [] same is keep = record {
      front = [];
      back = h.back;
      same = same;
      size = h.size;
      rest = token_of (Word KwNil) ∷ token_of (Sign RightParenthesis) ∷ [];
      tree = tree.nil (site a_name.at) ∷ [];
      is = record { words = ((refl, (refl, tt)), ((refl, tt), tt)); good = refl };
      keeps = tt;
    }
    by (t ∷ front) same is keep =
        let f : name_first (t ∷ front ++ h.rest) ≡ false = front_plain (t ∷ front) h.back ts same e in
        record {
          front = t ∷ front;
          back = h.back;
          same = same;
          size = h.size;
          rest = h.rest;
          tree = h.tree;
          is = plain_is h.tree (t ∷ front ++ h.rest) f is;
          keeps = subst (KeepOver Q.of (t ∷ front))
              (sym (late_same (order_kind.words h.tree) (t ∷ front ++ h.rest) is.words f)) keep;
        }
plain_tells Q ts e (Err (Passed l left)) h =
    let f : name_first (h.front ++ h.last ∷ h.rest) ≡ false = by h.front h.same in
    record {
      front = h.front;
      last = h.last;
      back = h.back;
      same = h.same;
      what = h.what;
      told = h.told;
      rest = h.rest;
      tree = h.tree;
      is = plain_is h.tree (h.front ++ h.last ∷ h.rest) f h.is;
      passes = subst (PassBehind Q.of h.what h.front)
          (sym (late_same (order_kind.words h.tree) (h.front ++ h.last ∷ h.rest) h.is.words f)) h.passes;
    }
  where
    by : (front : List Token) → ts ≡ front ++ h.last ∷ h.back → name_first (front ++ h.last ∷ h.rest) ≡ false
    by [] same = sym (ap name_first same) ∙ e
    by (t ∷ front) same = sym (ap name_first same) ∙ e

-- ---- what is known with the first tokens

-- two trees that begin with one token
lates_agree : (t : Token) (p c d : List Token) (Q : Passing) (x y : Read (List PlainExpression)) →
    Tells Q order_kind (t ∷ p ++ c) x → Tells Q order_kind (t ∷ p ++ d) y → Agrees order_kind (t ∷ p) c x y →
    Agrees late_kind (t ∷ p) c x y
lates_agree t p c d Q (Err f) y h k agree = tt
lates_agree t p c d Q (Ok x) (Err f) h k agree = tt
lates_agree t p c d Q (Ok x) (Ok y) h k agree =
    λ short. by h.front h.same h.is.words k.front k.same k.is.words (agree short)
  where
    by : (fx : List Token) → t ∷ p ++ c ≡ fx ++ x.1 → AreMeasured (order_kind.words x.0) fx → (fy : List Token) →
        t ∷ p ++ d ≡ fy ++ y.1 → AreMeasured (order_kind.words y.0) fy →
        Agree (t ∷ p) (order_kind.words x.0) (order_kind.words y.0) →
        Agree (t ∷ p) (known_late (order_kind.words x.0)) (known_late (order_kind.words y.0))
    by fx sx ax fy sy ay agree = late_agree t p fx fy (order_kind.words x.0) (order_kind.words y.0)
        (λ u us e. let same : t ≡ u = subst (λ vs. t ∷ p ++ c ≡ vs ++ x.1 → t ≡ u) (sym e) (λ s. cc) sx in same)
        (λ u us e. let same : t ≡ u = subst (λ vs. t ∷ p ++ d ≡ vs ++ y.1 → t ≡ u) (sym e) (λ s. cc) sy in same)
        ax ay agree

-- what is known with a name that begins the arguments: nothing
abbrev level_none : Measured
level_none = record { word = record { what = Word KwNil; places = [] }; level = 0; depth = 0; nodes = 0; bytes = 0; before = 0 }

late_first : (ws : Measures) (t : Token) (ts : List Token) → First level_one ws → AreMeasured (inside (known_late ws)) (t ∷ ts) →
    is_name t.what ≡ true → First level_none (inside (known_late ws))
late_first [] t ts h are e = absurd h
late_first (w ∷ ws) t ts h are e = by (is_name w.word.what) refl are
  where
    by : (v : Bool) → is_name w.word.what ≡ v → AreMeasured (inside (known_behind v w ws)) (t ∷ ts) →
        First level_none (inside (known_behind v w ws))
    by true f are = (ap (λ l. lower (not_first l)) h.0, h.1)
    by false f are = absurd (let wrong = sym e ∙ ap is_name are.0.0 ∙ f in cc)

given_head : (x : Given) (t : Token) (ts : List Token) (bytes : Bytes) → t.what ≡ Name bytes →
    AreMeasured (given_words x) (t ∷ ts) → given_good x ≡ true → First level_none (given_words x)
given_head (in_order []) t ts bytes is are g = absurd (let wrong = sym is ∙ are.0.0 in cc)
given_head (in_order (e ∷ es)) t ts bytes is are g =
    late_first (through_arguments (given_measures (expressions_of (e ∷ es)))) t ts
    (first_join level_one _ (plains (mark RightParenthesis)) (first_join level_one (expression_measures e) _
    (expression_head e))) are (ap is_name is)
given_head (by_name []) t ts bytes is are g = absurd (let wrong = g in cc)
given_head (by_name (a ∷ args)) t ts bytes is are g = (refl, (refl, (refl, (refl, refl))))

-- ---- where no level is left

-- where no level is left for what is nested, it isn't read
pub record Shallow (b : Bounds) (n : ℕ) (r : List Token → Read PlainExpression) : Type 0 where
  pub none : n ≡ 0
  pub reads : (ts : List Token) → r ts
      ≡ cond (begins_expression (reading.front ts)) (Err (Passed (nesting_limit b) (length ts))) (reading.no ts)

-- some level is left, or none is
abbrev pub Left : Bounds → ℕ → (List Token → Read PlainExpression) → Type 0
Left b n r = ((m : ℕ) × (n ≡ suc m)) ⊎ Shallow b n r

-- arguments that begin with a name and a token that tells that it begins an expression, which is too deep
record Second (b : Bounds) (t u : Token) : Type 0 where
  rest : List Token
  tree : List PlainExpression
  is : Is given_kind (in_order tree) (t ∷ u ∷ rest)
  passes : PassBehind (passed_by b 1) of_nesting (t ∷ []) (given_words (in_order tree))

module _ (b : Bounds) (t : Token) (bytes : Bytes) (is : t.what ≡ Name bytes) where
  abbrev here : Placed Bytes
  here = record { name = bytes; at = t.at }

  abbrev one : PlainExpression
  one = tree.path (site t.at) here []

  abbrev other : PlainExpression
  other = tree.nil (site a_name.at)

  abbrev a_name_token : Token
  a_name_token = token_of (Name a_name.name)

  -- the name passes nothing
  name_keeps : passed_by b 1 (plain (record { what = Name bytes; places = t.at ∷ t.at ∷ [] })) ≡ None
  name_keeps = plain_none b 1 (record { what = Name bytes; places = t.at ∷ t.at ∷ [] })

  abbrev operation : BinaryOperator → PlainExpression
  operation op = tree.binary (site t.at) op one other

  -- the words of an operation, where its operator has these
  abbrev operation_words : Words → Measures
  operation_words ws = inside (known_late ((begun t.at ((expression_measures one ++ at_level 2 ws)
      ++ inside (expression_measures other)) ++ []) ++ plains (mark RightParenthesis)))

  with_operator : (u : Token) (op : BinaryOperator) → u.what ≡ operator_what op → Second b t u
  with_operator u op e = record {
    rest = token_of (Word KwNil) ∷ token_of (Sign RightParenthesis) ∷ [];
    tree = operation op ∷ [];
    is = record {
      words = subst (λ ws. AreMeasured (operation_words ws)
          (t ∷ u ∷ token_of (Word KwNil) ∷ token_of (Sign RightParenthesis) ∷ [])) (sym (operator_fixed op))
          ((is, (refl, (refl, (refl, tt)))), ((e, tt), ((refl, (refl, tt)), ((refl, tt), tt))));
      good = refl;
    };
    passes = subst (λ ws. PassBehind (passed_by b 1) of_nesting (t ∷ []) (operation_words ws)) (sym (operator_fixed op))
        (plain_none b 1 (record { what = Name bytes; places = t.at ∷ t.at ∷ t.at ∷ [] }), refl);
  }

  operated : (w : What) (u : Token) → u.what ≡ w → (o : Option BinaryOperator) → operator_of (Some w) ≡ o →
      is_none o ≡ false → Second b t u
  operated w u e (Some op) f g =
      let same : w ≡ operator_what op = let s = operator_back (Some w) op f in cc in with_operator u op (e ∙ same)
  operated w u e None f g = absurd (let wrong = g in cc)

  goes_operated : (w : What) (u : Token) → u.what ≡ w → Rattle.std.proofs.Common.not (is_none (operator_of (Some w))) ≡ true →
      Second b t u
  goes_operated w u e g = operated w u e (operator_of (Some w)) refl (turn (is_none (operator_of (Some w))) g)
    where
      turn : (v : Bool) → Rattle.std.proofs.Common.not v ≡ true → v ≡ false
      turn true h = absurd cc
      turn false h = refl

  second_of : (w : What) (u : Token) → u.what ≡ w → goes_on (Some w) ≡ true → Second b t u
  second_of (Sign RightParenthesis) u e g = record {
    rest = [];
    tree = one ∷ [];
    is = record { words = ((is, (refl, (refl, tt))), ((e, tt), tt)); good = refl };
    passes = (name_keeps, refl);
  }
  second_of (Sign Comma) u e g = record {
    rest = token_of (Word KwNil) ∷ token_of (Sign RightParenthesis) ∷ [];
    tree = one ∷ other ∷ [];
    is = record { words = ((is, (refl, (refl, tt))), ((e, tt), ((refl, (refl, tt)), ((refl, tt), tt)))); good = refl };
    passes = (name_keeps, refl);
  }
  second_of (Sign Colon) u e g = record {
    rest = a_name_token ∷ token_of (Sign RightParenthesis) ∷ [];
    tree = tree.typed (site t.at) one (named a_name no_types) ∷ [];
    is = record {
      words = ((is, (refl, (refl, (refl, tt)))), ((e, tt), ((refl, (refl, tt)), ((refl, tt), tt))));
      good = refl;
    };
    passes = (plain_none b 1 (record { what = Name bytes; places = t.at ∷ t.at ∷ t.at ∷ [] }), refl);
  }
  second_of (Sign Dot) u e g = record {
    rest = a_name_token ∷ token_of (Sign RightParenthesis) ∷ [];
    tree = tree.path (site t.at) here (a_name ∷ []) ∷ [];
    is = record {
      words = ((is, (refl, (refl, tt))), ((e, tt), ((refl, (refl, tt)), ((refl, tt), tt))));
      good = refl;
    };
    passes = (name_keeps, refl);
  }
  second_of (Sign Arrow) u e g = record {
    rest = a_name_token ∷ token_of (Sign RightParenthesis) ∷ [];
    tree = tree.arrow (site t.at) here (a_name ∷ []) ∷ [];
    is = record {
      words = ((is, (refl, (refl, tt))), ((e, tt), ((refl, (refl, tt)), ((refl, tt), tt))));
      good = refl;
    };
    passes = (name_keeps, refl);
  }
  second_of (Sign LeftParenthesis) u e g = record {
    rest = token_of (Sign RightParenthesis) ∷ token_of (Sign RightParenthesis) ∷ [];
    tree = tree.call (site t.at) here tree.no_expressions tt ∷ [];
    is = record { words = ((is, (refl, (refl, tt))), ((e, tt), ((refl, tt), ((refl, tt), tt)))); good = refl };
    passes = (name_keeps, refl);
  }
  second_of w u e g = goes_operated w u e g

-- ---- arguments

module _ (b : Bounds) (n : ℕ) (r q : List Token → Read PlainExpression) (nested : Honest (passing b n) expression_kind r)
    (takes : (t : Token) (ts : List Token) (bytes : Bytes) → t.what ≡ Name bytes → Past (length ts) (r (t ∷ ts)))
    (left : Left b n r) where
  abbrev P : Passing
  P = passing b (suc n)

  abbrev Q : Passing
  Q = passing b n

  inner : Honest P inner_kind r
  inner = turned_honest Q P inside (inside_turns b n) expression_kind r nested

  none_honest : Honest P given_kind (shaped (none_given r q) (exactly (Sign RightParenthesis ∷ [])))
  none_honest = shaped_honest P (exactly_kind (Sign RightParenthesis ∷ [])) given_kind
      (exactly (Sign RightParenthesis ∷ []))
      (exactly_honest P (Sign RightParenthesis ∷ [])) (none_given r q)
      (record { words = λ x g. refl; good = λ x g. refl })

  -- what is read behind a name that stands first
  list_takes : {A : Type 0} (Z : Passing) (kind : Kind A) (part : List Token → Read A) (honest : Honest Z kind part)
      (build : List A → Given)
      (t : Token) (ts : List Token) → Past (length ts) (part (t ∷ ts))
      → Past (length ts) (shaped build (closed (Sign RightParenthesis ∷ []) (reading.listed part)) (t ∷ ts))
  list_takes Z kind part honest build t ts h =
      bind_past (length ts) (reading.built_at build) (λ x. omega arith)
      (closed (Sign RightParenthesis ∷ []) (reading.listed part) (t ∷ ts))
      (bind_past (length ts) (reading.closed_at (Sign RightParenthesis ∷ []))
      (λ x. tokens_past (reading.read_of x.0) (λ rest. omega arith) (Sign RightParenthesis ∷ []) x.1)
      (reading.listed part (t ∷ ts))
      (bind_past (length ts) (after_part (Sign Comma) (separated_at (Sign Comma) part (length ts)))
      (after_past Z kind part honest (Sign Comma) (length ts)) (part (t ∷ ts)) h))

  -- ---- arguments by the names of parameters

  abbrev names_kind : Kind (List (Placed Bytes × PlainExpression))
  names_kind = closed_kind (separated_kind labelled_kind (fixed (Sign Comma ∷ []))) (Sign RightParenthesis ∷ [])

  abbrev names_at : List Token → Read (List (Placed Bytes × PlainExpression))
  names_at = closed (Sign RightParenthesis ∷ []) (reading.listed (labelled r q))

  label_honest : Honest P labelled_kind (labelled r q)
  label_honest = pair_honest P name_kind (behind_kind inner_kind (Sign FatArrow ∷ [])) name_at (name_honest P)
      (behind_tokens (Sign FatArrow ∷ []) r) (behind_honest P inner_kind (Sign FatArrow ∷ []) r inner)

  names_honest : Honest P given_kind (shaped by_name names_at)
  names_honest = shaped_honest P names_kind given_kind names_at
      (closed_honest P (separated_kind labelled_kind (fixed (Sign Comma ∷ []))) (Sign RightParenthesis ∷ [])
      (reading.listed (labelled r q)) (separated_honest P labelled_kind (labelled r q) label_honest (Sign Comma)))
      by_name
      (record {
        words = λ args g. ap through_arguments (arguments_words args);
        good = λ args g. named_good args ∙ g;
      })

  names_past : (t : Token) (ts : List Token) (bytes : Bytes) → t.what ≡ Name bytes →
      Past (length ts) (shaped by_name names_at (t ∷ ts))
  names_past t ts bytes is =
      list_takes P labelled_kind (labelled r q) label_honest by_name t ts
      ((pair_opens is_name name_at name_opens (behind_tokens (Sign FatArrow ∷ []) r)
      (tokens_past r (honest_past P inner_kind r inner) (Sign FatArrow ∷ []))).takes t ts (ap is_name is))

  -- ---- arguments in order

  abbrev order_at : List Token → Read (List PlainExpression)
  order_at = closed (Sign RightParenthesis ∷ []) (reading.listed r)

  order_honest : Honest Q order_kind order_at
  order_honest = closed_honest Q (separated_kind expression_kind (fixed (Sign Comma ∷ []))) (Sign RightParenthesis ∷ [])
      (reading.listed r) (separated_honest Q expression_kind r nested (Sign Comma))

  -- one level deeper, and built
  given_tells_of : (ts : List Token) (x : Read (List PlainExpression)) → Tells Q late_kind ts x →
      Tells P given_kind ts (x >>= reading.built_at in_order)
  given_tells_of ts x h = built_tells P (turned inside late_kind) given_kind [] ts ts refl [] tt tt in_order order_carries
      x (moved_tells Q P inside (inside_turns b n).moves late_kind ts x h)

  order_tells : (ts : List Token) → name_first ts ≡ false → Tells P given_kind ts (ordered r q ts)
  order_tells ts e = given_tells_of ts (order_at ts) (plain_tells Q ts e (order_at ts) (order_honest.tells ts))

  order_alike : (p c d : List Token) → Alike c d (ordered r q (p ++ c)) (ordered r q (p ++ d))
  order_alike p c d = Rattle.au_parser.proofs.Told.built_alike c d in_order (order_at (p ++ c)) (order_at (p ++ d))
      (order_honest.alike p c d)

  order_agree : (t : Token) (p c d : List Token) → Agrees given_kind (t ∷ p) c (ordered r q (t ∷ p ++ c))
      (ordered r q (t ∷ p ++ d))
  order_agree t p c d =
      let x = order_at (t ∷ p ++ c) in
      let y = order_at (t ∷ p ++ d) in
      let h = order_honest.tells (t ∷ p ++ c) in
      let k = order_honest.tells (t ∷ p ++ d) in
      built_agrees (turned inside late_kind) given_kind [] (t ∷ p) (t ∷ p) c refl [] tt in_order order_carries x y
      (tells_good Q order_kind (t ∷ p ++ c) x h) (tells_good Q order_kind (t ∷ p ++ d) y k)
      (turned_agrees inside (inside_turns b n).agree late_kind (t ∷ p) c x y
      (lates_agree t p c d Q x y h k (order_honest.agree (t ∷ p) c d)))

  -- a name, and a token with which no expression goes on
  short_tells : (t : Token) (ts : List Token) (bytes : Bytes) → t.what ≡ Name bytes →
      Tells P given_kind (t ∷ ts) (Err (Syntax (length ts)))
  short_tells t ts bytes is = record {
    front = t ∷ [];
    back = ts;
    same = refl;
    size = refl;
    rest = token_of (Sign RightParenthesis) ∷ [];
    tree = in_order (one b t bytes is ∷ []);
    is = record { words = ((is, (refl, (refl, tt))), ((refl, tt), tt)); good = refl };
    keeps = (plain_none b (suc n) (record { what = Name bytes; places = t.at ∷ t.at ∷ [] }), tt);
  }

  -- where no level is left, with the token behind a name it is known that it begins an expression
  shallow_told : (s : Shallow b n r) (t u : Token) (rest : List Token) (bytes : Bytes) → t.what ≡ Name bytes →
      goes_on (Some u.what) ≡ true → Tells P given_kind (t ∷ u ∷ rest)
      (Err (Passed (nesting_limit b) (length (t ∷ u ∷ rest))))
  shallow_told s t u rest bytes is e =
      let m = second_of b t bytes is u.what u refl e in
      record {
        front = t ∷ [];
        last = u;
        back = rest;
        same = refl;
        what = of_nesting;
        told = refl;
        rest = m.rest;
        tree = in_order m.tree;
        is = m.is;
        passes = subst (λ k. PassBehind (passed_by b (suc k)) of_nesting (t ∷ []) (given_words (in_order m.tree))) (sym s.none)
            m.passes;
      }

  shallow_reads : (s : Shallow b n r) (t : Token) (ts : List Token) (bytes : Bytes) → t.what ≡ Name bytes →
      ordered r q (t ∷ ts) ≡ Err (Passed (nesting_limit b) (length (t ∷ ts)))
  shallow_reads s t ts bytes is =
      ap (λ x. ((x >>= after_part (Sign Comma) (separated_at (Sign Comma) r (length ts)))
      >>= reading.closed_at (Sign RightParenthesis ∷ [])) >>= reading.built_at in_order)
      (s.reads (t ∷ ts) ∙ ap (λ w. cond (begins_expression (Some w)) (Err (Passed (nesting_limit b) (length (t ∷ ts))))
      (reading.no (t ∷ ts))) is)

  name_goes : (t : Token) (ts : List Token) (bytes : Bytes) → t.what ≡ Name bytes → goes_on (reading.front ts) ≡ true →
      Tells P given_kind (t ∷ ts) (ordered r q (t ∷ ts))
  name_goes t [] bytes is e = absurd (let wrong = e in cc)
  name_goes t (u ∷ rest) bytes is e =
      let ts : List Token = t ∷ u ∷ rest in
      elim left [
        | inl m ↦ given_tells_of ts (order_at ts) (moved_tells Q Q known_late (moves_late b n m.0 m.1) order_kind ts
            (order_at ts) (order_honest.tells ts))
        | inr s ↦ subst (Tells P given_kind ts) (sym (shallow_reads s t (u ∷ rest) bytes is))
            (shallow_told s t u rest bytes is e)
      ]

  -- by the token behind the name
  abbrev name_at_by : Bool → List Token → Read Given
  name_at_by v ts = cond v (ordered r q ts) (reading.no (drop 1 ts))

  name_by : (t : Token) (ts : List Token) (bytes : Bytes) → t.what ≡ Name bytes → (v : Bool) →
      goes_on (reading.front ts) ≡ v → Tells P given_kind (t ∷ ts) (name_at_by v (t ∷ ts))
  name_by t ts bytes is true e = name_goes t ts bytes is e
  name_by t ts bytes is false e = short_tells t ts bytes is

  name_past : (t : Token) (ts : List Token) (bytes : Bytes) → t.what ≡ Name bytes → (v : Bool) →
      Past (length ts) (name_at_by v (t ∷ ts))
  name_past t ts bytes is true = list_takes Q expression_kind r nested in_order t ts (takes t ts bytes is)
  name_past t ts bytes is false = let short : length ts ≤ length ts = omega arith in short

  name_alike : (t u : Token) (p c d : List Token) (v : Bool) → Alike c d (name_at_by v (t ∷ u ∷ p ++ c))
      (name_at_by v (t ∷ u ∷ p ++ d))
  name_alike t u p c d true = order_alike (t ∷ u ∷ p) c d
  name_alike t u p c d false = no_alike (u ∷ p) c d

  name_agrees : (t u : Token) (p c d : List Token) (v : Bool) → Agrees given_kind (t ∷ u ∷ p) c
      (name_at_by v (t ∷ u ∷ p ++ c)) (name_at_by v (t ∷ u ∷ p ++ d))
  name_agrees t u p c d true = order_agree t (u ∷ p) c d
  name_agrees t u p c d false = tt

  -- ---- arguments, by the first two tokens

  plain_first : (ts : List Token) (w : Option What) → reading.front ts ≡ w → names w ≡ false → name_first ts ≡ false
  plain_first [] w e f = refl
  plain_first (t ∷ ts) w e f = ap names e ∙ f

  names_tell : (ts : List Token) (bytes : Bytes) → reading.front ts ≡ Some (Name bytes) →
      (v : Option What) → reading.front (drop 1 ts) ≡ v → Tells P given_kind ts (name_at_by (goes_on v) ts)
  names_tell [] bytes e v f = absurd (let wrong = e in cc)
  names_tell (t ∷ ts) bytes e v f =
      name_by t ts bytes (let is : t.what ≡ Name bytes = cc in is) (goes_on v) (ap goes_on f)

  given_tells_by : (w v : Option What) (ts : List Token) → reading.front ts ≡ w → reading.front (drop 1 ts) ≡ v →
      Tells P given_kind ts (given_by r q w v ts)
  given_tells_by (Some (Sign RightParenthesis)) v ts e f = none_honest.tells ts
  given_tells_by (Some (Name bytes)) (Some (Sign FatArrow)) ts e f = names_honest.tells ts
  given_tells_by (Some (Name bytes)) v ts e f = names_tell ts bytes e v f
  given_tells_by w v ts e f = order_tells ts (plain_first ts w e refl)

  given_tells : (ts : List Token) → Tells P given_kind ts (given_at r q ts)
  given_tells ts = given_tells_by (reading.front ts) (reading.front (drop 1 ts)) ts refl refl

  -- a name that stands first is taken
  first_taken : (t : Token) (ts : List Token) (bytes : Bytes) → t.what ≡ Name bytes → (v : Option What) →
      Past (length ts) (given_by r q (Some (Name bytes)) v (t ∷ ts))
  first_taken t ts bytes is (Some (Sign FatArrow)) = names_past t ts bytes is
  first_taken t ts bytes is v = name_past t ts bytes is (goes_on v)

  given_one : (w : What) (t : Token) (c d : List Token) → t.what ≡ w →
      Alike c d (given_by r q (Some w) (reading.front c) (t ∷ c)) (given_by r q (Some w) (reading.front d) (t ∷ d))
  given_one (Sign RightParenthesis) t c d is = none_honest.alike (t ∷ []) c d
  given_one (Name bytes) t c d is =
      past_alike c d (given_by r q (Some (Name bytes)) (reading.front d) (t ∷ d))
      (given_by r q (Some (Name bytes)) (reading.front c) (t ∷ c))
      (first_taken t c bytes is (reading.front c))
  given_one w t c d is = order_alike (t ∷ []) c d

  given_two : (w v : What) (t u : Token) (p c d : List Token) →
      Alike c d (given_by r q (Some w) (Some v) (t ∷ u ∷ p ++ c)) (given_by r q (Some w) (Some v) (t ∷ u ∷ p ++ d))
  given_two (Sign RightParenthesis) v t u p c d = none_honest.alike (t ∷ u ∷ p) c d
  given_two (Name bytes) (Sign FatArrow) t u p c d = names_honest.alike (t ∷ u ∷ p) c d
  given_two (Name bytes) v t u p c d = name_alike t u p c d (goes_on (Some v))
  given_two w v t u p c d = order_alike (t ∷ u ∷ p) c d

  given_alike : (p c d : List Token) → Alike c d (given_at r q (p ++ c)) (given_at r q (p ++ d))
  given_alike [] c d = past_alike c d (given_at r q d) (given_at r q c)
      (tells_past P given_kind c (given_at r q c) (given_tells c))
  given_alike (t ∷ []) c d = given_one t.what t c d refl
  given_alike (t ∷ u ∷ p) c d = given_two t.what u.what t u p c d

  -- what is known with a name that stands first
  head_of : (x : Given) (t : Token) (ts behind : List Token) (bytes : Bytes) → t.what ≡ Name bytes →
      Whole P given_kind x (t ∷ ts) behind → length behind ≤ length ts → First level_none (given_words x)
  head_of x t ts behind bytes is h short =
      let m = covered (t ∷ []) ts h.front behind h.same short in
      given_head x t m.0 bytes is (subst (AreMeasured (given_words x)) m.1 h.is.words) h.is.good

  head_agrees : (t : Token) (c d : List Token) (bytes : Bytes) → t.what ≡ Name bytes → (x y : Read Given) →
      Tells P given_kind (t ∷ c) x → Tells P given_kind (t ∷ d) y → Past (length d) y → Agrees given_kind (t ∷ []) c x y
  head_agrees t c d bytes is (Err f) y h k past = tt
  head_agrees t c d bytes is (Ok x) (Err f) h k past = tt
  head_agrees t c d bytes is (Ok x) (Ok y) h k past =
      λ short. firsts_agree level_none t (given_words x.0) (given_words y.0)
      (head_of x.0 t c x.1 bytes is h short) (head_of y.0 t d y.1 bytes is k past)

  given_one_agrees : (w : What) (t : Token) (c d : List Token) → t.what ≡ w →
      Agrees given_kind (t ∷ []) c (given_by r q (Some w) (reading.front c) (t ∷ c))
      (given_by r q (Some w) (reading.front d) (t ∷ d))
  given_one_agrees (Sign RightParenthesis) t c d is = none_honest.agree (t ∷ []) c d
  given_one_agrees (Name bytes) t c d is =
      head_agrees t c d bytes is (given_by r q (Some (Name bytes)) (reading.front c) (t ∷ c))
      (given_by r q (Some (Name bytes)) (reading.front d) (t ∷ d))
      (given_tells_by (Some (Name bytes)) (reading.front c) (t ∷ c) (ap (λ w. Some w) is) refl)
      (given_tells_by (Some (Name bytes)) (reading.front d) (t ∷ d) (ap (λ w. Some w) is) refl)
      (first_taken t d bytes is (reading.front d))
  given_one_agrees w t c d is = order_agree t [] c d

  given_two_agrees : (w v : What) (t u : Token) (p c d : List Token) →
      Agrees given_kind (t ∷ u ∷ p) c (given_by r q (Some w) (Some v) (t ∷ u ∷ p ++ c))
      (given_by r q (Some w) (Some v) (t ∷ u ∷ p ++ d))
  given_two_agrees (Sign RightParenthesis) v t u p c d = none_honest.agree (t ∷ u ∷ p) c d
  given_two_agrees (Name bytes) (Sign FatArrow) t u p c d = names_honest.agree (t ∷ u ∷ p) c d
  given_two_agrees (Name bytes) v t u p c d = name_agrees t u p c d (goes_on (Some v))
  given_two_agrees w v t u p c d = order_agree t (u ∷ p) c d

  given_agree : (p c d : List Token) → Agrees given_kind p c (given_at r q (p ++ c)) (given_at r q (p ++ d))
  given_agree [] c d = agrees_empty given_kind c (given_at r q c) (given_at r q d)
  given_agree (t ∷ []) c d = given_one_agrees t.what t c d refl
  given_agree (t ∷ u ∷ p) c d = given_two_agrees t.what u.what t u p c d

  pub given_honest : Honest P given_kind (given_at r q)
  given_honest = record {
    example = none_honest.example;
    tells = given_tells;
    alike = given_alike;
    agree = given_agree;
  }
