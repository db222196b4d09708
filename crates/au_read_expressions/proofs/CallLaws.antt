-- The row of calls, and the arguments of a call.
use Rattle.std.proofs.Common.{◌≡◌, ℕ, suc, Bool, true, false, not, ◌&&◌, List, [], ◌∷◌, ◌++◌, map, drop, Option}
use Rattle.std.proofs.Common.{cond, Some, Ok, refl, sym, ap, ◌∙◌, subst, arith, inl, inr}
use Rattle.std.specs.List.{list_all, flat_map}
use Rattle.std.proofs.lemmas.Bool.{and_parts, cond-true}
use Rattle.au_base.specs.declared.limits.Limit.{Limit}
use Rattle.au_base.specs.declared.places.Pos.{Pos}
use Rattle.au_base.specs.declared.tokens.Sign.TheVariants.{FatArrow, LeftParenthesis, RightParenthesis, Comma}
use Rattle.au_base.specs.declared.tokens.Token.{Token}
use Rattle.au_base.specs.declared.tokens.What.{What}
use Rattle.au_base.specs.declared.tokens.What.TheVariants.{Sign, Name}
use Rattle.au_syntax.specs.Depths.{expression_depth, expressions_depth, arguments_depth}
use Rattle.au_syntax.specs.Sizes.{expression_types, expressions_types, arguments_types}
use Rattle.au_syntax.specs.Types.{WrittenType}
use Rattle.au_syntax.specs.Expressions.{call, named_call, no_expressions, expressions, no_arguments, arguments}
use Rattle.au_syntax.specs.Forms.{some, is_call, some_arguments, formed_expression, formed_expressions}
use Rattle.au_syntax.specs.Forms.{formed_arguments}
use Rattle.au_syntax.specs.Names.{Placed}
use Rattle.au_syntax.specs.Plain.{Bytes, PlainExpression, PlainExpressions, PlainArguments}
use Rattle.au_syntax.specs.Words.{Words, begun, mark, listed, name_words, expression_words}
use Rattle.au_syntax.specs.Words.{words_of_expressions, words_of_arguments}
use Rattle.au_read_expressions.specs.Bounds.{Bounds, TreePasses}
use Rattle.au_read_expressions.specs.Reading.{Read, no, front, is_front, name_at, exactly, behind_tokens, closed}
use Rattle.au_read_expressions.specs.Reading.{pair, shaped, built, listed as listed_at}
use Rattle.au_read_expressions.specs.Spelling.{Begins, fixed}
use Rattle.au_read_expressions.proofs.Begins.{begins_split, front_of}
use Rattle.au_read_expressions.proofs.Forms.{Form, Sound, Finds, Reads, Shapes, anything, light, behind_form}
use Rattle.au_read_expressions.proofs.Forms.{closed_form, closed_reads, pair_form, pair_behind, shaped_sound}
use Rattle.au_read_expressions.proofs.Forms.{shaped_found}
use Rattle.au_read_expressions.proofs.ListForms.{AllFit, OnePasses, separated_form, separated_reads}
use Rattle.au_read_expressions.proofs.Limits.{TreeFits, one_fits, one_passes, beside_fit, beside_passes}
use Rattle.au_read_expressions.proofs.Single.{exactly_reads, name_form, name_reads}
use Rattle.au_read_expressions.specs.ExpressionReading.{Given, in_order, by_name, expressions_of}
use Rattle.au_read_expressions.specs.ExpressionReading.{arguments_of, call_by, call_of, labelled, none_given}
use Rattle.au_read_expressions.specs.ExpressionReading.{goes_on, ordered, given_by, given_at, call_with, ends_expression}
use Rattle.au_read_expressions.proofs.ExpressionForm.{expression_form, call_form, expression_some}
use Rattle.au_read_expressions.proofs.RowLaws.{Row, row}
use Rattle.au_read_expressions.proofs.SecondTokens.{plain_argument, second_is, begins_plain}

-- ---- trees' lists as lists

abbrev pub list_of : PlainExpressions → List PlainExpression
list_of no_expressions = []
list_of (expressions e rest) = e ∷ list_of rest

pub expressions_again : (es : PlainExpressions) → expressions_of (list_of es) ≡ es
expressions_again no_expressions = refl
expressions_again (expressions e rest) = ap (expressions e) (expressions_again rest)

abbrev pub pairs_of : PlainArguments → List (Placed Bytes × PlainExpression)
pairs_of no_arguments = []
pairs_of (arguments label e rest) = (label, e) ∷ pairs_of rest

pub arguments_again : (args : PlainArguments) → arguments_of (pairs_of args) ≡ args
arguments_again no_arguments = refl
arguments_again (arguments label e rest) = ap (arguments label e) (arguments_again rest)

-- behind an argument stands a comma or the parenthesis
list_goes_on : (list : List Words) (ts mid rest : List Token) →
    Begins (flat_map (λ one. mark Comma ++ one) list) ts mid → Begins (mark RightParenthesis) mid rest →
    goes_on (front ts) ≡ true
list_goes_on [] ts mid rest h k = ap (λ r. goes_on (front r)) h
    ∙ ap goes_on (front_of (mark RightParenthesis) mid rest (omega arith) k)
list_goes_on (one ∷ list) ts mid rest h k =
    ap goes_on (front_of (flat_map (λ x. mark Comma ++ x) (one ∷ list)) ts mid (omega arith) h)

-- ---- the forms of arguments

abbrev given_words : Given → Words
given_words (in_order es) = listed (words_of_expressions (expressions_of es)) ++ mark RightParenthesis
given_words (by_name args) = listed (words_of_arguments (arguments_of args)) ++ mark RightParenthesis

abbrev given_good : Given → Bool
given_good (in_order es) = formed_expressions (expressions_of es)
given_good (by_name args) = some_arguments (arguments_of args) && formed_arguments (arguments_of args)

abbrev ordered_good : Given → Bool
ordered_good (in_order es) = some es && formed_expressions (expressions_of es)
ordered_good (by_name args) = given_good (by_name args)

ordered_given : (g : Given) → ordered_good g ≡ true → given_good g ≡ true
ordered_given (in_order es) h = (and_parts (some es) (formed_expressions (expressions_of es)) h).1
ordered_given (by_name args) h = h

abbrev given_depth : Given → ℕ
given_depth (in_order es) = expressions_depth (expressions_of es)
given_depth (by_name args) = arguments_depth (arguments_of args)

abbrev given_types : Given → List WrittenType
given_types (in_order es) = expressions_types (expressions_of es)
given_types (by_name args) = arguments_types (arguments_of args)

module _ (b : Bounds) (n : ℕ) where
  abbrev pub given_form : Form Given
  given_form = record {
    words = given_words;
    good = given_good;
    Fits = λ g. TreeFits b n (given_depth g) (given_types g);
    Passes = λ g l. TreePasses b n (given_depth g) (given_types g) l;
  }

  -- one argument or more, in order
  abbrev ordered_form : Form Given
  ordered_form = record {
    words = given_words;
    good = ordered_good;
    Fits = λ g. TreeFits b n (given_depth g) (given_types g);
    Passes = λ g l. TreePasses b n (given_depth g) (given_types g) l;
  }

  -- an argument by the name of its parameter
  abbrev labelled_form : Form (Placed Bytes × PlainExpression)
  labelled_form = pair_form name_form (behind_form (expression_form b n) (Sign FatArrow ∷ []))

  expressions_words : (es : List PlainExpression) → words_of_expressions (expressions_of es) ≡ map expression_words es
  expressions_words [] = refl
  expressions_words (e ∷ es) = ap (λ ws. expression_words e ∷ ws) (expressions_words es)

  arguments_words : (args : List (Placed Bytes × PlainExpression)) → words_of_arguments (arguments_of args)
      ≡ map labelled_form.words args
  arguments_words [] = refl
  arguments_words (a ∷ args) = ap (λ ws. labelled_form.words a ∷ ws) (arguments_words args)

  expressions_good : (es : List PlainExpression) → formed_expressions (expressions_of es)
      ≡ list_all formed_expression es
  expressions_good [] = refl
  expressions_good (e ∷ es) = ap (λ t. formed_expression e && t) (expressions_good es)

  arguments_good : (args : List (Placed Bytes × PlainExpression)) → formed_arguments (arguments_of args)
      ≡ list_all labelled_form.good args
  arguments_good [] = refl
  arguments_good (a ∷ args) = ap (λ t. formed_expression a.1 && t) (arguments_good args)

  named_good : (args : List (Placed Bytes × PlainExpression)) →
      (some_arguments (arguments_of args) && formed_arguments (arguments_of args))
      ≡ (some args && list_all labelled_form.good args)
  named_good [] = refl
  named_good (a ∷ args) = arguments_good (a ∷ args)

  expressions_fit : (es : List PlainExpression) → AllFit (expression_form b n) es →
      TreeFits b n (expressions_depth (expressions_of es)) (expressions_types (expressions_of es))
  expressions_fit [] h = (omega arith, tt)
  expressions_fit (e ∷ es) h =
      beside_fit b n (expression_depth e) (expressions_depth (expressions_of es)) (expression_types e)
      (expressions_types (expressions_of es)) h.0 (expressions_fit es h.1)

  expressions_pass : (es : List PlainExpression) (l : Limit) → OnePasses (expression_form b n) es l
      → TreePasses b n (expressions_depth (expressions_of es)) (expressions_types (expressions_of es)) l
  expressions_pass [] l p = absurd p
  expressions_pass (e ∷ es) l p =
      beside_passes b n (expression_depth e) (expressions_depth (expressions_of es)) (expression_types e)
      (expressions_types (expressions_of es)) l
      (elim p [ inl q ↦ inl q | inr q ↦ inr (expressions_pass es l q) ])

  arguments_fit : (args : List (Placed Bytes × PlainExpression)) → AllFit labelled_form args →
      TreeFits b n (arguments_depth (arguments_of args)) (arguments_types (arguments_of args))
  arguments_fit [] h = (omega arith, tt)
  arguments_fit (a ∷ args) h =
      beside_fit b n (expression_depth a.1) (arguments_depth (arguments_of args)) (expression_types a.1)
      (arguments_types (arguments_of args)) h.0.1 (arguments_fit args h.1)

  arguments_pass : (args : List (Placed Bytes × PlainExpression)) (l : Limit) → OnePasses labelled_form args l
      → TreePasses b n (arguments_depth (arguments_of args)) (arguments_types (arguments_of args)) l
  arguments_pass [] l p = absurd p
  arguments_pass (a ∷ args) l p =
      beside_passes b n (expression_depth a.1) (arguments_depth (arguments_of args)) (expression_types a.1)
      (arguments_types (arguments_of args)) l
      (elim p [ inl q ↦ elim q [ inl r ↦ absurd r | inr r ↦ inl r ] | inr q ↦ inr (arguments_pass args l q) ])

  -- ---- no arguments

  abbrev no_form : Form (Unit {0})
  no_form = light (λ (x : Unit {0}). fixed (Sign RightParenthesis ∷ []))

module _ (b : Bounds) (n : ℕ) (r q : List Token → Read PlainExpression)
    (inner : Reads (expression_form b n) ends_expression r) where
  -- behind a list of arguments no comma stands
  abbrev ends_list : Option What → Bool
  ends_list what = not (is_front (Sign Comma) what) && ends_expression what

  abbrev none_at : List Token → Read (Unit {0})
  none_at = exactly (Sign RightParenthesis ∷ [])

  none_reads : Reads (no_form b n) anything none_at
  none_reads = exactly_reads (Sign RightParenthesis ∷ [])

  none_shapes : Shapes (no_form b n) (given_form b n) anything none_at none_reads (none_given r q)
  none_shapes = record {
    words = λ x. refl;
    good_to = λ x g. refl;
    good_from = λ x g. refl;
    fits = λ x f. (omega arith, tt);
    passes = λ x l p. absurd p;
  }

  -- ---- in order

  abbrev order_form : Form (List PlainExpression)
  order_form = closed_form (separated_form (expression_form b n) (fixed (Sign Comma ∷ []))) (Sign RightParenthesis ∷ [])

  abbrev order_at : List Token → Read (List PlainExpression)
  order_at = closed (Sign RightParenthesis ∷ []) (listed_at r)

  order_reads : Reads order_form anything order_at
  order_reads =
      closed_reads (separated_form (expression_form b n) (fixed (Sign Comma ∷ []))) ends_list (listed_at r)
      (separated_reads (expression_form b n) ends_expression r inner (λ e good. expression_some e) (Sign Comma) refl)
      (Sign RightParenthesis) [] refl

  order_shapes : Shapes order_form (ordered_form b n) anything order_at order_reads in_order
  order_shapes = record {
    words = λ es. ap (λ ws. listed ws ++ mark RightParenthesis) (expressions_words b n es);
    good_to = λ es g. ap (λ t. some es && t) (expressions_good b n es) ∙ g;
    good_from = λ es g. sym (ap (λ t. some es && t) (expressions_good b n es)) ∙ g;
    fits = λ es f. expressions_fit b n es f;
    passes = λ es l p. expressions_pass b n es l p;
  }

  order_sound : (ts rest : List Token) (g : Given) → shaped in_order order_at ts ≡ Ok (g, rest) →
      Sound (given_form b n) g ts rest
  order_sound ts rest g e =
      let s = shaped_sound order_form (ordered_form b n) anything order_at order_reads in_order order_shapes
      ts rest g e in
      record { spelled = s.spelled; good = ordered_given g s.good; fits = s.fits }

  -- ---- by names

  abbrev names_form : Form (List (Placed Bytes × PlainExpression))
  names_form = closed_form (separated_form (labelled_form b n) (fixed (Sign Comma ∷ []))) (Sign RightParenthesis ∷ [])

  abbrev names_at : List Token → Read (List (Placed Bytes × PlainExpression))
  names_at = closed (Sign RightParenthesis ∷ []) (listed_at (labelled r q))

  label_reads : Reads (labelled_form b n) ends_expression (labelled r q)
  label_reads = pair_behind name_form (expression_form b n) anything ends_expression name_at name_reads r
      inner (Sign FatArrow) [] refl

  names_reads : Reads names_form anything names_at
  names_reads =
      closed_reads (separated_form (labelled_form b n) (fixed (Sign Comma ∷ []))) ends_list (listed_at (labelled r q))
      (separated_reads (labelled_form b n) ends_expression (labelled r q) label_reads (λ a good. omega arith)
      (Sign Comma) refl)
      (Sign RightParenthesis) [] refl

  names_shapes : Shapes names_form (given_form b n) anything names_at names_reads by_name
  names_shapes = record {
    words = λ args. ap (λ ws. listed ws ++ mark RightParenthesis) (arguments_words b n args);
    good_to = λ args g. named_good b n args ∙ g;
    good_from = λ args g. sym (named_good b n args) ∙ g;
    fits = λ args f. arguments_fit b n args f;
    passes = λ args l p. arguments_pass b n args l p;
  }

  -- ---- the arguments, by the first two tokens

  -- which row reads what can't be the name of an argument
  order_by : (first second : Option What) (ts : List Token) → plain_argument first second ≡ true →
      given_by r q first second ts ≡ shaped in_order order_at ts
  order_by (Some (Sign RightParenthesis)) second ts h = absurd cc
  order_by (Some (Name bytes)) (Some (Sign FatArrow)) ts h = absurd cc
  order_by (Some (Name bytes)) second ts h = cond-true (goes_on second) (ordered r q ts) (no (drop 1 ts)) h
  order_by first second ts h = refl

  name_take : (v : Bool) (ts rest : List Token) (g : Given) → cond v (ordered r q ts) (no (drop 1 ts)) ≡ Ok (g, rest) →
      Sound (given_form b n) g ts rest
  name_take true ts rest g e = order_sound ts rest g e
  name_take false ts rest g e = absurd cc

  given_take : (first second : Option What) (ts rest : List Token) (g : Given) → given_by r q first second ts
      ≡ Ok (g, rest) → Sound (given_form b n) g ts rest
  given_take (Some (Sign RightParenthesis)) second ts rest g e = shaped_sound (no_form b n) (given_form b n)
      anything none_at none_reads (none_given r q) none_shapes ts rest g e
  given_take (Some (Name bytes)) (Some (Sign FatArrow)) ts rest g e = shaped_sound names_form (given_form b n)
      anything names_at names_reads by_name names_shapes ts rest g e
  given_take (Some (Name bytes)) second ts rest g e = name_take (goes_on second) ts rest g e
  given_take first second ts rest g e = order_sound ts rest g e

  order_plain : (e : PlainExpression) (es : List PlainExpression) (ts rest : List Token) →
      Begins (given_words (in_order (e ∷ es))) ts rest → formed_expressions (expressions_of (e ∷ es)) ≡ true
      → plain_argument (front ts) (front (drop 1 ts)) ≡ true
  order_plain e es ts rest h good =
      let list : List Words = words_of_expressions (expressions_of es) in
      let others : Words = flat_map (λ one. mark Comma ++ one) list in
      let outer = begins_split (expression_words e ++ others) (mark RightParenthesis) ts rest h in
      let inside = begins_split (expression_words e) others ts outer.0 outer.1 in
      let next : goes_on (front inside.0) ≡ true = list_goes_on list inside.0 outer.0 rest inside.2 outer.2 in
      begins_plain e ts inside.0 inside.1
      (and_parts (formed_expression e) (formed_expressions (expressions_of es)) good).0 next

  given_found : (g : Given) (ts rest : List Token) → Begins (given_words g) ts rest → given_good g ≡ true →
      Finds (given_form b n) g rest (given_at r q ts)
  given_found (in_order []) ts rest h good =
      subst (Finds (given_form b n) (in_order []) rest)
      (sym (ap (λ w. given_by r q w (front (drop 1 ts)) ts)
      (front_of (fixed (Sign RightParenthesis ∷ [])) ts rest (omega arith) h)))
      (shaped_found (no_form b n) (given_form b n) anything none_at none_reads (none_given r q) none_shapes tt
      ts rest h refl refl)
  given_found (in_order (e ∷ es)) ts rest h good =
      let plain : plain_argument (front ts) (front (drop 1 ts)) ≡ true = order_plain e es ts rest h good in
      subst (Finds (given_form b n) (in_order (e ∷ es)) rest) (sym (order_by (front ts) (front (drop 1 ts)) ts plain))
      (shaped_found order_form (ordered_form b n) anything order_at order_reads in_order order_shapes (e ∷ es)
      ts rest h good refl)
  given_found (by_name []) ts rest h good = absurd (let wrong = good in cc)
  given_found (by_name (a ∷ args)) ts rest h good =
      let ws : Words = given_words (by_name (a ∷ args)) in
      let first : front ts ≡ Some (Name a.0.name) = front_of ws ts rest (omega arith) h in
      let second : front (drop 1 ts) ≡ Some (Sign FatArrow) = second_is ws ts rest (omega arith) h in
      subst (Finds (given_form b n) (by_name (a ∷ args)) rest)
      (sym (ap (λ w. given_by r q w (front (drop 1 ts)) ts) first
      ∙ ap (λ w. given_by r q (Some (Name a.0.name)) w ts) second))
      (shaped_found names_form (given_form b n) anything names_at names_reads by_name names_shapes (a ∷ args)
      ts rest h good refl)

  pub given_reads : Reads (given_form b n) anything (given_at r q)
  given_reads = record {
    sound = λ ts rest g e. given_take (front ts) (front (drop 1 ts)) ts rest g e;
    found = λ g ts rest h good ended. given_found g ts rest h good;
  }

  -- ---- calls

  call_words : (at : Pos) (name : Placed Bytes) (g : Given) → expression_words (call_by at name g)
      ≡ begun at (name_words name ++ (fixed (Sign LeftParenthesis ∷ []) ++ given_words g))
  call_words at name (in_order es) = refl
  call_words at name (by_name args) = refl

  call_good : (at : Pos) (name : Placed Bytes) (g : Given) →
      (is_call (call_by at name g) && formed_expression (call_by at name g)) ≡ given_good g
  call_good at name (in_order es) = refl
  call_good at name (by_name args) = refl

  call_fits : (at : Pos) (name : Placed Bytes) (g : Given) → (given_form b n).Fits g →
      (call_form b (suc n)).Fits (call_by at name g)
  call_fits at name (in_order es) h = one_fits b n (expressions_depth (expressions_of es))
      (expressions_types (expressions_of es)) h
  call_fits at name (by_name args) h = one_fits b n (arguments_depth (arguments_of args))
      (arguments_types (arguments_of args)) h

  call_passes : (at : Pos) (name : Placed Bytes) (g : Given) (l : Limit) → (given_form b n).Passes g l →
      (call_form b (suc n)).Passes (call_by at name g) l
  call_passes at name (in_order es) l p = one_passes b n (expressions_depth (expressions_of es))
      (expressions_types (expressions_of es)) l p
  call_passes at name (by_name args) l p = one_passes b n (arguments_depth (arguments_of args))
      (arguments_types (arguments_of args)) l p

  abbrev call_parts : List Token → Read (Placed Bytes × Given)
  call_parts = pair name_at (behind_tokens (Sign LeftParenthesis ∷ []) (given_at r q))

  call_row : Row (call_form b (suc n)) anything call_of call_parts
  call_row = row (pair_form name_form (behind_form (given_form b n) (Sign LeftParenthesis ∷ [])))
      (call_form b (suc n)) anything call_parts
      (pair_behind name_form (given_form b n) anything anything name_at name_reads (given_at r q) given_reads
      (Sign LeftParenthesis) [] refl) call_of (record {
        words = λ at x. call_words at x.0 x.1;
        some = λ x. omega arith;
        good_to = λ at x g. call_good at x.0 x.1 ∙ g;
        good_from = λ at x g. sym (call_good at x.0 x.1) ∙ g;
        fits = λ at x f. call_fits at x.0 x.1 f.1;
        passes = λ at x l p. elim p [ inl p0 ↦ absurd p0 | inr p1 ↦ call_passes at x.0 x.1 l p1 ];
      })

  call_found : (e : PlainExpression) (ts rest : List Token) → Begins (expression_words e) ts rest →
      (is_call e && formed_expression e) ≡ true
      → Finds (call_form b (suc n)) e rest (built call_of call_parts ts)
  call_found (call node name args note) ts rest =
      subst (λ es. Begins (expression_words (call node name es note)) ts rest →
      (true && formed_expressions es) ≡ true → Finds (call_form b (suc n)) (call node name es note) rest
      (built call_of call_parts ts))
      (expressions_again args)
      (λ h good. call_row.found node.at (name, in_order (list_of args)) ts rest h good refl)
  call_found (named_call node name args note) ts rest =
      subst (λ es. Begins (expression_words (named_call node name es note)) ts rest →
      (true && (some_arguments es && formed_arguments es)) ≡ true
      → Finds (call_form b (suc n)) (named_call node name es note) rest (built call_of call_parts ts))
      (arguments_again args)
      (λ h good. call_row.found node.at (name, by_name (pairs_of args)) ts rest h good refl)
  call_found e ts rest = λ h good. absurd (let wrong = good in cc)

  -- the laws of calls where one level more is left
  pub call_with_reads : Reads (call_form b (suc n)) anything (call_with r q)
  unfolding call_with
  call_with_reads = record {
    sound = λ ts rest e is. call_row.sound ts rest e is;
    found = λ e ts rest h good ended. call_found e ts rest h good;
  }
