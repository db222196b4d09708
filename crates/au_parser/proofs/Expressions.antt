-- What is told of the readers of expressions.
use Rattle.std.proofs.Common.{◌≡◌, ℕ, suc, ◌<◌, nat_le, Bool, true, false, ◌&&◌, List, [], ◌∷◌, ◌++◌, length}
use Rattle.std.proofs.Common.{Option, Some, None, Ok, refl, sym, ap, ◌∙◌, subst, arith, ◌+◌, ◌≤◌, inl, inr}
use Rattle.std.proofs.Common.{cond, append_assoc}
use Rattle.std.proofs.lemmas.Bool.{and_parts, leb-true, leb-false, le-leb, lt-leb}
use Rattle.std.proofs.lemmas.List.{append-nil}
use Rattle.au_base.specs.declared.places.Pos.{Pos}
use Rattle.au_base.specs.declared.tokens.Keyword.TheVariants.{KwIf, KwThen, KwElse, KwNot, KwNil}
use Rattle.au_base.specs.declared.tokens.Sign.TheVariants.{Colon}
use Rattle.au_base.specs.declared.tokens.Token.{Token}
use Rattle.au_base.specs.declared.tokens.What.{What}
use Rattle.au_base.specs.declared.tokens.What.TheVariants.{Word, Sign, Name}
use Rattle.au_syntax.specs.declared.expressions.BinaryOperator.{BinaryOperator}
use Rattle.au_syntax.specs.Depths.{expression_depth}
use Rattle.au_syntax.specs.Expressions.{binary, typed}
use Rattle.au_syntax.specs.Forms.{is_atom, formed_expression}
use Rattle.au_syntax.specs.Plain.{Bytes, PlainExpression}
use Rattle.au_syntax.specs.Types.{WrittenType}
use Rattle.au_syntax.specs.Expressions as tree
use Rattle.au_syntax.specs.Words.{Printed}
use Rattle.au_read_expressions.specs.Spelling.{fixed}
use Rattle.au_parser.specs.Measures.{Measured, Measures, begun, rooted, inside, at_level, written}
use Rattle.au_parser.specs.Measures.{expression_measures}
use Rattle.au_parser.specs.Passing.{passed_by, Keep, PassBehind, of_nesting}
use Rattle.au_read_expressions.specs.declared.faults.Fault.TheVariants.{Passed}
use Rattle.au_read_expressions.specs.Bounds.{Bounds, nesting_limit}
use Rattle.au_read_expressions.specs.Reading.{Read, ◌>>=◌, place_of, same_what, behind_tokens, pair, built}
use Rattle.au_read_expressions.specs.TypeReading.{type_at}
use Rattle.au_read_expressions.specs.ExpressionReading.{operator_of, site, negation_of, choice_of, atom_with}
use Rattle.au_read_expressions.specs.ExpressionReading.{choice_with, continued, continued_by, binary_of}
use Rattle.au_read_expressions.specs.ExpressionReading.{typed_of, expression_by, expression_with}
use Rattle.au_read_expressions.proofs.Steps.{same_is}
use Rattle.au_read_expressions.proofs.ExpressionForm.{good_binary, operator_what, operator_fixed}
use Rattle.au_read_expressions.proofs.ExpressionForm.{operator_back}
use Rattle.au_parser.proofs.Told.{Passing, AreMeasured, Kind, Is, Stopped, Tells, Past, Alike, Agrees}
use Rattle.au_parser.proofs.Told.{Honest, Carries, Extends, fault_of, are_join, begun_are, built_tells}
use Rattle.au_parser.proofs.Told.{bind_tells, past_more, tells_past, bind_past, past_alike, bind_alike}
use Rattle.au_parser.proofs.Told.{built_alike, keep_join, keep_begun, pass_join, pass_begun, pass_more}
use Rattle.au_parser.proofs.Told.{agree_same, agrees_empty, agrees_is, agrees_longer, bind_agrees}
use Rattle.au_parser.proofs.Told.{built_agrees, built_extends, tells_good, tells_cut}
use Rattle.au_parser.proofs.Ways.{honest_past, behind_kind, pair_kind, behind_honest, pair_honest}
use Rattle.au_parser.proofs.Ways.{built_honest}
use Rattle.au_parser.proofs.Turns.{turned, turned_honest}
use Rattle.au_parser.proofs.FirstTokens.{First, first_honest, or_passed_past, or_passed_alike}
use Rattle.au_parser.proofs.TypeReaders.{type_kind, type_example, type_honest}
use Rattle.au_parser.proofs.Levels.{tests, passing, inside_turns, node_turns}
use Rattle.au_parser.proofs.ExpressionKinds.{expression_kind, atom_kind, inner_kind, inner_atom}
use Rattle.au_parser.proofs.ExpressionKinds.{expression_example, expression_head, level_one}
use Rattle.au_parser.proofs.Arguments.{Left}
use Rattle.au_parser.proofs.Atoms.{atom_with_honest, atom_with_takes}

choice_good : (x y z : Bool) → (x && y && z) ≡ (x && (y && z))
choice_good true y z = refl
choice_good false y z = refl

-- the place of tokens of which some are in front
place_same : (us x y : List Token) → 0 < length us → place_of (us ++ x) ≡ place_of (us ++ y)
place_same [] x y h = absurd (let wrong : ⊥ = omega (arith, h) in wrong)
place_same (t ∷ us) x y h = refl

some_first : (m : Measured) (a : Measures) (us : List Token) → First m a → AreMeasured a us → 0 < length us
some_first m [] us h are = absurd h
some_first m (w ∷ a) [] h are = absurd are
some_first m (w ∷ a) (u ∷ us) h are = omega arith

atom_long : (a : PlainExpression) (us : List Token) → Is atom_kind a us → 0 < length us
atom_long a us h = some_first level_one (expression_measures a) us (expression_head a) h.words

pub atom_is : (a : PlainExpression) (us : List Token) → Is atom_kind a us → Is expression_kind a us
atom_is a us h = record { words = h.words; good = (and_parts (is_atom a) (formed_expression a) h.good).1 }

what_same : (t : Token) (w : What) → Some t.what ≡ Some w → t.what ≡ w
what_same t w e = cc

-- words at the place of tokens of which these are in front
at_place : (a : Measures) (ts us rest : List Token) → ts ≡ us ++ rest → AreMeasured a us →
    AreMeasured (begun (place_of ts) a) us
at_place a ts us rest same are =
    subst (λ vs. AreMeasured (begun (place_of vs) a) us) (sym same) (begun_are a us rest are)

begun_more : (at : Pos) (m : Measured) (a c : Measures) → First m a → begun at (a ++ c) ≡ begun at a ++ c
begun_more at m [] c h = absurd h
begun_more at m (w ∷ a) c h = refl

-- ---- an operand and the token behind it

-- an atom, and a token that tells that it is an operand
abbrev operand : PlainExpression → What → Measures
operand a w = expression_measures a ++ at_level (1 + expression_depth a) (fixed (w ∷ []))

operand_head : (a : PlainExpression) (w : What) → First level_one (operand a w)
operand_head a w = head_join (expression_measures a) (at_level (1 + expression_depth a) (fixed (w ∷ []))) (expression_head a)
  where
    head_join : (x y : Measures) → First level_one x → First level_one (x ++ y)
    head_join [] y h = absurd h
    head_join (v ∷ x) y h = h

operand_are : (a : PlainExpression) (w : What) (us : List Token) (t : Token) → Is atom_kind a us → t.what ≡ w →
    AreMeasured (operand a w) (us ++ t ∷ [])
operand_are a w us t is e =
    are_join (expression_measures a) (at_level (1 + expression_depth a) (fixed (w ∷ []))) us (t ∷ []) is.words
    ((e, tt), tt)

binary_line : (at : Pos) (op : BinaryOperator) (a z : PlainExpression) → expression_measures (binary (site at) op a z)
    ≡ begun at (operand a (operator_what op)) ++ inside (expression_measures z)
binary_line at op a z =
    ap (λ ws. begun at ((expression_measures a ++ at_level (1 + expression_depth a) ws) ++ inside (expression_measures z)))
    (operator_fixed op)
    ∙ begun_more at level_one (operand a (operator_what op)) (inside (expression_measures z))
    (operand_head a (operator_what op))

typed_line : (at : Pos) (a : PlainExpression) (of : WrittenType) → expression_measures (typed (site at) a of)
    ≡ begun at (operand a (Sign Colon)) ++ written of
typed_line at a of = begun_more at level_one (operand a (Sign Colon)) (written of) (operand_head a (Sign Colon))

-- what an operand passes where so many levels are left
module _ (b : Bounds) (n : ℕ) where
  level_test : (l : ℕ) (w : Printed) → passed_by b n (record { word = w; level = l; depth = 0; nodes = 0; bytes = 0; before = 0 })
      ≡ tests 0 (nat_le l n) true true true
  level_test l w =
      ap (λ v. tests 0 (nat_le l n) v (nat_le 0 b.nodes) (nat_le 0 b.bytes)) (le-leb 0 b.depth (omega arith))
      ∙ ap (λ v. tests 0 (nat_le l n) true v (nat_le 0 b.bytes)) (le-leb 0 b.nodes (omega arith))
      ∙ ap (λ v. tests 0 (nat_le l n) true true v) (le-leb 0 b.bytes (omega arith))

  pub level_keeps : (l : ℕ) (w : Printed) → l ≤ n →
      passed_by b n (record { word = w; level = l; depth = 0; nodes = 0; bytes = 0; before = 0 }) ≡ None
  level_keeps l w h = level_test l w ∙ ap (λ v. tests 0 v true true true) (le-leb l n h)

  pub level_passes : (l : ℕ) (w : Printed) → n < l →
      passed_by b n (record { word = w; level = l; depth = 0; nodes = 0; bytes = 0; before = 0 }) ≡ Some of_nesting
  level_passes l w h = level_test l w ∙ ap (λ v. tests 0 v true true true) (lt-leb l n h)

module _ (b : Bounds) (n : ℕ) (r q : List Token → Read PlainExpression) (nested : Honest (passing b n) expression_kind r)
    (nested_atoms : Honest (passing b n) atom_kind q)
    (takes : (t : Token) (ts : List Token) (bytes : Bytes) → t.what ≡ Name bytes → Past (length ts) (r (t ∷ ts)))
    (left : Left b n r) where
  abbrev P : Passing
  P = passing b (suc n)

  inner : Honest P inner_kind r
  inner = turned_honest (passing b n) P inside (inside_turns b n) expression_kind r nested

  atoms : Honest P inner_atom q
  atoms = turned_honest (passing b n) P inside (inside_turns b n) atom_kind q nested_atoms

  level : Honest P atom_kind (atom_with r q)
  level = atom_with_honest b n r q nested nested_atoms takes left

  negation_row : Honest P expression_kind (built negation_of (behind_tokens (Word KwNot ∷ []) q))
  negation_row = built_honest P (turned rooted (behind_kind inner_atom (Word KwNot ∷ []))) expression_kind
      (behind_tokens (Word KwNot ∷ []) q)
      (turned_honest P P rooted (node_turns b n) (behind_kind inner_atom (Word KwNot ∷ []))
      (behind_tokens (Word KwNot ∷ []) q) (behind_honest P inner_atom (Word KwNot ∷ []) q atoms)) negation_of
      (record { words = λ at e. refl; good = λ at e g. g })

  abbrev ways_kind : Kind (PlainExpression × PlainExpression)
  ways_kind = pair_kind inner_kind (behind_kind inner_kind (Word KwElse ∷ []))

  abbrev ways_at : List Token → Read (PlainExpression × PlainExpression)
  ways_at = pair r (behind_tokens (Word KwElse ∷ []) r)

  ways_honest : Honest P ways_kind ways_at
  ways_honest = pair_honest P inner_kind (behind_kind inner_kind (Word KwElse ∷ [])) r inner
      (behind_tokens (Word KwElse ∷ []) r) (behind_honest P inner_kind (Word KwElse ∷ []) r inner)

  abbrev choice_kind : Kind (PlainExpression × (PlainExpression × PlainExpression))
  choice_kind = behind_kind (pair_kind inner_kind (behind_kind ways_kind (Word KwThen ∷ []))) (Word KwIf ∷ [])

  abbrev choice_at : List Token → Read (PlainExpression × (PlainExpression × PlainExpression))
  choice_at = behind_tokens (Word KwIf ∷ []) (pair r (behind_tokens (Word KwThen ∷ []) ways_at))

  choice_row : Honest P expression_kind (choice_with r q)
  unfolding choice_with
  choice_row =
      built_honest P (turned rooted choice_kind) expression_kind choice_at
      (turned_honest P P rooted (node_turns b n) choice_kind choice_at
      (behind_honest P (pair_kind inner_kind (behind_kind ways_kind (Word KwThen ∷ []))) (Word KwIf ∷ [])
      (pair r (behind_tokens (Word KwThen ∷ []) ways_at))
      (pair_honest P inner_kind (behind_kind ways_kind (Word KwThen ∷ [])) r inner
      (behind_tokens (Word KwThen ∷ []) ways_at) (behind_honest P ways_kind (Word KwThen ∷ []) ways_at ways_honest))))
      choice_of
      (record {
        words = λ at x. refl;
        good = λ at x g. choice_good (formed_expression x.0) (formed_expression x.1.0) (formed_expression x.1.1) ∙ g;
      })

  -- ---- an atom and what stands behind it

  operand_keeps : (at : Pos) (a : PlainExpression) (w : What) → Keep P.of (expression_measures a) →
      expression_depth a ≤ n → Keep P.of (begun at (operand a w))
  operand_keeps at a w keep few =
      keep_begun P at (operand a w) (keep_join P.of (expression_measures a)
      (at_level (1 + expression_depth a) (fixed (w ∷ []))) keep
      (level_keeps b (suc n) (1 + expression_depth a) (record { what = w; places = [] }) (omega (arith, few)), tt))

  -- an atom that goes on may pass the limit at the token that continues it
  operand_stops : (z : PlainExpression) (more : Measures) (others : List Token) (a : PlainExpression) (w : What)
      (ts us rest : List Token) (t : Token) → ts ≡ us ++ t ∷ rest →
      Is atom_kind a us → Keep P.of (expression_measures a) → t.what ≡ w → n < expression_depth a →
      expression_measures z ≡ begun (place_of ts) (operand a w) ++ more → formed_expression z ≡ true →
      AreMeasured more others → Stopped P expression_kind ts (nesting_limit b) (length (t ∷ rest))
  operand_stops z more others a w ts us rest t same is keep e deep line good are = record {
    front = us;
    last = t;
    back = rest;
    same = same;
    what = of_nesting;
    told = refl;
    rest = others;
    tree = z;
    is = record {
      words = subst (λ ws. AreMeasured ws (us ++ t ∷ others)) (sym line)
          (subst (AreMeasured (begun (place_of ts) (operand a w) ++ more)) (append_assoc us (t ∷ []) others)
          (are_join (begun (place_of ts) (operand a w)) more (us ++ t ∷ []) others
          (at_place (operand a w) ts (us ++ t ∷ []) rest (same ∙ sym (append_assoc us (t ∷ []) rest))
          (operand_are a w us t is e)) are));
      good = good;
    };
    passes = subst (PassBehind P.of of_nesting us) (sym line)
        (pass_more P.of of_nesting us (begun (place_of ts) (operand a w)) more
        (pass_begun P (place_of ts) of_nesting us (operand a w) (subst (λ vs. PassBehind P.of of_nesting vs (operand a w))
        (append-nil us) (pass_join P.of of_nesting (expression_measures a)
        (at_level (1 + expression_depth a) (fixed (w ∷ []))) us [] is.words keep
        (level_passes b (suc n) (1 + expression_depth a) (record { what = w; places = [] }) (omega (arith, deep)))))));
  }

  abbrev nil_tokens : List Token
  nil_tokens = record { what = Word KwNil; at = record { file = 0; line = 0; column = 0 } } ∷ []

  abbrev nil_tree : PlainExpression
  nil_tree = tree.nil (site (record { file = 0; line = 0; column = 0 }))

  -- where what stands behind an operand is read, unless the operand is too deep
  deep_tells : (ts rest : List Token) (t : Token) (a : PlainExpression) (read : Read PlainExpression)
      → (expression_depth a ≤ n → Tells P expression_kind ts read)
      → (n < expression_depth a → Stopped P expression_kind ts (nesting_limit b) (length (t ∷ rest)))
      → (v : Bool) → nat_le (expression_depth a) n ≡ v
      → Tells P expression_kind ts (cond v read (fault_of (Passed (nesting_limit b) (length (t ∷ rest)))))
  deep_tells ts rest t a read on stop true e = on (leb-true (expression_depth a) n e)
  deep_tells ts rest t a read on stop false e = stop (leb-false (expression_depth a) n e)

  binary_carries : (at : Pos) (op : BinaryOperator) (a : PlainExpression) (us : List Token) → Is atom_kind a us →
      Carries inner_atom expression_kind (begun at (operand a (operator_what op))) (λ z. binary (site at) op a z)
  binary_carries at op a us is = record {
    words = λ z g. binary_line at op a z;
    good = λ z g. good_binary a z is.good g;
  }

  typed_carries : (at : Pos) (a : PlainExpression) (us : List Token) → Is atom_kind a us →
      Carries type_kind expression_kind (begun at (operand a (Sign Colon))) (λ of. typed (site at) a of)
  typed_carries at a us is = record { words = λ of g. typed_line at a of; good = λ of g. is.good }

  operator_is : (t : Token) (op : BinaryOperator) → operator_of (Some t.what) ≡ Some op → t.what ≡ operator_what op
  operator_is t op e = what_same t (operator_what op) (operator_back (Some t.what) op e)

  goes_tells : (a : PlainExpression) (ts us : List Token) (t : Token) (rest : List Token) → ts ≡ us ++ t ∷ rest →
      Is atom_kind a us → Keep P.of (expression_measures a) → (o : Option BinaryOperator) (v : Bool) →
      operator_of (Some t.what) ≡ o
      → same_what t.what (Sign Colon) ≡ v
      → Tells P expression_kind ts (continued_by r q b n o v (place_of ts) (a, t ∷ rest))
  goes_tells a ts us t rest same is keep (Some op) v oe ve =
      let e = operator_is t op oe in
      let next = same ∙ sym (append_assoc us (t ∷ []) rest) in
      deep_tells ts rest t a (q rest >>= binary_of r q b n (place_of ts) op a)
      (λ few. built_tells P inner_atom expression_kind (us ++ t ∷ []) ts rest next
      (begun (place_of ts) (operand a (operator_what op)))
      (at_place (operand a (operator_what op)) ts (us ++ t ∷ []) rest next (operand_are a (operator_what op) us t is e))
      (operand_keeps (place_of ts) a (operator_what op) keep few)
      (λ z. binary (site (place_of ts)) op a z) (binary_carries (place_of ts) op a us is) (q rest) (atoms.tells rest))
      (λ deep. operand_stops (binary (site (place_of ts)) op a nil_tree) (inside (expression_measures nil_tree)) nil_tokens
      a (operator_what op) ts us rest t same is keep e deep (binary_line (place_of ts) op a nil_tree)
      (good_binary a nil_tree is.good refl) ((refl, (refl, tt)), tt))
      (nat_le (expression_depth a) n) refl
  goes_tells a ts us t rest same is keep None true oe ve =
      let e = same_is t.what (Sign Colon) ve in
      let next = same ∙ sym (append_assoc us (t ∷ []) rest) in
      deep_tells ts rest t a (type_at b rest >>= typed_of r q b n (place_of ts) a)
      (λ few. built_tells P type_kind expression_kind (us ++ t ∷ []) ts rest next
      (begun (place_of ts) (operand a (Sign Colon)))
      (at_place (operand a (Sign Colon)) ts (us ++ t ∷ []) rest next (operand_are a (Sign Colon) us t is e))
      (operand_keeps (place_of ts) a (Sign Colon) keep few)
      (λ of. typed (site (place_of ts)) a of) (typed_carries (place_of ts) a us is) (type_at b rest)
      ((type_honest b (suc n)).tells rest))
      (λ deep. operand_stops (typed (site (place_of ts)) a type_example.tree) (written type_example.tree)
      type_example.tokens
      a (Sign Colon) ts us rest t same is keep e deep (typed_line (place_of ts) a type_example.tree)
      is.good type_example.is.words)
      (nat_le (expression_depth a) n) refl
  goes_tells a ts us t rest same is keep None false oe ve = record
      { front = us; same = same; is = atom_is a us is; keeps = keep }

  continued_tells : (a : PlainExpression) (ts us rest : List Token) → ts ≡ us ++ rest → Is atom_kind a us →
      Keep P.of (expression_measures a) → Tells P expression_kind ts (continued r q b n (place_of ts) (a, rest))
  continued_tells a ts us [] same is keep = record { front = us; same = same; is = atom_is a us is; keeps = keep }
  continued_tells a ts us (t ∷ rest) same is keep =
      goes_tells a ts us t rest same is keep (operator_of (Some t.what)) (same_what t.what (Sign Colon)) refl refl

  goes_past : (at : Pos) (a : PlainExpression) (t : Token) (rest : List Token) (o : Option BinaryOperator) (v : Bool) →
      Past (suc (length rest)) (continued_by r q b n o v at (a, t ∷ rest))
  goes_past at a t rest (Some op) v =
      or_passed_past (suc (length rest)) (suc (length rest)) (nesting_limit b) (q rest >>= binary_of r q b n at op a)
      (past_more (length rest) (suc (length rest)) (q rest >>= binary_of r q b n at op a) (omega arith)
      (bind_past (length rest) (binary_of r q b n at op a) (λ y. omega arith) (q rest)
      (honest_past P inner_atom q atoms rest)))
      (nat_le (expression_depth a) n)
  goes_past at a t rest None true =
      or_passed_past (suc (length rest)) (suc (length rest)) (nesting_limit b)
      (type_at b rest >>= typed_of r q b n at a)
      (past_more (length rest) (suc (length rest)) (type_at b rest >>= typed_of r q b n at a) (omega arith)
      (bind_past (length rest) (typed_of r q b n at a) (λ y. omega arith) (type_at b rest)
      (honest_past P type_kind (type_at b) (type_honest b (suc n)) rest)))
      (nat_le (expression_depth a) n)
  goes_past at a t rest None false = omega arith

  past_of : (at : Pos) (a : PlainExpression) (rest : List Token) → Past (length rest) (continued r q b n at (a, rest))
  past_of at a [] = omega arith
  past_of at a (t ∷ rest) = goes_past at a t rest (operator_of (Some t.what)) (same_what t.what (Sign Colon))

  continued_past : (at : Pos) (x : PlainExpression × List Token) → Past (length x.1) (continued r q b n at x)
  continued_past at x = past_of at x.0 x.1

  goes_alike : (at : Pos) (a : PlainExpression) (t : Token) (p c d : List Token) (o : Option BinaryOperator)
      (v : Bool) →
      Alike c d (continued_by r q b n o v at (a, t ∷ p ++ c)) (continued_by r q b n o v at (a, t ∷ p ++ d))
  goes_alike at a t p c d (Some op) v =
      or_passed_alike c d (nesting_limit b) (nesting_limit b) (suc (length (p ++ c))) (suc (length (p ++ d)))
      (q (p ++ c) >>= binary_of r q b n at op a) (q (p ++ d) >>= binary_of r q b n at op a)
      (built_alike c d (λ z. binary (site at) op a z) (q (p ++ c)) (q (p ++ d)) (atoms.alike p c d))
      (nat_le (expression_depth a) n)
  goes_alike at a t p c d None true =
      or_passed_alike c d (nesting_limit b) (nesting_limit b) (suc (length (p ++ c))) (suc (length (p ++ d)))
      (type_at b (p ++ c) >>= typed_of r q b n at a) (type_at b (p ++ d) >>= typed_of r q b n at a)
      (built_alike c d (λ of. typed (site at) a of) (type_at b (p ++ c)) (type_at b (p ++ d))
      ((type_honest b (suc n)).alike p c d))
      (nat_le (expression_depth a) n)
  goes_alike at a t p c d None false = inr (record { between = t ∷ p; same = refl; there = refl })

  continued_alike : (at : Pos) (a : PlainExpression) (p c d : List Token) →
      Alike c d (continued r q b n at (a, p ++ c)) (continued r q b n at (a, p ++ d))
  continued_alike at a [] c d = past_alike c d (continued r q b n at (a, d)) (continued r q b n at (a, c))
      (past_of at a c)
  continued_alike at a (t ∷ p) c d = goes_alike at a t p c d (operator_of (Some t.what)) (same_what t.what (Sign Colon))

  -- ---- what is known of limits

  or_agrees : (p c : List Token) (x y : Read PlainExpression) (m k : ℕ) → Agrees expression_kind p c x y → (v : Bool) →
      Agrees expression_kind p c (cond v x (fault_of (Passed (nesting_limit b) m)))
      (cond v y (fault_of (Passed (nesting_limit b) k)))
  or_agrees p c x y m k h true = h
  or_agrees p c x y m k h false = tt

  or_extends : (u : Measures) (x : Read PlainExpression) (m : ℕ) (z : PlainExpression × List Token)
      → (x ≡ Ok z → Extends u (expression_measures z.0)) → (v : Bool)
      → cond v x (fault_of (Passed (nesting_limit b) m)) ≡ Ok z → Extends u (expression_measures z.0)
  or_extends u x m z on true e = on e
  or_extends u x m z on false e = absurd (let wrong = e in cc)

  operand_extends : (at : Pos) (a : PlainExpression) (w : What) (more line : Measures)
      → line ≡ begun at (operand a w) ++ more → Extends (expression_measures a) line
  operand_extends at a w more line e = (
    at_level (1 + expression_depth a) (fixed (w ∷ [])) ++ more,
    inr (
      at,
      e ∙ sym (begun_more at level_one (operand a w) more (operand_head a w))
          ∙ ap (begun at) (append_assoc (expression_measures a) (at_level (1 + expression_depth a) (fixed (w ∷ []))) more),
    ),
  )

  binary_extends : (at : Pos) (op : BinaryOperator) (a : PlainExpression) (x : Read PlainExpression)
      (z : PlainExpression × List Token) → (x >>= binary_of r q b n at op a) ≡ Ok z →
      Extends (expression_measures a) (expression_measures z.0)
  binary_extends at op a x z e = built_extends expression_kind expression_kind (expression_measures a)
      (λ y. binary (site at) op a y) (λ y. operand_extends at a (operator_what op) (inside (expression_measures y))
      (expression_measures (binary (site at) op a y)) (binary_line at op a y)) x z e

  typed_extends : (at : Pos) (a : PlainExpression) (x : Read WrittenType)
      (z : PlainExpression × List Token) → (x >>= typed_of r q b n at a) ≡ Ok z →
      Extends (expression_measures a) (expression_measures z.0)
  typed_extends at a x z e = built_extends type_kind expression_kind (expression_measures a)
      (λ of. typed (site at) a of) (λ of. operand_extends at a (Sign Colon) (written of)
      (expression_measures (typed (site at) a of)) (typed_line at a of)) x z e

  alone_extends : (a : PlainExpression) (rest : List Token) (z : PlainExpression × List Token) →
      Rattle.au_read_expressions.specs.Reading.read_of a rest ≡ Ok z → Extends (expression_measures a) (expression_measures z.0)
  alone_extends a rest z e =
      let same : a ≡ z.0 = cc in
      subst (λ y. Extends (expression_measures a) (expression_measures y)) same
      ([], inl (sym (append-nil (expression_measures a))))

  goes_extends : (at : Pos) (a : PlainExpression) (t : Token) (rest : List Token) (o : Option BinaryOperator) (v : Bool)
      (z : PlainExpression × List Token) → continued_by r q b n o v at (a, t ∷ rest) ≡ Ok z →
      Extends (expression_measures a) (expression_measures z.0)
  goes_extends at a t rest (Some op) v z e =
      or_extends (expression_measures a) (q rest >>= binary_of r q b n at op a) (suc (length rest)) z
      (binary_extends at op a (q rest) z) (nat_le (expression_depth a) n) e
  goes_extends at a t rest None true z e =
      or_extends (expression_measures a) (type_at b rest >>= typed_of r q b n at a) (suc (length rest)) z
      (typed_extends at a (type_at b rest) z) (nat_le (expression_depth a) n) e
  goes_extends at a t rest None false z e = alone_extends a (t ∷ rest) z e

  extends_of : (at : Pos) (a : PlainExpression) (rest : List Token) (z : PlainExpression × List Token) →
      continued r q b n at (a, rest) ≡ Ok z → Extends (expression_measures a) (expression_measures z.0)
  extends_of at a [] z e = alone_extends a [] z e
  extends_of at a (t ∷ rest) z e =
      goes_extends at a t rest (operator_of (Some t.what)) (same_what t.what (Sign Colon)) z e

  goes_agree : (at : Pos) (a : PlainExpression) (all us : List Token) (t : Token) (p c d : List Token) →
      all ≡ us ++ t ∷ p → Is atom_kind a us → at ≡ place_of all → (o : Option BinaryOperator) (v : Bool) →
      operator_of (Some t.what) ≡ o → same_what t.what (Sign Colon) ≡ v →
      Agrees expression_kind all c (continued_by r q b n o v at (a, t ∷ p ++ c))
      (continued_by r q b n o v at (a, t ∷ p ++ d))
  goes_agree at a all us t p c d same is place (Some op) v oe ve =
      let next = same ∙ sym (append_assoc us (t ∷ []) p) in
      or_agrees all c (q (p ++ c) >>= binary_of r q b n at op a) (q (p ++ d) >>= binary_of r q b n at op a)
      (suc (length (p ++ c))) (suc (length (p ++ d)))
      (built_agrees inner_atom expression_kind (us ++ t ∷ []) p all c next (begun at (operand a (operator_what op)))
      (subst (λ s. AreMeasured (begun s (operand a (operator_what op))) (us ++ t ∷ [])) (sym place)
      (at_place (operand a (operator_what op)) all (us ++ t ∷ []) p next
      (operand_are a (operator_what op) us t is (operator_is t op oe))))
      (λ z. binary (site at) op a z) (binary_carries at op a us is) (q (p ++ c)) (q (p ++ d))
      (tells_good P inner_atom (p ++ c) (q (p ++ c)) (atoms.tells (p ++ c)))
      (tells_good P inner_atom (p ++ d) (q (p ++ d)) (atoms.tells (p ++ d))) (atoms.agree p c d))
      (nat_le (expression_depth a) n)
  goes_agree at a all us t p c d same is place None true oe ve =
      let next = same ∙ sym (append_assoc us (t ∷ []) p) in
      let types = type_honest b (suc n) in
      or_agrees all c (type_at b (p ++ c) >>= typed_of r q b n at a) (type_at b (p ++ d) >>= typed_of r q b n at a)
      (suc (length (p ++ c))) (suc (length (p ++ d)))
      (built_agrees type_kind expression_kind (us ++ t ∷ []) p all c next (begun at (operand a (Sign Colon)))
      (subst (λ s. AreMeasured (begun s (operand a (Sign Colon))) (us ++ t ∷ [])) (sym place)
      (at_place (operand a (Sign Colon)) all (us ++ t ∷ []) p next
      (operand_are a (Sign Colon) us t is (same_is t.what (Sign Colon) ve))))
      (λ of. typed (site at) a of) (typed_carries at a us is) (type_at b (p ++ c)) (type_at b (p ++ d))
      (tells_good P type_kind (p ++ c) (type_at b (p ++ c)) (types.tells (p ++ c)))
      (tells_good P type_kind (p ++ d) (type_at b (p ++ d)) (types.tells (p ++ d))) (types.agree p c d))
      (nat_le (expression_depth a) n)
  goes_agree at a all us t p c d same is place None false oe ve =
      agrees_is expression_kind all c a us (t ∷ p ++ c) (t ∷ p ++ d)
      (ap (λ vs. vs ++ c) same ∙ append_assoc us (t ∷ p) c) is.words

  continued_agree : (at : Pos) (a : PlainExpression) (all us p c d : List Token) → all ≡ us ++ p → Is atom_kind a us →
      at ≡ place_of all → Agrees expression_kind all c (continued r q b n at (a, p ++ c)) (continued r q b n at (a, p ++ d))
  continued_agree at a all us [] c d same is place =
      agrees_longer expression_kind all c (expression_measures a) (expression_measures a)
      (agree_same all [] (expression_measures a) (subst (AreMeasured (expression_measures a))
      (sym (append-nil us) ∙ sym same ∙ sym (append-nil all)) is.words))
      (continued r q b n at (a, c)) (continued r q b n at (a, d)) (extends_of at a c) (extends_of at a d)
  continued_agree at a all us (t ∷ p) c d same is place =
      goes_agree at a all us t p c d same is place (operator_of (Some t.what)) (same_what t.what (Sign Colon)) refl refl

  -- ---- an expression that begins with an atom

  abbrev alone_at : List Token → Read PlainExpression
  alone_at ts = atom_with r q ts >>= continued r q b n (place_of ts)

  alone_tells : (ts : List Token) → Tells P expression_kind ts (alone_at ts)
  alone_tells ts =
      bind_tells P atom_kind expression_kind ts (continued r q b n (place_of ts))
      (λ a us rest same is keep. continued_tells a ts us rest same is keep)
      (λ a us is. record {
        rest = [];
        tree = a;
        is = subst (Is expression_kind a) (sym (append-nil us)) (atom_is a us is);
        words = ([], inl (sym (append-nil (expression_measures a))));
      })
      (atom_with r q ts) (level.tells ts)

  alone_alike : (p c d : List Token) → Alike c d (alone_at (p ++ c)) (alone_at (p ++ d))
  alone_alike [] c d = past_alike c d (alone_at d) (alone_at c)
      (tells_past P expression_kind c (alone_at c) (alone_tells c))
  alone_alike (t ∷ p) c d =
      bind_alike c d (atom_with r q (t ∷ p ++ d)) (continued r q b n t.at) (continued r q b n t.at)
      (continued_past t.at)
      (atom_with r q (t ∷ p ++ c)) (λ a us e. continued_alike t.at a us c d) (level.alike (t ∷ p) c d)

  alone_agree : (p c d : List Token) → Agrees expression_kind p c (alone_at (p ++ c)) (alone_at (p ++ d))
  alone_agree [] c d = agrees_empty expression_kind c (alone_at c) (alone_at d)
  alone_agree (t ∷ p) c d =
      bind_agrees atom_kind expression_kind (t ∷ p) c d (continued r q b n t.at) (continued r q b n t.at)
      (λ x z e. extends_of t.at x.0 x.1 z e) (λ x z e. extends_of t.at x.0 x.1 z e)
      (atom_with r q (t ∷ p ++ c)) (atom_with r q (t ∷ p ++ d)) (level.alike (t ∷ p) c d) (level.agree (t ∷ p) c d)
      (λ a us e.
      let w = tells_cut P atom_kind (t ∷ p) c (atom_with r q (t ∷ p ++ c)) (level.tells (t ∷ p ++ c)) a us e in
      continued_agree t.at a (t ∷ p) w.0 us c d w.1 w.2 refl)

  alone_honest : Honest P expression_kind alone_at
  alone_honest = record {
    example = expression_example;
    tells = alone_tells;
    alike = alone_alike;
    agree = alone_agree;
  }

  expression_each : (w : Option What) → Honest P expression_kind (expression_by r q b n w)
  expression_each (Some (Word KwNot)) = negation_row
  expression_each (Some (Word KwIf)) = choice_row
  expression_each w = alone_honest

  pub expression_with_honest : Honest P expression_kind (expression_with r q b n)
  unfolding expression_with
  expression_with_honest = first_honest P expression_kind (expression_by r q b n) expression_each

  name_first : (w : What) (t : Token) (ts : List Token) (bytes : Bytes) → w ≡ Name bytes → t.what ≡ w →
      Past (length ts) (expression_by r q b n (Some w) (t ∷ ts))
  name_first (Name other) t ts bytes e is =
      bind_past (length ts) (continued r q b n t.at) (continued_past t.at) (atom_with r q (t ∷ ts))
      (atom_with_takes b n r q nested nested_atoms takes left t ts other is)
  name_first w t ts bytes e is = absurd cc

  pub expression_with_takes : (t : Token) (ts : List Token) (bytes : Bytes) → t.what ≡ Name bytes →
      Past (length ts) (expression_with r q b n (t ∷ ts))
  unfolding expression_with
  expression_with_takes t ts bytes is = name_first t.what t ts bytes is refl
