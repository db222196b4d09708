-- What is told of the readers of calls and atoms.
use Rattle.std.proofs.Common.{◌≡◌, ℕ, suc, true, false, ◌&&◌, List, [], ◌∷◌, ◌++◌, length, Option, Some, refl}
use Rattle.std.proofs.Common.{ap, ◌∙◌, subst}
use Rattle.au_base.specs.declared.places.Pos.{Pos}
use Rattle.au_base.specs.declared.tokens.Keyword.{Keyword}
use Rattle.au_base.specs.declared.tokens.Keyword.TheVariants.{KwTrue, KwFalse, KwNil}
use Rattle.au_base.specs.declared.tokens.Sign.TheVariants.{Arrow, WriteBorrow, Reborrow, LeftParenthesis}
use Rattle.au_base.specs.declared.tokens.Sign.TheVariants.{RightParenthesis, ReadBorrow, Exclamation, Minus}
use Rattle.au_base.specs.declared.tokens.Token.{Token}
use Rattle.au_base.specs.declared.tokens.What.{What}
use Rattle.au_base.specs.declared.tokens.What.TheVariants.{Word, Sign, Name, Number, Text}
use Rattle.au_syntax.specs.declared.expressions.BorrowMode.TheVariants as mode
use Rattle.au_syntax.specs.Forms.{is_atom, is_call, formed_expression}
use Rattle.au_syntax.specs.Names.{Placed}
use Rattle.au_syntax.specs.Plain.{Bytes, PlainExpression}
use Rattle.au_syntax.specs.Words.{mark}
use Rattle.au_read_expressions.specs.Bounds.{Bounds}
use Rattle.au_parser.specs.Measures.{plains, begun, rooted, known_second, inside, node}
use Rattle.au_parser.specs.Measures.{expression_measures, call_measures}
use Rattle.au_read_expressions.specs.Reading.{Read, same_what, behind_tokens, closed, pair, built, name_at}
use Rattle.au_read_expressions.specs.Reading.{number_at, text_at, exactly, dotted_at, fields_at}
use Rattle.au_read_expressions.specs.Reading as reading
use Rattle.au_read_expressions.specs.TypeStops.{is_name}
use Rattle.au_read_expressions.specs.ExpressionReading.{Given, in_order, by_name, call_by, call_of, number_of}
use Rattle.au_read_expressions.specs.ExpressionReading.{negative_of, text_of, truth_of, nil_of, path_of}
use Rattle.au_read_expressions.specs.ExpressionReading.{arrow_of, parenthesized_of, dereference_of, borrow_of}
use Rattle.au_read_expressions.specs.ExpressionReading.{borrow_part_of, arrow_parts, given_at, call_with}
use Rattle.au_read_expressions.specs.ExpressionReading.{named_by, borrowed_by, atom_by, atom_with}
use Rattle.au_parser.proofs.Told.{Passing, Kind, Past, Alike, Honest, tokens_past}
use Rattle.au_parser.proofs.Ways.{honest_past, no_honest, behind_kind, closed_kind, pair_kind}
use Rattle.au_parser.proofs.Ways.{behind_honest, Builds, closed_honest, pair_honest, built_honest}
use Rattle.au_parser.proofs.Turns.{turned, turned_honest}
use Rattle.au_parser.proofs.FirstTokens.{two_honest, Opens, behind_opens, pair_opens, built_opens}
use Rattle.au_parser.proofs.FirstTokens.{open_alike}
use Rattle.au_parser.proofs.Single.{name_kind, name_honest, name_opens, number_kind, number_honest}
use Rattle.au_parser.proofs.Single.{text_kind, text_honest, exactly_kind, exactly_honest, dotted_kind}
use Rattle.au_parser.proofs.Single.{dotted_honest, fields_kind, fields_honest}
use Rattle.au_parser.proofs.Levels.{passing, inside_turns, node_turns, call_turns}
use Rattle.au_parser.proofs.ExpressionKinds.{arrow_honest, arrow_kind, arrow_line, atom_example}
use Rattle.au_parser.proofs.ExpressionKinds.{atom_kind, call_kind, expression_head, expression_kind}
use Rattle.au_parser.proofs.ExpressionKinds.{inner_atom, inner_kind, level_one, path_honest, path_kind}
use Rattle.au_parser.proofs.ExpressionKinds.{path_line, some_names}
use Rattle.au_parser.proofs.Arguments.{Left, given_kind, given_good, given_honest}

-- ---- rows

module _ (b : Bounds) (n : ℕ) (r q : List Token → Read PlainExpression) (nested : Honest (passing b n) expression_kind r)
    (nested_atoms : Honest (passing b n) atom_kind q)
    (takes : (t : Token) (ts : List Token) (bytes : Bytes) → t.what ≡ Name bytes → Past (length ts) (r (t ∷ ts)))
    (left : Left b n r) where
  abbrev P : Passing
  P = passing b (suc n)

  inner : Honest P inner_kind r
  inner = turned_honest (passing b n) P inside (inside_turns b n) expression_kind r nested

  atoms : Honest P inner_atom q
  atoms = turned_honest (passing b n) P inside (inside_turns b n) atom_kind q nested_atoms

  -- ---- a node, of which the first word tells

  row : {A : Type 0} (kind : Kind A) (read : List Token → Read A) → Honest P kind read → (build : Pos → A → PlainExpression)
      → Builds (turned rooted kind) atom_kind build → Honest P atom_kind (built build read)
  row kind read honest build builds =
      built_honest P (turned rooted kind) atom_kind read
      (turned_honest P P rooted (node_turns b n) kind read honest) build builds

  -- ---- atoms with no expression in them

  number_row : Honest P atom_kind (built number_of number_at)
  number_row = row number_kind number_at (number_honest P) number_of
      (record { words = λ at x. refl; good = λ at x g. refl })

  negative_row : Honest P atom_kind (built negative_of (behind_tokens (Sign Minus ∷ []) number_at))
  negative_row = row (behind_kind number_kind (Sign Minus ∷ [])) (behind_tokens (Sign Minus ∷ []) number_at)
      (behind_honest P number_kind (Sign Minus ∷ []) number_at (number_honest P)) negative_of
      (record { words = λ at x. refl; good = λ at x g. refl })

  text_row : Honest P atom_kind (built text_of text_at)
  text_row = row text_kind text_at (text_honest P) text_of (record { words = λ at x. refl; good = λ at x g. refl })

  true_row : Honest P atom_kind (built (truth_of true) (exactly (Word KwTrue ∷ [])))
  true_row = row (exactly_kind (Word KwTrue ∷ [])) (exactly (Word KwTrue ∷ []))
      (exactly_honest P (Word KwTrue ∷ [])) (truth_of true) (record { words = λ at x. refl; good = λ at x g. refl })

  false_row : Honest P atom_kind (built (truth_of false) (exactly (Word KwFalse ∷ [])))
  false_row = row (exactly_kind (Word KwFalse ∷ [])) (exactly (Word KwFalse ∷ []))
      (exactly_honest P (Word KwFalse ∷ [])) (truth_of false) (record { words = λ at x. refl; good = λ at x g. refl })

  nil_row : Honest P atom_kind (built nil_of (exactly (Word KwNil ∷ [])))
  nil_row = row (exactly_kind (Word KwNil ∷ [])) (exactly (Word KwNil ∷ []))
      (exactly_honest P (Word KwNil ∷ [])) nil_of (record { words = λ at x. refl; good = λ at x g. refl })

  read_borrow_row : Honest P atom_kind (built (borrow_of mode.Read) (behind_tokens (Sign ReadBorrow ∷ []) name_at))
  read_borrow_row = row (behind_kind name_kind (Sign ReadBorrow ∷ [])) (behind_tokens (Sign ReadBorrow ∷ []) name_at)
      (behind_honest P name_kind (Sign ReadBorrow ∷ []) name_at (name_honest P)) (borrow_of mode.Read)
      (record { words = λ at x. refl; good = λ at x g. refl })

  write_borrow_row : Honest P atom_kind (built (borrow_of mode.Write) (behind_tokens (Sign WriteBorrow ∷ []) name_at))
  write_borrow_row = row (behind_kind name_kind (Sign WriteBorrow ∷ []))
      (behind_tokens (Sign WriteBorrow ∷ []) name_at)
      (behind_honest P name_kind (Sign WriteBorrow ∷ []) name_at (name_honest P)) (borrow_of mode.Write)
      (record { words = λ at x. refl; good = λ at x g. refl })

  reborrow_row : Honest P atom_kind (built (borrow_of mode.Reborrow) (behind_tokens (Sign Reborrow ∷ []) name_at))
  reborrow_row = row (behind_kind name_kind (Sign Reborrow ∷ [])) (behind_tokens (Sign Reborrow ∷ []) name_at)
      (behind_honest P name_kind (Sign Reborrow ∷ []) name_at (name_honest P)) (borrow_of mode.Reborrow)
      (record { words = λ at x. refl; good = λ at x g. refl })

  path_row : Honest P atom_kind (built path_of (pair name_at fields_at))
  path_row = row path_kind (pair name_at fields_at) (path_honest P) path_of
      (record { words = λ at x. ap (node at) (path_line x.0 x.1); good = λ at x g. refl })

  arrow_row : Honest P atom_kind (built arrow_of arrow_parts)
  arrow_row = row arrow_kind arrow_parts (arrow_honest P) arrow_of
      (record { words = λ at x. ap (node at) (arrow_line x.0 x.1); good = λ at x g. some_names x.1 g })

  abbrev borrow_part_at : List Token → Read (Placed Bytes × List (Placed Bytes))
  borrow_part_at = behind_tokens (Sign ReadBorrow ∷ Sign LeftParenthesis ∷ [])
      (closed (Sign RightParenthesis ∷ []) arrow_parts)

  closed_arrow : Honest P (closed_kind arrow_kind (Sign RightParenthesis ∷ []))
      (closed (Sign RightParenthesis ∷ []) arrow_parts)
  closed_arrow = closed_honest P arrow_kind (Sign RightParenthesis ∷ []) arrow_parts (arrow_honest P)

  borrow_part_row : Honest P atom_kind (built borrow_part_of borrow_part_at)
  borrow_part_row = row (behind_kind (closed_kind arrow_kind (Sign RightParenthesis ∷ []))
      (Sign ReadBorrow ∷ Sign LeftParenthesis ∷ [])) borrow_part_at
      (behind_honest P (closed_kind arrow_kind (Sign RightParenthesis ∷ []))
      (Sign ReadBorrow ∷ Sign LeftParenthesis ∷ []) (closed (Sign RightParenthesis ∷ []) arrow_parts) closed_arrow)
      borrow_part_of
      (record {
        words = λ at x. ap (λ ws. node at (plains (mark ReadBorrow ++ mark LeftParenthesis)
            ++ (ws ++ plains (mark RightParenthesis)))) (arrow_line x.0 x.1);
        good = λ at x g. some_names x.1 g;
      })

  -- ---- calls

  arguments_honest : Honest P given_kind (given_at r q)
  arguments_honest = given_honest b n r q nested takes left

  abbrev call_parts : List Token → Read (Placed Bytes × Given)
  call_parts = pair name_at (behind_tokens (Sign LeftParenthesis ∷ []) (given_at r q))

  abbrev parts_kind : Kind (Placed Bytes × Given)
  parts_kind = pair_kind name_kind (behind_kind given_kind (Sign LeftParenthesis ∷ []))

  parts_honest : Honest P parts_kind call_parts
  parts_honest = pair_honest P name_kind (behind_kind given_kind (Sign LeftParenthesis ∷ [])) name_at (name_honest P)
      (behind_tokens (Sign LeftParenthesis ∷ []) (given_at r q))
      (behind_honest P given_kind (Sign LeftParenthesis ∷ []) (given_at r q) arguments_honest)

  abbrev known_kind : Kind (Placed Bytes × Given)
  known_kind = turned known_second parts_kind

  known_honest : Honest P known_kind call_parts
  known_honest = turned_honest P P known_second (call_turns b n) parts_kind call_parts parts_honest

  call_line : (at : Pos) (name : Placed Bytes) (g : Given) → call_measures (call_by at name g)
      ≡ begun at (known_kind.words (name, g))
  call_line at name (in_order es) = refl
  call_line at name (by_name args) = refl

  atom_line : (at : Pos) (name : Placed Bytes) (g : Given) → expression_measures (call_by at name g)
      ≡ node at (known_kind.words (name, g))
  atom_line at name (in_order es) = refl
  atom_line at name (by_name args) = refl

  call_good : (at : Pos) (name : Placed Bytes) (g : Given) →
      (is_call (call_by at name g) && formed_expression (call_by at name g)) ≡ given_good g
  call_good at name (in_order es) = refl
  call_good at name (by_name args) = refl

  atom_good : (at : Pos) (name : Placed Bytes) (g : Given) →
      (is_atom (call_by at name g) && formed_expression (call_by at name g)) ≡ given_good g
  atom_good at name (in_order es) = refl
  atom_good at name (by_name args) = refl

  pub call_with_honest : Honest P call_kind (call_with r q)
  unfolding call_with
  call_with_honest = built_honest P known_kind call_kind call_parts known_honest call_of
      (record {
        words = λ at x. call_line at x.0 x.1;
        good = λ at x g. call_good at x.0 x.1 ∙ g;
      })

  call_row : Honest P atom_kind (call_with r q)
  unfolding call_with
  call_row = row known_kind call_parts known_honest call_of
      (record {
        words = λ at x. atom_line at x.0 x.1;
        good = λ at x g. atom_good at x.0 x.1 ∙ g;
      })

  pub call_with_opens : Opens is_name (call_with r q)
  unfolding call_with
  call_with_opens = built_opens is_name call_parts
      (pair_opens is_name name_at name_opens (behind_tokens (Sign LeftParenthesis ∷ []) (given_at r q))
      (tokens_past (given_at r q) (honest_past P given_kind (given_at r q) arguments_honest) (Sign LeftParenthesis ∷ [])))
      call_of

  -- ---- what begins with a name, and what begins with `&`

  named_each : (v : Option What) → Honest P atom_kind (named_by r q v)
  named_each (Some (Sign LeftParenthesis)) = call_row
  named_each (Some (Sign Arrow)) = arrow_row
  named_each v = path_row

  pub named_opens : (v : Option What) → Opens is_name (named_by r q v)
  named_opens (Some (Sign LeftParenthesis)) = call_with_opens
  named_opens (Some (Sign Arrow)) = built_opens is_name arrow_parts
      (pair_opens is_name name_at name_opens (behind_tokens (Sign Arrow ∷ []) dotted_at)
      (tokens_past dotted_at (honest_past P dotted_kind dotted_at (dotted_honest P)) (Sign Arrow ∷ []))) arrow_of
  named_opens v = built_opens is_name (pair name_at fields_at)
      (pair_opens is_name name_at name_opens fields_at (honest_past P fields_kind fields_at (fields_honest P))) path_of

  borrowed_each : (v : Option What) → Honest P atom_kind (borrowed_by r q v)
  borrowed_each (Some (Sign LeftParenthesis)) = borrow_part_row
  borrowed_each v = read_borrow_row

  borrowed_opens : (v : Option What) → Opens (λ what. same_what what (Sign ReadBorrow)) (borrowed_by r q v)
  borrowed_opens (Some (Sign LeftParenthesis)) =
      built_opens (λ what. same_what what (Sign ReadBorrow)) borrow_part_at
      (behind_opens (Sign ReadBorrow) (Sign LeftParenthesis ∷ []) (closed (Sign RightParenthesis ∷ []) arrow_parts)
      (honest_past P (closed_kind arrow_kind (Sign RightParenthesis ∷ []))
      (closed (Sign RightParenthesis ∷ []) arrow_parts) closed_arrow)) borrow_part_of
  borrowed_opens v =
      built_opens (λ what. same_what what (Sign ReadBorrow)) (behind_tokens (Sign ReadBorrow ∷ []) name_at)
      (behind_opens (Sign ReadBorrow) [] name_at (honest_past P name_kind name_at (name_honest P))) (borrow_of mode.Read)

  -- ---- atoms

  parenthesized_row : Honest P atom_kind (built parenthesized_of
      (behind_tokens (Sign LeftParenthesis ∷ []) (closed (Sign RightParenthesis ∷ []) r)))
  parenthesized_row = row (behind_kind (closed_kind inner_kind (Sign RightParenthesis ∷ []))
      (Sign LeftParenthesis ∷ []))
      (behind_tokens (Sign LeftParenthesis ∷ []) (closed (Sign RightParenthesis ∷ []) r))
      (behind_honest P (closed_kind inner_kind (Sign RightParenthesis ∷ [])) (Sign LeftParenthesis ∷ [])
      (closed (Sign RightParenthesis ∷ []) r) (closed_honest P inner_kind (Sign RightParenthesis ∷ []) r inner))
      parenthesized_of (record { words = λ at e. refl; good = λ at e g. g })

  dereference_row : Honest P atom_kind (built dereference_of (behind_tokens (Sign Exclamation ∷ []) q))
  dereference_row = row (behind_kind inner_atom (Sign Exclamation ∷ []))
      (behind_tokens (Sign Exclamation ∷ []) q) (behind_honest P inner_atom (Sign Exclamation ∷ []) q atoms)
      dereference_of (record { words = λ at e. refl; good = λ at e g. g })

  atom_each : (w v : Option What) → Honest P atom_kind (atom_by r q w v)
  atom_each (Some (Number value digits)) v = number_row
  atom_each (Some (Sign Minus)) v = negative_row
  atom_each (Some (Text bytes)) v = text_row
  atom_each (Some (Word KwTrue)) v = true_row
  atom_each (Some (Word KwFalse)) v = false_row
  atom_each (Some (Word KwNil)) v = nil_row
  atom_each (Some (Name bytes)) v = named_each v
  atom_each (Some (Sign LeftParenthesis)) v = parenthesized_row
  atom_each (Some (Sign Exclamation)) v = dereference_row
  atom_each (Some (Sign ReadBorrow)) v = borrowed_each v
  atom_each (Some (Sign WriteBorrow)) v = write_borrow_row
  atom_each (Some (Sign Reborrow)) v = reborrow_row
  atom_each w v = no_honest P atom_kind atom_example

  word_same : (k : Keyword) (u v : Option What) (ts : List Token) → atom_by r q (Some (Word k)) u ts
      ≡ atom_by r q (Some (Word k)) v ts
  word_same KwTrue u v ts = refl
  word_same KwFalse u v ts = refl
  word_same KwNil u v ts = refl
  word_same k u v ts = refl

  atom_one : (w : What) (u v : Option What) (t : Token) (c d : List Token) → t.what ≡ w →
      Alike c d (atom_by r q (Some w) u (t ∷ c)) (atom_by r q (Some w) v (t ∷ d))
  atom_one (Name bytes) u v t c d is = open_alike is_name (named_by r q u) (named_by r q v) (named_opens u)
      (named_opens v) t c d
  atom_one (Sign ReadBorrow) u v t c d is = open_alike (λ what. same_what what (Sign ReadBorrow)) (borrowed_by r q u)
      (borrowed_by r q v) (borrowed_opens u) (borrowed_opens v) t c d
  atom_one (Word k) u v t c d is =
      subst (λ x. Alike c d (atom_by r q (Some (Word k)) u (t ∷ c)) x) (word_same k u v (t ∷ d))
      ((atom_each (Some (Word k)) u).alike (t ∷ []) c d)
  atom_one w u v t c d is = (atom_each (Some w) u).alike (t ∷ []) c d

  pub atom_with_honest : Honest P atom_kind (atom_with r q)
  unfolding atom_with
  atom_with_honest = two_honest P atom_kind (atom_by r q) atom_each atom_one level_one (λ e g. expression_head e)

  -- an atom that begins with a name takes it
  atom_first : (w : What) (v : Option What) (t : Token) (ts : List Token) (bytes : Bytes) → w ≡ Name bytes →
      t.what ≡ w →
      Past (length ts) (atom_by r q (Some w) v (t ∷ ts))
  atom_first (Name other) v t ts bytes e is = (named_opens v).takes t ts (ap is_name is)
  atom_first w v t ts bytes e is = absurd cc

  pub atom_with_takes : (t : Token) (ts : List Token) (bytes : Bytes) → t.what ≡ Name bytes →
      Past (length ts) (atom_with r q (t ∷ ts))
  unfolding atom_with
  atom_with_takes t ts bytes is = atom_first t.what (reading.front ts) t ts bytes is refl
