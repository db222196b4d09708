-- The laws of atoms.
use Rattle.std.proofs.Common.{◌≡◌, ℕ, suc, Bool, true, false, ◌&&◌, List, [], ◌∷◌, drop, Option, Some, Ok}
use Rattle.std.proofs.Common.{refl, sym, ap, ◌∙◌, subst, arith}
use Rattle.std.proofs.lemmas.Bool.{and_parts, and_from}
use Rattle.au_base.specs.declared.tokens.Keyword.TheVariants.{KwTrue, KwFalse, KwNil}
use Rattle.au_base.specs.declared.tokens.Sign.TheVariants.{Arrow, WriteBorrow, Reborrow, LeftParenthesis}
use Rattle.au_base.specs.declared.tokens.Sign.TheVariants.{RightParenthesis, Dot, ReadBorrow, Exclamation}
use Rattle.au_base.specs.declared.tokens.Sign.TheVariants.{Minus}
use Rattle.au_base.specs.declared.tokens.Token.{Token}
use Rattle.au_base.specs.declared.tokens.What.{What}
use Rattle.au_base.specs.declared.tokens.What.TheVariants.{Word, Sign, Name, Number, Text}
use Rattle.au_syntax.specs.declared.expressions.BorrowMode.TheVariants as mode
use Rattle.au_syntax.specs.Depths.{expression_depth}
use Rattle.au_syntax.specs.Sizes.{expression_types}
use Rattle.au_syntax.specs.Expressions.{number, negative, text, truth, nil, path, arrow, call, named_call}
use Rattle.au_syntax.specs.Expressions.{parenthesized, dereference, borrow, borrow_part, binary, negation}
use Rattle.au_syntax.specs.Expressions.{typed, choice}
use Rattle.au_syntax.specs.Forms.{is_atom, is_call, formed_expression}
use Rattle.au_syntax.specs.Plain.{PlainExpression}
use Rattle.au_syntax.specs.Words.{expression_words}
use Rattle.au_read_expressions.specs.Bounds.{Bounds}
use Rattle.au_read_expressions.specs.Reading.{Read, front, name_at, behind_tokens, closed, pair, built, fields_at}
use Rattle.au_read_expressions.specs.Spelling.{Begins}
use Rattle.au_read_expressions.proofs.Steps.{not_read}
use Rattle.au_read_expressions.proofs.Begins.{first_word, front_of}
use Rattle.au_read_expressions.proofs.Forms.{Sound, Finds, Reads, anything, behind_form, behind_reads}
use Rattle.au_read_expressions.proofs.Forms.{closed_form, closed_reads}
use Rattle.au_read_expressions.proofs.Limits.{one_fits, one_passes}
use Rattle.au_read_expressions.specs.ExpressionReading.{path_of, parenthesized_of, dereference_of, call_with}
use Rattle.au_read_expressions.specs.ExpressionReading.{named_by, borrowed_by, atom_by, atom_with, ends_atom}
use Rattle.au_read_expressions.specs.ExpressionReading.{ends_expression}
use Rattle.au_read_expressions.proofs.ExpressionForm.{expression_form, atom_form, call_form, call_is_atom}
use Rattle.au_read_expressions.proofs.ExpressionForm.{expression_some}
use Rattle.au_read_expressions.proofs.RowLaws.{Row, row}
use Rattle.au_read_expressions.proofs.LeafLaws.{ends_names, number_row, negative_row, text_row, true_row}
use Rattle.au_read_expressions.proofs.LeafLaws.{false_row, nil_row, read_borrow_row, write_borrow_row}
use Rattle.au_read_expressions.proofs.LeafLaws.{reborrow_row, path_row, arrow_row, borrow_part_row}
use Rattle.au_read_expressions.proofs.SecondTokens.{second_word, second_is}
use Rattle.au_read_expressions.proofs.CallLaws.{call_with_reads}

-- a name that isn't called and behind which no part stands
abbrev plain_name : Option What → Bool
plain_name (Some (Sign LeftParenthesis)) = false
plain_name (Some (Sign Arrow)) = false
plain_name what = true

ends_plain : (w : Option What) → ends_atom w ≡ true → plain_name w ≡ true
ends_plain (Some (Sign Dot)) h = refl
ends_plain w h = h

ends_dots : (w : Option What) → ends_atom w ≡ true → ends_names w ≡ true
ends_dots (Some (Sign Dot)) h = h
ends_dots w h = refl

module _ (b : Bounds) (n : ℕ) (r q : List Token → Read PlainExpression)
    (inner : Reads (expression_form b n) ends_expression r) (atoms : Reads (atom_form b n) ends_atom q) where
  parenthesized_row : Row (atom_form b (suc n)) anything parenthesized_of
      (behind_tokens (Sign LeftParenthesis ∷ []) (closed (Sign RightParenthesis ∷ []) r))
  parenthesized_row = row (behind_form (closed_form (expression_form b n) (Sign RightParenthesis ∷ []))
      (Sign LeftParenthesis ∷ [])) (atom_form b (suc n)) anything
      (behind_tokens (Sign LeftParenthesis ∷ []) (closed (Sign RightParenthesis ∷ []) r))
      (behind_reads (closed_form (expression_form b n) (Sign RightParenthesis ∷ [])) anything
      (closed (Sign RightParenthesis ∷ []) r)
      (closed_reads (expression_form b n) ends_expression r inner (Sign RightParenthesis) [] refl)
      (Sign LeftParenthesis ∷ [])) parenthesized_of (record {
        words = λ at e. refl;
        some = λ e. omega arith;
        good_to = λ at e g. g;
        good_from = λ at e g. g;
        fits = λ at e f. one_fits b n (expression_depth e) (expression_types e) f;
        passes = λ at e l p. one_passes b n (expression_depth e) (expression_types e) l p;
      })

  dereference_row : Row (atom_form b (suc n)) ends_atom dereference_of (behind_tokens (Sign Exclamation ∷ []) q)
  dereference_row = row (behind_form (atom_form b n) (Sign Exclamation ∷ [])) (atom_form b (suc n)) ends_atom
      (behind_tokens (Sign Exclamation ∷ []) q)
      (behind_reads (atom_form b n) ends_atom q atoms (Sign Exclamation ∷ [])) dereference_of (record {
        words = λ at e. refl;
        some = λ e. omega arith;
        good_to = λ at e g. g;
        good_from = λ at e g. g;
        fits = λ at e f. one_fits b n (expression_depth e) (expression_types e) f;
        passes = λ at e l p. one_passes b n (expression_depth e) (expression_types e) l p;
      })

  -- a call is an atom
  called : Reads (call_form b (suc n)) anything (call_with r q)
  called = call_with_reads b n r q inner

  call_sound : (ts rest : List Token) (e : PlainExpression) → call_with r q ts ≡ Ok (e, rest) →
      Sound (atom_form b (suc n)) e ts rest
  call_sound ts rest e is =
      let s = called.sound ts rest e is in
      let g = and_parts (is_call e) (formed_expression e) s.good in
      record {
        spelled = s.spelled;
        good = and_from (is_atom e) (formed_expression e) (call_is_atom e g.0)
            g.1;
        fits = s.fits;
      }

  -- ---- what is read

  named_take : (second : Option What) (ts rest : List Token) (e : PlainExpression) → named_by r q second ts
      ≡ Ok (e, rest) → Sound (atom_form b (suc n)) e ts rest
  named_take (Some (Sign LeftParenthesis)) ts rest e is = call_sound ts rest e is
  named_take (Some (Sign Arrow)) ts rest e is = (arrow_row b n).sound ts rest e is
  named_take second ts rest e is = (path_row b n).sound ts rest e is

  borrowed_take : (second : Option What) (ts rest : List Token) (e : PlainExpression) →
      borrowed_by r q second ts ≡ Ok (e, rest) → Sound (atom_form b (suc n)) e ts rest
  borrowed_take (Some (Sign LeftParenthesis)) ts rest e is = (borrow_part_row b n).sound ts rest e is
  borrowed_take second ts rest e is = (read_borrow_row b n).sound ts rest e is

  atom_take : (first second : Option What) (ts rest : List Token) (e : PlainExpression) →
      atom_by r q first second ts ≡ Ok (e, rest) → Sound (atom_form b (suc n)) e ts rest
  atom_take (Some (Number value digits)) second ts rest e is = (number_row b n).sound ts rest e is
  atom_take (Some (Sign Minus)) second ts rest e is = (negative_row b n).sound ts rest e is
  atom_take (Some (Text bytes)) second ts rest e is = (text_row b n).sound ts rest e is
  atom_take (Some (Word KwTrue)) second ts rest e is = (true_row b n).sound ts rest e is
  atom_take (Some (Word KwFalse)) second ts rest e is = (false_row b n).sound ts rest e is
  atom_take (Some (Word KwNil)) second ts rest e is = (nil_row b n).sound ts rest e is
  atom_take (Some (Name bytes)) second ts rest e is = named_take second ts rest e is
  atom_take (Some (Sign LeftParenthesis)) second ts rest e is = parenthesized_row.sound ts rest e is
  atom_take (Some (Sign Exclamation)) second ts rest e is = dereference_row.sound ts rest e is
  atom_take (Some (Sign ReadBorrow)) second ts rest e is = borrowed_take second ts rest e is
  atom_take (Some (Sign WriteBorrow)) second ts rest e is = (write_borrow_row b n).sound ts rest e is
  atom_take (Some (Sign Reborrow)) second ts rest e is = (reborrow_row b n).sound ts rest e is
  atom_take first second ts rest e is = absurd (not_read _ (e, rest) is)

  -- ---- what is spelled

  -- the row by which an expression is read
  chosen_row : (e : PlainExpression) (ts rest : List Token) → Begins (expression_words e) ts rest
      → atom_by r q (front ts) (front (drop 1 ts)) ts ≡ atom_by r q (first_word (expression_words e))
      (second_word (expression_words e) (front rest)) ts
  chosen_row e ts rest h =
      ap (λ w. atom_by r q w (front (drop 1 ts)) ts) (front_of (expression_words e) ts rest (expression_some e) h)
      ∙ ap (λ w. atom_by r q (first_word (expression_words e)) w ts)
      (second_is (expression_words e) ts rest (expression_some e) h)

  path_by : (second : Option What) (ts : List Token) → plain_name second ≡ true → named_by r q second ts
      ≡ built path_of (pair name_at fields_at) ts
  path_by (Some (Sign LeftParenthesis)) ts h = absurd cc
  path_by (Some (Sign Arrow)) ts h = absurd cc
  path_by second ts h = refl

  called_found : (e : PlainExpression) (ts rest : List Token) → Begins (expression_words e) ts rest →
      (is_call e && formed_expression e) ≡ true → Finds (atom_form b (suc n)) e rest (call_with r q ts)
  called_found e ts rest h good = called.found e ts rest h good refl

  atom_chosen : (e : PlainExpression) (ts rest : List Token) → Begins (expression_words e) ts rest →
      (is_atom e && formed_expression e) ≡ true → ends_atom (front rest) ≡ true
      → Finds (atom_form b (suc n)) e rest
      (atom_by r q (first_word (expression_words e)) (second_word (expression_words e) (front rest)) ts)
  atom_chosen (number node literal) ts rest h good ends = (number_row b n).found node.at literal ts rest h good refl
  atom_chosen (negative node literal) ts rest h good ends = (negative_row b n).found node.at literal ts rest h good refl
  atom_chosen (text node bytes) ts rest h good ends = (text_row b n).found node.at bytes ts rest h good refl
  atom_chosen (truth node true) ts rest h good ends = (true_row b n).found node.at tt ts rest h good refl
  atom_chosen (truth node false) ts rest h good ends = (false_row b n).found node.at tt ts rest h good refl
  atom_chosen (nil node) ts rest h good ends = (nil_row b n).found node.at tt ts rest h good refl
  atom_chosen (path node name []) ts rest h good ends =
      subst (Finds (atom_form b (suc n)) (path node name []) rest)
      (sym (path_by (front rest) ts (ends_plain (front rest) ends)))
      ((path_row b n).found node.at (name, []) ts rest h good (ends_dots (front rest) ends))
  atom_chosen (path node name (f ∷ fs)) ts rest h good ends = (path_row b n).found node.at (name, f ∷ fs) ts
      rest h good (ends_dots (front rest) ends)
  atom_chosen (arrow node name fields) ts rest h good ends = (arrow_row b n).found node.at (name, fields) ts
      rest h good (ends_dots (front rest) ends)
  atom_chosen (call node name args note) ts rest h good ends = called_found (call node name args note) ts rest h good
  atom_chosen (named_call node name args note) ts rest h good ends =
      called_found (named_call node name args note) ts rest h good
  atom_chosen (parenthesized node e) ts rest h good ends = parenthesized_row.found node.at e ts rest h good refl
  atom_chosen (dereference node e) ts rest h good ends = dereference_row.found node.at e ts rest h good ends
  atom_chosen (borrow node mode.Read name) ts rest h good ends = (read_borrow_row b n).found node.at name ts
      rest h good refl
  atom_chosen (borrow node mode.Write name) ts rest h good ends = (write_borrow_row b n).found node.at name ts
      rest h good refl
  atom_chosen (borrow node mode.Reborrow name) ts rest h good ends = (reborrow_row b n).found node.at name ts
      rest h good refl
  atom_chosen (borrow_part node name fields) ts rest h good ends =
      (borrow_part_row b n).found node.at (name, fields) ts rest h good refl
  atom_chosen (binary node op a z) ts rest h good ends = absurd (let wrong = good in cc)
  atom_chosen (negation node e) ts rest h good ends = absurd (let wrong = good in cc)
  atom_chosen (typed node e t) ts rest h good ends = absurd (let wrong = good in cc)
  atom_chosen (choice node c a z) ts rest h good ends = absurd (let wrong = good in cc)

  -- the laws of atoms where one level more is left
  pub atom_with_reads : Reads (atom_form b (suc n)) ends_atom (atom_with r q)
  unfolding atom_with
  atom_with_reads = record {
    sound = λ ts rest e is. atom_take (front ts) (front (drop 1 ts)) ts rest e is;
    found = λ e ts rest h good ends. subst (Finds (atom_form b (suc n)) e rest) (sym (chosen_row e ts rest h))
        (atom_chosen e ts rest h good ends);
  }
