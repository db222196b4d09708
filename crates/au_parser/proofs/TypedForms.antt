-- The laws of the readers of parts of declarations that hold types and blocks.
use Rattle.std.proofs.Common.{◌≡◌, ◌<◌, Bool, true, false, not, ◌&&◌, List, [], ◌∷◌, ◌++◌, length, map}
use Rattle.std.proofs.Common.{Option, Some, None, Ok, refl, sym, ap, ◌∙◌, subst, arith, inl, inr}
use Rattle.std.specs.List.{flat_map, list_all}
use Rattle.std.proofs.lemmas.Bool.{and_parts, cond-true, cond-false}
use Rattle.std.proofs.lemmas.List.{append-nil, append_assoc}
use Rattle.au_base.specs.declared.places.Pos.{Pos}
use Rattle.au_base.specs.declared.tokens.Keyword.TheVariants.{KwIs, KwCase, KwInstance, KwMethod}
use Rattle.au_base.specs.declared.tokens.Sign.TheVariants.{LeftParenthesis, RightParenthesis, Comma, Semicolon, Colon}
use Rattle.au_base.specs.declared.tokens.Token.{Token}
use Rattle.au_base.specs.declared.tokens.What.{What}
use Rattle.au_base.specs.declared.tokens.What.TheVariants.{Word, Sign}
use Rattle.au_base.proofs.BoolLemmas.{cond_cases, and_true}
use Rattle.au_base.proofs.ListLemmas.{all_good}
use Rattle.au_syntax.specs.Modules.{Header, Variant}
use Rattle.au_syntax.specs.Names.{Placed}
use Rattle.au_syntax.specs.Plain.{Bytes, PlainExpression, PlainStatements, PlainMethod}
use Rattle.au_syntax.specs.Types.{WrittenType, Labelled}
use Rattle.au_syntax.specs.Depths.{expression_depth, block_depth, greatest, method_depth}
use Rattle.au_syntax.specs.Sizes.{expression_types, block_types, labelled_types, header_types, method_types}
use Rattle.au_syntax.specs.Forms.{some, formed_expression, formed_block, formed_method}
use Rattle.au_syntax.specs.Words as words
use Rattle.au_syntax.specs.Words.{type_words, expression_words, block_words, labelled_words, header_words}
use Rattle.au_syntax.specs.Words.{fields_words, case_fields_words, variant_words, class_method_words}
use Rattle.au_syntax.specs.Words.{method_words, instance_words}
use Rattle.au_read_expressions.specs.Bounds.{Bounds}
use Rattle.au_read_expressions.specs.Reading.{front, is_front, begins_with, read_of, exactly, shaped, listed}
use Rattle.au_read_expressions.specs.Spelling.{Begins, fixed}
use Rattle.au_read_expressions.proofs.Steps.{same_is}
use Rattle.au_read_expressions.proofs.Begins.{begins_split, front_of}
use Rattle.au_read_expressions.proofs.Forms.{Sound, Finds, Reads, anything, sound_of, shaped_sound, shaped_found}
use Rattle.au_read_expressions.proofs.Single.{exactly_reads}
use Rattle.au_read_expressions.specs.TypeReading.{type_at}
use Rattle.au_read_expressions.specs.ExpressionReading.{expression_at}
use Rattle.au_read_statements.specs.StatementReading.{block_at}
use Rattle.au_parser.specs.DeclarationReading.{maybe_listed, is_name, labelled_of, header_of, first_and_rest}
use Rattle.au_parser.specs.DeclarationReading.{no_fields, variant_of, method_of, labelled_at, header_at}
use Rattle.au_parser.specs.DeclarationReading.{case_fields_at, variant_at, class_method_at, method_at}
use Rattle.au_parser.specs.DeclarationReading.{instance_head_at}
use Rattle.au_parser.proofs.Known.{Said, listed_said, Same, told_reads, FitsIn, PassesIn, form_of, Known}
use Rattle.au_parser.proofs.Known.{of_light, then_behind, then_closed, both, both_behind, retold, shape}
use Rattle.au_parser.proofs.Known.{shapes, all_of, list_of, ends_list}
use Rattle.au_read_expressions.proofs.TypeForm.{type_form}
use Rattle.au_parser.proofs.Lower.{Lower}
use Rattle.au_parser.proofs.PartForms.{none_deep, name_known, end_known}

-- ---- parts with commas between, or none

module _ (b : Bounds) {A : Type 0} (k : Known b A)
    (some_words : (x : A) → k.said.good x ≡ true → 0 < length (k.said.words x))
    (stops : k.ends (Some (Sign Comma)) ≡ true) (close : What)
    (starts : (x : A) (ts rest : List Token) → Begins (k.said.words x) ts rest → begins_with close ts ≡ false)
    (closes : (what : Option What) → is_front close what ≡ true → ends_list b k some_words stops what ≡ true) where
  abbrev pub maybe_said : Said (List A)
  maybe_said = record {
    words = λ xs. words.listed (map k.said.words xs);
    good = list_all k.said.good;
    depth =
        greatest k.said.depth;
    types = flat_map k.said.types;
  }

  abbrev listing : Known b (List A)
  listing = list_of b k some_words stops

  maybe_some : (xs : List A) (ts rest : List Token) → Sound (form_of b (listed_said k.said)) xs ts rest →
      Sound (form_of b maybe_said) xs ts rest
  maybe_some xs ts rest s = record
      { spelled = s.spelled; good = (and_parts (some xs) (list_all k.said.good xs) s.good).1; fits = s.fits }

  maybe_sound : (ts rest : List Token) (xs : List A) → maybe_listed close k.read ts ≡ Ok (xs, rest) →
      Sound (form_of b maybe_said) xs ts rest
  maybe_sound ts rest xs e =
      elim (cond_cases (begins_with close ts) (read_of [] ts) (listed k.read ts) (read_of xs rest) e) [
        | inl w ↦ sound_of (form_of b maybe_said) [] xs ts ts rest
            (record { spelled = refl; good = refl; fits = (omega arith, tt) }) w.1
        | inr w ↦ maybe_some xs ts rest (listing.reads.sound ts rest xs w.1)
      ]

  maybe_found : (xs : List A) (ts rest : List Token) → Begins (words.listed (map k.said.words xs)) ts rest →
      list_all k.said.good xs ≡ true → is_front close (front rest) ≡ true
      → Finds (form_of b maybe_said) xs rest (maybe_listed close k.read ts)
  maybe_found [] ts rest h good ended =
      let first : begins_with close ts ≡ true = ap (begins_with close) h ∙ ended in
      inl (cond-true (begins_with close ts) (read_of [] ts) (listed k.read ts) first
      ∙ ap (λ r. read_of [] r) h)
  maybe_found (x ∷ xs) ts rest h good ended =
      let s = begins_split (k.said.words x) (flat_map (λ one. words.mark Comma ++ one) (map k.said.words xs))
      ts rest h in
      subst (Finds (form_of b maybe_said) (x ∷ xs) rest)
      (sym (cond-false (begins_with close ts) (read_of [] ts) (listed k.read ts) (starts x ts s.0 s.1)))
      (listing.reads.found (x ∷ xs) ts rest h good (closes (front rest) ended))

  pub maybe_reads : Reads (form_of b maybe_said) (is_front close) (maybe_listed close k.read)
  maybe_reads = record { sound = maybe_sound; found = maybe_found }

  abbrev pub maybe_known : Known b (List A)
  maybe_known = record {
    said = maybe_said;
    ends = is_front close;
    read = maybe_listed close k.read;
    reads =
        maybe_reads;
  }

-- ---- types, fields and headers

pub labelled_all : (fields : List (Labelled Bytes)) → labelled_types fields
    ≡ flat_map (λ (field : Labelled Bytes). field.of ∷ []) fields
labelled_all [] = refl
labelled_all (x ∷ xs) = ap (λ ts. x.of ∷ ts) (labelled_all xs)

abbrev pub type_said : Said WrittenType
type_said = record { words = type_words; good = λ t. true; depth = λ t. 0; types = λ t. t ∷ [] }

abbrev pub expression_said : Said PlainExpression
expression_said = record {
  words = expression_words;
  good = formed_expression;
  depth =
      expression_depth;
  types = expression_types;
}

abbrev pub block_said : Said PlainStatements
block_said = record { words = block_words; good = formed_block; depth = block_depth; types = block_types }

abbrev pub labelled_said : Said (Labelled Bytes)
labelled_said = record { words = labelled_words; good = λ f. true; depth = λ f. 0; types = λ f. f.of ∷ [] }

abbrev pub header_said : Said (Header Bytes)
header_said = record { words = header_words; good = λ h. true; depth = λ h. 0; types = header_types }

abbrev pub fields_said : Said (List (Labelled Bytes))
fields_said = record { words = fields_words; good = λ fs. true; depth = λ fs. 0; types = labelled_types }

abbrev pub some_fields_said : Said (List (Labelled Bytes))
some_fields_said = record { words = fields_words; good = some; depth = λ fs. 0; types = labelled_types }

abbrev pub case_said : Said (List (Labelled Bytes))
case_said = record { words = case_fields_words; good = λ fs. true; depth = λ fs. 0; types = labelled_types }

abbrev pub variant_said : Said (Variant Bytes)
variant_said = record { words = variant_words; good = λ v. true; depth = λ v. 0; types = λ v. labelled_types v.fields }

abbrev pub variants_said : Said (List (Variant Bytes))
variants_said = record {
  words = flat_map variant_words;
  good = λ vs. true;
  depth = λ vs. 0;
  types =
      flat_map (λ (one : Variant Bytes). labelled_types one.fields);
}

abbrev pub class_method_said : Said (Header Bytes)
class_method_said = record { words = class_method_words; good = λ h. true; depth = λ h. 0; types = header_types }

abbrev pub class_methods_said : Said (List (Header Bytes))
class_methods_said = record {
  words = flat_map class_method_words;
  good = λ hs. true;
  depth = λ hs. 0;
  types =
      flat_map header_types;
}

abbrev pub method_said : Said PlainMethod
method_said = record { words = method_words; good = formed_method; depth = method_depth; types = method_types }

abbrev pub instance_head_said : Said (Placed Bytes × WrittenType)
instance_head_said = record {
  words = λ x. instance_words x.0 x.1;
  good = λ x. true;
  depth = λ x. 0;
  types =
      λ x. x.1 ∷ [];
}

abbrev pub ends_members : Option What → Bool
ends_members what = not (is_name what) && true

module _ (b : Bounds) (low : Lower b) where
  pub type_reads : Reads (form_of b type_said) low.ends_type (type_at b)
  type_reads = told_reads (type_form b) (FitsIn b type_said) (PassesIn b type_said)
      (λ t h. (omega arith, (h, tt))) (λ t l p. inr (inl p)) low.ends_type (type_at b) low.types

  abbrev pub type_known : Known b WrittenType
  type_known = record { said = type_said; ends = low.ends_type; read = type_at b; reads = type_reads }

  abbrev pub expression_known : Known b PlainExpression
  expression_known = record {
    said = expression_said;
    ends = low.ends_expression;
    read =
        expression_at b b.nesting;
    reads = low.expressions b.nesting;
  }

  abbrev pub block_known : Known b PlainStatements
  block_known = record {
    said = block_said;
    ends = low.ends_block;
    read = block_at b b.nesting;
    reads =
        low.blocks b.nesting;
  }

  abbrev labelled_parts : Known b (Placed Bytes × WrittenType)
  labelled_parts = both_behind b (name_known b) (Sign Colon) [] type_known refl

  labelled_same : Same labelled_parts.said labelled_said labelled_of
  labelled_same = record { words = λ x. refl; good = λ x. refl; depth = λ x. refl; types = λ x. refl }

  pub labelled_reads : Reads (form_of b labelled_said) low.ends_type (labelled_at b)
  labelled_reads = (shape b labelled_parts labelled_said labelled_of labelled_same (λ y. (y.name, y.of))
      (λ y. refl)).reads

  abbrev pub labelled_known : Known b (Labelled Bytes)
  labelled_known = record { said = labelled_said; ends = low.ends_type; read = labelled_at b; reads = labelled_reads }

  -- a function's parameters, before the parenthesis that closes them
  not_right : (x : Labelled Bytes) (ts rest : List Token) → Begins (labelled_words x) ts rest →
      begins_with (Sign RightParenthesis) ts ≡ false
  not_right x ts rest h = ap (is_front (Sign RightParenthesis)) (front_of (labelled_words x) ts rest (omega arith) h)

  right_closes : (what : Option What) → is_front (Sign RightParenthesis) what ≡ true →
      (not (is_front (Sign Comma) what) && low.ends_type what) ≡ true
  right_closes None e = absurd cc
  right_closes (Some what) e = ap (λ w. not (is_front (Sign Comma) (Some w)) && low.ends_type (Some w))
      (same_is what (Sign RightParenthesis) e) ∙ low.type_right

  abbrev arguments_list : Known b (List (Labelled Bytes))
  arguments_list = maybe_known b labelled_known (λ x good. omega arith) low.type_comma (Sign RightParenthesis)
      not_right right_closes

  abbrev arguments_said : Said (List (Labelled Bytes))
  arguments_said = record {
    words = λ fs. words.listed (map labelled_words fs);
    good = λ fs. true;
    depth =
        λ fs. 0;
    types = labelled_types;
  }

  arguments_same : Same arguments_list.said arguments_said (λ xs. xs)
  arguments_same = record {
    words = λ xs. refl;
    good = λ xs. sym (all_good xs);
    depth =
        λ xs. sym (none_deep xs);
    types = labelled_all;
  }

  abbrev arguments_known : Known b (List (Labelled Bytes))
  arguments_known = retold b arguments_list arguments_said arguments_same

  abbrev header_parts : Known b (Placed Bytes × (List (Labelled Bytes) × WrittenType))
  header_parts =
      both_behind b (name_known b) (Sign LeftParenthesis) []
      (both_behind b arguments_known (Sign RightParenthesis) (Sign Colon ∷ []) type_known refl) refl

  header_same : Same header_parts.said header_said header_of
  header_same = record { words = λ x. simp append_assoc; good = λ x. refl; depth = λ x. refl; types = λ x. refl }

  pub header_reads : Reads (form_of b header_said) low.ends_type (header_at b)
  unfolding header_at
  header_reads = (shape b header_parts header_said header_of header_same
      (λ y. (y.name, (y.parameters, y.result))) (λ y. refl)).reads

  abbrev pub header_known : Known b (Header Bytes)
  header_known = record { said = header_said; ends = low.ends_type; read = header_at b; reads = header_reads }

  -- ---- fields

  abbrev pub field_known : Known b (Labelled Bytes)
  field_known = then_closed b (Sign Semicolon) [] labelled_known low.type_semicolon

  pub field_starts : (x : Labelled Bytes) (ts rest : List Token) → Begins (field_known.said.words x) ts rest →
      true ≡ true → is_name (front ts) ≡ true
  field_starts x ts rest h good = ap is_name (front_of (field_known.said.words x) ts rest (omega arith) h)

  abbrev field_list : Known b (List (Labelled Bytes))
  field_list = all_of b field_known (λ x good. omega arith) is_name field_starts (λ what e. refl)

  pub fields_same : Same field_list.said fields_said (λ xs. xs)
  fields_same = record {
    words = λ xs. refl;
    good = λ xs. sym (all_good xs);
    depth =
        λ xs. sym (none_deep xs);
    types = labelled_all;
  }

  abbrev pub members_known : Known b (List (Labelled Bytes))
  members_known = retold b field_list fields_said fields_same

  abbrev some_parts : Known b (Labelled Bytes × List (Labelled Bytes))
  some_parts = both b field_known members_known (λ y ts rest h good ended. refl)

  some_same : Same some_parts.said some_fields_said first_and_rest
  some_same = record { words = λ x. refl; good = λ x. refl; depth = λ x. refl; types = λ x. refl }

  some_found : (xs : List (Labelled Bytes)) (ts rest : List Token) → Begins (fields_words xs) ts rest →
      some xs ≡ true → ends_members (front rest) ≡ true
      → Finds (form_of b some_fields_said) xs rest (shaped first_and_rest some_parts.read ts)
  some_found [] ts rest h good ended = absurd (let wrong = good in cc)
  some_found (x ∷ xs) ts rest h good ended =
      shaped_found (form_of b some_parts.said) (form_of b some_fields_said) some_parts.ends some_parts.read
      some_parts.reads first_and_rest (shapes b some_parts some_fields_said first_and_rest some_same)
      (x, xs) ts rest h good ended

  some_reads : Reads (form_of b some_fields_said) ends_members (shaped first_and_rest some_parts.read)
  some_reads = record {
    sound = shaped_sound (form_of b some_parts.said) (form_of b some_fields_said) some_parts.ends
        some_parts.read some_parts.reads first_and_rest
        (shapes b some_parts some_fields_said first_and_rest some_same);
    found = some_found;
  }

  -- the rest of a case behind its name
  abbrev full_case : Known b (List (Labelled Bytes))
  full_case = then_behind b (Word KwIs ∷ [])
      (record {
        said = some_fields_said;
        ends = ends_members;
        read = shaped first_and_rest some_parts.read;
        reads = some_reads;
      })

  abbrev empty_case : Known b (Unit {0})
  empty_case = of_light b (λ x. fixed (Sign Semicolon ∷ [])) anything (exactly (Sign Semicolon ∷ []))
      (exactly_reads (Sign Semicolon ∷ []))

  empty_same : Same empty_case.said case_said no_fields
  empty_same = record { words = λ x. refl; good = λ x. refl; depth = λ x. refl; types = λ x. refl }

  full_from : (xs : List (Labelled Bytes)) (ts rest : List Token) → Sound (form_of b full_case.said) xs ts
      rest → Sound (form_of b case_said) xs ts rest
  full_from [] ts rest s = absurd (let wrong = s.good in cc)
  full_from (x ∷ xs) ts rest s = record { spelled = s.spelled; good = refl; fits = s.fits }

  case_sound : (ts rest : List Token) (xs : List (Labelled Bytes)) → case_fields_at b ts ≡ Ok (xs, rest) →
      Sound (form_of b case_said) xs ts rest
  case_sound ts rest xs e =
      elim (cond_cases (begins_with (Sign Semicolon) ts) (shaped no_fields (exactly (Sign Semicolon ∷ [])) ts)
      (full_case.read ts) (read_of xs rest) e) [
        | inl w ↦ shaped_sound (form_of b empty_case.said) (form_of b case_said) empty_case.ends
            empty_case.read empty_case.reads no_fields (shapes b empty_case case_said no_fields empty_same) ts
            rest xs w.1
        | inr w ↦ full_from xs ts rest (full_case.reads.sound ts rest xs w.1)
      ]

  case_found : (xs : List (Labelled Bytes)) (ts rest : List Token) → Begins (case_fields_words xs) ts rest →
      true ≡ true → ends_members (front rest) ≡ true
      → Finds (form_of b case_said) xs rest (case_fields_at b ts)
  case_found [] ts rest h good ended =
      let first : begins_with (Sign Semicolon) ts ≡ true =
      ap (is_front (Sign Semicolon)) (front_of (case_fields_words []) ts rest (omega arith) h) in
      subst (Finds (form_of b case_said) [] rest)
      (sym (cond-true (begins_with (Sign Semicolon) ts)
      (shaped no_fields (exactly (Sign Semicolon ∷ [])) ts) (full_case.read ts) first))
      (shaped_found (form_of b empty_case.said) (form_of b case_said) empty_case.ends empty_case.read
      empty_case.reads no_fields (shapes b empty_case case_said no_fields empty_same) tt ts rest h refl
      refl)
  case_found (x ∷ xs) ts rest h good ended =
      let first : begins_with (Sign Semicolon) ts ≡ false =
      ap (is_front (Sign Semicolon)) (front_of (case_fields_words (x ∷ xs)) ts rest (omega arith) h) in
      subst (Finds (form_of b case_said) (x ∷ xs) rest)
      (sym (cond-false (begins_with (Sign Semicolon) ts)
      (shaped no_fields (exactly (Sign Semicolon ∷ [])) ts) (full_case.read ts) first))
      (full_case.reads.found (x ∷ xs) ts rest h refl ended)

  pub case_reads : Reads (form_of b case_said) ends_members (case_fields_at b)
  case_reads = record { sound = case_sound; found = case_found }

  abbrev case_known : Known b (List (Labelled Bytes))
  case_known = record { said = case_said; ends = ends_members; read = case_fields_at b; reads = case_reads }

  -- ---- cases

  abbrev variant_parts : Known b (Placed Bytes × List (Labelled Bytes))
  variant_parts = then_behind b (Word KwCase ∷ []) (both b (name_known b) case_known (λ y ts rest h good ended. refl))

  variant_same : Same variant_parts.said variant_said variant_of
  variant_same = record { words = λ x. refl; good = λ x. refl; depth = λ x. refl; types = λ x. refl }

  pub variant_reads : Reads (form_of b variant_said) ends_members (variant_at b)
  unfolding variant_at
  variant_reads = (shape b variant_parts variant_said variant_of variant_same (λ y. (y.name, y.fields))
      (λ y. refl)).reads

  abbrev variant_known : Known b (Variant Bytes)
  variant_known = record { said = variant_said; ends = ends_members; read = variant_at b; reads = variant_reads }

  pub variant_starts : (x : Variant Bytes) (ts rest : List Token) → Begins (variant_words x) ts rest →
      true ≡ true → is_front (Word KwCase) (front ts) ≡ true
  variant_starts x ts rest h good = ap (is_front (Word KwCase)) (front_of (variant_words x) ts rest (omega arith) h)

  pub case_follows : (what : Option What) → is_front (Word KwCase) what ≡ true → ends_members what ≡ true
  case_follows None e = absurd cc
  case_follows (Some what) e = ap (λ w. ends_members (Some w)) (same_is what (Word KwCase) e)

  abbrev variant_list : Known b (List (Variant Bytes))
  variant_list = all_of b variant_known (λ x good. omega arith) (is_front (Word KwCase)) variant_starts case_follows

  pub variants_same : Same variant_list.said variants_said (λ xs. xs)
  variants_same = record {
    words = λ xs. refl;
    good = λ xs. sym (all_good xs);
    depth =
        λ xs. sym (none_deep xs);
    types = λ xs. refl;
  }

  abbrev pub variants_known : Known b (List (Variant Bytes))
  variants_known = retold b variant_list variants_said variants_same

  -- ---- methods

  abbrev class_method_parts : Known b (Header Bytes)
  class_method_parts = then_behind b (Word KwMethod ∷ [])
      (then_closed b (Sign Semicolon) [] header_known low.type_semicolon)

  pub class_method_reads : Reads (form_of b class_method_said) anything (class_method_at b)
  unfolding class_method_at
  class_method_reads = class_method_parts.reads

  abbrev class_method_known : Known b (Header Bytes)
  class_method_known = record {
    said = class_method_said;
    ends = anything;
    read = class_method_at b;
    reads =
        class_method_reads;
  }

  pub class_method_starts : (x : Header Bytes) (ts rest : List Token) →
      Begins (class_method_words x) ts rest → true ≡ true → is_front (Word KwMethod) (front ts) ≡ true
  class_method_starts x ts rest h good =
      ap (is_front (Word KwMethod)) (front_of (class_method_words x) ts rest (omega arith) h)

  abbrev class_method_list : Known b (List (Header Bytes))
  class_method_list = all_of b class_method_known (λ x good. omega arith) (is_front (Word KwMethod))
      class_method_starts (λ what e. refl)

  pub class_methods_same : Same class_method_list.said class_methods_said (λ xs. xs)
  class_methods_same = record {
    words = λ xs. refl;
    good = λ xs. sym (all_good xs);
    depth =
        λ xs. sym (none_deep xs);
    types = λ xs. refl;
  }

  abbrev pub class_methods_known : Known b (List (Header Bytes))
  class_methods_known = retold b class_method_list class_methods_said class_methods_same

  -- a block and the `end` behind it
  pub end_follows : (y : Pos) (ts rest : List Token) → Begins (words.end_at y ++ fixed (Sign Semicolon ∷ []))
      ts rest → true ≡ true → true ≡ true → low.ends_block (front ts) ≡ true
  end_follows y ts rest h good ended =
      ap low.ends_block (front_of (words.end_at y ++ fixed (Sign Semicolon ∷ [])) ts rest (omega arith) h)
      ∙ low.block_end

  abbrev pub body_known : Known b (PlainStatements × Pos)
  body_known = both b block_known (then_closed b (Sign Semicolon) [] (end_known b) refl) end_follows

  -- a header and the body behind it
  abbrev pub with_body : Known b (Header Bytes × (PlainStatements × Pos))
  with_body = both_behind b header_known (Word KwIs) [] body_known low.type_is

  abbrev method_parts : Known b (Header Bytes × (PlainStatements × Pos))
  method_parts = then_behind b (Word KwMethod ∷ []) with_body

  pub body_good : (c : Bool) → c ≡ (true && (c && true))
  body_good c = sym (and_true c)

  method_same : Same method_parts.said method_said method_of
  method_same = record {
    words = λ x. simp append_assoc;
    good = λ x. body_good (formed_block x.1.0);
    depth = λ x. omega arith;
    types = λ x. ap (λ ts. header_types x.0 ++ ts) (sym (append-nil (block_types x.1.0)));
  }

  pub method_reads : Reads (form_of b method_said) anything (method_at b)
  unfolding method_at
  method_reads = (shape b method_parts method_said method_of method_same (λ y. (y.header, (y.body, y.stop)))
      (λ y. refl)).reads

  abbrev method_known : Known b PlainMethod
  method_known = record { said = method_said; ends = anything; read = method_at b; reads = method_reads }

  pub method_starts : (x : PlainMethod) (ts rest : List Token) → Begins (method_words x) ts rest →
      formed_method x ≡ true → is_front (Word KwMethod) (front ts) ≡ true
  method_starts x ts rest h good = ap (is_front (Word KwMethod)) (front_of (method_words x) ts rest (omega arith) h)

  abbrev pub methods_known : Known b (List PlainMethod)
  methods_known = all_of b method_known (λ x good. omega arith) (is_front (Word KwMethod)) method_starts
      (λ what e. refl)

  -- ---- the class and the type of an instance

  abbrev instance_head_parts : Known b (Placed Bytes × WrittenType)
  instance_head_parts =
      then_behind b (Word KwInstance ∷ [])
      (both_behind b (name_known b) (Sign LeftParenthesis) []
      (then_closed b (Sign RightParenthesis) [] type_known low.type_right) refl)

  instance_head_same : Same instance_head_parts.said instance_head_said (λ x. x)
  instance_head_same = record { words = λ x. refl; good = λ x. refl; depth = λ x. refl; types = λ x. refl }

  pub instance_head_reads : Reads (form_of b instance_head_said) anything (instance_head_at b)
  unfolding instance_head_at
  instance_head_reads = (retold b instance_head_parts instance_head_said instance_head_same).reads

  abbrev pub instance_head_known : Known b (Placed Bytes × WrittenType)
  instance_head_known = record {
    said = instance_head_said;
    ends = anything;
    read =
        instance_head_at b;
    reads = instance_head_reads;
  }
