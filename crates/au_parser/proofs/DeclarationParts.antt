-- What is told of the readers of parts of declarations.
use Rattle.std.proofs.Common.{◌≡◌, true, List, [], ◌∷◌, map, Some, refl, ap, ap₂, ◌∙◌, ◌++◌, subst, arith}
use Rattle.std.specs.List.{flat_map, list_all}
use Rattle.std.proofs.lemmas.Bool.{and_parts}
use Rattle.au_base.specs.declared.places.Pos.{Pos}
use Rattle.au_base.specs.declared.tokens.Keyword.TheVariants.{KwIs, KwCase, KwGeneric, KwInstance, KwMethod}
use Rattle.au_base.specs.declared.tokens.Keyword.TheVariants.{KwFree, KwLinear, KwAnyUniverse, KwRegion}
use Rattle.au_base.specs.declared.tokens.Sign.TheVariants.{LeftParenthesis, RightParenthesis, LeftBracket}
use Rattle.au_base.specs.declared.tokens.Sign.TheVariants.{RightBracket, Comma, Semicolon, Colon}
use Rattle.au_base.specs.declared.tokens.Token.{Token}
use Rattle.au_base.specs.declared.tokens.What.{What}
use Rattle.au_base.specs.declared.tokens.What.TheVariants.{Word, Sign}
use Rattle.au_syntax.specs.declared.declarations.Universe.{Universe}
use Rattle.au_syntax.specs.declared.declarations.Universe.TheVariants as universe
use Rattle.au_syntax.specs.Forms.{some, formed_block, formed_method}
use Rattle.au_syntax.specs.Modules.{InUniverse, Constrained, Header, Variant}
use Rattle.au_syntax.specs.Names.{Placed}
use Rattle.au_syntax.specs.Plain.{Bytes, PlainStatements, PlainMethod}
use Rattle.au_syntax.specs.Types.{WrittenType, Labelled}
use Rattle.au_syntax.specs.Words as words
use Rattle.au_base.specs.declared.tokens.Sign.{Sign as SignOf}
use Rattle.au_syntax.specs.Words.{Words, word, mark, in_universe_words, constrained_words, generic_words}
use Rattle.au_syntax.specs.Words.{universe_word, name_words, listed_in}
use Rattle.au_parser.specs.Measures as measures
use Rattle.au_parser.specs.Measures.{Measures, plain, plains, enclosed, labelled_measures}
use Rattle.au_parser.specs.Measures.{header_measures, fields_measures, case_fields_measures}
use Rattle.au_parser.specs.Measures.{variant_measures, class_method_measures, method_measures}
use Rattle.au_parser.specs.Measures.{instance_measures}
use Rattle.au_read_expressions.specs.Bounds.{Bounds}
use Rattle.au_read_expressions.specs.Reading.{Read, is_front, name_at, exactly, behind_tokens, closed, pair}
use Rattle.au_read_expressions.specs.Reading.{shaped, repeated, listed, bracketed, read_of}
use Rattle.au_read_expressions.specs.Spelling.{fixed}
use Rattle.au_read_expressions.specs.TypeReading.{type_at}
use Rattle.au_read_statements.specs.StatementReading.{block_at, end_place}
use Rattle.au_parser.specs.DeclarationReading.{universe_of, universe_at, in_universe_of, in_universe_at}
use Rattle.au_parser.specs.DeclarationReading.{parameters_at, constrained_of, constrained_at, generics_at}
use Rattle.au_parser.specs.DeclarationReading.{type_head_at, maybe_listed, is_name, labelled_of, header_of}
use Rattle.au_parser.specs.DeclarationReading.{first_and_rest, no_fields, variant_of, method_of, labelled_at}
use Rattle.au_parser.specs.DeclarationReading.{header_at, field_at, members_at, case_fields_at, variant_at}
use Rattle.au_parser.specs.DeclarationReading.{class_method_at, method_at, instance_head_at}
use Rattle.au_parser.proofs.Told.{Passing, Kind, Is, Example, Honest, token_of}
use Rattle.au_parser.proofs.Ways.{light, light_keeps, kind_honest, none_honest, value_honest}
use Rattle.au_parser.proofs.Ways.{behind_kind, closed_kind, pair_kind, behind_honest, closed_honest}
use Rattle.au_parser.proofs.Ways.{pair_honest, shaped_honest}
use Rattle.au_parser.proofs.FirstTokens.{test_honest}
use Rattle.au_parser.proofs.Lists.{separated_kind, separated_honest, repeated_kind, repeated_honest}
use Rattle.au_parser.proofs.Lists.{bracketed_kind, bracketed_honest}
use Rattle.au_parser.proofs.Single.{name_kind, name_honest, exactly_kind, exactly_honest}
use Rattle.au_parser.proofs.TypeReaders.{type_kind, type_honest}
use Rattle.au_parser.proofs.Levels.{passing}
use Rattle.au_parser.proofs.Rows.{pair_behind}
use Rattle.au_parser.proofs.StatementParts.{end_kind, end_honest}
use Rattle.au_parser.proofs.Conditionals.{block_kind}
use Rattle.au_parser.proofs.Statements.{block_honest}

-- ---- words that tell of no limit, in lists

plains_join : (a c : Words) → plains (a ++ c) ≡ plains a ++ plains c
plains_join [] c = refl
plains_join (w ∷ a) c = ap (λ ws. plain w ∷ ws) (plains_join a c)

plains_rest : {A : Type 0} (f : A → Words) (xs : List A) → plains (flat_map (λ one. mark Comma ++ one) (map f xs))
    ≡ flat_map (λ one. plains (mark Comma) ++ one) (map (λ x. plains (f x)) xs)
plains_rest f [] = refl
plains_rest f (x ∷ xs) =
    plains_join (mark Comma ++ f x) (flat_map (λ one. mark Comma ++ one) (map f xs))
    ∙ ap₂ (λ a c. (plains (mark Comma) ++ a) ++ c) (refl_of (plains (f x))) (plains_rest f xs)
  where
    refl_of : (ws : Measures) → ws ≡ ws
    refl_of ws = refl

plains_listed : {A : Type 0} (f : A → Words) (xs : List A) → plains (words.listed (map f xs))
    ≡ measures.listed (map (λ x. plains (f x)) xs)
plains_listed f [] = refl
plains_listed f (x ∷ xs) =
    plains_join (f x) (flat_map (λ one. mark Comma ++ one) (map f xs)) ∙ ap (λ ws. plains (f x) ++ ws) (plains_rest f xs)

plains_enclosed : {A : Type 0} (left right : SignOf) (f : A → Words) (xs : List A) →
    plains (listed_in left right (map f xs)) ≡ enclosed left right (map (λ x. plains (f x)) xs)
plains_enclosed left right f [] = refl
plains_enclosed left right f (x ∷ xs) =
    ap (λ ws. plains (mark left) ++ ws) (plains_join (words.listed (map f (x ∷ xs))) (mark right)
    ∙ ap (λ ws. ws ++ plains (mark right)) (plains_listed f (x ∷ xs)))

-- ---- a universe

abbrev pub universe_kind : Kind Universe
universe_kind = light (λ x. word (universe_word x))

universe_is : (t : Token) (x y : Universe) → x ≡ y → t.what ≡ Word (universe_word x) → Is universe_kind y (t ∷ [])
universe_is t x y same is = subst (λ z. Is universe_kind z (t ∷ [])) same
    (record { words = ((is, tt), tt); good = refl })

universe_means : (w : What) (t : Token) (x : Universe) → t.what ≡ w → universe_of w ≡ Some x → Is
    universe_kind x (t ∷ [])
universe_means (Word KwFree) t x is e = universe_is t universe.Free x (let same : universe.Free ≡ x = cc in same) is
universe_means (Word KwLinear) t x is e = universe_is t universe.Linear x
    (let same : universe.Linear ≡ x = cc in same) is
universe_means (Word KwAnyUniverse) t x is e =
    universe_is t universe.AnyType x (let same : universe.AnyType ≡ x = cc in same) is
universe_means (Word KwRegion) t x is e = universe_is t universe.Region x
    (let same : universe.Region ≡ x = cc in same) is
universe_means other t x is e = absurd cc

universe_example : Example universe_kind
universe_example = record {
  tree = universe.Free;
  tokens = token_of (Word KwFree) ∷ [];
  is = record { words = ((refl, tt), tt); good = refl };
}

pub universe_honest : (P : Passing) → Honest P universe_kind universe_at
universe_honest P = value_honest P universe_kind universe_example (λ token. universe_of token.what)
    (λ t x e. universe_means t.what t x refl e) (light_keeps P (λ (x : Universe). word (universe_word x)))

-- ---- type parameters

abbrev pub in_universe_kind : Kind (InUniverse Bytes)
in_universe_kind = light in_universe_words

pub in_universe_honest : (P : Passing) → Honest P in_universe_kind in_universe_at
in_universe_honest P =
    shaped_honest P (pair_kind name_kind (behind_kind universe_kind (Sign Colon ∷ []))) in_universe_kind _
    (pair_behind P name_kind universe_kind name_at (name_honest P) universe_at (universe_honest P) (Sign Colon ∷ []))
    in_universe_of
    (record { words = λ x g. refl; good = λ x g. refl })

abbrev parameters_kind : Kind (List (InUniverse Bytes))
parameters_kind = bracketed_kind in_universe_kind LeftBracket RightBracket

parameters_honest : (P : Passing) → Honest P parameters_kind parameters_at
parameters_honest P = bracketed_honest P in_universe_kind in_universe_at (in_universe_honest P) LeftBracket RightBracket

abbrev constrained_kind : Kind (Constrained Bytes)
constrained_kind = light constrained_words

constrained_honest : (P : Passing) → Honest P constrained_kind constrained_at
constrained_honest P =
    shaped_honest P (pair_kind in_universe_kind (bracketed_kind name_kind LeftParenthesis RightParenthesis))
    constrained_kind _
    (pair_honest P in_universe_kind (bracketed_kind name_kind LeftParenthesis RightParenthesis) in_universe_at
    (in_universe_honest P) (bracketed LeftParenthesis RightParenthesis name_at)
    (bracketed_honest P name_kind name_at (name_honest P) LeftParenthesis RightParenthesis)) constrained_of
    (record {
      words = λ x g. ap (λ ws. plains (in_universe_words x.0) ++ ws)
          (plains_enclosed LeftParenthesis RightParenthesis name_words x.1);
      good = λ x g. refl;
    })

abbrev pub generics_kind : Kind (List (Constrained Bytes))
generics_kind = light generic_words

abbrev some_generics_kind : Kind (List (Constrained Bytes))
some_generics_kind = behind_kind (closed_kind (separated_kind constrained_kind (fixed (Sign Comma ∷ [])))
    (Sign RightBracket ∷ [])) (Word KwGeneric ∷ Sign LeftBracket ∷ [])

abbrev some_generics_at : List Token → Read (List (Constrained Bytes))
some_generics_at = behind_tokens (Word KwGeneric ∷ Sign LeftBracket ∷ [])
    (closed (Sign RightBracket ∷ []) (listed constrained_at))

generics_line : (xs : List (Constrained Bytes)) → some_generics_kind.good xs ≡ true →
    generics_kind.words xs ≡ some_generics_kind.words xs
generics_line [] g = absurd (let wrong = g in cc)
generics_line (x ∷ xs) g =
    ap (λ ws. plains (word KwGeneric) ++ ws) (plains_enclosed LeftBracket RightBracket constrained_words (x ∷ xs))

pub generics_honest : (P : Passing) → Honest P generics_kind generics_at
generics_honest P =
    test_honest P generics_kind (is_front (Word KwGeneric)) some_generics_at (read_of [])
    (kind_honest P some_generics_kind generics_kind some_generics_at
    (behind_honest P _ (Word KwGeneric ∷ Sign LeftBracket ∷ []) _
    (closed_honest P _ (Sign RightBracket ∷ []) _
    (separated_honest P constrained_kind constrained_at (constrained_honest P) (Sign Comma)))) (record { words = generics_line; good = λ xs g. refl }))
    (none_honest P generics_kind [] (record { words = tt; good = refl }) tt)

abbrev pub head_kind : Kind (Placed Bytes × (List (InUniverse Bytes) × Universe))
head_kind = pair_kind name_kind (pair_kind parameters_kind (behind_kind universe_kind (Sign Colon ∷ [])))

pub head_honest : (P : Passing) → Honest P head_kind type_head_at
head_honest P =
    pair_honest P name_kind (pair_kind parameters_kind (behind_kind universe_kind (Sign Colon ∷ []))) name_at
    (name_honest P) _
    (pair_behind P parameters_kind universe_kind parameters_at (parameters_honest P) universe_at (universe_honest P)
    (Sign Colon ∷ []))

-- ---- parts with commas between, or none

abbrev maybe_kind : {A : Type 0} → Kind A → Kind (List A)
maybe_kind kind = record { words = λ xs. measures.listed (map kind.words xs); good = list_all kind.good }

maybe_honest : {A : Type 0} (P : Passing) (kind : Kind A) (read : List Token → Read A) → Honest P kind read → (close : What)
    → Honest P (maybe_kind kind) (maybe_listed close read)
maybe_honest P kind read honest close =
    test_honest P (maybe_kind kind) (is_front close) (read_of []) (listed read)
    (none_honest P (maybe_kind kind) [] (record { words = tt; good = refl }) tt)
    (kind_honest P (separated_kind kind (fixed (Sign Comma ∷ []))) (maybe_kind kind) (listed read)
    (separated_honest P kind read honest (Sign Comma)) (record { words = λ xs g. refl; good = λ xs g. (and_parts (some xs) (list_all kind.good xs) g).1 }))

-- ---- fields and headers

abbrev whole : {A : Type 0} → (A → Measures) → Kind A
whole words = record { words = words; good = λ x. true }

abbrev pub labelled_kind : Kind (Labelled Bytes)
labelled_kind = record { words = labelled_measures; good = λ x. true }

abbrev pub header_kind : Kind (Header Bytes)
header_kind = record { words = header_measures; good = λ x. true }

abbrev pub fields_kind : Kind (List (Labelled Bytes))
fields_kind = record { words = fields_measures; good = λ x. true }

abbrev some_fields_kind : Kind (List (Labelled Bytes))
some_fields_kind = record { words = fields_measures; good = some }

abbrev case_kind : Kind (List (Labelled Bytes))
case_kind = whole case_fields_measures

abbrev variant_kind : Kind (Variant Bytes)
variant_kind = whole variant_measures

abbrev pub variants_kind : Kind (List (Variant Bytes))
variants_kind = record { words = flat_map variant_measures; good = λ x. true }

abbrev class_method_kind : Kind (Header Bytes)
class_method_kind = whole class_method_measures

abbrev pub class_methods_kind : Kind (List (Header Bytes))
class_methods_kind = record { words = flat_map class_method_measures; good = λ x. true }

abbrev pub method_kind : Kind PlainMethod
method_kind = record { words = method_measures; good = formed_method }

abbrev pub instance_head_kind : Kind (Placed Bytes × WrittenType)
instance_head_kind = record { words = λ x. instance_measures x.0 x.1; good = λ x. true }

-- a header and the body behind it
abbrev pub body_kind : Kind (Header Bytes × (PlainStatements × Pos))
body_kind = pair_kind header_kind (behind_kind (pair_kind block_kind (closed_kind end_kind (Sign Semicolon ∷ [])))
    (Word KwIs ∷ []))

module _ (b : Bounds) where
  abbrev P : Passing
  P = passing b b.nesting

  labelled_honest : Honest P labelled_kind (labelled_at b)
  labelled_honest =
      shaped_honest P (pair_kind name_kind (behind_kind type_kind (Sign Colon ∷ []))) labelled_kind _
      (pair_behind P name_kind type_kind name_at (name_honest P) (type_at b) (type_honest b b.nesting) (Sign Colon ∷ [])) labelled_of
      (record { words = λ x g. refl; good = λ x g. refl })

  pub header_honest : Honest P header_kind (header_at b)
  unfolding header_at
  header_honest =
      shaped_honest P (pair_kind name_kind (behind_kind (pair_kind (maybe_kind labelled_kind) (behind_kind type_kind
      (Sign RightParenthesis ∷ Sign Colon ∷ []))) (Sign LeftParenthesis ∷ []))) header_kind _
      (pair_behind P name_kind (pair_kind (maybe_kind labelled_kind) (behind_kind type_kind
      (Sign RightParenthesis ∷ Sign Colon ∷ []))) name_at (name_honest P) _
      (pair_behind P (maybe_kind labelled_kind) type_kind (maybe_listed (Sign RightParenthesis) (labelled_at b))
      (maybe_honest P labelled_kind (labelled_at b) labelled_honest (Sign RightParenthesis)) (type_at b) (type_honest b b.nesting)
      (Sign RightParenthesis ∷ Sign Colon ∷ [])) (Sign LeftParenthesis ∷ [])) header_of
      (record { words = λ x g. refl; good = λ x g. refl })

  abbrev field_kind : Kind (Labelled Bytes)
  field_kind = closed_kind labelled_kind (Sign Semicolon ∷ [])

  field_honest : Honest P field_kind (field_at b)
  field_honest = closed_honest P labelled_kind (Sign Semicolon ∷ []) (labelled_at b) labelled_honest

  pub members_honest : Honest P fields_kind (members_at b)
  members_honest =
      kind_honest P (repeated_kind field_kind) fields_kind (members_at b)
      (repeated_honest P field_kind (field_at b) field_honest is_name (λ x g. omega arith))
      (record { words = λ xs g. refl; good = λ xs g. refl })

  -- the rest of a case behind its name
  some_fields_honest : Honest P some_fields_kind (shaped first_and_rest (pair (field_at b) (members_at b)))
  some_fields_honest =
      shaped_honest P (pair_kind field_kind fields_kind) some_fields_kind (pair (field_at b) (members_at b))
      (pair_honest P field_kind fields_kind (field_at b) field_honest (members_at b) members_honest) first_and_rest
      (record { words = λ x g. refl; good = λ x g. refl })

  case_line : (xs : List (Labelled Bytes)) → some xs ≡ true → case_kind.words xs
      ≡ (behind_kind some_fields_kind (Word KwIs ∷ [])).words xs
  case_line [] g = absurd (let wrong = g in cc)
  case_line (x ∷ xs) g = refl

  case_honest : Honest P case_kind (case_fields_at b)
  case_honest =
      test_honest P case_kind (is_front (Sign Semicolon)) (shaped no_fields (exactly (Sign Semicolon ∷ [])))
      (behind_tokens (Word KwIs ∷ []) (shaped first_and_rest (pair (field_at b) (members_at b))))
      (shaped_honest P (exactly_kind (Sign Semicolon ∷ [])) case_kind (exactly (Sign Semicolon ∷ []))
      (exactly_honest P (Sign Semicolon ∷ [])) no_fields (record { words = λ x g. refl; good = λ x g. refl }))
      (kind_honest P (behind_kind some_fields_kind (Word KwIs ∷ [])) case_kind _
      (behind_honest P some_fields_kind (Word KwIs ∷ []) (shaped first_and_rest (pair (field_at b) (members_at b)))
      some_fields_honest) (record { words = case_line; good = λ xs g. refl }))

  variant_honest : Honest P variant_kind (variant_at b)
  unfolding variant_at
  variant_honest =
      shaped_honest P (behind_kind (pair_kind name_kind case_kind) (Word KwCase ∷ [])) variant_kind _
      (behind_honest P (pair_kind name_kind case_kind) (Word KwCase ∷ []) (pair name_at (case_fields_at b))
      (pair_honest P name_kind case_kind name_at (name_honest P) (case_fields_at b) case_honest)) variant_of
      (record { words = λ x g. refl; good = λ x g. refl })

  pub variants_honest : Honest P variants_kind (repeated (is_front (Word KwCase)) (variant_at b))
  variants_honest =
      kind_honest P (repeated_kind variant_kind) variants_kind (repeated (is_front (Word KwCase)) (variant_at b))
      (repeated_honest P variant_kind (variant_at b) variant_honest (is_front (Word KwCase)) (λ x g. omega arith))
      (record { words = λ xs g. refl; good = λ xs g. refl })

  -- ---- methods

  class_method_honest : Honest P class_method_kind (class_method_at b)
  unfolding class_method_at
  class_method_honest =
      kind_honest P (behind_kind (closed_kind header_kind (Sign Semicolon ∷ [])) (Word KwMethod ∷ [])) class_method_kind _
      (behind_honest P (closed_kind header_kind (Sign Semicolon ∷ [])) (Word KwMethod ∷ []) _
      (closed_honest P header_kind (Sign Semicolon ∷ []) (header_at b) header_honest))
      (record { words = λ x g. refl; good = λ x g. refl })

  pub class_methods_honest : Honest P class_methods_kind (repeated (is_front (Word KwMethod)) (class_method_at b))
  class_methods_honest =
      kind_honest P (repeated_kind class_method_kind) class_methods_kind
      (repeated (is_front (Word KwMethod)) (class_method_at b))
      (repeated_honest P class_method_kind (class_method_at b) class_method_honest (is_front (Word KwMethod))
      (λ x g. omega arith))
      (record { words = λ xs g. refl; good = λ xs g. refl })

  pub body_honest : Honest P body_kind (pair (header_at b) (behind_tokens (Word KwIs ∷ [])
      (pair (block_at b b.nesting) (closed (Sign Semicolon ∷ []) end_place))))
  body_honest =
      pair_behind P header_kind (pair_kind block_kind (closed_kind end_kind (Sign Semicolon ∷ [])))
      (header_at b) header_honest
      (pair (block_at b b.nesting) (closed (Sign Semicolon ∷ []) end_place))
      (pair_honest P block_kind (closed_kind end_kind (Sign Semicolon ∷ [])) (block_at b b.nesting)
      (block_honest b b.nesting)
      (closed (Sign Semicolon ∷ []) end_place) (closed_honest P end_kind (Sign Semicolon ∷ []) end_place (end_honest P)))
      (Word KwIs ∷ [])

  method_honest : Honest P method_kind (method_at b)
  unfolding method_at
  method_honest =
      shaped_honest P (behind_kind body_kind (Word KwMethod ∷ [])) method_kind _
      (behind_honest P body_kind (Word KwMethod ∷ []) _ body_honest) method_of
      (record { words = λ x g. refl; good = λ x g. (and_parts (formed_block x.1.0) true g).0 })

  pub methods_honest : Honest P (repeated_kind method_kind) (repeated (is_front (Word KwMethod)) (method_at b))
  methods_honest = repeated_honest P method_kind (method_at b) method_honest (is_front (Word KwMethod))
      (λ x g. omega arith)

  pub instance_head_honest : Honest P instance_head_kind (instance_head_at b)
  unfolding instance_head_at
  instance_head_honest =
      kind_honest P (behind_kind (pair_kind name_kind (behind_kind (closed_kind type_kind (Sign RightParenthesis ∷ []))
      (Sign LeftParenthesis ∷ []))) (Word KwInstance ∷ [])) instance_head_kind _
      (behind_honest P (pair_kind name_kind (behind_kind (closed_kind type_kind (Sign RightParenthesis ∷ []))
      (Sign LeftParenthesis ∷ []))) (Word KwInstance ∷ []) _
      (pair_behind P name_kind (closed_kind type_kind (Sign RightParenthesis ∷ [])) name_at (name_honest P) _
      (closed_honest P type_kind (Sign RightParenthesis ∷ []) (type_at b) (type_honest b b.nesting)) (Sign LeftParenthesis ∷ [])))
      (record { words = λ x g. refl; good = λ x g. refl })
