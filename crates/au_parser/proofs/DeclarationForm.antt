-- The laws of the readers of declarations.
use Rattle.std.proofs.Common.{◌≡◌, ℕ, ◌<◌, Bool, true, false, not, max, List, [], ◌∷◌, ◌++◌, length, map}
use Rattle.std.proofs.Common.{Option, Some, Ok, refl, sym, ap, ◌∙◌, subst, arith}
use Rattle.std.specs.List.{flat_map, list_all}
use Rattle.std.proofs.lemmas.List.{append-nil, append_assoc}
use Rattle.au_base.specs.declared.places.Pos.{Pos}
use Rattle.au_base.specs.declared.tokens.Keyword.{Keyword}
use Rattle.au_base.specs.declared.tokens.Keyword.TheVariants.{KwIs, KwEnd, KwConstant, KwType, KwRecord}
use Rattle.au_base.specs.declared.tokens.Keyword.TheVariants.{KwUnion, KwFunction, KwGeneric, KwTypeclass}
use Rattle.au_base.specs.declared.tokens.Keyword.TheVariants.{KwInstance}
use Rattle.au_base.specs.declared.tokens.Sign.TheVariants.{Assign, LeftParenthesis, RightParenthesis}
use Rattle.au_base.specs.declared.tokens.Sign.TheVariants.{LeftBracket, RightBracket, Semicolon, Colon}
use Rattle.au_base.specs.declared.tokens.Token.{Token}
use Rattle.au_base.specs.declared.tokens.What.{What}
use Rattle.au_base.specs.declared.tokens.What.TheVariants.{Word, Sign}
use Rattle.au_syntax.specs.declared.declarations.Universe.{Universe}
use Rattle.au_syntax.specs.declared.modules.Part.{Part}
use Rattle.au_syntax.specs.declared.modules.Part.TheVariants.{Interface, Body}
use Rattle.au_syntax.specs.Modules.{InUniverse, Constrained, Header, Variant, constant, opaque_type}
use Rattle.au_syntax.specs.Modules.{record_type, union_type, function, class, instance, constant_body}
use Rattle.au_syntax.specs.Modules.{function_body, instance_body}
use Rattle.au_syntax.specs.Names.{Placed}
use Rattle.au_syntax.specs.Plain.{Bytes, PlainExpression, PlainStatements, PlainMethod, PlainDeclaration}
use Rattle.au_syntax.specs.Types.{WrittenType, Labelled}
use Rattle.au_syntax.specs.Depths.{block_depth, greatest, method_depth, declaration_depth}
use Rattle.au_syntax.specs.Sizes.{block_types, header_types, method_types, declaration_types}
use Rattle.au_syntax.specs.Forms.{formed_expression, formed_block, formed_method, formed_declaration}
use Rattle.au_syntax.specs.Words.{Words, begun, word, mark, listed_in, name_words, type_words}
use Rattle.au_syntax.specs.Words.{expression_words, universe_word, in_universe_words, fields_words}
use Rattle.au_syntax.specs.Words.{variant_words, class_method_words, block_words, end_at, generic_words}
use Rattle.au_syntax.specs.Words.{header_words, method_words, instance_words, declaration_words}
use Rattle.au_read_expressions.specs.Bounds.{Bounds}
use Rattle.au_read_expressions.specs.Reading.{front, is_front}
use Rattle.au_read_expressions.specs.Spelling.{Begins}
use Rattle.au_read_expressions.proofs.Steps.{not_read}
use Rattle.au_read_expressions.proofs.Begins.{front_of, begun_split}
use Rattle.au_read_expressions.proofs.Forms.{Form, Sound, Finds, Reads, anything, shaped_sound, shaped_found}
use Rattle.au_parser.specs.DeclarationReading.{Generalized, a_function, an_instance, a_function_body}
use Rattle.au_parser.specs.DeclarationReading.{an_instance_body, generalized_of, constant_of}
use Rattle.au_parser.specs.DeclarationReading.{constant_body_of, opaque_of, record_of, union_of, class_of}
use Rattle.au_parser.specs.DeclarationReading.{constant_at, constant_body_at, opaque_at, record_at, union_at}
use Rattle.au_parser.specs.DeclarationReading.{class_at, generalized_in, generalized_at, general_at}
use Rattle.au_parser.specs.DeclarationReading.{declaration_by, declaration_at}
use Rattle.au_parser.proofs.Known.{Said, Same, SameAt, form_of, Known, then_behind, then_closed, both}
use Rattle.au_parser.proofs.Known.{both_behind, shapes, row_sound, row_found}
use Rattle.au_parser.proofs.Lower.{Lower}
use Rattle.au_parser.proofs.PartForms.{name_known, in_universe_known, generics_known, type_head_known}
use Rattle.au_parser.proofs.TypedForms.{type_known, expression_known, header_known, members_known}
use Rattle.au_parser.proofs.TypedForms.{variants_known, class_methods_known, body_good, with_body}
use Rattle.au_parser.proofs.TypedForms.{methods_known, instance_head_known}

-- ---- what is said of declarations

abbrev pub declaration_said : Part → Said PlainDeclaration
declaration_said part = record {
  words = declaration_words;
  good = formed_declaration part;
  depth =
      declaration_depth;
  types = declaration_types;
}

abbrev pub declaration_form : Bounds → Part → Form PlainDeclaration
declaration_form b part = form_of b (declaration_said part)

-- ---- what stands behind type parameters

abbrev pub generalized_words : Generalized → Words
generalized_words (a_function h) = word KwFunction ++ header_words h ++ mark Semicolon
generalized_words (an_instance x) = instance_words x.0 x.1 ++ mark Semicolon
generalized_words (a_function_body x) = word KwFunction ++ header_words x.0 ++ word KwIs ++ block_words x.1.0
    ++ end_at x.1.1 ++ mark Semicolon
generalized_words (an_instance_body x) = instance_words x.0.0 x.0.1 ++ word KwIs ++ flat_map method_words x.1
    ++ word KwEnd ++ mark Semicolon

abbrev pub generalized_good : Part → Generalized → Bool
generalized_good Interface (a_function h) = true
generalized_good Interface (an_instance x) = true
generalized_good Body (a_function_body x) = formed_block x.1.0
generalized_good Body (an_instance_body x) = list_all formed_method x.1
generalized_good part other = false

abbrev pub generalized_depth : Generalized → ℕ
generalized_depth (a_function h) = 0
generalized_depth (an_instance x) = 0
generalized_depth (a_function_body x) = block_depth x.1.0
generalized_depth (an_instance_body x) = greatest method_depth x.1

abbrev pub generalized_types : Generalized → List WrittenType
generalized_types (a_function h) = header_types h
generalized_types (an_instance x) = x.1 ∷ []
generalized_types (a_function_body x) = header_types x.0 ++ block_types x.1.0
generalized_types (an_instance_body x) = x.0.1 ∷ flat_map method_types x.1

abbrev pub generalized_said : Part → Said Generalized
generalized_said part = record {
  words = generalized_words;
  good = generalized_good part;
  depth =
      generalized_depth;
  types = generalized_types;
}

-- the keyword with which it begins
abbrev generalized_word : Generalized → Keyword
generalized_word (a_function h) = KwFunction
generalized_word (an_instance x) = KwInstance
generalized_word (a_function_body x) = KwFunction
generalized_word (an_instance_body x) = KwInstance

generalized_front : (g : Generalized) (ts rest : List Token) → Begins (generalized_words g) ts rest →
    front ts ≡ Some (Word (generalized_word g))
generalized_front (a_function h) ts rest b = front_of (generalized_words (a_function h)) ts rest (omega arith) b
generalized_front (an_instance x) ts rest b = front_of (generalized_words (an_instance x)) ts rest (omega arith) b
generalized_front (a_function_body x) ts rest b = front_of (generalized_words (a_function_body x)) ts rest
    (omega arith) b
generalized_front (an_instance_body x) ts rest b = front_of (generalized_words (an_instance_body x)) ts rest
    (omega arith) b

not_generic : (g : Generalized) → not (is_front (Word KwGeneric) (Some (Word (generalized_word g)))) ≡ true
not_generic (a_function h) = refl
not_generic (an_instance x) = refl
not_generic (a_function_body x) = refl
not_generic (an_instance_body x) = refl

module _ (b : Bounds) (low : Lower b) where
  abbrev function_parts : Known b (Header Bytes)
  function_parts = then_behind b (Word KwFunction ∷ [])
      (then_closed b (Sign Semicolon) [] (header_known b low) low.type_semicolon)

  abbrev instance_parts : Known b (Placed Bytes × WrittenType)
  instance_parts = then_closed b (Sign Semicolon) [] (instance_head_known b low) refl

  abbrev function_body_parts : Known b (Header Bytes × (PlainStatements × Pos))
  function_body_parts = then_behind b (Word KwFunction ∷ []) (with_body b low)

  abbrev instance_body_parts : Known b ((Placed Bytes × WrittenType) × List PlainMethod)
  instance_body_parts = both_behind b (instance_head_known b low) (Word KwIs) []
      (then_closed b (Word KwEnd) (Sign Semicolon ∷ []) (methods_known b low) refl) refl

  function_same : Same function_parts.said (generalized_said Interface) a_function
  function_same = record { words = λ x. simp append_assoc; good = λ x. refl; depth = λ x. refl; types = λ x. refl }

  instance_same : Same instance_parts.said (generalized_said Interface) an_instance
  instance_same = record { words = λ x. simp append_assoc; good = λ x. refl; depth = λ x. refl; types = λ x. refl }

  function_body_same : Same function_body_parts.said (generalized_said Body) a_function_body
  function_body_same = record {
    words = λ x. simp append_assoc;
    good = λ x. body_good b low (formed_block x.1.0);
    depth = λ x. omega arith;
    types = λ x. ap (λ ts. header_types x.0 ++ ts) (sym (append-nil (block_types x.1.0)));
  }

  instance_body_same : Same instance_body_parts.said (generalized_said Body) an_instance_body
  instance_body_same = record {
    words = λ x. simp append_assoc;
    good = λ x. refl;
    depth = λ x. omega arith;
    types = λ x. refl;
  }

  in_sound : (part : Part) (w : Option What) (ts rest : List Token) (g : Generalized) →
      generalized_in b part w ts ≡ Ok (g, rest) → Sound (form_of b (generalized_said part)) g ts rest
  in_sound Interface (Some (Word KwFunction)) ts rest g e =
      shaped_sound (form_of b function_parts.said) (form_of b (generalized_said Interface))
      function_parts.ends function_parts.read function_parts.reads a_function
      (shapes b function_parts (generalized_said Interface) a_function function_same) ts rest g e
  in_sound Interface other ts rest g e =
      shaped_sound (form_of b instance_parts.said) (form_of b (generalized_said Interface))
      instance_parts.ends instance_parts.read instance_parts.reads an_instance
      (shapes b instance_parts (generalized_said Interface) an_instance instance_same) ts rest g e
  in_sound Body (Some (Word KwFunction)) ts rest g e =
      shaped_sound (form_of b function_body_parts.said) (form_of b (generalized_said Body))
      function_body_parts.ends function_body_parts.read function_body_parts.reads a_function_body
      (shapes b function_body_parts (generalized_said Body) a_function_body function_body_same) ts rest g e
  in_sound Body other ts rest g e =
      shaped_sound (form_of b instance_body_parts.said) (form_of b (generalized_said Body))
      instance_body_parts.ends instance_body_parts.read instance_body_parts.reads an_instance_body
      (shapes b instance_body_parts (generalized_said Body) an_instance_body instance_body_same) ts rest g e

  in_found : (part : Part) (g : Generalized) (ts rest : List Token) → Begins (generalized_words g) ts rest →
      generalized_good part g ≡ true
      → Finds (form_of b (generalized_said part)) g rest (generalized_in b part (Some (Word (generalized_word g))) ts)
  in_found Interface (a_function h) ts rest s good =
      shaped_found (form_of b function_parts.said) (form_of b (generalized_said Interface))
      function_parts.ends function_parts.read function_parts.reads a_function
      (shapes b function_parts (generalized_said Interface) a_function function_same) h ts rest s good refl
  in_found Interface (an_instance x) ts rest s good =
      shaped_found (form_of b instance_parts.said) (form_of b (generalized_said Interface))
      instance_parts.ends instance_parts.read instance_parts.reads an_instance
      (shapes b instance_parts (generalized_said Interface) an_instance instance_same) x ts rest s good refl
  in_found Body (a_function_body x) ts rest s good =
      shaped_found (form_of b function_body_parts.said) (form_of b (generalized_said Body))
      function_body_parts.ends function_body_parts.read function_body_parts.reads a_function_body
      (shapes b function_body_parts (generalized_said Body) a_function_body function_body_same) x ts rest s
      good refl
  in_found Body (an_instance_body x) ts rest s good =
      shaped_found (form_of b instance_body_parts.said) (form_of b (generalized_said Body))
      instance_body_parts.ends instance_body_parts.read instance_body_parts.reads an_instance_body
      (shapes b instance_body_parts (generalized_said Body) an_instance_body instance_body_same) x ts rest s
      good refl
  in_found part g ts rest s good = absurd cc

  generalized_reads : (part : Part) → Reads (form_of b (generalized_said part)) anything (generalized_at b part)
  unfolding generalized_at
  generalized_reads part = record {
    sound = λ ts rest g e. in_sound part (front ts) ts rest g e;
    found = λ g ts rest h good ended.
        subst (λ w. Finds (form_of b (generalized_said part)) g rest (generalized_in b part w ts))
        (sym (generalized_front g ts rest h)) (in_found part g ts rest h good);
  }

  abbrev generalized_known : Part → Known b Generalized
  generalized_known part = record {
    said = generalized_said part;
    ends = anything;
    read =
        generalized_at b part;
    reads = generalized_reads part;
  }

-- ---- the declaration that is generalized

general_words : (g : Generalized) (at : Pos) (gs : List (Constrained Bytes)) →
    declaration_words (generalized_of at (gs, g)) ≡ begun at (generic_words gs ++ generalized_words g)
general_words (a_function h) at gs = simp append_assoc
general_words (an_instance x) at gs = simp append_assoc
general_words (a_function_body x) at gs = simp append_assoc
general_words (an_instance_body x) at gs = simp append_assoc

generalized_some : (g : Generalized) → 0 < length (generalized_words g)
generalized_some (a_function h) = omega arith
generalized_some (an_instance x) = omega arith
generalized_some (a_function_body x) = omega arith
generalized_some (an_instance_body x) = omega arith

general_some : (gs : List (Constrained Bytes)) (g : Generalized) → 0 < length (generic_words gs ++ generalized_words g)
general_some [] g = generalized_some g
general_some (x ∷ xs) g = omega arith

general_good : (part : Part) (g : Generalized) (at : Pos) (gs : List (Constrained Bytes)) →
    formed_declaration part (generalized_of at (gs, g)) ≡ generalized_good part g
general_good Interface (a_function h) at gs = refl
general_good Interface (an_instance x) at gs = refl
general_good Interface (a_function_body x) at gs = refl
general_good Interface (an_instance_body x) at gs = refl
general_good Body (a_function h) at gs = refl
general_good Body (an_instance x) at gs = refl
general_good Body (a_function_body x) at gs = refl
general_good Body (an_instance_body x) at gs = refl

general_depth : (g : Generalized) (at : Pos) (gs : List (Constrained Bytes)) →
    declaration_depth (generalized_of at (gs, g)) ≡ max 0 (generalized_depth g)
general_depth (a_function h) at gs = refl
general_depth (an_instance x) at gs = refl
general_depth (a_function_body x) at gs = omega arith
general_depth (an_instance_body x) at gs = omega arith

general_types : (g : Generalized) (at : Pos) (gs : List (Constrained Bytes)) →
    declaration_types (generalized_of at (gs, g)) ≡ generalized_types g
general_types (a_function h) at gs = refl
general_types (an_instance x) at gs = refl
general_types (a_function_body x) at gs = refl
general_types (an_instance_body x) at gs = refl

record_good : (part : Part) (at : Pos) (name : Placed Bytes) (parameters : List (InUniverse Bytes))
    (universe : Universe) (fields : List (Labelled Bytes)) →
    formed_declaration part (record_type at name parameters universe fields) ≡ true
record_good Interface at name parameters universe fields = refl
record_good Body at name parameters universe fields = refl

union_good : (part : Part) (at : Pos) (name : Placed Bytes) (parameters : List (InUniverse Bytes))
    (universe : Universe) (cases : List (Variant Bytes)) →
    formed_declaration part (union_type at name parameters universe cases) ≡ true
union_good Interface at name parameters universe cases = refl
union_good Body at name parameters universe cases = refl

class_good : (part : Part) (at : Pos) (name : Placed Bytes) (parameter : InUniverse Bytes)
    (methods : List (Header Bytes)) → formed_declaration part (class at name parameter methods) ≡ true
class_good Interface at name parameter methods = refl
class_good Body at name parameter methods = refl

-- ---- the rows

head_group : (k n l c u i f e s : Words) → (k ++ (n ++ l ++ c ++ u) ++ i ++ f ++ e ++ s)
    ≡ (k ++ ((n ++ (l ++ (c ++ u))) ++ (i ++ (f ++ (e ++ s)))))
head_group k n l c u i f e s = simp append_assoc

value_group : (k n c t a e s : Words) → (k ++ n ++ c ++ t ++ a ++ e ++ s) ≡ (k ++ (n ++ (c ++ (t ++ (a ++ (e ++ s))))))
value_group k n c t a e s = simp append_assoc

class_group : (k n o p c i f e s : Words) → (k ++ n ++ o ++ p ++ c ++ i ++ f ++ e ++ s)
    ≡ (k ++ (n ++ (o ++ (p ++ ((c ++ i) ++ (f ++ (e ++ s)))))))
class_group k n o p c i f e s = simp append_assoc

module _ (b : Bounds) (low : Lower b) where
  abbrev constant_parts : Known b (Placed Bytes × WrittenType)
  constant_parts = then_behind b (Word KwConstant ∷ [])
      (both_behind b (name_known b) (Sign Colon) []
      (then_closed b (Sign Semicolon) [] (type_known b low) low.type_semicolon) refl)

  constant_same : SameAt constant_parts.said (declaration_said Interface) constant_of
  constant_same = record {
    words = λ at x. refl;
    some = λ x. omega arith;
    good = λ at x. refl;
    depth =
        λ at x. refl;
    types = λ at x. refl;
  }

  abbrev constant_body_parts : Known b (Placed Bytes × (WrittenType × PlainExpression))
  constant_body_parts =
      then_behind b (Word KwConstant ∷ [])
      (both_behind b (name_known b) (Sign Colon) []
      (both_behind b (type_known b low) (Sign Assign) []
      (then_closed b (Sign Semicolon) [] (expression_known b low) low.expression_semicolon) low.type_assign)
      refl)

  constant_body_same : SameAt constant_body_parts.said (declaration_said Body) constant_body_of
  constant_body_same = record {
    words =
        λ at x. ap (begun at) (value_group (word KwConstant) (name_words x.0) (mark Colon) (type_words x.1.0)
        (mark Assign) (expression_words x.1.1) (mark Semicolon));
    some = λ x. omega arith;
    good =
        λ at x. refl;
    depth = λ at x. omega arith;
    types = λ at x. refl;
  }

  abbrev opaque_parts : Known b (Placed Bytes × (List (InUniverse Bytes) × Universe))
  opaque_parts = then_behind b (Word KwType ∷ []) (then_closed b (Sign Semicolon) [] (type_head_known b) refl)

  opaque_same : SameAt opaque_parts.said (declaration_said Interface) opaque_of
  opaque_same = record {
    words = λ at x. simp append_assoc;
    some = λ x. omega arith;
    good =
        λ at x. refl;
    depth = λ at x. refl;
    types = λ at x. refl;
  }

  abbrev record_parts : Known b ((Placed Bytes × (List (InUniverse Bytes) × Universe)) × List (Labelled Bytes))
  record_parts =
      then_behind b (Word KwRecord ∷ [])
      (both_behind b (type_head_known b) (Word KwIs) []
      (then_closed b (Word KwEnd) (Sign Semicolon ∷ []) (members_known b low) refl) refl)

  record_same : (part : Part) → SameAt record_parts.said (declaration_said part) record_of
  record_same part = record {
    words =
        λ at x. ap (begun at) (head_group (word KwRecord) (name_words x.0.0)
        (listed_in LeftBracket RightBracket (map in_universe_words x.0.1.0)) (mark Colon)
        (word (universe_word x.0.1.1)) (word KwIs) (fields_words x.1) (word KwEnd) (mark Semicolon));
    some =
        λ x. omega arith;
    good = λ at x. record_good part at x.0.0 x.0.1.0 x.0.1.1 x.1;
    depth =
        λ at x. refl;
    types = λ at x. refl;
  }

  abbrev union_parts : Known b ((Placed Bytes × (List (InUniverse Bytes) × Universe)) × List (Variant Bytes))
  union_parts =
      then_behind b (Word KwUnion ∷ [])
      (both_behind b (type_head_known b) (Word KwIs) []
      (then_closed b (Word KwEnd) (Sign Semicolon ∷ []) (variants_known b low) refl) refl)

  union_same : (part : Part) → SameAt union_parts.said (declaration_said part) union_of
  union_same part = record {
    words =
        λ at x. ap (begun at) (head_group (word KwUnion) (name_words x.0.0)
        (listed_in LeftBracket RightBracket (map in_universe_words x.0.1.0)) (mark Colon)
        (word (universe_word x.0.1.1)) (word KwIs) (flat_map variant_words x.1) (word KwEnd) (mark Semicolon));
    some = λ x. omega arith;
    good = λ at x. union_good part at x.0.0 x.0.1.0 x.0.1.1 x.1;
    depth =
        λ at x. refl;
    types = λ at x. refl;
  }

  abbrev class_parts : Known b (Placed Bytes × (InUniverse Bytes × List (Header Bytes)))
  class_parts =
      then_behind b (Word KwTypeclass ∷ [])
      (both_behind b (name_known b) (Sign LeftParenthesis) []
      (both_behind b (in_universe_known b) (Sign RightParenthesis) (Word KwIs ∷ [])
      (then_closed b (Word KwEnd) (Sign Semicolon ∷ []) (class_methods_known b low) refl) refl) refl)

  class_same : (part : Part) → SameAt class_parts.said (declaration_said part) class_of
  class_same part = record {
    words =
        λ at x. ap (begun at) (class_group (word KwTypeclass) (name_words x.0) (mark LeftParenthesis)
        (in_universe_words x.1.0) (mark RightParenthesis) (word KwIs) (flat_map class_method_words x.1.1)
        (word KwEnd) (mark Semicolon));
    some = λ x. omega arith;
    good = λ at x. class_good part at x.0 x.1.0
        x.1.1;
    depth = λ at x. refl;
    types = λ at x. refl;
  }

  generics_stop : (part : Part) (y : Generalized) (ts rest : List Token) →
      Begins (generalized_words y) ts rest → generalized_good part y ≡ true → true ≡ true →
      not (is_front (Word KwGeneric) (front ts)) ≡ true
  generics_stop part y ts rest h good ended = ap (λ w. not (is_front (Word KwGeneric) w))
      (generalized_front y ts rest h) ∙ not_generic y

  abbrev general_parts : Part → Known b (List (Constrained Bytes) × Generalized)
  general_parts part = both b (generics_known b) (generalized_known b low part) (generics_stop part)

  general_same : (part : Part) → SameAt (general_parts part).said (declaration_said part) generalized_of
  general_same part = record {
    words = λ at x. general_words x.1 at x.0;
    some = λ x. general_some x.0 x.1;
    good = λ at x. general_good part x.1 at x.0;
    depth = λ at x. general_depth x.1 at x.0;
    types = λ at x. general_types x.1 at x.0;
  }

  constant_sound : (ts rest : List Token) (d : PlainDeclaration) → constant_at b ts ≡ Ok (d, rest) →
      Sound (declaration_form b Interface) d ts rest
  unfolding constant_at
  constant_sound = row_sound b constant_parts (declaration_said Interface) constant_of constant_same

  constant_found : (at : Pos) (x : Placed Bytes × WrittenType) (ts rest : List Token) →
      Begins (declaration_words (constant_of at x)) ts rest → true ≡ true
      → Finds (declaration_form b Interface) (constant_of at x) rest (constant_at b ts)
  unfolding constant_at
  constant_found at x ts rest h good = row_found b constant_parts (declaration_said Interface) constant_of
      constant_same at x ts rest h good refl

  constant_body_sound : (ts rest : List Token) (d : PlainDeclaration) → constant_body_at b ts ≡ Ok (d, rest) →
      Sound (declaration_form b Body) d ts rest
  unfolding constant_body_at
  constant_body_sound = row_sound b constant_body_parts (declaration_said Body) constant_body_of constant_body_same

  constant_body_found : (at : Pos) (x : Placed Bytes × (WrittenType × PlainExpression)) (ts rest : List Token)
      → Begins (declaration_words (constant_body_of at x)) ts rest → formed_expression x.1.1 ≡ true
      → Finds (declaration_form b Body) (constant_body_of at x) rest (constant_body_at b ts)
  unfolding constant_body_at
  constant_body_found at x ts rest h good = row_found b constant_body_parts (declaration_said Body)
      constant_body_of constant_body_same at x ts rest h good refl

  opaque_sound : (ts rest : List Token) (d : PlainDeclaration) → opaque_at b ts ≡ Ok (d, rest) →
      Sound (declaration_form b Interface) d ts rest
  unfolding opaque_at
  opaque_sound = row_sound b opaque_parts (declaration_said Interface) opaque_of opaque_same

  opaque_found : (at : Pos) (x : Placed Bytes × (List (InUniverse Bytes) × Universe)) (ts rest : List Token) →
      Begins (declaration_words (opaque_of at x)) ts rest → true ≡ true
      → Finds (declaration_form b Interface) (opaque_of at x) rest (opaque_at b ts)
  unfolding opaque_at
  opaque_found at x ts rest h good = row_found b opaque_parts (declaration_said Interface) opaque_of
      opaque_same at x ts rest h good refl

  module _ (part : Part) where
    record_sound : (ts rest : List Token) (d : PlainDeclaration) → record_at b ts ≡ Ok (d, rest) →
        Sound (declaration_form b part) d ts rest
    unfolding record_at
    record_sound = row_sound b record_parts (declaration_said part) record_of (record_same part)

    record_found : (at : Pos) (x : (Placed Bytes × (List (InUniverse Bytes) × Universe))
        × List (Labelled Bytes)) (ts rest : List Token) → Begins (declaration_words (record_of at x)) ts rest
        → formed_declaration part (record_of at x) ≡ true → Finds (declaration_form b part) (record_of at x)
        rest (record_at b ts)
    unfolding record_at
    record_found at x ts rest h good = row_found b record_parts (declaration_said part) record_of
        (record_same part) at x ts rest h good refl

    union_sound : (ts rest : List Token) (d : PlainDeclaration) → union_at b ts ≡ Ok (d, rest) →
        Sound (declaration_form b part) d ts rest
    unfolding union_at
    union_sound = row_sound b union_parts (declaration_said part) union_of (union_same part)

    union_found : (at : Pos) (x : (Placed Bytes × (List (InUniverse Bytes) × Universe))
        × List (Variant Bytes)) (ts rest : List Token) → Begins (declaration_words (union_of at x)) ts rest
        → formed_declaration part (union_of at x) ≡ true → Finds (declaration_form b part) (union_of at x)
        rest (union_at b ts)
    unfolding union_at
    union_found at x ts rest h good = row_found b union_parts (declaration_said part) union_of
        (union_same part) at x ts rest h good refl

    class_sound : (ts rest : List Token) (d : PlainDeclaration) → class_at b ts ≡ Ok (d, rest) →
        Sound (declaration_form b part) d ts rest
    unfolding class_at
    class_sound = row_sound b class_parts (declaration_said part) class_of (class_same part)

    class_found : (at : Pos) (x : Placed Bytes × (InUniverse Bytes × List (Header Bytes)))
        (ts rest : List Token) → Begins (declaration_words (class_of at x)) ts rest
        → formed_declaration part (class_of at x) ≡ true → Finds (declaration_form b part) (class_of at x)
        rest (class_at b ts)
    unfolding class_at
    class_found at x ts rest h good = row_found b class_parts (declaration_said part) class_of
        (class_same part) at x ts rest h good refl

    general_sound : (ts rest : List Token) (d : PlainDeclaration) → general_at b part ts ≡ Ok (d, rest) →
        Sound (declaration_form b part) d ts rest
    unfolding general_at
    general_sound = row_sound b (general_parts part) (declaration_said part) generalized_of (general_same part)

    general_found : (at : Pos) (x : List (Constrained Bytes) × Generalized) (ts rest : List Token) →
        Begins (declaration_words (generalized_of at x)) ts rest
        → formed_declaration part (generalized_of at x) ≡ true →
        Finds (declaration_form b part) (generalized_of at x) rest (general_at b part ts)
    unfolding general_at
    general_found at x ts rest h good = row_found b (general_parts part) (declaration_said part)
        generalized_of (general_same part) at x ts rest h good refl

  -- ---- a declaration

  by_sound : (part : Part) (w : Option What) (ts rest : List Token) (d : PlainDeclaration) →
      declaration_by b part w ts ≡ Ok (d, rest) → Sound (declaration_form b part) d ts rest
  by_sound Interface (Some (Word KwConstant)) ts rest d e = constant_sound ts rest d e
  by_sound Interface (Some (Word KwType)) ts rest d e = opaque_sound ts rest d e
  by_sound Interface (Some (Word KwRecord)) ts rest d e = record_sound Interface ts rest d e
  by_sound Interface (Some (Word KwUnion)) ts rest d e = union_sound Interface ts rest d e
  by_sound Interface (Some (Word KwTypeclass)) ts rest d e = class_sound Interface ts rest d e
  by_sound Interface (Some (Word KwGeneric)) ts rest d e = general_sound Interface ts rest d e
  by_sound Interface (Some (Word KwFunction)) ts rest d e = general_sound Interface ts rest d e
  by_sound Interface (Some (Word KwInstance)) ts rest d e = general_sound Interface ts rest d e
  by_sound Body (Some (Word KwConstant)) ts rest d e = constant_body_sound ts rest d e
  by_sound Body (Some (Word KwRecord)) ts rest d e = record_sound Body ts rest d e
  by_sound Body (Some (Word KwUnion)) ts rest d e = union_sound Body ts rest d e
  by_sound Body (Some (Word KwTypeclass)) ts rest d e = class_sound Body ts rest d e
  by_sound Body (Some (Word KwGeneric)) ts rest d e = general_sound Body ts rest d e
  by_sound Body (Some (Word KwFunction)) ts rest d e = general_sound Body ts rest d e
  by_sound Body (Some (Word KwInstance)) ts rest d e = general_sound Body ts rest d e
  by_sound part other ts rest d e = absurd (not_read _ (d, rest) e)

  record_choice : (part : Part) (ts : List Token) → declaration_by b part (Some (Word KwRecord)) ts ≡ record_at b ts
  record_choice Interface ts = refl
  record_choice Body ts = refl

  union_choice : (part : Part) (ts : List Token) → declaration_by b part (Some (Word KwUnion)) ts ≡ union_at b ts
  union_choice Interface ts = refl
  union_choice Body ts = refl

  class_choice : (part : Part) (ts : List Token) → declaration_by b part (Some (Word KwTypeclass)) ts ≡ class_at b ts
  class_choice Interface ts = refl
  class_choice Body ts = refl

  generic_choice : (part : Part) (ts : List Token) → declaration_by b part (Some (Word KwGeneric)) ts
      ≡ general_at b part ts
  generic_choice Interface ts = refl
  generic_choice Body ts = refl

  general_choice : (part : Part) (g : Generalized) (ts : List Token) →
      declaration_by b part (Some (Word (generalized_word g))) ts ≡ general_at b part ts
  general_choice Interface (a_function h) ts = refl
  general_choice Interface (an_instance x) ts = refl
  general_choice Interface (a_function_body x) ts = refl
  general_choice Interface (an_instance_body x) ts = refl
  general_choice Body (a_function h) ts = refl
  general_choice Body (an_instance x) ts = refl
  general_choice Body (a_function_body x) ts = refl
  general_choice Body (an_instance_body x) ts = refl

  -- the declaration's first word decides
  first_of_general : (gs : List (Constrained Bytes)) (g : Generalized) (at : Pos) (ts rest : List Token) →
      Begins (begun at (generic_words gs ++ generalized_words g)) ts rest
      → (part : Part) → declaration_by b part (front ts) ts ≡ general_at b part ts
  first_of_general [] g at ts rest h part =
      ap (λ w. declaration_by b part w ts)
      (generalized_front g ts rest (begun_split at (generalized_words g) ts rest (generalized_some g) h).1)
      ∙ general_choice part g ts
  first_of_general (x ∷ xs) g at ts rest h part =
      ap (λ w. declaration_by b part w ts)
      (front_of (begun at (generic_words (x ∷ xs) ++ generalized_words g)) ts rest (omega arith) h)
      ∙ generic_choice part ts

  general_there : (part : Part) (at : Pos) (gs : List (Constrained Bytes)) (g : Generalized)
      (ts rest : List Token) → Begins (declaration_words (generalized_of at (gs, g))) ts rest
      → formed_declaration part (generalized_of at (gs, g)) ≡ true →
      Finds (declaration_form b part) (generalized_of at (gs, g)) rest (declaration_by b part (front ts) ts)
  general_there part at gs g ts rest h good =
      subst (Finds (declaration_form b part) (generalized_of at (gs, g)) rest)
      (sym (first_of_general gs g at ts rest (subst (λ ws. Begins ws ts rest) (general_words g at gs) h) part))
      (general_found part at (gs, g) ts rest h good)

  record_there : (part : Part) (at : Pos) (x : (Placed Bytes × (List (InUniverse Bytes) × Universe))
      × List (Labelled Bytes)) (ts rest : List Token) → Begins (declaration_words (record_of at x)) ts rest
      → formed_declaration part (record_of at x) ≡ true → Finds (declaration_form b part) (record_of at x)
      rest (declaration_by b part (front ts) ts)
  record_there part at x ts rest h good =
      subst (Finds (declaration_form b part) (record_of at x) rest)
      (sym (ap (λ w. declaration_by b part w ts)
      (front_of (declaration_words (record_of at x)) ts rest (omega arith) h) ∙ record_choice part ts))
      (record_found part at x ts rest h good)

  union_there : (part : Part) (at : Pos) (x : (Placed Bytes × (List (InUniverse Bytes) × Universe))
      × List (Variant Bytes)) (ts rest : List Token) → Begins (declaration_words (union_of at x)) ts rest
      → formed_declaration part (union_of at x) ≡ true → Finds (declaration_form b part) (union_of at x) rest
      (declaration_by b part (front ts) ts)
  union_there part at x ts rest h good =
      subst (Finds (declaration_form b part) (union_of at x) rest)
      (sym (ap (λ w. declaration_by b part w ts)
      (front_of (declaration_words (union_of at x)) ts rest (omega arith) h) ∙ union_choice part ts))
      (union_found part at x ts rest h good)

  class_there : (part : Part) (at : Pos) (x : Placed Bytes × (InUniverse Bytes × List (Header Bytes)))
      (ts rest : List Token) → Begins (declaration_words (class_of at x)) ts rest
      → formed_declaration part (class_of at x) ≡ true → Finds (declaration_form b part) (class_of at x) rest
      (declaration_by b part (front ts) ts)
  class_there part at x ts rest h good =
      subst (Finds (declaration_form b part) (class_of at x) rest)
      (sym (ap (λ w. declaration_by b part w ts)
      (front_of (declaration_words (class_of at x)) ts rest (omega arith) h) ∙ class_choice part ts))
      (class_found part at x ts rest h good)

  by_found : (part : Part) (d : PlainDeclaration) (ts rest : List Token) →
      Begins (declaration_words d) ts rest → formed_declaration part d ≡ true
      → Finds (declaration_form b part) d rest (declaration_by b part (front ts) ts)
  by_found Interface (constant at name t) ts rest h good =
      subst (λ w. Finds (declaration_form b Interface) (constant at name t) rest
      (declaration_by b Interface w ts))
      (sym (front_of (declaration_words (constant at name t)) ts rest (omega arith) h))
      (constant_found at (name, t) ts rest h good)
  by_found Interface (opaque_type at name parameters universe) ts rest h good =
      subst (λ w. Finds (declaration_form b Interface) (opaque_type at name parameters universe) rest
      (declaration_by b Interface w ts))
      (sym (front_of (declaration_words (opaque_type at name parameters universe)) ts rest (omega arith) h))
      (opaque_found at (name, (parameters, universe)) ts rest h good)
  by_found Interface (record_type at name parameters universe fields) ts rest h good =
      record_there Interface at ((name, (parameters, universe)), fields) ts rest h good
  by_found Interface (union_type at name parameters universe cases) ts rest h good =
      union_there Interface at ((name, (parameters, universe)), cases) ts rest h good
  by_found Interface (function at generics header) ts rest h good =
      general_there Interface at generics (a_function header) ts rest h good
  by_found Interface (class at name parameter methods) ts rest h good =
      class_there Interface at (name, (parameter, methods)) ts rest h good
  by_found Interface (instance at generics name t) ts rest h good =
      general_there Interface at generics (an_instance (name, t)) ts rest h good
  by_found Body (constant_body at name t e) ts rest h good =
      subst (λ w. Finds (declaration_form b Body) (constant_body at name t e) rest
      (declaration_by b Body w ts)) (sym
      (front_of (declaration_words (constant_body at name t e)) ts rest (omega arith) h))
      (constant_body_found at (name, (t, e)) ts rest h good)
  by_found Body (record_type at name parameters universe fields) ts rest h good =
      record_there Body at ((name, (parameters, universe)), fields) ts rest h good
  by_found Body (union_type at name parameters universe cases) ts rest h good =
      union_there Body at ((name, (parameters, universe)), cases) ts rest h good
  by_found Body (class at name parameter methods) ts rest h good =
      class_there Body at (name, (parameter, methods)) ts rest h good
  by_found Body (function_body at generics header body stop) ts rest h good =
      general_there Body at generics (a_function_body (header, (body, stop))) ts rest h good
  by_found Body (instance_body at generics name t methods) ts rest h good =
      general_there Body at generics (an_instance_body ((name, t), methods)) ts rest h good
  by_found part d ts rest h good = absurd (let wrong = good in cc)

  pub declaration_reads : (part : Part) → Reads (declaration_form b part) anything (declaration_at b part)
  unfolding declaration_at
  declaration_reads part = record {
    sound = λ ts rest d e. by_sound part (front ts) ts rest d e;
    found = λ d ts rest h good ended. by_found part d ts rest h good;
  }

  abbrev pub declaration_known : Part → Known b PlainDeclaration
  declaration_known part = record {
    said = declaration_said part;
    ends = anything;
    read =
        declaration_at b part;
    reads = declaration_reads part;
  }
