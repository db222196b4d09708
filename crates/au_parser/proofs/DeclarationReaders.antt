-- What is told of the readers of declarations.
use Rattle.std.proofs.Common.{◌≡◌, Bool, true, false, List, [], ◌∷◌, ◌++◌, Option, Some, None, refl, ◌∙◌}
use Rattle.std.specs.List.{flat_map, list_all}
use Rattle.std.proofs.lemmas.Bool.{and_parts}
use Rattle.au_base.specs.declared.places.Pos.{Pos}
use Rattle.au_base.specs.declared.tokens.Keyword.TheVariants.{KwIs, KwEnd, KwConstant, KwType, KwRecord}
use Rattle.au_base.specs.declared.tokens.Keyword.TheVariants.{KwUnion, KwFunction, KwGeneric, KwTypeclass}
use Rattle.au_base.specs.declared.tokens.Keyword.TheVariants.{KwInstance, KwMethod, KwCase}
use Rattle.au_base.specs.declared.tokens.Sign.TheVariants.{Assign, LeftParenthesis, RightParenthesis}
use Rattle.au_base.specs.declared.tokens.Sign.TheVariants.{Semicolon, Colon}
use Rattle.au_base.specs.declared.tokens.Token.{Token}
use Rattle.au_base.specs.declared.tokens.What.{What}
use Rattle.au_base.specs.declared.tokens.What.TheVariants.{Word, Sign}
use Rattle.au_syntax.specs.declared.declarations.Universe.{Universe}
use Rattle.au_syntax.specs.declared.modules.Part.{Part}
use Rattle.au_syntax.specs.declared.modules.Part.TheVariants.{Interface, Body}
use Rattle.au_syntax.specs.Forms.{formed_block, formed_method, formed_declaration}
use Rattle.au_syntax.specs.Modules.{InUniverse, Constrained, Header, Variant, record_type, union_type, class}
use Rattle.au_syntax.specs.Names.{Placed}
use Rattle.au_syntax.specs.Plain.{Bytes, PlainDeclaration}
use Rattle.au_syntax.specs.Types.{Labelled}
use Rattle.au_syntax.specs.Words.{word, mark, generic_words}
use Rattle.au_parser.specs.Measures.{Measures, plains, begun, header_measures, instance_measures}
use Rattle.au_parser.specs.Measures.{body_measures, method_measures, declaration_measures}
use Rattle.au_read_expressions.specs.Bounds.{Bounds}
use Rattle.au_read_expressions.specs.Reading.{Read, is_front, name_at, behind_tokens, closed, pair, repeated}
use Rattle.au_read_expressions.specs.TypeReading.{type_at}
use Rattle.au_read_expressions.specs.ExpressionReading.{expression_at}
use Rattle.au_parser.specs.DeclarationReading.{in_universe_at, generics_at, type_head_at, header_at}
use Rattle.au_parser.specs.DeclarationReading.{members_at, instance_head_at, variant_at, class_method_at}
use Rattle.au_parser.specs.DeclarationReading.{Generalized, a_function, an_instance, a_function_body}
use Rattle.au_parser.specs.DeclarationReading.{an_instance_body, generalized_of, constant_of}
use Rattle.au_parser.specs.DeclarationReading.{constant_body_of, opaque_of, record_of, union_of, class_of}
use Rattle.au_parser.specs.DeclarationReading.{constant_at, constant_body_at, opaque_at, record_at, union_at}
use Rattle.au_parser.specs.DeclarationReading.{class_at, generalized_in, generalized_at, general_at}
use Rattle.au_parser.specs.DeclarationReading.{declaration_by, declaration_at}
use Rattle.au_parser.proofs.Told.{Passing, Kind, Honest}
use Rattle.au_parser.proofs.Ways.{no_honest, behind_kind, closed_kind, pair_kind, behind_honest}
use Rattle.au_parser.proofs.Ways.{closed_honest, pair_honest, shaped_honest, built_honest}
use Rattle.au_parser.proofs.FirstTokens.{first_honest}
use Rattle.au_parser.proofs.Single.{name_kind, name_honest}
use Rattle.au_parser.proofs.Lists.{repeated_kind}
use Rattle.au_parser.proofs.TypeReaders.{type_kind, type_honest}
use Rattle.au_parser.proofs.Levels.{passing}
use Rattle.au_parser.proofs.ExpressionKinds.{expression_kind}
use Rattle.au_parser.proofs.ExpressionLevels.{levels}
use Rattle.au_parser.proofs.Rows.{pair_behind}
use Rattle.au_parser.proofs.DeclarationParts.{in_universe_kind, in_universe_honest, generics_kind}
use Rattle.au_parser.proofs.DeclarationParts.{generics_honest, head_kind, head_honest, header_kind}
use Rattle.au_parser.proofs.DeclarationParts.{header_honest, fields_kind, members_honest, variants_kind}
use Rattle.au_parser.proofs.DeclarationParts.{variants_honest, class_methods_kind, class_methods_honest}
use Rattle.au_parser.proofs.DeclarationParts.{method_kind, methods_honest, body_kind, body_honest}
use Rattle.au_parser.proofs.DeclarationParts.{instance_head_kind, instance_head_honest}

abbrev pub declaration_kind : Part → Kind PlainDeclaration
declaration_kind part = record { words = declaration_measures; good = formed_declaration part }

-- ---- what stands behind type parameters

abbrev generalized_words : Generalized → Measures
generalized_words (a_function h) = plains (word KwFunction) ++ (header_measures h ++ plains (mark Semicolon))
generalized_words (an_instance x) = instance_measures x.0 x.1 ++ plains (mark Semicolon)
generalized_words (a_function_body x) = plains (word KwFunction) ++ body_measures x.0 x.1.0 x.1.1
generalized_words (an_instance_body x) = instance_measures x.0.0 x.0.1 ++ (plains (word KwIs)
    ++ (flat_map method_measures x.1 ++ plains (word KwEnd ++ mark Semicolon)))

abbrev generalized_good : Part → Generalized → Bool
generalized_good Interface (a_function h) = true
generalized_good Interface (an_instance x) = true
generalized_good Body (a_function_body x) = formed_block x.1.0
generalized_good Body (an_instance_body x) = list_all formed_method x.1
generalized_good part other = false

abbrev generalized_kind : Part → Kind Generalized
generalized_kind part = record { words = generalized_words; good = generalized_good part }

general_words : (g : Generalized) (at : Pos) (gs : List (Constrained Bytes)) →
    declaration_measures (generalized_of at (gs, g)) ≡ begun at (plains (generic_words gs) ++ generalized_words g)
general_words (a_function h) at gs = refl
general_words (an_instance x) at gs = refl
general_words (a_function_body x) at gs = refl
general_words (an_instance_body x) at gs = refl

general_good : (part : Part) (g : Generalized) (at : Pos) (gs : List (Constrained Bytes)) →
    formed_declaration part (generalized_of at (gs, g)) ≡ generalized_good part g
general_good Interface (a_function h) at gs = refl
general_good Interface (an_instance x) at gs = refl
general_good Interface (a_function_body x) at gs = refl
general_good Interface (an_instance_body x) at gs = refl
general_good Body (a_function h) at gs = refl
general_good Body (an_instance x) at gs = refl
general_good Body (a_function_body x) at gs = refl
general_good Body (an_instance_body x) at gs = refl

record_good : (part : Part) (at : Pos) (name : Placed Bytes) (parameters : List (InUniverse Bytes))
    (universe : Universe) (fields : List (Labelled Bytes)) →
    formed_declaration part (record_type at name parameters universe fields) ≡ true
record_good Interface at name parameters universe fields = refl
record_good Body at name parameters universe fields = refl

union_good : (part : Part) (at : Pos) (name : Placed Bytes) (parameters : List (InUniverse Bytes))
    (universe : Universe) (cases : List (Variant Bytes)) →
    formed_declaration part (union_type at name parameters universe cases) ≡ true
union_good Interface at name parameters universe cases = refl
union_good Body at name parameters universe cases = refl

class_good : (part : Part) (at : Pos) (name : Placed Bytes) (parameter : InUniverse Bytes)
    (methods : List (Header Bytes)) → formed_declaration part (class at name parameter methods) ≡ true
class_good Interface at name parameter methods = refl
class_good Body at name parameter methods = refl

module _ (b : Bounds) where
  abbrev P : Passing
  P = passing b b.nesting

  -- ---- functions and instances

  function_honest : Honest P (generalized_kind Interface) (generalized_in b Interface (Some (Word KwFunction)))
  function_honest =
      shaped_honest P (behind_kind (closed_kind header_kind (Sign Semicolon ∷ [])) (Word KwFunction ∷ []))
      (generalized_kind Interface) (behind_tokens (Word KwFunction ∷ []) (closed (Sign Semicolon ∷ []) (header_at b)))
      (behind_honest P (closed_kind header_kind (Sign Semicolon ∷ [])) (Word KwFunction ∷ []) _
      (closed_honest P header_kind (Sign Semicolon ∷ []) (header_at b) (header_honest b))) a_function
      (record { words = λ x g. refl; good = λ x g. refl })

  abbrev instance_at : List Token → Read Generalized
  instance_at = generalized_in b Interface None

  instance_honest : Honest P (generalized_kind Interface) instance_at
  instance_honest =
      shaped_honest P (closed_kind instance_head_kind (Sign Semicolon ∷ [])) (generalized_kind Interface)
      (closed (Sign Semicolon ∷ []) (instance_head_at b))
      (closed_honest P instance_head_kind (Sign Semicolon ∷ []) (instance_head_at b) (instance_head_honest b)) an_instance
      (record { words = λ x g. refl; good = λ x g. refl })

  function_body_honest : Honest P (generalized_kind Body) (generalized_in b Body (Some (Word KwFunction)))
  function_body_honest =
      shaped_honest P (behind_kind body_kind (Word KwFunction ∷ [])) (generalized_kind Body) _
      (behind_honest P body_kind (Word KwFunction ∷ []) _ (body_honest b)) a_function_body
      (record { words = λ x g. refl; good = λ x g. (and_parts (formed_block x.1.0) true g).0 })

  abbrev instance_body_at : List Token → Read Generalized
  instance_body_at = generalized_in b Body None

  instance_body_honest : Honest P (generalized_kind Body) instance_body_at
  instance_body_honest =
      shaped_honest P (pair_kind instance_head_kind (behind_kind (closed_kind (repeated_kind method_kind)
      (Word KwEnd ∷ Sign Semicolon ∷ [])) (Word KwIs ∷ []))) (generalized_kind Body) _
      (pair_behind P instance_head_kind (closed_kind (repeated_kind method_kind) (Word KwEnd ∷ Sign Semicolon ∷ []))
      (instance_head_at b) (instance_head_honest b) _
      (closed_honest P (repeated_kind method_kind) (Word KwEnd ∷ Sign Semicolon ∷ []) _ (methods_honest b))
      (Word KwIs ∷ []))
      an_instance_body
      (record { words = λ x g. refl; good = λ x g. g })

  generalized_each : (part : Part) (w : Option What) → Honest P (generalized_kind part) (generalized_in b part w)
  generalized_each Interface (Some (Word KwFunction)) = function_honest
  generalized_each Interface w = instance_honest
  generalized_each Body (Some (Word KwFunction)) = function_body_honest
  generalized_each Body w = instance_body_honest

  generalized_honest : (part : Part) → Honest P (generalized_kind part) (generalized_at b part)
  unfolding generalized_at
  generalized_honest part = first_honest P (generalized_kind part) (generalized_in b part) (generalized_each part)

  general_honest : (part : Part) → Honest P (declaration_kind part) (general_at b part)
  unfolding general_at
  general_honest part =
      built_honest P (pair_kind generics_kind (generalized_kind part)) (declaration_kind part)
      (pair generics_at (generalized_at b part))
      (pair_honest P generics_kind (generalized_kind part) generics_at (generics_honest P) (generalized_at b part)
      (generalized_honest part)) generalized_of
      (record {
        words = λ at x. general_words x.1 at x.0;
        good = λ at x g. general_good part x.1 at x.0 ∙ g;
      })

  -- ---- the other rows

  constant_honest : Honest P (declaration_kind Interface) (constant_at b)
  unfolding constant_at
  constant_honest =
      built_honest P (behind_kind (pair_kind name_kind (behind_kind (closed_kind type_kind (Sign Semicolon ∷ []))
      (Sign Colon ∷ []))) (Word KwConstant ∷ [])) (declaration_kind Interface) _
      (behind_honest P _ (Word KwConstant ∷ []) _
      (pair_behind P name_kind (closed_kind type_kind (Sign Semicolon ∷ [])) name_at (name_honest P) _
      (closed_honest P type_kind (Sign Semicolon ∷ []) (type_at b) (type_honest b b.nesting)) (Sign Colon ∷ []))) constant_of
      (record { words = λ at x. refl; good = λ at x g. refl })

  constant_body_honest : Honest P (declaration_kind Body) (constant_body_at b)
  unfolding constant_body_at
  constant_body_honest =
      built_honest P (behind_kind (pair_kind name_kind (behind_kind (pair_kind type_kind (behind_kind
      (closed_kind expression_kind (Sign Semicolon ∷ [])) (Sign Assign ∷ []))) (Sign Colon ∷ [])))
      (Word KwConstant ∷ []))
      (declaration_kind Body) _
      (behind_honest P _ (Word KwConstant ∷ []) _
      (pair_behind P name_kind (pair_kind type_kind (behind_kind (closed_kind expression_kind (Sign Semicolon ∷ []))
      (Sign Assign ∷ []))) name_at (name_honest P) _
      (pair_behind P type_kind (closed_kind expression_kind (Sign Semicolon ∷ [])) (type_at b) (type_honest b b.nesting) _
      (closed_honest P expression_kind (Sign Semicolon ∷ []) (expression_at b b.nesting) (levels b b.nesting).expressions)
      (Sign Assign ∷ [])) (Sign Colon ∷ []))) constant_body_of
      (record {
        words = λ at x. refl;
        good = λ at x g. g;
      })

  opaque_honest : Honest P (declaration_kind Interface) (opaque_at b)
  unfolding opaque_at
  opaque_honest =
      built_honest P (behind_kind (closed_kind head_kind (Sign Semicolon ∷ [])) (Word KwType ∷ []))
      (declaration_kind Interface) _
      (behind_honest P _ (Word KwType ∷ []) _ (closed_honest P head_kind (Sign Semicolon ∷ []) type_head_at
      (head_honest P))) opaque_of
      (record { words = λ at x. refl; good = λ at x g. refl })

  record_honest : (part : Part) → Honest P (declaration_kind part) (record_at b)
  unfolding record_at
  record_honest part =
      built_honest P (behind_kind (pair_kind head_kind
      (behind_kind (closed_kind fields_kind (Word KwEnd ∷ Sign Semicolon ∷ []))
      (Word KwIs ∷ []))) (Word KwRecord ∷ [])) (declaration_kind part) _
      (behind_honest P _ (Word KwRecord ∷ []) _
      (pair_behind P head_kind (closed_kind fields_kind (Word KwEnd ∷ Sign Semicolon ∷ [])) type_head_at (head_honest P) _
      (closed_honest P fields_kind (Word KwEnd ∷ Sign Semicolon ∷ []) (members_at b) (members_honest b))
      (Word KwIs ∷ [])))
      record_of
      (record {
        words = λ at x. refl;
        good = λ at x g. record_good part at x.0.0 x.0.1.0 x.0.1.1 x.1;
      })

  union_honest : (part : Part) → Honest P (declaration_kind part) (union_at b)
  unfolding union_at
  union_honest part =
      built_honest P (behind_kind (pair_kind head_kind
      (behind_kind (closed_kind variants_kind (Word KwEnd ∷ Sign Semicolon ∷ []))
      (Word KwIs ∷ []))) (Word KwUnion ∷ [])) (declaration_kind part) _
      (behind_honest P _ (Word KwUnion ∷ []) _
      (pair_behind P head_kind (closed_kind variants_kind (Word KwEnd ∷ Sign Semicolon ∷ [])) type_head_at (head_honest P) _
      (closed_honest P variants_kind (Word KwEnd ∷ Sign Semicolon ∷ []) (repeated (is_front (Word KwCase)) (variant_at b))
      (variants_honest b)) (Word KwIs ∷ [])))
      union_of
      (record {
        words = λ at x. refl;
        good = λ at x g. union_good part at x.0.0 x.0.1.0 x.0.1.1 x.1;
      })

  class_honest : (part : Part) → Honest P (declaration_kind part) (class_at b)
  unfolding class_at
  class_honest part =
      built_honest P (behind_kind (pair_kind name_kind (behind_kind (pair_kind in_universe_kind (behind_kind
      (closed_kind class_methods_kind (Word KwEnd ∷ Sign Semicolon ∷ [])) (Sign RightParenthesis ∷ Word KwIs ∷ [])))
      (Sign LeftParenthesis ∷ []))) (Word KwTypeclass ∷ [])) (declaration_kind part) _
      (behind_honest P _ (Word KwTypeclass ∷ []) _
      (pair_behind P name_kind (pair_kind in_universe_kind (behind_kind
      (closed_kind class_methods_kind (Word KwEnd ∷ Sign Semicolon ∷ [])) (Sign RightParenthesis ∷ Word KwIs ∷ [])))
      name_at (name_honest P) _
      (pair_behind P in_universe_kind (closed_kind class_methods_kind (Word KwEnd ∷ Sign Semicolon ∷ [])) in_universe_at
      (in_universe_honest P) _
      (closed_honest P class_methods_kind (Word KwEnd ∷ Sign Semicolon ∷ [])
      (repeated (is_front (Word KwMethod)) (class_method_at b)) (class_methods_honest b))
      (Sign RightParenthesis ∷ Word KwIs ∷ [])) (Sign LeftParenthesis ∷ [])))
      class_of
      (record {
        words = λ at x. refl;
        good = λ at x g. class_good part at x.0 x.1.0 x.1.1;
      })

  -- ---- by the first token

  declaration_each : (part : Part) (w : Option What) → Honest P (declaration_kind part) (declaration_by b part w)
  declaration_each Interface (Some (Word KwConstant)) = constant_honest
  declaration_each Interface (Some (Word KwType)) = opaque_honest
  declaration_each Interface (Some (Word KwRecord)) = record_honest Interface
  declaration_each Interface (Some (Word KwUnion)) = union_honest Interface
  declaration_each Interface (Some (Word KwTypeclass)) = class_honest Interface
  declaration_each Interface (Some (Word KwGeneric)) = general_honest Interface
  declaration_each Interface (Some (Word KwFunction)) = general_honest Interface
  declaration_each Interface (Some (Word KwInstance)) = general_honest Interface
  declaration_each Body (Some (Word KwConstant)) = constant_body_honest
  declaration_each Body (Some (Word KwRecord)) = record_honest Body
  declaration_each Body (Some (Word KwUnion)) = union_honest Body
  declaration_each Body (Some (Word KwTypeclass)) = class_honest Body
  declaration_each Body (Some (Word KwGeneric)) = general_honest Body
  declaration_each Body (Some (Word KwFunction)) = general_honest Body
  declaration_each Body (Some (Word KwInstance)) = general_honest Body
  declaration_each part w = no_honest P (declaration_kind part) (general_honest part).example

  pub declaration_honest : (part : Part) → Honest P (declaration_kind part) (declaration_at b part)
  unfolding declaration_at
  declaration_honest part = first_honest P (declaration_kind part) (declaration_by b part) (declaration_each part)
