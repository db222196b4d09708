-- Reading declarations.
use Rattle.std.specs.Prelude.{Bool, true, false, List, [], ◌∷◌, Option, Some, None, Ok, cond}
use Rattle.au_base.specs.declared.places.Pos.{Pos}
use Rattle.au_base.specs.declared.tokens.Keyword.TheVariants.{KwIs, KwEnd, KwConstant, KwType, KwRecord}
use Rattle.au_base.specs.declared.tokens.Keyword.TheVariants.{KwUnion, KwCase, KwFunction, KwGeneric}
use Rattle.au_base.specs.declared.tokens.Keyword.TheVariants.{KwTypeclass, KwInstance, KwMethod, KwFree}
use Rattle.au_base.specs.declared.tokens.Keyword.TheVariants.{KwLinear, KwAnyUniverse, KwRegion}
use Rattle.au_base.specs.declared.tokens.Sign.TheVariants.{Assign, LeftParenthesis, RightParenthesis}
use Rattle.au_base.specs.declared.tokens.Sign.TheVariants.{LeftBracket, RightBracket, Semicolon, Colon}
use Rattle.au_base.specs.declared.tokens.Token.{Token}
use Rattle.au_base.specs.declared.tokens.What.{What}
use Rattle.au_base.specs.declared.tokens.What.TheVariants.{Word, Sign, Name}
use Rattle.au_syntax.specs.declared.declarations.Universe.{Universe}
use Rattle.au_syntax.specs.declared.declarations.Universe.TheVariants as universe
use Rattle.au_syntax.specs.declared.modules.Part.{Part}
use Rattle.au_syntax.specs.declared.modules.Part.TheVariants.{Interface, Body}
use Rattle.au_syntax.specs.Modules.{InUniverse, Constrained, Header, Variant, constant, opaque_type}
use Rattle.au_syntax.specs.Modules.{record_type, union_type, function, class, instance, constant_body}
use Rattle.au_syntax.specs.Modules.{function_body, instance_body}
use Rattle.au_syntax.specs.Names.{Placed}
use Rattle.au_syntax.specs.Plain.{Bytes, PlainExpression, PlainStatements, PlainMethod, PlainDeclaration}
use Rattle.au_syntax.specs.Types.{WrittenType, Labelled}
use Rattle.au_read_expressions.specs.Bounds.{Bounds}
use Rattle.au_read_expressions.specs.Reading.{Read, front, is_front, begins_with, no, value_at, name_at}
use Rattle.au_read_expressions.specs.Reading.{exactly}
use Rattle.au_read_expressions.specs.Reading.{behind_tokens, closed, pair, shaped, built}
use Rattle.au_read_expressions.specs.Reading.{repeated, listed, bracketed}
use Rattle.au_read_expressions.specs.TypeReading.{type_at}
use Rattle.au_read_expressions.specs.ExpressionReading.{expression_at}
use Rattle.au_read_statements.specs.StatementReading.{block_at, end_place}

-- ---- parts of declarations

-- a universe
abbrev pub universe_of : What → Option Universe
universe_of (Word KwFree) = Some universe.Free
universe_of (Word KwLinear) = Some universe.Linear
universe_of (Word KwAnyUniverse) = Some universe.AnyType
universe_of (Word KwRegion) = Some universe.Region
universe_of other = None

abbrev pub universe_at : List Token → Read Universe
universe_at = value_at (λ token. universe_of token.what)

-- a type parameter
abbrev pub in_universe_of : Placed Bytes × Universe → InUniverse Bytes
in_universe_of x = record { name = x.0; universe = x.1 }

abbrev pub in_universe_at : List Token → Read (InUniverse Bytes)
in_universe_at = shaped in_universe_of (pair name_at (behind_tokens (Sign Colon ∷ []) universe_at))

-- type parameters in brackets, or none
abbrev pub parameters_at : List Token → Read (List (InUniverse Bytes))
parameters_at = bracketed LeftBracket RightBracket in_universe_at

-- a type parameter behind `generic`
abbrev pub constrained_of : InUniverse Bytes × List (Placed Bytes) → Constrained Bytes
constrained_of x = record { parameter = x.0; classes = x.1 }

abbrev pub constrained_at : List Token → Read (Constrained Bytes)
constrained_at =
    shaped constrained_of (pair in_universe_at (bracketed LeftParenthesis RightParenthesis name_at))

-- `generic [..]`, or nothing
abbrev pub generics_at : List Token → Read (List (Constrained Bytes))
generics_at tokens =
    cond (begins_with (Word KwGeneric) tokens)
    (behind_tokens (Word KwGeneric ∷ Sign LeftBracket ∷ [])
    (closed (Sign RightBracket ∷ []) (listed constrained_at))
    tokens) (Ok ([], tokens))

-- the head of a type's declaration: its name, type parameters and universe
abbrev pub type_head_at : List Token → Read (Placed Bytes × (List (InUniverse Bytes) × Universe))
type_head_at = pair name_at (pair parameters_at (behind_tokens (Sign Colon ∷ []) universe_at))

-- parts with commas between, or none where the token stands that closes them
abbrev pub maybe_listed : {A : Type 0} → What → (List Token → Read A) → List Token → Read (List A)
maybe_listed close part tokens = cond (begins_with close tokens) (Ok ([], tokens)) (listed part tokens)

-- whether a token is a name
abbrev pub is_name : Option What → Bool
is_name (Some (Name bytes)) = true
is_name other = false

-- ---- parts that hold types, expressions and blocks

abbrev pub labelled_of : Placed Bytes × WrittenType → Labelled Bytes
labelled_of x = record { name = x.0; of = x.1 }

abbrev pub header_of : Placed Bytes × (List (Labelled Bytes) × WrittenType) → Header Bytes
header_of x = record { name = x.0; parameters = x.1.0; result = x.1.1 }

abbrev pub first_and_rest : {A : Type 0} → A × List A → List A
first_and_rest x = x.0 ∷ x.1

abbrev pub no_fields : Unit {0} → List (Labelled Bytes)
no_fields x = []

abbrev pub variant_of : Placed Bytes × List (Labelled Bytes) → Variant Bytes
variant_of x = record { name = x.0; fields = x.1 }

abbrev pub method_of : Header Bytes × (PlainStatements × Pos) → PlainMethod
method_of x = record { header = x.0; body = x.1.0; stop = x.1.1 }

module _ (b : Bounds) where
  -- a field or a parameter
  abbrev pub labelled_at : List Token → Read (Labelled Bytes)
  labelled_at = shaped labelled_of (pair name_at (behind_tokens (Sign Colon ∷ []) (type_at b)))

  -- a function's name, parameters and result
  unfoldable pub header_at : List Token → Read (Header Bytes)
  header_at =
      shaped header_of
      (pair name_at (behind_tokens (Sign LeftParenthesis ∷ [])
      (pair (maybe_listed (Sign RightParenthesis) labelled_at)
      (behind_tokens (Sign RightParenthesis ∷ Sign Colon ∷ []) (type_at b)))))

  -- a field with its semicolon, and fields one after another
  abbrev pub field_at : List Token → Read (Labelled Bytes)
  field_at = closed (Sign Semicolon ∷ []) labelled_at

  abbrev pub members_at : List Token → Read (List (Labelled Bytes))
  members_at = repeated is_name field_at

  -- the rest of a case behind its name
  abbrev pub case_fields_at : List Token → Read (List (Labelled Bytes))
  case_fields_at tokens =
      cond (begins_with (Sign Semicolon) tokens) (shaped no_fields (exactly (Sign Semicolon ∷ [])) tokens)
      (behind_tokens (Word KwIs ∷ []) (shaped first_and_rest (pair field_at members_at)) tokens)

  -- a case of a union
  unfoldable pub variant_at : List Token → Read (Variant Bytes)
  variant_at = shaped variant_of (behind_tokens (Word KwCase ∷ []) (pair name_at case_fields_at))

  -- a method of a class
  unfoldable pub class_method_at : List Token → Read (Header Bytes)
  class_method_at = behind_tokens (Word KwMethod ∷ []) (closed (Sign Semicolon ∷ []) header_at)

  -- a method of an instance
  unfoldable pub method_at : List Token → Read PlainMethod
  method_at =
      shaped method_of (behind_tokens (Word KwMethod ∷ [])
      (pair header_at (behind_tokens (Word KwIs ∷ [])
      (pair (block_at b b.nesting) (closed (Sign Semicolon ∷ []) end_place)))))

  -- the class and the type of an instance
  unfoldable pub instance_head_at : List Token → Read (Placed Bytes × WrittenType)
  instance_head_at =
      behind_tokens (Word KwInstance ∷ [])
      (pair name_at
      (behind_tokens (Sign LeftParenthesis ∷ []) (closed (Sign RightParenthesis ∷ []) (type_at b))))

-- ---- declarations

-- what stands behind the type parameters of a function or an instance
pub data Generalized : Type 0 where
  a_function : Header Bytes → Generalized
  an_instance : Placed Bytes × WrittenType → Generalized
  a_function_body : Header Bytes × (PlainStatements × Pos) → Generalized
  an_instance_body : (Placed Bytes × WrittenType) × List PlainMethod → Generalized

abbrev pub generalized_by : Pos → List (Constrained Bytes) → Generalized → PlainDeclaration
generalized_by at generics (a_function h) = function at generics h
generalized_by at generics (an_instance x) = instance at generics x.0 x.1
generalized_by at generics (a_function_body x) = function_body at generics x.0 x.1.0 x.1.1
generalized_by at generics (an_instance_body x) = instance_body at generics x.0.0 x.0.1 x.1

abbrev pub generalized_of : Pos → List (Constrained Bytes) × Generalized → PlainDeclaration
generalized_of at x = generalized_by at x.0 x.1

abbrev pub constant_of : Pos → Placed Bytes × WrittenType → PlainDeclaration
constant_of at x = constant at x.0 x.1

abbrev pub constant_body_of : Pos → Placed Bytes × (WrittenType × PlainExpression) → PlainDeclaration
constant_body_of at x = constant_body at x.0 x.1.0 x.1.1

abbrev pub opaque_of : Pos → Placed Bytes × (List (InUniverse Bytes) × Universe) → PlainDeclaration
opaque_of at x = opaque_type at x.0 x.1.0 x.1.1

abbrev pub record_of : Pos → (Placed Bytes × (List (InUniverse Bytes) × Universe)) × List (Labelled Bytes)
    → PlainDeclaration
record_of at x = record_type at x.0.0 x.0.1.0 x.0.1.1 x.1

abbrev pub union_of : Pos → (Placed Bytes × (List (InUniverse Bytes) × Universe)) × List (Variant Bytes)
    → PlainDeclaration
union_of at x = union_type at x.0.0 x.0.1.0 x.0.1.1 x.1

abbrev pub class_of : Pos → Placed Bytes × (InUniverse Bytes × List (Header Bytes)) → PlainDeclaration
class_of at x = class at x.0 x.1.0 x.1.1

module _ (b : Bounds) where
  unfoldable pub constant_at : List Token → Read PlainDeclaration
  constant_at =
      built constant_of (behind_tokens (Word KwConstant ∷ [])
      (pair name_at (behind_tokens (Sign Colon ∷ []) (closed (Sign Semicolon ∷ []) (type_at b)))))

  unfoldable pub constant_body_at : List Token → Read PlainDeclaration
  constant_body_at =
      built constant_body_of
      (behind_tokens (Word KwConstant ∷ [])
      (pair name_at (behind_tokens (Sign Colon ∷ [])
      (pair (type_at b) (behind_tokens (Sign Assign ∷ [])
      (closed (Sign Semicolon ∷ []) (expression_at b b.nesting)))))))

  unfoldable pub opaque_at : List Token → Read PlainDeclaration
  opaque_at = built opaque_of (behind_tokens (Word KwType ∷ []) (closed (Sign Semicolon ∷ []) type_head_at))

  unfoldable pub record_at : List Token → Read PlainDeclaration
  record_at =
      built record_of (behind_tokens (Word KwRecord ∷ [])
      (pair type_head_at (behind_tokens (Word KwIs ∷ [])
      (closed (Word KwEnd ∷ Sign Semicolon ∷ []) (members_at b)))))

  unfoldable pub union_at : List Token → Read PlainDeclaration
  union_at =
      built union_of
      (behind_tokens (Word KwUnion ∷ [])
      (pair type_head_at (behind_tokens (Word KwIs ∷ [])
      (closed (Word KwEnd ∷ Sign Semicolon ∷ []) (repeated (is_front (Word KwCase)) (variant_at b))))))

  unfoldable pub class_at : List Token → Read PlainDeclaration
  class_at =
      built class_of
      (behind_tokens (Word KwTypeclass ∷ [])
      (pair name_at (behind_tokens (Sign LeftParenthesis ∷ [])
      (pair in_universe_at (behind_tokens (Sign RightParenthesis ∷ Word KwIs ∷ [])
      (closed (Word KwEnd ∷ Sign Semicolon ∷ [])
      (repeated (is_front (Word KwMethod)) (class_method_at b))))))))

  -- what stands behind the type parameters, in an interface and in a body
  abbrev pub generalized_in : Part → Option What → List Token → Read Generalized
  generalized_in Interface (Some (Word KwFunction)) tokens =
      shaped a_function
      (behind_tokens (Word KwFunction ∷ []) (closed (Sign Semicolon ∷ []) (header_at b))) tokens
  generalized_in Interface other tokens =
      shaped an_instance (closed (Sign Semicolon ∷ []) (instance_head_at b)) tokens
  generalized_in Body (Some (Word KwFunction)) tokens =
      shaped a_function_body
      (behind_tokens (Word KwFunction ∷ [])
      (pair (header_at b) (behind_tokens (Word KwIs ∷ [])
      (pair (block_at b b.nesting) (closed (Sign Semicolon ∷ []) end_place))))) tokens
  generalized_in Body other tokens =
      shaped an_instance_body
      (pair (instance_head_at b)
      (behind_tokens (Word KwIs ∷ [])
      (closed (Word KwEnd ∷ Sign Semicolon ∷ []) (repeated (is_front (Word KwMethod)) (method_at b))))) tokens

  unfoldable pub generalized_at : Part → List Token → Read Generalized
  generalized_at part tokens = generalized_in part (front tokens) tokens

  unfoldable pub general_at : Part → List Token → Read PlainDeclaration
  general_at part = built generalized_of (pair generics_at (generalized_at part))

  -- a declaration of an interface or of a body, by its first token
  abbrev pub declaration_by : Part → Option What → List Token → Read PlainDeclaration
  declaration_by Interface (Some (Word KwConstant)) tokens = constant_at tokens
  declaration_by Interface (Some (Word KwType)) tokens = opaque_at tokens
  declaration_by Body (Some (Word KwConstant)) tokens = constant_body_at tokens
  declaration_by part (Some (Word KwRecord)) tokens = record_at tokens
  declaration_by part (Some (Word KwUnion)) tokens = union_at tokens
  declaration_by part (Some (Word KwTypeclass)) tokens = class_at tokens
  declaration_by part (Some (Word KwGeneric)) tokens = general_at part tokens
  declaration_by part (Some (Word KwFunction)) tokens = general_at part tokens
  declaration_by part (Some (Word KwInstance)) tokens = general_at part tokens
  declaration_by part other tokens = no tokens

  unfoldable pub declaration_at : Part → List Token → Read PlainDeclaration
  declaration_at part tokens = declaration_by part (front tokens) tokens

-- with which tokens a declaration of an interface begins, and one of a body
abbrev pub begins_declaration : Part → Option What → Bool
begins_declaration part (Some (Word KwConstant)) = true
begins_declaration Interface (Some (Word KwType)) = true
begins_declaration part (Some (Word KwRecord)) = true
begins_declaration part (Some (Word KwUnion)) = true
begins_declaration part (Some (Word KwTypeclass)) = true
begins_declaration part (Some (Word KwGeneric)) = true
begins_declaration part (Some (Word KwFunction)) = true
begins_declaration part (Some (Word KwInstance)) = true
begins_declaration part other = false
