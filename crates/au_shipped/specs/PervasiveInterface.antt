-- The interface of Austral.Pervasive.
use Rattle.std.specs.Prelude.{List, [], ◌∷◌, ◌++◌, codes}
use Rattle.au_base.specs.declared.places.Pos.{Pos}
use Rattle.au_syntax.specs.declared.declarations.Universe.TheVariants.{Free, Linear, AnyType, Region}
use Rattle.au_syntax.specs.Names.{Placed}
use Rattle.au_syntax.specs.Types.{WrittenType}
use Rattle.au_syntax.specs.Modules.{Header}
use Rattle.au_syntax.specs.Plain.{Bytes, PlainDeclaration, PlainModule}
use Rattle.au_shipped.specs.Building.{name, simple, applied, applied_to_two, writes, over, generic, takes}
use Rattle.au_shipped.specs.Building.{signature, a_case, an_opaque, a_union, a_function, a_class, an_instance}
use Rattle.au_shipped.specs.Building.{interface}

module _ (at : Pos) where
  -- Span[Nat8, Static]
  abbrev pub text_span : WrittenType
  text_span = applied_to_two at (codes "Span") (simple at (codes "Nat8")) (simple at (codes "Static"))

  -- union Option[T: Type]: Type is case None; case Some is value: T; end;
  abbrev pub option_union : PlainDeclaration
  option_union = a_union at (codes "Option")
      (over at (codes "T") AnyType ∷ []) AnyType
      (a_case at (codes "None") [] ∷ a_case at (codes "Some")
      (takes at (codes "value") (simple at (codes "T")) ∷ []) ∷ [])

  -- union Either[L: Type, R: Type]: Type is case Left is left: L; case Right is right: R; end;
  abbrev pub either_union : PlainDeclaration
  either_union = a_union at (codes "Either")
      (over at (codes "L") AnyType ∷ over at (codes "R") AnyType ∷ []) AnyType
      (a_case at (codes "Left") (takes at (codes "left") (simple at (codes "L")) ∷ [])
      ∷ a_case at (codes "Right") (takes at (codes "right") (simple at (codes "R")) ∷ []) ∷ [])

  -- union ExitCode: Free is case ExitSuccess; case ExitFailure; end;
  abbrev pub exit_code_union : PlainDeclaration
  exit_code_union =
      a_union at (codes "ExitCode") [] Free
      (a_case at (codes "ExitSuccess") [] ∷ a_case at (codes "ExitFailure") [] ∷ [])

  -- type RootCapability: Linear;
  abbrev pub root_type : PlainDeclaration
  root_type = an_opaque at (codes "RootCapability") [] Linear

  -- function surrenderRoot(root: RootCapability): Unit;
  abbrev pub surrender_root : PlainDeclaration
  surrender_root =
      a_function at [] (codes "surrenderRoot")
      (takes at (codes "root") (simple at (codes "RootCapability")) ∷ []) (simple at (codes "Unit"))

  -- function abort(message: Span[Nat8, Static]): Unit;
  abbrev pub abort_call : PlainDeclaration
  abort_call =
      a_function at [] (codes "abort") (takes at (codes "message") text_span ∷ []) (simple at (codes "Unit"))

  -- function spanLength(span: Span[Nat8, Static]): Index;
  abbrev pub span_length : PlainDeclaration
  span_length =
      a_function at [] (codes "spanLength") (takes at (codes "span") text_span ∷ [])
      (simple at (codes "Index"))

  -- generic [T: Type, R: Region] function swap(ref: &![T, R], value: T): T;
  abbrev pub swap_call : PlainDeclaration
  swap_call = a_function at
      (generic at (codes "T") AnyType ∷ generic at (codes "R") Region ∷ [])
      (codes "swap") (takes at (codes "ref") (writes at (simple at (codes "T")) (codes "R"))
      ∷ takes at (codes "value") (simple at (codes "T")) ∷ [])
      (simple at (codes "T"))

  -- method NAME(value: T): Unit;
  abbrev pub printing : Bytes → Header Bytes
  printing bytes =
      signature at bytes (takes at (codes "value") (simple at (codes "T")) ∷ []) (simple at (codes "Unit"))

  -- typeclass Printable(T: Free) is method print(value: T): Unit; method printLn(value: T): Unit; end;
  abbrev pub printable_class : PlainDeclaration
  printable_class =
      a_class at (codes "Printable") (over at (codes "T") Free)
      (printing (codes "print") ∷ printing (codes "printLn") ∷ [])

  -- method NAME(lhs: T, rhs: T): T;
  abbrev pub modular : Bytes → Header Bytes
  modular bytes =
      signature at bytes (takes at (codes "lhs") (simple at (codes "T"))
      ∷ takes at (codes "rhs") (simple at (codes "T")) ∷ []) (simple at (codes "T"))

  -- typeclass ModularArithmetic(T: Free) is method modularAdd(lhs: T, rhs: T): T; and so on, end;
  abbrev pub modular_class : PlainDeclaration
  modular_class = a_class at (codes "ModularArithmetic")
      (over at (codes "T") Free)
      (modular (codes "modularAdd") ∷ modular (codes "modularSubtract") ∷ modular (codes "modularMultiply")
      ∷ [])

  -- method NAME(value: T): Option[KIND];
  abbrev pub conversion : Bytes → Bytes → Header Bytes
  conversion bytes kind =
      signature at bytes (takes at (codes "value") (simple at (codes "T")) ∷ [])
      (applied at (codes "Option") (simple at kind))

  -- the methods of Conversion, one for each kind of integers
  abbrev pub conversions : List (Header Bytes)
  conversions =
      conversion (codes "toNat8") (codes "Nat8")
      ∷ conversion (codes "toNat16") (codes "Nat16")
      ∷ conversion (codes "toNat32") (codes "Nat32")
      ∷ conversion (codes "toNat64") (codes "Nat64")
      ∷ conversion (codes "toInt8") (codes "Int8")
      ∷ conversion (codes "toInt16") (codes "Int16")
      ∷ conversion (codes "toInt32") (codes "Int32")
      ∷ conversion (codes "toInt64") (codes "Int64")
      ∷ conversion (codes "toIndex") (codes "Index")
      ∷ []

  -- typeclass Conversion(T: Free) is method toNat8(value: T): Option[Nat8]; and so on, end;
  abbrev pub conversion_class : PlainDeclaration
  conversion_class = a_class at (codes "Conversion") (over at (codes "T") Free) conversions

  -- instance CLASS(KIND); for each kind of integers
  abbrev pub number_instances : Bytes → List PlainDeclaration
  number_instances class =
      an_instance at class (simple at (codes "Nat8"))
      ∷ an_instance at class (simple at (codes "Nat16"))
      ∷ an_instance at class (simple at (codes "Nat32"))
      ∷ an_instance at class (simple at (codes "Nat64"))
      ∷ an_instance at class (simple at (codes "Int8"))
      ∷ an_instance at class (simple at (codes "Int16"))
      ∷ an_instance at class (simple at (codes "Int32"))
      ∷ an_instance at class (simple at (codes "Int64"))
      ∷ an_instance at class (simple at (codes "Index"))
      ∷ []

  -- the types, functions and classes
  abbrev pub own_declarations : List PlainDeclaration
  own_declarations =
      option_union ∷ either_union ∷ exit_code_union ∷ root_type ∷ surrender_root ∷ abort_call ∷ span_length
      ∷ swap_call ∷ printable_class ∷ modular_class ∷ conversion_class ∷ []

  -- instance Printable(Bool);
  abbrev pub bool_instance : List PlainDeclaration
  bool_instance = an_instance at (codes "Printable") (simple at (codes "Bool")) ∷ []

  -- instance Printable(Span[Nat8, Static]);
  abbrev pub span_instance : List PlainDeclaration
  span_instance = an_instance at (codes "Printable") text_span ∷ []

  -- the instances stand behind the classes, class by class
  abbrev pub pervasive_declarations : List PlainDeclaration
  pervasive_declarations =
      own_declarations ++ bool_instance ++ number_instances (codes "Printable") ++ span_instance
      ++ number_instances (codes "ModularArithmetic") ++ number_instances (codes "Conversion")

  -- Austral.Pervasive
  abbrev pub module_name : List (Placed Bytes)
  module_name = name at (codes "Austral") ∷ name at (codes "Pervasive") ∷ []

  -- module Austral.Pervasive is .. end module.
  abbrev pub pervasive : PlainModule
  pervasive = interface at module_name pervasive_declarations
