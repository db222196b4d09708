-- What is written in a declaration that may not be well formed, in the order of the text and outside the
-- bodies of functions and methods: types, names that stand for classes, and universes that may not be
-- `Region`. The types that are written in a constant's value are among them.
use Rattle.std.specs.Prelude.{List, [], ◌∷◌, ◌++◌, map}
use Rattle.std.specs.List.{flat_map}
use Rattle.au_base.specs.declared.places.Pos.{Pos}
use Rattle.au_syntax.specs.declared.declarations.Universe.{Universe}
use Rattle.au_syntax.specs.Modules.{Constrained, Header, InUniverse, Variant}
use Rattle.au_syntax.specs.Modules.{constant, opaque_type, record_type, union_type, function, class}
use Rattle.au_syntax.specs.Modules.{instance, constant_body, function_body, instance_body}
use Rattle.au_syntax.specs.Names.{Placed}
use Rattle.au_syntax.specs.Plain.{Bytes, PlainArguments, PlainDeclaration, PlainExpression, PlainExpressions}
use Rattle.au_syntax.specs.Plain.{PlainMethod}
use Rattle.au_syntax.specs.Sizes.{arguments_types, expression_types, expressions_types}
use Rattle.au_syntax.specs.Types.{Labelled, WrittenType, named, reference}

-- a type, a name that stands for a class, and a universe that may not be `Region`, with its place
pub data Writing : Type 0 where
  a_type : WrittenType → Writing
  a_class : Placed Bytes → Writing
  a_universe : Pos → Universe → Writing

-- the place of a written type: that of its first token
abbrev pub type_place : WrittenType → Pos
type_place (named name args) = name.at
type_place (reference at access target region) = at

-- where something is written
abbrev pub place_of : Writing → Pos
place_of (a_type t) = type_place t
place_of (a_class name) = name.at
place_of (a_universe at universe) = at

-- the types of fields or parameters
abbrev pub field_writings : List (Labelled Bytes) → List Writing
field_writings fields = map (λ f. a_type f.of) fields

-- the types of a function's parameters, and of its result
abbrev pub header_writings : Header Bytes → List Writing
header_writings h = field_writings h.parameters ++ a_type h.result ∷ []

-- the types of a case's fields
abbrev pub case_writings : Variant Bytes → List Writing
case_writings c = field_writings c.fields

-- names that stand for classes
abbrev pub class_writings : List (Placed Bytes) → List Writing
class_writings names = map a_class names

-- a type parameter with these constraints: where it has any, it may not be a region
abbrev pub bound_writings : InUniverse Bytes → List (Placed Bytes) → List Writing
bound_writings p [] = []
bound_writings p (one ∷ rest) = a_universe p.name.at p.universe ∷ class_writings (one ∷ rest)

-- a type parameter behind `generic`
abbrev pub generic_writings : Constrained Bytes → List Writing
generic_writings p = bound_writings p.parameter p.classes

-- a function
abbrev pub function_writings : List (Constrained Bytes) → Header Bytes → List Writing
function_writings generics h = flat_map generic_writings generics ++ header_writings h

-- the class and the type of an instance
abbrev pub instance_writings : List (Constrained Bytes) → Placed Bytes → WrittenType → List Writing
instance_writings generics name t = flat_map generic_writings generics ++ a_class name ∷ a_type t ∷ []

-- a method of an instance
abbrev pub method_writings : PlainMethod → List Writing
method_writings m = header_writings m.header

-- the types that are written in a constant's value, or in a part of it
unfoldable pub value_writings : PlainExpression → List Writing
value_writings e = map a_type (expression_types e)

-- the same of the arguments of a call, and of named ones
unfoldable pub values_writings : PlainExpressions → List Writing
values_writings es = map a_type (expressions_types es)

unfoldable pub named_values_writings : PlainArguments → List Writing
named_values_writings args = map a_type (arguments_types args)

-- a declaration: a declared type may not be a region, nor the type parameter of a class
abbrev pub writings : PlainDeclaration → List Writing
writings (constant at name t) = a_type t ∷ []
writings (opaque_type at name parameters universe) = a_universe at universe ∷ []
writings (record_type at name parameters universe fields) = a_universe at universe ∷ field_writings fields
writings (union_type at name parameters universe cases) =
    a_universe at universe ∷ flat_map case_writings cases
writings (function at generics header) = function_writings generics header
writings (class at name one methods) =
    a_universe one.name.at one.universe ∷ flat_map header_writings methods
writings (instance at generics name t) = instance_writings generics name t
writings (constant_body at name t value) = a_type t ∷ value_writings value
writings (function_body at generics header body stop) = function_writings generics header
writings (instance_body at generics name t methods) =
    instance_writings generics name t ++ flat_map method_writings methods
