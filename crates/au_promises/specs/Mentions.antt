-- The names that a declaration declares and those that it writes for types, classes and regions, in the
-- order of the text, outside the bodies of functions and methods. Those in the types that are written in a
-- constant's value are among them. Type parameters aren't, nor are labels of fields and parameters, nor the
-- names of an instance's methods, which are those of its class.
use Rattle.std.specs.Prelude.{List, [], ◌∷◌, ◌++◌, map}
use Rattle.std.specs.List.{flat_map}
use Rattle.au_syntax.specs.Modules.{Constrained, Header, Variant, constant, opaque_type, record_type}
use Rattle.au_syntax.specs.Modules.{union_type, function, class, instance, constant_body, function_body}
use Rattle.au_syntax.specs.Modules.{instance_body}
use Rattle.au_syntax.specs.Names.{Placed}
use Rattle.au_syntax.specs.Plain.{Bytes, PlainArguments, PlainDeclaration, PlainExpression, PlainExpressions}
use Rattle.au_syntax.specs.Plain.{PlainMethod}
use Rattle.au_syntax.specs.Sizes.{expression_types, expressions_types, arguments_types}
use Rattle.au_syntax.specs.Types.{WrittenType, WrittenTypes, Labelled, named, reference, no_types, types}
use Rattle.au_types.specs.declared.spaces.Space.TheVariants.{Values, Callables, Types}
use Rattle.au_types.specs.declared.parameters.Parameter.{Parameter}
use Rattle.au_names.specs.HeadsOf.{parameter}
use Rattle.au_promises.specs.declared.mentions.Mention.{Mention}
use Rattle.au_promises.specs.declared.mentions.Mention.TheVariants.{Declares, Writes}

-- a name that is written for a type, a class or a region
abbrev pub writes : Placed Bytes → List Mention
writes name = Writes name.name name.at ∷ []

unfoldable mutual
  -- the names in a written type
  pub type_mentions : WrittenType → List Mention
  type_mentions (named name args) = writes name ++ argument_mentions args
  type_mentions (reference at access target region) = type_mentions target ++ writes region

  -- the names in written types
  pub argument_mentions : WrittenTypes → List Mention
  argument_mentions no_types = []
  argument_mentions (types t rest) = type_mentions t ++ argument_mentions rest

-- the names in the types that are written in a constant's value, or in a part of it
unfoldable pub value_mentions : PlainExpression → List Mention
value_mentions e = flat_map type_mentions (expression_types e)

-- the same of the arguments of a call, and of named ones
unfoldable pub values_mentions : PlainExpressions → List Mention
values_mentions es = flat_map type_mentions (expressions_types es)

unfoldable pub named_values_mentions : PlainArguments → List Mention
named_values_mentions args = flat_map type_mentions (arguments_types args)

-- a field or a parameter
abbrev pub labelled_mentions : Labelled Bytes → List Mention
labelled_mentions field = type_mentions field.of

-- the classes in the constraints of a type parameter
abbrev pub constraint_mentions : Constrained Bytes → List Mention
constraint_mentions p = flat_map writes p.classes

-- the types of a function's parameters, and of its result
abbrev pub header_mentions : Header Bytes → List Mention
header_mentions h = flat_map labelled_mentions h.parameters ++ type_mentions h.result

-- a function, or a method of a class
abbrev pub function_mentions : Header Bytes → List Mention
function_mentions h = Declares Callables h.name.name h.name.at ∷ header_mentions h

-- a case of a union
abbrev pub case_mentions : Variant Bytes → List Mention
case_mentions c = Declares Callables c.name.name c.name.at ∷ flat_map labelled_mentions c.fields

-- a method of an instance
abbrev pub method_mentions : PlainMethod → List Mention
method_mentions m = header_mentions m.header

-- the class and the type of an instance
abbrev pub instance_mentions : List (Constrained Bytes) → Placed Bytes → WrittenType → List Mention
instance_mentions generics name t = flat_map constraint_mentions generics ++ writes name ++ type_mentions t

-- a declaration
abbrev pub mentions : PlainDeclaration → List Mention
mentions (constant at name t) = Declares Values name.name name.at ∷ type_mentions t
mentions (opaque_type at name parameters universe) = Declares Types name.name name.at ∷ []
mentions (record_type at name parameters universe fields) =
    Declares Callables name.name name.at ∷ Declares Types name.name name.at
    ∷ flat_map labelled_mentions fields
mentions (union_type at name parameters universe cases) =
    Declares Types name.name name.at ∷ flat_map case_mentions cases
mentions (function at generics header) = flat_map constraint_mentions generics ++ function_mentions header
mentions (class at name parameter methods) =
    Declares Types name.name name.at ∷ flat_map function_mentions methods
mentions (instance at generics name t) = instance_mentions generics name t
mentions (constant_body at name t value) =
    Declares Values name.name name.at ∷ (type_mentions t ++ value_mentions value)
mentions (function_body at generics header body stop) =
    flat_map constraint_mentions generics ++ function_mentions header
mentions (instance_body at generics name t methods) =
    instance_mentions generics name t ++ flat_map method_mentions methods

-- a type parameter behind `generic`
abbrev pub generic_parameter : Constrained Bytes → Parameter
generic_parameter p = parameter p.parameter

-- the type parameters of a declaration, which are in scope in all of it
abbrev pub type_parameters : PlainDeclaration → List Parameter
type_parameters (constant at name t) = []
type_parameters (opaque_type at name parameters universe) = map parameter parameters
type_parameters (record_type at name parameters universe fields) = map parameter parameters
type_parameters (union_type at name parameters universe cases) = map parameter parameters
type_parameters (function at generics header) = map generic_parameter generics
type_parameters (class at name one methods) = parameter one ∷ []
type_parameters (instance at generics name t) = map generic_parameter generics
type_parameters (constant_body at name t value) = []
type_parameters (function_body at generics header body stop) = map generic_parameter generics
type_parameters (instance_body at generics name t methods) = map generic_parameter generics
