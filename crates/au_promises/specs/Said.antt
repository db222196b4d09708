-- What a declaration of the code says, and what the lists and expressions in it say.
use Rattle.std.specs.Prelude.{ℕ, List, map}
use Rattle.au_syntax.specs.contracts.parsed.ParsedPhase.TheImpl.{ghosts as parsed}
use Rattle.au_syntax.specs.declared.parsed.Parsed.{Parsed}
use Rattle.au_syntax.specs.declared.expressions.Argument.{Argument}
use Rattle.au_syntax.specs.declared.expressions.Expr.{Expr}
use Rattle.au_syntax.specs.declared.names.Field.{Field}
use Rattle.au_syntax.specs.declared.names.Ident.{Ident}
use Rattle.au_syntax.specs.declared.declarations.Decl.{Decl}
use Rattle.au_syntax.specs.declared.declarations.Generic.{Generic}
use Rattle.au_syntax.specs.declared.declarations.Method.{Method}
use Rattle.au_syntax.specs.declared.declarations.Signature.{Signature}
use Rattle.au_syntax.specs.declared.declarations.TypeParameter.{TypeParameter}
use Rattle.au_syntax.specs.declared.declarations.UnionCase.{UnionCase}
use Rattle.au_syntax.specs.Modules.{Constrained, Header, InUniverse, Variant}
use Rattle.au_syntax.specs.Names.{Placed}
use Rattle.au_syntax.specs.Plain.{Bytes, PlainArguments, PlainDeclaration, PlainExpression, PlainExpressions}
use Rattle.au_syntax.specs.Plain.{PlainMethod, plain_name, plain_labelled, plain_in_universe}
use Rattle.au_syntax.specs.Plain.{plain_constrained, plain_declaration, plain_header, plain_variant}
use Rattle.au_syntax.specs.Plain.{plain_method, plain_expression, plain_expressions, plain_arguments}
use Rattle.au_syntax.specs.Types.{Labelled}
use Rattle.au_syntax.specs.Views.{placed, labelled, in_universe, constrained, header, variant, method_body}
use Rattle.au_syntax.specs.Views.{declaration, expression, expression_all, argument_all}
use Rattle.au_types.specs.declared.spaces.Space.{Space}
use Rattle.au_promises.specs.declared.mentions.Mention.{Mention}
use Rattle.au_promises.specs.declared.mentions.Mention.TheVariants.{Declares}

-- a name, and several of them
abbrev pub name_said : Ident Parsed (List ℕ) (Unit {0}) (Unit {0}) → Placed Bytes
name_said name = plain_name parsed.name_bytes (placed parsed name)

abbrev pub names_said : List (Ident Parsed (List ℕ) (Unit {0}) (Unit {0})) → List (Placed Bytes)
names_said names = map (plain_name parsed.name_bytes) (map (placed parsed) names)

-- fields and parameters
abbrev pub fields_said : List (Field Parsed (List ℕ) (Unit {0}) (Unit {0})) → List (Labelled Bytes)
fields_said fields = map (plain_labelled parsed.name_bytes) (map (labelled parsed) fields)

-- type parameters
abbrev pub parameters_said : List (TypeParameter Parsed (List ℕ) (Unit {0}) (Unit {0}))
    → List (InUniverse Bytes)
parameters_said parameters = map (plain_in_universe parsed.name_bytes) (map (in_universe parsed) parameters)

-- a type parameter behind `generic`, and several of them
abbrev pub generic_said : Generic Parsed (List ℕ) (Unit {0}) (Unit {0}) → Constrained Bytes
generic_said generic = plain_constrained parsed.name_bytes (constrained parsed generic)

abbrev pub generics_said : List (Generic Parsed (List ℕ) (Unit {0}) (Unit {0})) → List (Constrained Bytes)
generics_said generics = map (plain_constrained parsed.name_bytes) (map (constrained parsed) generics)

-- a function's name, parameters and result, and several of them
abbrev pub header_said : Signature Parsed (List ℕ) (Unit {0}) (Unit {0}) → Header Bytes
header_said signature = plain_header parsed.name_bytes (header parsed signature)

abbrev pub headers_said : List (Signature Parsed (List ℕ) (Unit {0}) (Unit {0})) → List (Header Bytes)
headers_said signatures = map (plain_header parsed.name_bytes) (map (header parsed) signatures)

-- a case of a union, and several of them
abbrev pub case_said : UnionCase Parsed (List ℕ) (Unit {0}) (Unit {0}) → Variant Bytes
case_said one = plain_variant parsed.name_bytes (variant parsed one)

abbrev pub cases_said : List (UnionCase Parsed (List ℕ) (Unit {0}) (Unit {0})) → List (Variant Bytes)
cases_said cases = map (plain_variant parsed.name_bytes) (map (variant parsed) cases)

-- methods of an instance
abbrev pub methods_said : List (Method Parsed (List ℕ) (Unit {0}) (Unit {0})) → List PlainMethod
methods_said methods = map (plain_method parsed.name_bytes) (map (method_body parsed) methods)

-- an expression, several of them, and named arguments
abbrev pub expression_said : Expr Parsed (List ℕ) (Unit {0}) (Unit {0}) → PlainExpression
expression_said e = plain_expression parsed.name_bytes (expression parsed e)

abbrev pub expressions_said : List (Expr Parsed (List ℕ) (Unit {0}) (Unit {0})) → PlainExpressions
expressions_said es = plain_expressions parsed.name_bytes (expression_all parsed es)

abbrev pub arguments_said : List (Argument Parsed (List ℕ) (Unit {0}) (Unit {0})) → PlainArguments
arguments_said args = plain_arguments parsed.name_bytes (argument_all parsed args)

-- a declaration
abbrev pub declaration_said : Decl Parsed (List ℕ) (Unit {0}) (Unit {0}) → PlainDeclaration
declaration_said d = plain_declaration parsed.name_bytes (declaration parsed d)

-- a name that is declared in a space, as a mention
abbrev pub declares : Space → Ident Parsed (List ℕ) (Unit {0}) (Unit {0}) → Mention
declares space name = Declares space name.name name.at
