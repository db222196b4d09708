-- The bodies of functions and methods of a program with notes, and the values of its constants.
use Rattle.std.specs.Prelude.{ℕ, ℤ, neg_ℤ, List, [], Bool, Option, None, Some, find, position, slice_get}
use Rattle.std.specs.Option.{option_and_then, option_map}
use Rattle.std.specs.Str.{bytes_eq}
use Rattle.au_syntax.specs.declared.modules.Part.{Part}
use Rattle.au_syntax.specs.declared.modules.Part.TheVariants.{Interface, Body}
use Rattle.au_syntax.specs.Expressions.{number, negative, text, truth, nil}
use Rattle.au_syntax.specs.Modules.{Constrained, Header, constant_body, function_body, instance_body}
use Rattle.au_syntax.specs.Plain.{Bytes, PlainDeclaration}
use Rattle.au_types.specs.declared.spaces.Space.TheVariants.{Values}
use Rattle.au_types.specs.Tables as tables
use Rattle.au_types.specs.declared.types.DeclAt.{DeclAt}
use Rattle.au_types.specs.Types as mean
use Rattle.au_types.specs.Types.{Meaning}
use Rattle.au_modules.specs.Programs.{ModuleParts}
use Rattle.au_modules.specs.Seen.{body_tree}
use Rattle.au_names.specs.declared.targets.Target.{Target}
use Rattle.au_names.specs.Exporting.{declarations_seen}
use Rattle.au_names.specs.Meanings.{declared_by}
use Rattle.au_names.specs.Standing.{Standing, standing_at}
use Rattle.au_promises.specs.Agreeing.{sight_of}
use Rattle.au_promises.specs.Promises.{defines}
use Rattle.au_typing.specs.Written.{seen_at}
use Rattle.au_typing.specs.Notes.{NotedExpression}
use Rattle.au_typing.specs.Trees.{NotedDeclaration, NotedEntry, NotedMethod, NotedParts, NotedStatements}
use Rattle.au_closed_trees.specs.declared.notes.Literal.{Literal}
use Rattle.au_closed_trees.specs.declared.notes.Literal.TheVariants as literals

-- a body of the module at a place: the type parameters that are in scope, what is written before it, and its
-- block
pub record BodyOf : Type 0 where
  pub place : ℕ
  pub generics : List (Constrained Bytes)
  pub header : Header Bytes
  pub block : NotedStatements

-- ---- which declaration defines another

-- the index of the first declaration of the body of the module at a place that defines what its interface
-- promises, if there is one
abbrev pub defining_in : List ModuleParts → ℕ → Option ModuleParts → PlainDeclaration → Option ℕ
defining_in program place None promise = None
defining_in program place (Some m) promise =
    position (defines (sight_of program place m) promise) (declarations_seen (body_tree (Some m)))

-- the index of the declaration of the body that defines a declaration: itself, where it stands there
abbrev pub defining_index : List ModuleParts → Standing → Part → Option ℕ
defining_index program d Interface = defining_in program d.place (slice_get program d.place) d.says
defining_index program d Body = Some d.index

-- the declarations of the body of a module with notes
abbrev pub declared_in : Option NotedEntry → List NotedDeclaration
declared_in None = []
declared_in (Some e) = e.tree.declarations

abbrev pub body_of_parts : Option NotedParts → List NotedDeclaration
body_of_parts None = []
body_of_parts (Some m) = declared_in m.body

-- those of the body of the module at a place, and the one of an index
abbrev pub body_at : List NotedParts → ℕ → List NotedDeclaration
body_at noted place = body_of_parts (slice_get noted place)

abbrev pub noted_at : List NotedParts → ℕ → Option ℕ → Option NotedDeclaration
noted_at noted place None = None
noted_at noted place (Some index) = slice_get (body_at noted place) index

-- what defines a declaration that is found, with its notes, and the place of its module
abbrev pub defining : List ModuleParts → List NotedParts → Standing → Option NotedDeclaration
defining program noted d = noted_at noted d.place (defining_index program d d.part)

-- ---- functions and methods

-- a method of a name
abbrev pub is_method : Bytes → NotedMethod → Bool
is_method name m = bytes_eq name m.header.name.name

-- the body of a method of an instance with these type parameters
abbrev pub method_body : ℕ → List (Constrained Bytes) → NotedMethod → BodyOf
method_body place generics m =
    record { place = place; generics = generics; header = m.header; block = m.body }

-- the body that a declaration has under a name: a function's, or that of a method of an instance
abbrev pub body_in : ℕ → Bytes → NotedDeclaration → Option BodyOf
body_in place name (function_body at generics h block stop) =
    Some (record { place = place; generics = generics; header = h; block = block })
body_in place name (instance_body at generics class t methods) =
    option_map (method_body place generics) (find (is_method name) methods)
body_in place name other = None

module _ (program : List ModuleParts) (noted : List NotedParts) where
  -- the body under a name of a declaration that is found, if it is
  abbrev pub body_standing : Bytes → Option Standing → Option BodyOf
  body_standing name None = None
  body_standing name (Some d) = option_and_then (body_in d.place name) (defining program noted d)

  -- the body of a function or method, by its declaration and its name
  abbrev pub body_of : Target → Option BodyOf
  body_of target = body_standing target.name (standing_at program target.at)

-- ---- constants

-- an integer literal of a type
abbrev pub integer_of : Meaning → ℤ → Option Literal
integer_of (mean.integer kind) value = Some (literals.Int kind value)
integer_of t value = None

-- the literal that an expression is, if it is one
abbrev pub literal_of : NotedExpression → Option Literal
literal_of (number n l) = integer_of n.note.of l.value
literal_of (negative n l) = integer_of n.note.of (neg_ℤ l.value)
literal_of (text n t) = Some (literals.Text t)
literal_of (truth n b) = Some (literals.Bool b)
literal_of (nil n) = Some literals.Unit
literal_of e = None

-- the literal of the value of a declaration, if it is a constant
abbrev pub value_in : NotedDeclaration → Option Literal
value_in (constant_body at n t e) = literal_of e
value_in other = None

-- the literal of a constant by its declaration that is found, if it is
abbrev pub value_standing : List ModuleParts → List NotedParts → Option Standing → Option Literal
value_standing program noted None = None
value_standing program noted (Some d) = option_and_then value_in (defining program noted d)

-- the literal of the constant of a declaration
abbrev pub value_of : List ModuleParts → List NotedParts → DeclAt → Option Literal
value_of program noted at = value_standing program noted (standing_at program at)

-- the constant that a name means in the body of the module at a place, if it means one. No variable has a
-- name that means a constant there, since nothing is declared again while it is in scope.
abbrev pub constant_seen : List ModuleParts → ℕ → Bytes → Option DeclAt
constant_seen program place name = tables.find name (declared_by (seen_at Values program place Body))
