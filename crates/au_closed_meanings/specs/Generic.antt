-- The meaning of a program with notes: each function and method is run from its own tree, under the closed
-- types that are given for its type parameters.
use Rattle.std.specs.Prelude.{ℕ, Bool, List, Option, None, Some, map}
use Rattle.std.specs.Option.{option_map}
use Rattle.au_syntax.specs.declared.modules.Part.TheVariants.{Body}
use Rattle.au_syntax.specs.Plain.{Bytes}
use Rattle.au_types.specs.declared.parameters.Parameter.{Parameter}
use Rattle.au_types.specs.declared.types.DeclAt.{DeclAt}
use Rattle.au_matching.specs.Universes.{is_free, is_linear, universe_of}
use Rattle.au_modules.specs.Programs.{ModuleParts}
use Rattle.au_names.specs.HeadsOf.{heads_of}
use Rattle.au_judged_types.specs.Meanings.{written_params}
use Rattle.au_typing.specs.Written.{types_at}
use Rattle.au_type_texts.specs.Types.{ClosedType}
use Rattle.au_instances.specs.ClosedInstances.{closed_universe}
use Rattle.au_typing.specs.Notes.{Note}
use Rattle.au_typing.specs.Trees.{NotedParts}
use Rattle.au_type_texts.specs.Given.{Given, closed_under}
use Rattle.au_closed_trees.specs.Parts.{ClosedCase, ClosedField, cases_of, field_under}
use Rattle.au_closed_trees.specs.ClosedNotes.{Callee, constructor, instance, shipped}
use Rattle.au_closing.specs.Bodies.{BodyOf, body_of, constant_seen, value_of}
use Rattle.au_closing.specs.Instances.{Instance}
use Rattle.au_closing.specs.Leading.{call_leads, case_name, module_name}
use Rattle.au_meaning.specs.Views as views
use Rattle.au_meaning.specs.Views.{Act, Field, Function, View, invokes, makes, ships}
use Rattle.au_meaning.specs.Worlds.{Value}
use Rattle.au_closed_meanings.specs.Programs.{Case, case_from, fields_at}
use Rattle.au_closed_meanings.specs.Shipped.{born, shipped_parameters}
use Rattle.au_closed_meanings.specs.Surroundings.{field_names, literal_value}

-- ---- closed types

-- a field or a parameter
abbrev pub field_seen : ClosedField → Field
field_seen one = record { name = one.name; of = one.of }

-- a case, or a record
abbrev pub case_seen : ClosedCase → Case
case_seen one = record { name = one.name; fields = map field_seen one.fields }

module _ (program : List ModuleParts) where
  -- the cases of a type in declared order
  abbrev pub cases_in : ClosedType → List Case
  cases_in of = map case_seen (cases_of program of)

  -- the number of the case of a type that is declared under a name
  abbrev pub tag_in : ClosedType → Bytes → Option ℕ
  tag_in of name = case_from 0 name (cases_in of)

  -- the fields of the case of a number
  abbrev pub fields_in : ClosedType → ℕ → Option (List Field)
  fields_in of tag = fields_at tag (cases_in of)

  -- whether a type is linear
  abbrev pub linear_in : ClosedType → Bool
  linear_in of = is_linear (closed_universe (heads_of program) of)

-- ---- calls

-- what a call does, where the names of the parameters of what is called are known
abbrev pub with_names : Option (List Bytes) → Act Instance → Option (views.Callee Instance)
with_names names act = option_map (λ (all : List Bytes). record { parameters = all; act = act }) names

module _ (program : List ModuleParts) (noted : List NotedParts) where
  -- the parameters of a body under what is given for its type parameters
  abbrev pub parameters_under : Given → BodyOf → List Field
  parameters_under given body =
      map field_seen
      (map (field_under (types_at program body.place Body) (heads_of program)
      (written_params body.generics) given)
      body.header.parameters)

  -- the names of the parameters of an instance, where its body is there
  abbrev pub names_of_instance : Instance → Option (List Bytes)
  names_of_instance one =
      option_map (λ (body : BodyOf). field_names (parameters_under one.given body))
      (body_of program noted one.of)

  -- what a call in the text of the module at a place does, whose expression is of a closed type, by what it
  -- leads to
  abbrev pub lead_does : ℕ → ClosedType → Callee (Option Instance) → Option (views.Callee Instance)
  lead_does place of (instance None) = None
  lead_does place of (instance (Some one)) = with_names (names_of_instance one) (invokes one)
  lead_does place of (constructor made tag) =
      with_names (option_map field_names (fields_in program made tag))
      (makes made tag (module_name program place))
  lead_does place of (shipped call) = with_names (Some (shipped_parameters call)) (ships call (born call of))

  -- ---- names

  -- the value of the constant of a declaration, if it is one
  abbrev pub constant_of : Option DeclAt → Option Value
  constant_of None = None
  constant_of (Some at) = option_map literal_value (value_of program noted at)

  -- ---- functions

  -- What is known at a tree in the text of the module at a place, over these type parameters and under what
  -- is given for them. What each written name means is told by what it means in the body of that module.
  abbrev pub view_under : ℕ → List Parameter → Given → View Instance Note (Unit {0})
  view_under place params given = record {
    type_of = λ note. Some (closed_under given note.of);
    is_free = λ note. is_free (universe_of (heads_of program) params note.of);
    callee = λ note c name. lead_does place (closed_under given note.of)
        (call_leads program place given note name);
    constant = λ note name. constant_of (constant_seen program place name);
    tag = λ of name. tag_in program of (case_name program place name);
    fields = fields_in program;
    is_linear = linear_in program;
  }

  -- a body as it is run under what is given for its type parameters, whose first name has this number
  abbrev pub function_under : ℕ → Given → BodyOf → Function Instance Note (Unit {0})
  function_under first given body = record {
    view = view_under body.place (written_params body.generics) given;
    parameters = parameters_under given body;
    first = first;
    body = body.block;
  }

  -- the functions of the program as they are run, each with a number for its first name
  abbrev pub generic_functions : (Instance → ℕ) → Instance → Option (Function Instance Note (Unit {0}))
  generic_functions first one = option_map (function_under (first one) one.given)
      (body_of program noted one.of)
