-- A program as the list of its instances that are reached from its entry, each with its closed tree.
use Rattle.std.specs.Prelude.{◌≡◌, ℕ, List, [], ◌∷◌, Option, None, Some, map}
use Rattle.std.specs.Option.{option_and_then, option_map}
use Rattle.au_syntax.specs.declared.modules.Part.TheVariants.{Body}
use Rattle.au_syntax.specs.Plain.{Bytes}
use Rattle.au_types.specs.declared.headings.Head.{Head}
use Rattle.au_types.specs.declared.parameters.Parameter.{Parameter}
use Rattle.au_types.specs.declared.types.DeclAt.{DeclAt}
use Rattle.au_matching.specs.Universes.{is_free, universe_of}
use Rattle.au_type_texts.specs.Types.{ClosedType}
use Rattle.au_modules.specs.Programs.{ModuleParts}
use Rattle.au_names.specs.HeadsOf.{heads_of}
use Rattle.au_judged_types.specs.Meanings.{written_params}
use Rattle.au_typing.specs.Written.{types_at}
use Rattle.au_typing.specs.Notes.{Note}
use Rattle.au_typing.specs.Trees.{NotedParts}
use Rattle.au_graphs.specs.Reached.{Lists}
use Rattle.au_closed_trees.specs.declared.notes.Literal.{Literal}
use Rattle.au_closed_trees.specs.Calls.{calls_in_block}
use Rattle.au_closed_trees.specs.Changes.{Change}
use Rattle.au_closed_trees.specs.ClosedNotes.{Callee, ClosedNote, ClosedStatements}
use Rattle.au_closed_trees.specs.Renoted.{block_renoted}
use Rattle.au_closing.specs.Bodies.{BodyOf, body_of, constant_seen, value_of}
use Rattle.au_type_texts.specs.Given.{Given, closed_under}
use Rattle.au_closed_trees.specs.Parts.{ClosedField, field_under, written_under}
use Rattle.au_closing.specs.Instances.{Instance, instance_of, numbered, same_instance}
use Rattle.au_closing.specs.Leading.{call_leads, case_name, module_name}

-- ---- what is in a closed program

-- an instance: the name of its module, its parameters, its result, and its closed tree
pub record ClosedFunction : Type 0 where
  pub home : Bytes
  pub parameters : List ClosedField
  pub result : ClosedType
  pub body : ClosedStatements

-- ---- closed notes

-- the note of an expression that mentions nothing
abbrev pub note_closed : Given → Note → ClosedNote
note_closed given note = record { of = closed_under given note.of; free = None; literal = None }

-- by the rows of declared types and the literals of constants
module _ (heads : List (DeclAt × Head)) (literal_of : DeclAt → Option Literal) where
  -- The note of an expression that mentions a name, which may mean a constant. Whether what is mentioned is
  -- Free is judged over the type parameters in scope.
  abbrev pub mention_closed : List Parameter → Given → Note → Option DeclAt → ClosedNote
  mention_closed params given note constant = record {
    of = closed_under given note.of;
    free = Some (is_free (universe_of heads params note.of));
    literal = option_and_then literal_of constant;
  }

  -- what becomes of a body, over these type parameters and under what is given for them, by these instances,
  -- the constants that names mean there, what calls lead to, and the cases that the names of arms mean
  abbrev pub change_by : List Instance → (Bytes → Option DeclAt) →
      (Note → Unit {0} → Bytes → Callee (Option Instance)) → (Bytes → Bytes) → List Parameter → Given →
      Change Bytes Note (Unit {0}) ClosedNote (Callee ℕ)
  change_by all constant leads cases params given = record {
    note = note_closed given;
    mention = λ note name. mention_closed params given note (constant name);
    callee = λ note c name. numbered all (leads note c name);
    arm = cases;
  }

module _ (program : List ModuleParts) (noted : List NotedParts) where
  -- the same of a body of the module at a place
  abbrev pub change_of : List Instance → ℕ → List Parameter → Given →
      Change Bytes Note (Unit {0}) ClosedNote (Callee ℕ)
  change_of all place params given =
      change_by (heads_of program) (value_of program noted) all
      (constant_seen program place) (λ note c name. call_leads program place given note name)
      (case_name program place) params given

  -- ---- instances

  -- the instances that the calls of a body lead to, in the order of the text
  abbrev pub calls_in_body : Given → Option BodyOf → List Instance
  calls_in_body given None = []
  calls_in_body given (Some body) =
      calls_in_block (λ note c name. instance_of (call_leads program body.place given note name)) body.block

  abbrev pub calls_of : Instance → List Instance
  calls_of one = calls_in_body one.given (body_of program noted one.of)

  -- a body with its closed tree
  abbrev pub body_closed : List Instance → Given → BodyOf → ClosedFunction
  body_closed all given body =
      let params = written_params body.generics in
      let types = types_at program body.place Body in
      record {
        home = module_name program body.place;
        parameters = map (field_under types (heads_of program) params given) body.header.parameters;
        result = written_under types (heads_of program) params given body.header.result;
        body = block_renoted (change_of all body.place params given) body.block;
      }

  -- an instance with its closed tree, where its body is there
  abbrev pub instance_closed : List Instance → Instance → Option ClosedFunction
  instance_closed all one = option_map (body_closed all one.given) (body_of program noted one.of)

-- The functions of a closed program are the instances that are reached from its entry, breadth first, the
-- calls of each in the order of the text, and each is closed over them.
pub record ClosesFunctions (program : List ModuleParts) (noted : List NotedParts) (entry : Instance)
    (functions : List ClosedFunction) : Type 0 where
  pub instances : List Instance
  pub lists : Lists same_instance (calls_of program noted) (entry ∷ []) instances
  pub closed : map Some functions ≡ map (instance_closed program noted instances) instances
