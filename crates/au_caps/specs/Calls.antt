-- What the calls in a body lead to, as far as it is known before any type is closed.
use Rattle.std.specs.Prelude.{ℕ, Bool, true, false, List, [], ◌∷◌, Option, None, Some, slice_get, unwrap_or}
use Rattle.std.specs.Option.{option_and_then, option_map}
use Rattle.au_shipped.specs.declared.prims.ShippedCall.{ShippedCall}
use Rattle.au_shipped.specs.declared.prims.ShippedCall.TheVariants as shipped
use Rattle.au_shipped.specs.Calls.{prim_of}
use Rattle.au_syntax.specs.declared.modules.Part.TheVariants as parts
use Rattle.au_syntax.specs.Modules.{Header, record_type, union_type, function, class, function_body}
use Rattle.au_syntax.specs.Plain.{Bytes, PlainDeclaration}
use Rattle.au_types.specs.declared.spaces.Space.TheVariants.{Callables}
use Rattle.au_types.specs.Tables.{find}
use Rattle.au_types.specs.declared.types.DeclAt.{DeclAt}
use Rattle.au_types.specs.Types as mean
use Rattle.au_types.specs.Types.{Argument, Meaning}
use Rattle.au_matching.specs.Bindings.{Bindings, value_of}
use Rattle.au_instances.specs.declared.constructors.Constructor.{Constructor}
use Rattle.au_instances.specs.Constructors.{constructor_of}
use Rattle.au_modules.specs.Programs.{ModuleParts}
use Rattle.au_names.specs.declared.targets.Target.{Target}
use Rattle.au_names.specs.Standing.{Standing, standing_at}
use Rattle.au_typing.specs.Notes.{Note}
use Rattle.au_typing.specs.Written.{seen_at}
use Rattle.au_closed_trees.specs.Calls.{calls_in_block}
use Rattle.au_caps_lists.specs.Bodies.{Bodied}

-- What a call leads to: a value of a declared type is born; the function of a name in the module at a
-- place; the method of a name of all instances of a class; the methods of the instance of a class whose
-- head has this constructor; the methods of all instances of a class.
pub data Callee : Type 0 where
  a_birth : DeclAt → Callee
  a_function : ℕ → Bytes → Callee
  a_method : DeclAt → Bytes → Callee
  an_instance : DeclAt → Constructor → Callee
  a_class : DeclAt → Callee

-- the name of the module at a place, empty where there is none
abbrev pub module_name : List ModuleParts → ℕ → Bytes
module_name program place = unwrap_or (option_map (λ (m : ModuleParts). m.name) (slice_get program place)) []

-- ---- births

-- a shipped call that gives birth to what it answers: a box, a buffer or the terminal
abbrev pub gives_birth : Option ShippedCall → Bool
gives_birth (Some shipped.MakeBox) = true
gives_birth (Some shipped.MakeEmpty) = true
gives_birth (Some shipped.AcquireTerminal) = true
gives_birth other = false

-- a value of a type is born, if it is a declared one
abbrev pub birth_of : Meaning → List Callee
birth_of (mean.named at args) = a_birth at ∷ []
birth_of t = []

-- ---- functions

-- a call of a function, which gives birth or not, to a value of the type of the call's expression
abbrev pub function_leads : Bool → Note → Target → List Callee
function_leads true note target = birth_of note.of
function_leads false note target = a_function target.at.«module» target.name ∷ []

-- ---- methods

-- the type that an argument is, if it is one
abbrev pub type_in : Option Argument → Option Meaning
type_in (Some (mean.of_type t)) = Some t
type_in other = None

-- the type for which a call stands of a method of a class with this type parameter
abbrev pub type_at : Note → Bytes → Option Meaning
type_at note param = option_and_then (λ (s : Bindings). type_in (value_of param s)) note.call

-- A call of a method at a type with a head constructor counts as calls of all methods of that instance; at a
-- type parameter it counts as calls of this method of all instances.
abbrev pub method_leads : Target → Option Constructor → List Callee
method_leads target (Some one) = an_instance target.at one ∷ []
method_leads target None = a_method target.at target.name ∷ []

-- ---- names

module _ (program : List ModuleParts) where
  -- a function of a name, by where it is declared
  abbrev pub header_leads : Note → Target → Header Bytes → List Callee
  header_leads note target h =
      function_leads (gives_birth (prim_of (module_name program target.at.«module») h.name.name None)) note
      target

  -- what a declaration leads to whose name is called: a record or a union gives birth to a value of the type
  -- of the call's expression
  abbrev pub declared_leads : Note → Target → PlainDeclaration → List Callee
  declared_leads note target (record_type at name params universe fields) = birth_of note.of
  declared_leads note target (union_type at name params universe cases) = birth_of note.of
  declared_leads note target (function at generics h) = header_leads note target h
  declared_leads note target (function_body at generics h block stop) = header_leads note target h
  declared_leads note target (class at name p methods) =
      method_leads target (option_and_then constructor_of (type_at note p.name.name))
  declared_leads note target other = []

  -- the same of a declaration that is found, if it is
  abbrev pub standing_leads : Note → Target → Option Standing → List Callee
  standing_leads note target None = []
  standing_leads note target (Some d) = declared_leads note target d.says

  -- what a name leads to that is called, by what it means, if it means something
  abbrev pub target_leads : Note → Option Target → List Callee
  target_leads note None = []
  target_leads note (Some target) = standing_leads note target (standing_at program target.at)

  -- What a name leads to that is called in the body of the module at a place, by the note of the call's
  -- expression. The name is the one that is written there: what an import calls it.
  abbrev pub name_leads : ℕ → Note → Bytes → List Callee
  name_leads place note name = target_leads note (find name (seen_at Callables program place parts.Body))

  -- what the calls in a body lead to
  abbrev pub calls_of : Bodied → List Callee
  calls_of b = calls_in_block (λ note c name. name_leads b.place note name) b.block
