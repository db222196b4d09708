-- What a body can make: which capabilities may be born while it runs.
use Rattle.std.specs.Prelude.{◌≡◌, List, Option, None, Some, Contains}
use Rattle.std.specs.List.{filter_map, flat_map}
use Rattle.std.specs.Option.{option_and_then}
use Rattle.au_syntax.specs.Modules.{Constrained}
use Rattle.au_syntax.specs.Names.{Placed}
use Rattle.au_syntax.specs.Plain.{Bytes}
use Rattle.au_syntax.specs.Types.{WrittenType, named, reference}
use Rattle.au_types.specs.declared.types.DeclAt.{DeclAt}
use Rattle.au_types.specs.Senses as senses
use Rattle.au_types.specs.Senses.{Sense}
use Rattle.au_instances.specs.declared.constructors.Constructor.{Constructor}
use Rattle.au_instances.specs.declared.constructors.Constructor.TheVariants as constructors
use Rattle.au_instances.specs.Constructors.{constructor_of}
use Rattle.au_judged_types.specs.Meanings.{class_in}
use Rattle.au_modules.specs.Programs.{ModuleParts}
use Rattle.au_typing.specs.Trees.{NotedParts}
use Rattle.au_caps_lists.specs.Bodies.{Bodied, Home, all_bodied, sense_in}
use Rattle.au_caps.specs.Calls.{Callee, a_birth, a_function, a_method, an_instance, a_class, calls_of}
use Rattle.au_caps_types.specs.Heads.{head_of}

-- ---- instances

-- the constructor that a name with this sense is as a type
abbrev pub constructor_in : Option Sense → Option Constructor
constructor_in (Some (senses.a_type t)) = constructor_of t
constructor_in (Some senses.a_span) = Some constructors.Text
constructor_in (Some (senses.declared at expected)) = Some (constructors.Declared at)
constructor_in other = None

-- by what a name means among types
module _ (sense : Bytes → Option Sense) where
  -- the constructor of a written type
  abbrev pub constructor_written : WrittenType → Option Constructor
  constructor_written (named name args) = constructor_in (sense name.name)
  constructor_written (reference at access target region) = None

  -- the class that a name means, if it means one
  abbrev pub class_named : Bytes → Option DeclAt
  class_named name = class_in (sense name)

  -- the classes that some names mean
  abbrev pub classes_named : List (Placed Bytes) → List DeclAt
  classes_named names = filter_map (λ (name : Placed Bytes). class_named name.name) names

  -- the classes that the constraints of type parameters name
  abbrev pub classes_of : List (Constrained Bytes) → List DeclAt
  classes_of generics = flat_map (λ (one : Constrained Bytes). classes_named one.classes) generics

module _ (program : List ModuleParts) where
  -- the class of the instance that a body is a method of
  abbrev pub class_of : Bodied → Option DeclAt
  class_of b = option_and_then (λ (home : Home). class_named (sense_in program b) home.class) b.home

  -- the constructor of the type that this instance is for
  abbrev pub constructor_for : Bodied → Option Constructor
  constructor_for b = option_and_then (λ (home : Home). constructor_written (sense_in program b) home.of)
      b.home

  -- the classes that the constraints of its type parameters name
  abbrev pub constraints_of : Bodied → List DeclAt
  constraints_of b = classes_of (sense_in program b) b.generics

  -- ---- what stands for what

  -- A callee stands for a body: a function for that of its name in its module, and what speaks of methods for
  -- each of these.
  pub data StandsFor : Callee → Bodied → Type 0 where
    the_function : (b : Bodied) → b.home ≡ None → StandsFor (a_function b.place b.header.name.name) b
    the_method : (b : Bodied) (class : DeclAt) → class_of b ≡ Some class
        → StandsFor (a_method class b.header.name.name) b
    the_instance : (b : Bodied) (class : DeclAt) (one : Constructor) → class_of b ≡ Some class
        → constructor_for b ≡ Some one → StandsFor (an_instance class one) b
    the_class : (b : Bodied) (class : DeclAt) → class_of b ≡ Some class → StandsFor (a_class class) b

module _ (program : List ModuleParts) (noted : List NotedParts) where
  -- A call of what a callee is may make a capability: it is the birth of one; or it stands for a body in
  -- which a call may; or it is an instance of which a constraint names a class of which an instance may.
  pub data Makes : Callee → Bytes → Type 0 where
    born : (at : DeclAt) (h : Bytes) → head_of program at ≡ Some h → Makes (a_birth at) h
    called : (c d : Callee) (b : Bodied) (h : Bytes) → Contains (all_bodied noted) b → StandsFor program c b
        → Contains (calls_of program b) d → Makes d h → Makes c h
    constrained : (class other : DeclAt) (one : Constructor) (b : Bodied) (h : Bytes)
        → Contains (all_bodied noted) b → StandsFor program (an_instance class one) b
        → Contains (constraints_of program b) other → Makes (a_class other) h → Makes
        (an_instance class one) h

  -- A body may make a capability: a call in its text may.
  abbrev pub BodyMakes : Bodied → Bytes → Type 0
  BodyMakes b h = (c : Callee) × Contains (calls_of program b) c × Makes c h
