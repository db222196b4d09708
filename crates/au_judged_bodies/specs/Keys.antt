-- The ways in which the functions of a program are called.
use Rattle.std.specs.Prelude.{◌≡◌, ℕ, Bool, List, [], map, Option, None, Some, IsTrue}
use Rattle.au_syntax.specs.declared.modules.Part.TheVariants.{Body}
use Rattle.au_syntax.specs.Plain.{Bytes}
use Rattle.au_syntax.specs.Types.{Labelled, WrittenType}
use Rattle.au_types.specs.Meant.{meant}
use Rattle.au_types.specs.declared.types.DeclAt.{DeclAt}
use Rattle.au_types.specs.Types.{Meaning, of_type, unit}
use Rattle.au_matching.specs.Bindings.{Bindings, value_of}
use Rattle.au_judged_types.specs.Bounds.{Bounded, constrains}
use Rattle.au_judged_types.specs.Meanings.{written_params}
use Rattle.au_running_types.specs.Running.{running}
use Rattle.au_modules.specs.Programs.{ModuleParts}
use Rattle.au_names.specs.HeadsOf.{heads_of}
use Rattle.au_instances.specs.Instances.{Holds}
use Rattle.au_classes.specs.Rows.{rows_of}
use Rattle.au_typing.specs.Bodies.{generics_in}
use Rattle.au_typing.specs.Outsides.{outside_of}
use Rattle.au_typing.specs.Trees.{NotedParts}
use Rattle.au_typing.specs.Written.{types_at}
use Rattle.au_closing.specs.Bodies.{BodyOf, body_of}
use Rattle.au_closing.specs.Instances.{Instance}
use Rattle.au_running_lives.specs.Known.{AreActive, Callables}
use Rattle.au_judged_bodies.specs.StandingTypesStanding.{StandsFor}
use Rattle.au_judged_bodies.specs.Frames.{TypesAreUsable}
use Rattle.au_judged_bodies.specs.Callees.{RegionsStand}

-- what is meant, if anything is, and else Unit, which stands where nothing is
abbrev pub meant_or_unit : Option Meaning → Meaning
meant_or_unit None = unit
meant_or_unit (Some t) = t

module _ (program : List ModuleParts) where
  -- what a type means that is written in a body, over the body's type parameters
  abbrev pub meant_in_body : BodyOf → WrittenType → Option Meaning
  meant_in_body body t =
      meant [] (written_params body.generics) (types_at program body.place Body) (heads_of program) t

  -- its running type, where these bindings stand for the type parameters
  abbrev pub written_running : BodyOf → Bindings → WrittenType → Meaning
  written_running body s t = running s 0 (meant_or_unit (meant_in_body body t))

  -- the type parameters that are in scope in a body, with the classes that constrain them
  abbrev pub bounds_in_body : BodyOf → List Bounded
  bounds_in_body body = generics_in (outside_of program body.place Body) body.generics

  -- Constraints hold where bindings stand for type parameters: each class that constrains one has an
  -- instance at the type that stands for it.
  abbrev pub ConstraintsHold : List Bounded → Bindings → Type 0
  ConstraintsHold generics s =
      (name : Bytes) (class : DeclAt) (value : Meaning) → IsTrue (constrains generics name class)
      → value_of name s ≡ Some (of_type value) → Holds (rows_of program) (heads_of program) [] [] class value

module _ (program : List ModuleParts) (trees : List NotedParts) where
  -- A way in which a function, or a method of an instance of a class, is called: its instance, of which the
  -- body is there; what stands for the type parameters of this, which closes to what the instance gives for
  -- them, and that their constraints hold; and tokens, while which are active what stands for the regions
  -- among the type parameters may be used, and so may the regions in the types that stand for the others.
  pub record Key : Type 0 where
    pub one : Instance
    pub body : BodyOf
    pub there : body_of program trees one.of ≡ Some body
    pub s : Bindings
    pub stands : StandsFor (heads_of program) (written_params body.generics) one.given s
    pub holds : ConstraintsHold program (bounds_in_body program body) s
    pub tokens : List ℕ
    pub regions : (active : ℕ → Bool) → AreActive active tokens
        → RegionsStand active (written_params body.generics) s
    pub within : (active : ℕ → Bool) → AreActive active tokens
        → TypesAreUsable active (written_params body.generics) s

  -- what is known of these ways: the function, the running types of its parameters and of its result, and the
  -- tokens
  abbrev pub ways : Callables Instance Key
  ways = record {
    of = λ key. key.one;
    parameters = λ key.
        map (λ (p : Labelled Bytes). written_running program key.body key.s p.of) key.body.header.parameters;
    result = λ key. written_running program key.body key.s key.body.header.result;
    tokens = λ key. key.tokens;
  }
