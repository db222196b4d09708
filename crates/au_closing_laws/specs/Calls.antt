-- What the rules of typing give of a call in a body.
use Rattle.std.specs.Prelude.{◌≡◌, List, [], Option, Some, IsTrue, unwrap_or}
use Rattle.au_syntax.specs.declared.declarations.Universe.{Universe}
use Rattle.au_syntax.specs.Plain.{Bytes}
use Rattle.au_syntax.specs.declared.modules.Part.TheVariants.{Body}
use Rattle.au_types.specs.declared.spaces.Space.TheVariants.{Callables}
use Rattle.au_types.specs.Tables as tables
use Rattle.au_types.specs.declared.types.DeclAt.{DeclAt}
use Rattle.au_types.specs.Types.{Meaning, parameter}
use Rattle.au_matching.specs.Substituted.{substituted}
use Rattle.au_matching.specs.Forming.{takes}
use Rattle.au_matching.specs.Universes.{universe_of}
use Rattle.au_judged_types.specs.Bounds.{Bounded, constrains}
use Rattle.au_modules.specs.Programs.{ModuleParts}
use Rattle.au_names.specs.declared.targets.Target.{Target}
use Rattle.au_names.specs.HeadsOf.{heads_of}
use Rattle.au_names.specs.Standing.{Standing, standing_at}
use Rattle.au_typing.specs.Scopes.{Outside, Scope, Typed}
use Rattle.au_typing.specs.Called.{declared_callable}
use Rattle.au_typing.specs.Outsides.{outside_of}
use Rattle.au_typing.specs.Written.{seen_at}
use Rattle.au_typing.specs.Calls.{GoodCall, Shown}
use Rattle.au_typing.specs.Notes.{Note}
use Rattle.au_typing.specs.Bodies.{generics_in}
use Rattle.au_closing.specs.Bodies.{BodyOf}
use Rattle.au_closing.specs.Leading.{Called, called_of}
use Rattle.au_closing_laws.specs.Targets.{Call, HoldsIn, bounds_of, scope_of}

-- A call is good by the rule of calls in a scope with this outside and these type parameters.
pub record IsGoodCall (outside : Outside) (generics : List Bounded) (one : Call) : Type 0 where
  pub scope : Scope
  pub of_outside : scope.outside ≡ outside
  pub of_generics : scope.generics ≡ generics
  pub takes : List Typed → Option (List Meaning)
  pub args : List Shown
  pub good : GoodCall scope one.0 one.1 takes args

-- what a call puts for a type parameter of what is called, by the note of its expression
abbrev pub put_for : Note → Bytes → Meaning
put_for note p = substituted (unwrap_or note.call []) (parameter p)

module _ (program : List ModuleParts) where
  -- what the body of the module of a body sees outside of functions
  abbrev pub outside_at : BodyOf → Outside
  outside_at body = outside_of program body.place Body

  -- a call in a body is good, with what is seen there and with the body's type parameters
  abbrev pub IsGoodIn : BodyOf → Call → Type 0
  IsGoodIn body call =
      IsGoodCall (outside_at body) (generics_in (outside_at body) body.generics) call

  -- A call in a body is good, and what its name means is called: the name means a declaration that is found,
  -- which has something that is called under the name, and that is what the rule of calls was used with.
  pub record IsMeant (body : BodyOf) (call : Call) : Type 0 where
    pub is_good : IsGoodIn body call
    pub target : Target
    pub means : tables.find call.1 (seen_at Callables program body.place Body) ≡ Some target
    pub declared : Standing
    pub found : standing_at program target.at ≡ Some declared
    pub has : declared_callable program declared target.at target.name declared.says
        ≡ Some is_good.good.called
    pub called : Called
    pub is_called : called_of target.name declared.says ≡ Some called

  -- The type parameters of a body mean something: those in scope there are the ones that are written.
  abbrev pub AreMeant : BodyOf → Type 0
  AreMeant body = bounds_of program body ≡ generics_in (outside_at body) body.generics

  -- A type in a body suits a type parameter of others: the parameter takes its universe, and each class that
  -- constrains the parameter holds of it.
  pub record Suits (body : BodyOf) (others : List Bounded) (name : Bytes) (universe : Universe)
      (t : Meaning) : Type 0 where
    pub taken : IsTrue (takes universe (universe_of (heads_of program) (scope_of program body) t))
    pub holds : (class : DeclAt) → IsTrue (constrains others name class) → HoldsIn program body class t
