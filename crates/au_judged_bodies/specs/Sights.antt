-- What a good call calls, as the meaning sees it where the call runs.
use Rattle.std.specs.Prelude.{◌≡◌, ℕ, Bool, List, [], ◌∷◌, map, Option, Some}
use Rattle.au_syntax.specs.Plain.{Bytes}
use Rattle.au_types.specs.declared.headings.Head.{Head}
use Rattle.au_types.specs.declared.parameters.Parameter.{Parameter}
use Rattle.au_types.specs.declared.types.DeclAt.{DeclAt}
use Rattle.au_types.specs.Types.{Meaning}
use Rattle.au_matching.specs.Bindings.{Bindings}
use Rattle.au_matching.specs.Substituted.{substituted}
use Rattle.au_type_texts.specs.Given.{Given}
use Rattle.au_type_texts.specs.Types.{ClosedType}
use Rattle.au_running_types.specs.Running.{running}
use Rattle.au_memory.specs.Loans.{Types}
use Rattle.au_typing.specs.Calls.{GoodCall, Shown}
use Rattle.au_typing.specs.Lookups.{parameters_in}
use Rattle.au_typing.specs.Notes.{Note}
use Rattle.au_typing.specs.Scopes.{Callable, Scope, Typed}
use Rattle.au_meaning.specs.Names as meaning
use Rattle.au_meaning.specs.Views.{Callee, View}
use Rattle.au_known_types.specs.Known.{IsKnown, ModeIsKnownIn, ScopeIsKnown}
use Rattle.au_known_types.specs.Laws.{CallIsKnown}
use Rattle.au_safe_steps.specs.Orders.{AreApart}
use Rattle.au_running_lives.specs.Expressions.{Performs}
use Rattle.au_running_lives.specs.Known.{Callables, Calls, callees}
use Rattle.au_judged_bodies.specs.TypedRunsLaws.{CallsRun}
use Rattle.au_judged_bodies.specs.Rounds.{names_of}

-- The running types of parameters for the caller, which has these bindings and is in the whole expression of
-- this token: under what a call notes.
abbrev pub kinds_taken : Bindings → ℕ → Bindings → List Typed → List Meaning
kinds_taken s z noted parameters = map (λ (one : Typed). running s z (substituted noted one.of)) parameters

module _ (heads : List (DeclAt × Head)) (params : List Parameter) (may_hand : Meaning → Type 0)
    (Stands : Bindings → Type 0) where
  -- a running type of what may be handed on: of a type that is known where regions are open, where good
  -- bindings stand for type parameters
  abbrev pub IsHandedAs : Meaning → Type 0
  IsHandedAs kind =
      (s : Bindings) × (z : ℕ) × (regions : List Bytes) × (t : Meaning) × Stands s
      × IsKnown heads params regions t × may_hand t × (running s z t ≡ kind)

  -- so are several
  abbrev pub AreHandedAs : List Meaning → Type 0
  AreHandedAs [] = Unit {0}
  AreHandedAs (kind ∷ kinds) = IsHandedAs kind × AreHandedAs kinds

  -- From this way a call leads to each way whose parameters are of running types of what may be handed on.
  abbrev pub Allows : {I K E : Type 0} → Callables I K → Calls K E → K → Type 0
  Allows {K = K} {E = E} known calls key =
      (to : K) → AreHandedAs (known.parameters to) → (one : E) × (calls.from one ≡ key) × (calls.to one ≡ to)

module _ (types : Types) (owner : ClosedType → Option (List ℕ)) {I K : Type 0} (see : View I Note (Unit {0}))
    (known : Callables I K) (active : ℕ → Bool) (s : Bindings) (z : ℕ) where
  -- The call of a name is seen: the name calls something with the parameters of what is called by the rules,
  -- which are apart, and this takes their running types, and gives the running type of the call.
  pub record CallIsSeen (note : Note) (name : Bytes) (called : Callable) (noted : Bindings) : Type 0 where
    pub one : Callee I
    pub seen : (c : Unit {0}) → see.callee note c name ≡ Some one
    pub parameters : one.parameters ≡ names_of called.parameters
    pub apart : AreApart (names_of called.parameters)
    pub performs : Performs types owner see known active one.act (kinds_taken s z noted called.parameters)
        (running s z note.of)

  -- All good calls of a scope are seen.
  abbrev pub CallsAreSeen : Scope → Type 0
  CallsAreSeen sc =
      (note : Note) (name : Bytes) (takes : List Typed → Option (List Meaning)) (args : List Shown)
      (good : GoodCall sc note name takes args) → ModeIsKnownIn sc note.mode
      → CallIsKnown sc note name takes args good
      → CallIsSeen note name good.called good.ends

  -- Good calls that are seen run where their arguments do, and lead to ways to which calls from this one may.
  abbrev pub SeenCallsRun : (ℕ → Meaning) → Scope → meaning.Scope → Given → {E : Type 0} → Calls K E → K
      → (Meaning → Type 0) → (Bindings → Type 0) → Type 0
  SeenCallsRun names sc scope given calls key may_hand Stands =
      ScopeIsKnown sc → CallsAreSeen sc → Stands s
      → Allows sc.outside.heads (parameters_in sc) may_hand Stands known calls key
      → CallsRun types owner see (callees known calls key) may_hand names active sc scope s given z
