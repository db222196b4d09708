-- The rules of a call, over what is called and the notes of its arguments.
use Rattle.std.specs.Prelude.{◌≡◌, ℕ, ◌==◌, ◌++◌, option_to_list, List, [], ◌∷◌, Bool, true, false, Option}
use Rattle.std.specs.Prelude.{Some, None, length, map, option_map, option_and_then, if◌then◌else◌}
use Rattle.std.specs.List.{count_by, flat_map, list_all}
use Rattle.std.specs.Option.{option_or}
use Rattle.std.specs.Str.{bytes_eq}
use Rattle.au_syntax.specs.declared.declarations.Universe.{Universe}
use Rattle.au_syntax.specs.declared.declarations.Universe.TheVariants as universes
use Rattle.au_syntax.specs.Plain.{Bytes}
use Rattle.au_types.specs.declared.parameters.Parameter.{Parameter}
use Rattle.au_types.specs.declared.types.DeclAt.{DeclAt}
use Rattle.au_types.specs.Types.{Meaning, Argument, parameter, of_type}
use Rattle.au_matching.specs.Bindings.{Bindings, value_of}
use Rattle.au_matching.specs.Fixed.{fixed, is_a_region, is_a_type}
use Rattle.au_matching.specs.Matched.{matched}
use Rattle.au_matching.specs.Substituted.{substituted}
use Rattle.au_matching.specs.Forming.{fits}
use Rattle.au_judged_types.specs.Bounds.{parameters}
use Rattle.au_instances.specs.Instances.{Known}
use Rattle.au_instances.specs.Pairs.{Pair, constraints_of, lacking}
use Rattle.au_typing.specs.Scopes.{Callable, Scope, Typed}
use Rattle.au_typing.specs.Limits.{are_within, types_noted}
use Rattle.au_typing.specs.Lookups.{parameters_in, type_of_name}
use Rattle.au_typing.specs.Notes.{Mode, Note}
use Rattle.au_typing.specs.Rules.{int32}

-- ---- every parameter gets exactly one argument

-- the types of the parameters in the order of so many positional arguments, where there are as many
abbrev pub in_order : ℕ → List Typed → Option (List Meaning)
in_order number params = if length params == number then Some (map (λ one. one.of) params) else None

-- the types of the parameters that labels name, in the order of the labels
abbrev pub labelled_types : List Bytes → List Typed → Option (List Meaning)
labelled_types [] params = Some []
labelled_types (label ∷ labels) params =
    option_and_then (λ t. option_map (λ types. t ∷ types) (labelled_types labels params))
    (type_of_name label params)

-- each parameter is named by exactly one label
abbrev pub each_is_named_once : List Bytes → List Typed → Bool
each_is_named_once labels params = list_all (λ one. count_by (bytes_eq one.name) labels == 1) params

-- the types of the parameters in the order of labelled arguments, where each parameter is named once and each
-- label names one
abbrev pub by_labels : List Bytes → List Typed → Option (List Meaning)
by_labels labels params = if each_is_named_once labels params then labelled_types labels params else None

-- ---- what makes the result equal the wanted type

abbrev pub begun : Mode → Meaning → Option Bindings
begun None result = Some []
begun (Some wanted) result = matched result wanted []

-- ---- the arguments in two passes

-- an argument as the rules see it: whether it is bare, and its note
pub record Shown : Type 0 where
  pub bare : Bool
  pub note : Note

-- An argument that isn't bare. Where the substitution fixes the parameter's type (the test), the argument
-- wants that; else nothing is wanted of it, and the substitution goes on so that its type is the parameter's.
abbrev pub Taken : Bool → Meaning → Note → Bindings → Bindings → Type 0
Taken true p a s r = (a.mode ≡ Some (substituted s p)) × (r ≡ s)
Taken false p a s r = (a.mode ≡ None) × (matched p a.of s ≡ Some r)

-- A bare argument. Where the substitution doesn't fix the parameter's type, this is a type parameter alone,
-- which gets Int32.
abbrev pub TakenBare : Bool → Meaning → Note → Bindings → Bindings → Type 0
TakenBare true p a s r = (a.mode ≡ Some (substituted s p)) × (r ≡ s)
TakenBare false (parameter name) a s r = (a.mode ≡ None) × (matched (parameter name) int32 s ≡ Some r)
TakenBare false p a s r = ⊥

-- what a pass does at one argument: it takes those of its kind, and leaves the others
abbrev pub FirstStep : Bool → Meaning → Note → Bindings → Bindings → Type 0
FirstStep true p a s r = r ≡ s
FirstStep false p a s r = Taken (fixed s p) p a s r

abbrev pub SecondStep : Bool → Meaning → Note → Bindings → Bindings → Type 0
SecondStep true p a s r = TakenBare (fixed s p) p a s r
SecondStep false p a s r = r ≡ s

-- a pass over the arguments in textual order, from one substitution to another
abbrev pub Passes : (Bool → Meaning → Note → Bindings → Bindings → Type 0) → List Meaning → List Shown →
    Bindings → Bindings → Type 0
Passes step [] [] s r = r ≡ s
Passes step (p ∷ ps) (a ∷ args) s r = (q : Bindings) × step a.bare p a.note s q × Passes step ps args q r
Passes step [] (a ∷ args) s r = ⊥
Passes step (p ∷ ps) [] s r = ⊥

-- ---- every type parameter is fixed

-- a type parameter is fixed: it stands for something of its kind
abbrev pub is_fixed : Bindings → Parameter → Bool
is_fixed s one = of_kind one.universe
  where
    of_kind : Universe → Bool
    of_kind universes.Region = is_a_region (value_of one.name s)
    of_kind universe = is_a_type (value_of one.name s)

-- the first type parameter in declared order that is unfixed
abbrev pub first_unfixed : Bindings → List Parameter → Option Bytes
first_unfixed s [] = None
first_unfixed s (one ∷ params) = if is_fixed s one then first_unfixed s params else Some one.name

-- ---- the type arguments fit the universes

-- whether what a type parameter stands for, if it does, fits its universe
abbrev pub value_fits : Scope → Universe → Option Argument → Bool
value_fits scope wanted None = true
value_fits scope wanted (Some one) = fits scope.outside.heads (parameters_in scope) wanted one

-- the first type parameter in declared order whose value doesn't fit its universe
abbrev pub first_misfit : Scope → Bindings → List Parameter → Option Parameter
first_misfit scope s [] = None
first_misfit scope s (one ∷ params) =
    if value_fits scope one.universe (value_of one.name s) then first_misfit scope s params else Some one

-- ---- every constraint and the method's class hold

-- the constraints of what is called in declared order, and then the class of a method
abbrev pub wanted_of : Callable → Known
wanted_of called = constraints_of called.generics ++ option_to_list called.class

-- what is lacking first of a class at a value
abbrev pub lacking_at : Scope → DeclAt → Option Argument → Option Pair
lacking_at scope class (Some (of_type t)) =
    lacking scope.outside.instances scope.outside.heads (parameters_in scope) (constraints_of scope.generics)
    class t
lacking_at scope class value = None

-- the first pair of a class and a type that is lacking
abbrev pub first_lacking : Scope → Bindings → Known → Option Pair
first_lacking scope s [] = None
first_lacking scope s (one ∷ wanted) =
    option_or (lacking_at scope one.1 (value_of one.0 s)) (first_lacking scope s wanted)

-- ---- the whole call

-- the types that type parameters stand for, in declared order
abbrev pub type_values : Bindings → List Parameter → List Meaning
type_values s params = flat_map (λ one. types_in (value_of one.name s)) params
  where
    types_in : Option Argument → List Meaning
    types_in (Some (of_type t)) = t ∷ []
    types_in value = []

-- the types of a call's note in order
abbrev pub types_of_call : Mode → Callable → Bindings → List Meaning
types_of_call mode called s =
    types_noted mode (substituted s called.result) (type_values s (parameters called.generics))

-- The call of a name is good, by its note, by which types the arguments get from the parameters, and by the
-- arguments: the name means what is called; every parameter gets one argument; the substitution begins with
-- what makes the result equal the wanted type; it goes on over the arguments that aren't bare, and then over
-- the bare ones; then every type parameter is fixed, the types of the note pass no limit, the type arguments
-- fit, and the constraints and the method's class hold. Constructors of opaque types are nothing that is
-- called outside of their own module.
pub record GoodCall (scope : Scope) (note : Note) (name : Bytes)
    (takes : List Typed → Option (List Meaning)) (args : List Shown) : Type 0 where
  pub called : Callable
  pub is_called : scope.outside.callable name ≡ Some called
  pub types : List Meaning
  pub one_each : takes called.parameters ≡ Some types
  pub begins : Bindings
  pub from_result : begun note.mode called.result ≡ Some begins
  pub goes_on : Bindings
  pub not_bare : Passes FirstStep types args begins goes_on
  pub ends : Bindings
  pub bare : Passes SecondStep types args goes_on ends
  pub all_fixed : first_unfixed ends (parameters called.generics) ≡ None
  pub limited : are_within (types_of_call note.mode called ends) ≡ true
  pub all_fit : first_misfit scope ends (parameters called.generics) ≡ None
  pub all_hold : first_lacking scope ends (wanted_of called) ≡ None
  pub is_noted : note ≡ record { mode = note.mode; of = substituted ends called.result; call = Some ends }
