-- What running types keep of the types that are written.
use Rattle.std.specs.Prelude.{◌≡◌, ◌⊎◌, ℕ, true, List, [], Some, IsTrue}
use Rattle.au_types.specs.declared.headings.Head.{Head}
use Rattle.au_types.specs.declared.parameters.Parameter.{Parameter}
use Rattle.au_types.specs.declared.types.DeclAt.{DeclAt}
use Rattle.au_types.specs.Types.{Meaning, Argument}
use Rattle.au_matching.specs.Bindings.{Bindings, value_of, with_pair}
use Rattle.au_matching.specs.Fitting.{BindingsAreWellFormed, BindingsFit}
use Rattle.au_matching.specs.Forming.{IsWellFormed, StandsOver}
use Rattle.au_matching.specs.Replaced.{may_be}
use Rattle.au_matching.specs.Substituted.{EachName, Fixes, substituted}
use Rattle.au_matching.specs.Universes.{universe_of}
use Rattle.au_matching.specs.declared.universes.TypeUniverse.TheVariants.{Free, Linear}
use Rattle.au_type_texts.specs.Closing.{closed}
use Rattle.au_type_texts.specs.Given.{Given, Closes, closed_under}
use Rattle.au_running_types.specs.Running.{Runs, called, running, argument_running, is_lasting}

-- ---- names and regions

-- What a callee's type is where it runs is what it is for the caller, under the substitution that is noted at
-- the call: so the values of arguments and results go over as they are.
abbrev pub CallsKeepTypes : Type 0
CallsKeepTypes =
    (s first second : Bindings) (z y : ℕ) (t : Meaning) → Runs s z first second → is_lasting t ≡ true
    → Fixes first t → running second y t ≡ running s z (substituted first t)

-- the bindings of a callee, and those with one name more, are such
abbrev pub CalleesRun : Type 0
CalleesRun = (s noted : Bindings) (z : ℕ) → Runs s z noted (called s z noted)

abbrev pub MoreNamesRun : Type 0
MoreNamesRun =
    (s first second : Bindings) (z : ℕ) (name : List ℕ) (value : Argument) → Runs s z first second
    → Runs s z (with_pair name value first) (with_pair name (argument_running s z value) second)

-- A type without `~` is the same in each whole expression: so the value of one goes over to a variable.
abbrev pub LastingTypesStay : Type 0
LastingTypesStay =
    (s : Bindings) (z y : ℕ) (t : Meaning) → is_lasting t ≡ true → running s z t ≡ running s y t

-- Only the names in a type count: so types stay when the region of a borrow statement comes or goes.
abbrev pub OtherNamesStay : Type 0
OtherNamesStay =
    (s r : Bindings) (z : ℕ) (t : Meaning)
    → EachName (λ name. value_of name s ≡ value_of name r) (λ name. value_of name s ≡ value_of name r) t
    → running s z t ≡ running r z t

-- ---- universes

module _ (rows : List (DeclAt × Head)) (params others : List Parameter) (s : Bindings) where
  -- A running type is of the universe of the written one, where that is Free or Linear.
  abbrev pub UniversesStay : Type 0
  UniversesStay =
      (z : ℕ) (t : Meaning) → BindingsFit rows params others s → StandsOver rows params t
      → IsTrue (may_be (universe_of rows params t) (universe_of rows others (running s z t)))

  -- it is well formed where the written one is
  abbrev pub FormationStays : Type 0
  FormationStays =
      (z : ℕ) (t : Meaning) → BindingsAreWellFormed rows params others s → IsWellFormed rows params t
      → IsWellFormed rows others (running s z t)

-- A type without type parameters is Free or Linear.
abbrev pub TypesAreDecided : Type 0
TypesAreDecided =
    (rows : List (DeclAt × Head)) (t : Meaning) → StandsOver rows [] t
    → (universe_of rows [] t ≡ Free) ⊎ (universe_of rows [] t ≡ Linear)

-- ---- closed types

-- A running type is the closed type that the meaning has, once its tokens are left out.
abbrev pub TypesClose : Type 0
TypesClose =
    (given : Given) (s : Bindings) (z : ℕ) (t : Meaning) → Closes given s t
    → closed (running s z t) ≡ Some (closed_under given t)
