-- What the examples of rows stand in: a few types, functions and variables.
use Rattle.std.specs.Prelude.{List, [], ◌∷◌, true, false, Option, Some, None, codes, if◌then◌else◌}
use Rattle.au_syntax.specs.declared.declarations.Universe.TheVariants as universes
use Rattle.au_syntax.specs.Plain.{Bytes}
use Rattle.au_types.specs.Rows.{same_place}
use Rattle.au_types.specs.Types as mean
use Rattle.au_types.specs.Types.{Meaning}
use Rattle.au_names.specs.declared.targets.Target.{Target}
use Rattle.au_instances.specs.Examples.{bounded_by, box, headed, nat8, of_one, option, place, shown}
use Rattle.au_typing.specs.Scopes.{Case, Outside, Scope, Typed, Variable}
use Rattle.au_typing.specs.TypingExamples as few
use Rattle.au_typing.specs.TypingExamples.{boxed, kept, kept_fields, of_name, read, typed_name, write}

-- ---- types

-- a Linear record that holds another one, of which a part is Free
abbrev pub outer : Meaning
outer = mean.named (place 9 0) mean.no_arguments

abbrev pub outer_fields : List Typed
outer_fields = typed_name (codes "inner") kept ∷ typed_name (codes "flag") mean.truth ∷ []

abbrev pub fields_of : Meaning → Option (List Typed)
fields_of (mean.named at mean.no_arguments) =
    if same_place at (place 8 0) then Some kept_fields
    else if same_place at (place 9 0) then Some outer_fields else None
fields_of other = None

-- type parameters: one whose values are shown, and one of which nothing is known
abbrev pub t : Meaning
t = mean.parameter (codes "T")

abbrev pub u : Meaning
u = mean.parameter (codes "U")

-- ---- cases

abbrev pub target_of : Bytes → Target
target_of name = record { at = option; name = name }

-- `None` and `Some` are the cases of `Option`, and `Left` is one of another union
abbrev pub targets : List (Bytes × Target)
targets =
    (codes "None", target_of (codes "None"))
    ∷ (codes "Some", target_of (codes "Some"))
    ∷ (codes "Left", record { at = place 0 1; name = codes "Left" })
    ∷ []

abbrev pub option_cases : Meaning → List Case
option_cases of =
    record { target = target_of (codes "None"); fields = [] }
    ∷ record { target = target_of (codes "Some"); fields = typed_name (codes "value") of ∷ [] }
    ∷ []

abbrev pub cases_of : Meaning → Option (List Case)
cases_of (mean.named at (mean.arguments (mean.of_type of) mean.no_arguments)) =
    if same_place at option then Some (option_cases of) else None
cases_of other = None

-- ---- what is outside, and in scope

abbrev pub outside : Outside
outside = record {
  constant = of_name ((codes "c", mean.truth) ∷ []);
  callable = of_name few.callables;
  target = of_name targets;
  fields = fields_of;
  cases = cases_of;
  visible = (codes "Kept", place 8 0) ∷ (codes "Box", box) ∷ (codes "Option", option) ∷ [];
  heads = (place 9 0, headed (codes "Main:Outer") universes.Linear []) ∷ few.outside.heads;
  instances = few.outside.instances;
}

abbrev pub var_of : Bytes → Meaning → Variable
var_of name of = record { name = name; of = of; assignable = true }

-- Besides those of the few examples: v, f and z are declared by `var`, z being Linear; o holds what k is, and
-- g refers to such a one; m may hold a number, q and n refer to such a one, for reading and for writing, and
-- qq to what q is; e and h have the type parameters as types.
abbrev pub variables : List Variable
variables =
    var_of (codes "v") kept
    ∷ var_of (codes "f") nat8
    ∷ var_of (codes "z") boxed
    ∷ few.variable (codes "o") outer
    ∷ few.variable (codes "g") (read outer)
    ∷ few.variable (codes "m") (of_one option nat8)
    ∷ few.variable (codes "q") (read (of_one option nat8))
    ∷ few.variable (codes "n") (write (of_one option nat8))
    ∷ few.variable (codes "qq") (read (read (of_one option nat8)))
    ∷ few.variable (codes "e") t
    ∷ few.variable (codes "h") u
    ∷ few.scope.variables

-- the result is Nat8
abbrev pub scope : Scope
scope = record {
  outside = outside;
  generics =
      bounded_by (codes "T") universes.Free (shown ∷ [])
      ∷ bounded_by (codes "U") universes.Free [] ∷ [];
  result = nat8;
  regions = codes "R" ∷ [];
  variables = variables;
}
