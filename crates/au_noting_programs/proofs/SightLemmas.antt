-- What the code's surroundings say of a part of a module is what the rules say.
use Rattle.std.proofs.Common.{◌≡◌, ℕ, ◌<◌, List, [], length, get_or, Option}
use Rattle.std.proofs.Common.{None, Some, refl, sym, ap, ◌∙◌}
use mathlib.Core.Path.{fun_ext}
use Rattle.std.specs.Prelude.{slice_get}
use Rattle.std.specs.Option.{option_map}
use Rattle.std.proofs.lemmas.Option.{none-some, slice_get-get_or}
use Rattle.au_syntax.specs.declared.modules.Part.{Part}
use Rattle.au_syntax.specs.Plain.{Bytes}
use Rattle.au_types.specs.declared.spaces.Space.{Space}
use Rattle.au_types.specs.declared.spaces.Space.TheVariants.{Callables, Types, Values}
use Rattle.au_types.specs.Tables.{find}
use Rattle.au_types.specs.declared.types.DeclAt.{DeclAt}
use Rattle.au_modules.specs.Programs.{ModuleParts}
use Rattle.au_names.specs.declared.targets.Target.{Target}
use Rattle.au_names.specs.HeadsOf.{heads_of}
use Rattle.au_names.specs.Meanings.{declared_by, seen}
use Rattle.au_names.proofs.DeclaredByLemmas.{find_declared}
use Rattle.au_classes.specs.Rows.{rows_of}
use Rattle.au_instances.specs.Rows.{Row}
use Rattle.au_typing.specs.Called.{callable_at}
use Rattle.au_typing.specs.Insides.{cases_of, fields_of}
use Rattle.au_typing.specs.Outsides.{constant_at, outside_of}
use Rattle.au_typing.specs.Written.{seen_at, seen_in, types_at}
use Rattle.au_typing.specs.Scopes.{Outside}
use Rattle.au_sights.specs.Sights.{constant_numbered}

nothing : ModuleParts
nothing = record { name = []; interface = None; body = None }

-- what is seen of a module that is there
module _ (program : List ModuleParts) (place : ℕ) (part : Part) (within : place < length program) where
  there : {V : Type 0} (space : Space) (f : List (Bytes × Target) → V) (given : V) →
      ((m : ModuleParts) → slice_get program place ≡ Some m → given ≡ f (seen space program place m part))
      → given ≡ f (seen_at space program place part)
  there space f given h = by (slice_get program place) refl
    where
      by : (found : Option ModuleParts) → slice_get program place ≡ found →
          given ≡ f (seen_in space program place part found)
      by None is = absurd (none-some (get_or program place nothing)
          (sym is ∙ slice_get-get_or program place nothing within))
      by (Some m) is = h m is

-- the constant that a name means, by its number
constant_found : (program : List ModuleParts) (found : Option Target) →
    constant_numbered program (option_map (λ (t : Target). t.at) found) ≡ constant_at program found
constant_found program None = refl
constant_found program (Some target) = refl

constant_is : (program : List ModuleParts) (pairs : List (Bytes × Target)) (name : Bytes) →
    constant_numbered program (find name (declared_by pairs)) ≡ constant_at program (find name pairs)
constant_is program pairs name = ap (constant_numbered program) (find_declared name pairs)
    ∙ constant_found program (find name pairs)

-- what is seen by these tables and these instances
abbrev seen_by : List ModuleParts → ℕ → List (Bytes × DeclAt) → List (Bytes × Target) →
    List (Bytes × DeclAt) → List Row → Outside
seen_by program place values callables types instances = record {
  constant = λ name. constant_numbered program (find name values);
  callable = λ name. callable_at program (find name callables);
  target = λ name. find name callables;
  fields = fields_of program place;
  cases = cases_of program place;
  visible = types;
  heads = heads_of program;
  instances = instances;
}

pub sight_is : (program : List ModuleParts) (place : ℕ) (part : Part) (values : List (Bytes × DeclAt))
    (callables : List (Bytes × Target)) (types : List (Bytes × DeclAt)) (instances : List Row)
    → place < length program
    → ((m : ModuleParts) → slice_get program place ≡ Some m → values ≡ declared_by (seen Values program place m part))
    → ((m : ModuleParts) → slice_get program place ≡ Some m → callables ≡ seen Callables program place m part)
    → ((m : ModuleParts) → slice_get program place ≡ Some m → types ≡ declared_by (seen Types program place m part))
    → instances ≡ rows_of program
    → seen_by program place values callables types instances ≡ outside_of program place part
sight_is program place part values callables types instances within of_values of_callables of_types of_instances =
    let values_there : values ≡ declared_by (seen_at Values program place part) =
    there program place part within Values declared_by values of_values in
    let callables_there : callables ≡ seen_at Callables program place part =
    there program place part within Callables (λ all. all) callables of_callables in
    let types_there : types ≡ types_at program place part = there program place part within Types declared_by
    types of_types in
    let constants : (λ (name : Bytes). constant_numbered program (find name values))
    ≡ (λ (name : Bytes). constant_at program (find name (seen_at Values program place part))) =
    fun_ext (λ name. ap (λ all. constant_numbered program (find name all)) values_there
    ∙ constant_is program (seen_at Values program place part) name) in
    λ i. record {
      constant = constants i;
      callable = λ name. callable_at program (find name (callables_there i));
      target = λ name. find name (callables_there i);
      fields = fields_of program place;
      cases = cases_of program place;
      visible = types_there i;
      heads = heads_of program;
      instances = of_instances i;
    }
