-- The bodies of functions that are called.
use Rattle.std.specs.Prelude.{◌≡◌, Bool, true, false, List, None, Some}
use Rattle.au_shipped.specs.Calls.{prim_of}
use Rattle.au_syntax.specs.declared.modules.Part.TheVariants.{Body}
use Rattle.au_syntax.specs.Modules.{function, function_body}
use Rattle.au_syntax.specs.Plain.{Bytes, PlainDeclaration}
use Rattle.au_judged_types.specs.Bounds.{parameters}
use Rattle.au_judged_types.specs.Meanings.{class_meant, first_misfit, written_params}
use Rattle.au_modules.specs.Programs.{ModuleParts}
use Rattle.au_names.specs.declared.targets.Target.{Target}
use Rattle.au_names.specs.HeadsOf.{heads_of}
use Rattle.au_names.specs.Standing.{Standing, standing_at}
use Rattle.au_promises.specs.Fulfilled.{AllFulfil}
use Rattle.au_judged_bodies.specs.TypeNames.{type_names}
use Rattle.au_judged_bodies.specs.Bodies.{BodyOf, body_of}
use Rattle.au_judged_bodies.specs.Leading.{a_function, called_of, module_name}
use Rattle.au_closing_laws.specs.Premises.{AreOfParts, FunctionsAreShipped}
use Rattle.au_judged_bodies.specs.Called.{declared_callable}
use Rattle.au_judged_bodies.specs.Scopes.{Callable}
use Rattle.au_judged_bodies.specs.Trees.{NotedParts, erase_program}
use Rattle.au_judged_bodies.specs.Written.{types_at}
use Rattle.au_judged_bodies.specs.Functions.{IsBodyOf}

-- a declaration is a function, with a body or without one
abbrev pub is_function : PlainDeclaration → Bool
is_function (function at generics h) = true
is_function (function_body at generics h body stop) = true
is_function other = false

-- Each constraint in the type parameters of a body means a class.
abbrev pub ConstraintsAreMeant : List ModuleParts → List NotedParts → Type 0
ConstraintsAreMeant program trees =
    (target : Target) (body : BodyOf) → body_of program trees target ≡ Some body
    → first_misfit (class_meant (written_params body.generics) (types_at program body.place Body)
    (heads_of program))
    body.generics ≡ None

-- A function is there: a call of it leads to it by its name and its type parameters that aren't regions, and
-- where it isn't shipped its body is there, with the type parameters, the parameters and the result of what
-- is called by the rules.
pub record FunctionIsThere (program : List ModuleParts) (trees : List NotedParts) (target : Target)
    (d : Standing)
    (called : Callable) : Type 0 where
  pub declared : Bytes
  pub leads : called_of target.name d.says
      ≡ Some (a_function declared (type_names (parameters called.generics)))
  pub stands : prim_of (module_name program target.at.«module») declared None ≡ None
      → (body : BodyOf) × (body_of program trees target ≡ Some body) × IsBodyOf program body called

-- Each function that is called is there, in a program with notes of which the bodies fulfil their interfaces,
-- each declaration is one that its part may have, what has no body is shipped, and constraints mean classes.
abbrev pub FunctionsAreThere : List ModuleParts → List NotedParts → Type 0
FunctionsAreThere program trees =
    erase_program trees ≡ program → AllFulfil program → AreOfParts program → FunctionsAreShipped program
    → ConstraintsAreMeant program trees
    → (target : Target) (d : Standing) (called : Callable) → standing_at program target.at ≡ Some d
    → is_function d.says ≡ true → declared_callable program d target.at target.name d.says ≡ Some called
    → FunctionIsThere program trees target d called
