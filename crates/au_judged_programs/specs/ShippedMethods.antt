-- Calls of methods whose instances are shipped, as the meaning of a checked program sees them.
use Rattle.std.specs.Prelude.{◌≡◌, ℕ, Bool, true, List, Some}
use Rattle.au_shipped.specs.declared.prims.ShippedCall.{ShippedCall}
use Rattle.au_shipped.specs.Calls.{prim_of}
use Rattle.au_syntax.specs.Plain.{Bytes}
use Rattle.au_types.specs.declared.parameters.Parameter.{Parameter}
use Rattle.au_types.specs.Types.{parameter}
use Rattle.au_matching.specs.Bindings.{Bindings}
use Rattle.au_matching.specs.Substituted.{substituted}
use Rattle.au_type_texts.specs.Given.{Given, closed_under}
use Rattle.au_modules.specs.Programs.{ModuleParts}
use Rattle.au_names.specs.declared.targets.Target.{Target}
use Rattle.au_names.specs.HeadsOf.{heads_of}
use Rattle.au_names.specs.Standing.{Standing}
use Rattle.au_classes.specs.Rows.{rows_of}
use Rattle.au_judged_bodies.specs.Leading.{a_method, called_of, kind_of, module_name}
use Rattle.au_judged_bodies.specs.Notes.{Note}
use Rattle.au_judged_bodies.specs.Scopes.{Callable}
use Rattle.au_judged_bodies.specs.Trees.{NotedParts}
use Rattle.au_judged_bodies.specs.Functions.{BodyRuns}
use Rattle.au_instances.specs.ClosedInstances.{closed_row}
use Rattle.au_instances.specs.Rows.{Row}
use Rattle.au_judged_programs.specs.CheckedChecked.{IsChecked}
use Rattle.au_judged_programs.specs.Programs.{TargetIsSeen, is_class}

-- In the bodies of a checked program, wherever they run, the call of a method is seen where the row of its
-- class, at what the call puts, is that of a shipped instance: there is a shipped call of the method's name.
abbrev pub ShippedMethodsAreSeen : List ModuleParts → List NotedParts → Type 0
ShippedMethodsAreSeen program noted =
    IsChecked program noted → (place : ℕ) (params : List Parameter) (regions : List Bytes) (given : Given)
    (s : Bindings) (z : ℕ) (active : ℕ → Bool) → BodyRuns program params regions given s z active
    → (note : Note) (name : Bytes) (target : Target) (d : Standing) (called : Callable) (put : Bindings)
    (declared param : Bytes) (row : Row) (prim : ShippedCall)
    → is_class d.says ≡ true → called_of target.name d.says ≡ Some (a_method declared param)
    → closed_row (rows_of program) (heads_of program) (closed_under given (substituted put (parameter param)))
    target.at ≡ Some row
    → prim_of (module_name program row.instance.«module») declared
    (kind_of (closed_under given (substituted put (parameter param)))) ≡ Some prim
    → TargetIsSeen program noted place params regions given s z active note name target d called put
