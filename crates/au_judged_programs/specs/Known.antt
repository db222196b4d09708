-- The functions that the meaning of a program with notes knows, and that they are good in a checked program.
use Rattle.std.specs.Prelude.{◌≡◌, ℕ, List, Some}
use Rattle.au_syntax.specs.declared.modules.Part.TheVariants.{Body}
use Rattle.au_modules.specs.Programs.{ModuleParts}
use Rattle.au_judged_bodies.specs.Notes.{Note}
use Rattle.au_judged_bodies.specs.Outsides.{outside_of}
use Rattle.au_judged_bodies.specs.Trees.{NotedParts}
use Rattle.au_judged_bodies.specs.Bodies.{BodyOf, body_of}
use Rattle.au_judged_bodies.specs.Instances.{Instance}
use Rattle.au_judged_bodies.specs.Generic.{function_under, generic_functions}
use Rattle.au_meaning.specs.Views.{Function}
use Rattle.au_judged_programs.specs.CheckedChecked.{IsChecked}
use Rattle.au_judged_bodies.specs.LivedBodiesBodies.{IsGoodFunction}
use Rattle.au_judged_bodies.specs.Asked.{AreInBlock}

-- A function that the meaning knows is that of a body in the text, which is good by what the body of its
-- module sees and over its own type parameters; these are declared before it, in blocks that are open.
pub record IsKnownWell (program : List ModuleParts) (noted : List NotedParts) (first : Instance → ℕ)
    (one : Instance)
    (f : Function Instance Note (Unit {0})) : Type 0 where
  pub body : BodyOf
  pub written : body_of program noted one.of ≡ Some body
  pub runs : function_under program noted (first one) one.given body ≡ f
  pub good : IsGoodFunction f (outside_of program body.place Body) body.generics body.header
  pub declared : AreInBlock good.before body.generics

-- In a checked program each function is so, whichever numbers the first names of functions have.
abbrev pub CheckedBodiesAreGood : Type 0
CheckedBodiesAreGood =
    (program : List ModuleParts) (noted : List NotedParts) → IsChecked program noted
    → (first : Instance → ℕ) (one : Instance) (f : Function Instance Note (Unit {0}))
    → generic_functions program noted first one ≡ Some f → IsKnownWell program noted first one f
