-- What the code knows of the definitions of a program's bodies, and what the bodies say that it finds.
use Rattle.std.specs.Prelude.{◌≡◌, ℕ, List, Option, Some, length, map, slice_get}
use Rattle.std.specs.Borrow.{Bor}
use Rattle.std.specs.Option.{option_map}
use Rattle.au_sights.specs.contracts.noted.NotedPhase.TheImpl.{ghosts as noted}
use Rattle.au_sights.specs.declared.noted.Noted.{Noted}
use Rattle.au_sights.specs.declared.notes.Notes.{Notes}
use Rattle.au_syntax.specs.declared.declarations.Decl.{Decl}
use Rattle.au_syntax.specs.declared.declarations.Method.{Method}
use Rattle.au_syntax.specs.Views as trees
use Rattle.au_modules.specs.Programs.{ModuleParts}
use Rattle.au_modules.specs.Seen.{body_tree}
use Rattle.au_names.specs.Exporting.{declarations_seen}
use Rattle.au_promises.specs.declared.definitions.Definitions.{Definitions}
use Rattle.au_promises.specs.Agreeing.{sight_of}
use Rattle.au_promises.specs.Defining.{AreDefinitions}
use Rattle.au_typing.specs.Trees.{NotedDeclaration, NotedMethod}
use Rattle.au_closed_programs.specs.declared.bodies.Body as code
use Rattle.au_closing.specs.Bodies.{BodyOf}

-- these are the definitions of the body of the module at a place, if it is there
abbrev pub AreDefined : List ModuleParts → ℕ → Definitions → Type 0
AreDefined program place definitions = (m : ModuleParts) → slice_get program place ≡ Some m
    → AreDefinitions (sight_of program place m) (declarations_seen (body_tree (Some m))) definitions

-- these are the definitions of the bodies of all modules, by their places
pub record AllDefined (program : List ModuleParts) (all : List Definitions) : Type 0 where
  pub many : length all ≡ length program
  pub each : (place : ℕ) (definitions : Definitions) → slice_get all place ≡ Some definitions
      → AreDefined program place definitions

-- a declaration with notes behind a reference, if there is one
abbrev pub declaration_seen : Option (Bor (Decl Noted (List ℕ) Notes (Unit {0}))) → Option NotedDeclaration
declaration_seen found =
    option_map (λ (b : Bor (Decl Noted (List ℕ) Notes (Unit {0}))). trees.declaration noted b.now) found

-- a method with notes behind a reference, if there is one
abbrev pub method_seen : Option (Bor (Method Noted (List ℕ) Notes (Unit {0}))) → Option NotedMethod
method_seen found =
    option_map (λ (b : Bor (Method Noted (List ℕ) Notes (Unit {0}))). trees.method_body noted b.now) found

-- a body
abbrev pub body_said : code.Body → BodyOf
body_said b = record {
  place = b.place;
  generics = map (trees.constrained noted) b.generics.now.items;
  header = trees.header noted b.signature.now;
  block = trees.block noted b.block.now;
}
