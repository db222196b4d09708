-- When the modules of a program are derived by the rules of typing.
use Rattle.std.specs.Prelude.{◌≡◌, ℕ, ◌+◌, List, [], ◌∷◌, Option, None, Some}
use Rattle.au_syntax.specs.declared.modules.Part.{Part}
use Rattle.au_syntax.specs.declared.modules.Part.TheVariants.{Interface, Body}
use Rattle.au_syntax.specs.Modules.{constant_body, function_body, instance_body}
use Rattle.au_modules.specs.Programs.{ModuleParts}
use Rattle.au_typing.specs.Scopes.{Outside}
use Rattle.au_typing.specs.Bodies.{GoodBody, GoodConstant, GoodMethods}
use Rattle.au_typing.specs.Trees.{NotedDeclaration, NotedEntry, NotedParts, erase_program}

-- A declaration with its notes is good. Only constants, functions and instances of bodies have any.
abbrev pub GoodDeclaration : Outside → NotedDeclaration → Type 0
GoodDeclaration outside (constant_body at name t e) = GoodConstant outside t e
GoodDeclaration outside (function_body at generics header body stop) = GoodBody outside generics header body
GoodDeclaration outside (instance_body at generics class t methods) = GoodMethods outside generics methods
GoodDeclaration outside other = Unit {0}

abbrev pub GoodDeclarations : Outside → List NotedDeclaration → Type 0
GoodDeclarations outside [] = Unit {0}
GoodDeclarations outside (d ∷ rest) = GoodDeclaration outside d × GoodDeclarations outside rest

-- A part of a module is good, where the module has it.
abbrev pub GoodPart : Outside → Option NotedEntry → Type 0
GoodPart outside None = Unit {0}
GoodPart outside (Some e) = GoodDeclarations outside e.tree.declarations

-- Modules are good, the first of which stands at this place, by what each part of the module at each place
-- sees outside of functions.
abbrev pub GoodModules : (ℕ → Part → Outside) → ℕ → List NotedParts → Type 0
GoodModules outside place [] = Unit {0}
GoodModules outside place (m ∷ rest) =
    GoodPart (outside place Interface) m.interface × GoodPart (outside place Body) m.body
    × GoodModules outside (place + 1) rest

-- A program is derived with these notes: without them they are the program, and each note is good.
pub record Derives (outside : ℕ → Part → Outside) (program : List ModuleParts) (noted : List NotedParts) :
    Type 0 where
  pub erased : erase_program noted ≡ program
  pub good : GoodModules outside 0 noted
