-- What the declarations of a module bring in, and what other modules may have of it.
use Rattle.std.specs.Prelude.{ℕ, List, [], ◌++◌, map, Option, None, Some}
use Rattle.au_syntax.specs.Plain.{Bytes, PlainDeclaration}
use Rattle.au_types.specs.declared.spaces.Space.{Space}
use Rattle.au_types.specs.DeclaredNames.{numbered, names_in}
use Rattle.au_modules.specs.Programs.{Entry, ModuleParts}
use Rattle.au_names.specs.declared.targets.Target.{Target}

-- the declarations of a part, if the module has it
abbrev pub declarations_in : Option Entry → List PlainDeclaration
declarations_in None = []
declarations_in (Some e) = e.tree.declarations

-- the declarations of a module by their numbers: those of its interface, and then those of its body
abbrev pub declarations_of : ModuleParts → List (ℕ × PlainDeclaration)
declarations_of m = numbered 0 (declarations_in m.interface ++ declarations_in m.body)

-- those of its interface, with the same numbers
abbrev pub interface_of : ModuleParts → List (ℕ × PlainDeclaration)
interface_of m = numbered 0 (declarations_in m.interface)

-- what a name means that is declared in the module at this place, in the declaration of this number
abbrev pub target : ℕ → Bytes → ℕ → Target
target place name number = record { at = record { «module» = place; decl = number }; name = name }

-- names, with the numbers of their declarations, as names with what they mean
abbrev pub targets : ℕ → List (Bytes × ℕ) → List (Bytes × Target)
targets place names = map (λ p. (p.0, target place p.0 p.1)) names

-- the names that the declarations of the module at this place bring in: both parts see them all
abbrev pub own : Space → ℕ → ModuleParts → List (Bytes × Target)
own space place m = targets place (names_in space (declarations_of m))

-- the names that its interface offers to other modules
abbrev pub exported : Space → ℕ → ModuleParts → List (Bytes × Target)
exported space place m = targets place (names_in space (interface_of m))
