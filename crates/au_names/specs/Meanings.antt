-- What names mean in a part of a module: what the module declares, what the imports of that part bring,
-- and what is pervasive.
use Rattle.std.specs.Prelude.{ℕ, List, [], ◌++◌, Option, None, Some, Contains, map, slice_get}
use Rattle.au_syntax.specs.declared.modules.Part.{Part}
use Rattle.au_syntax.specs.declared.modules.Part.TheVariants.{Interface, Body}
use Rattle.au_syntax.specs.Modules.{Importing}
use Rattle.au_syntax.specs.Plain.{Bytes}
use Rattle.au_types.specs.declared.spaces.Space.{Space}
use Rattle.au_types.specs.Tables.{firsts}
use Rattle.au_types.specs.declared.types.DeclAt.{DeclAt}
use Rattle.au_modules.specs.Programs.{Entry, ModuleParts}
use Rattle.au_names.specs.declared.targets.Target.{Target}
use Rattle.au_names.specs.Owned.{own, exported}
use Rattle.au_names.specs.Importing.{imported}

-- the imports of a part, if the module has it
abbrev pub imports_in : Option Entry → List (Importing Bytes)
imports_in None = []
imports_in (Some e) = e.tree.imports

abbrev pub part_of : Part → ModuleParts → Option Entry
part_of Interface m = m.interface
part_of Body m = m.body

-- the names that the interface of a module offers, if there is one
abbrev pub offered : Space → ℕ → Option ModuleParts → List (Bytes × Target)
offered space place None = []
offered space place (Some m) = exported space place m

-- the names that every module has: those of the interface of the first module, Austral.Pervasive
abbrev pub pervasive : Space → List ModuleParts → List (Bytes × Target)
pervasive space program = offered space 0 (slice_get program 0)

-- What names mean in a part of the module at this place: all that they mean there, in order.
abbrev pub meanings : Space → List ModuleParts → ℕ → ModuleParts → Part → List (Bytes × Target)
meanings space program place m part =
    own space place m ++ imported space program place (imports_in (part_of part m)) ++ pervasive space program

-- A name means this, in a part of the module at this place.
abbrev pub Means : List ModuleParts → ℕ → ModuleParts → Part → Space → Bytes → Target → Type 0
Means program place m part space name meaning = Contains (meanings space program place m part) (name, meaning)

-- the table of a space, with the first that each name means
abbrev pub seen : Space → List ModuleParts → ℕ → ModuleParts → Part → List (Bytes × Target)
seen space program place m part = firsts (meanings space program place m part)

-- names with their declarations alone
abbrev pub declared_by : List (Bytes × Target) → List (Bytes × DeclAt)
declared_by pairs = map (λ p. (p.0, p.1.at)) pairs
