-- Which names are in scope in all of a part of a module and come from elsewhere: what its imports bring, what
-- is pervasive, and what is built in. Nothing is declared as a callable but at the top of a module, where it
-- is compared with these before; and no field comes from elsewhere.
use Rattle.std.specs.Prelude.{ℕ, Bool, false, not, ◌==◌, ◌||◌, List, Option, None, Some}
use Rattle.au_syntax.specs.declared.modules.Part.{Part}
use Rattle.au_syntax.specs.Plain.{Bytes}
use Rattle.au_types.specs.declared.spaces.Space.TheVariants as spaces
use Rattle.au_types.specs.Tables.{find}
use Rattle.au_types.specs.declared.types.DeclAt.{DeclAt}
use Rattle.au_modules.specs.Programs.{ModuleParts}
use Rattle.au_names.specs.declared.part_names.PartNames.{PartNames}
use Rattle.au_imports.specs.Clashing.{is_built_in}
use Rattle.au_names.specs.Known.{seen_by}
use Rattle.au_rules.specs.declared.outside.Here.{Here}
use Rattle.au_rules.specs.declared.marks.Kind.{Kind}
use Rattle.au_rules.specs.declared.marks.Kind.TheVariants.{Values, Callables, Types, Fields}

-- a name first means a declaration of another module than that at a place
abbrev pub is_foreign : ℕ → Option DeclAt → Bool
is_foreign place None = false
is_foreign place (Some at) = not (at.«module» == place)

-- given what names mean in the part
abbrev pub is_outside : ℕ → PartNames → Kind → Bytes → Bool
is_outside place names Values name = is_foreign place (find name names.values)
is_outside place names Callables name = false
is_outside place names Types name = is_built_in spaces.Types name || is_foreign place (find name names.types)
is_outside place names Fields name = false

-- in this part
abbrev pub is_outside_of : Here → Kind → Bytes → Bool
is_outside_of here = is_outside here.place here.names.now

-- in a part of the module at a place
abbrev pub outside : List ModuleParts → ℕ → ModuleParts → Part → Kind → Bytes → Bool
outside program place m part = is_outside place (seen_by program place part m)
