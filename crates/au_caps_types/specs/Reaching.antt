-- Which heads a declared type reaches.
use Rattle.std.specs.Prelude.{◌≡◌, ◌⊎◌, List, Some}
use Rattle.au_syntax.specs.Plain.{Bytes}
use Rattle.au_types.specs.declared.types.DeclAt.{DeclAt}
use Rattle.au_modules.specs.Programs.{ModuleParts}
use Rattle.au_formed.specs.Infinite.{Leads}
use Rattle.au_caps_types.specs.Heads.{head_of}
use Rattle.au_caps_types.specs.Naming.{namings}

-- A declared type reaches a head: it is its own, or that of a declared type to which it leads by what fields
-- name. The type parameters of a declared type don't count in its fields: what they stand for stands in the
-- arguments wherever the type is named.
abbrev pub DeclaredReaches : List ModuleParts → DeclAt → Bytes → Type 0
DeclaredReaches program a h =
    (b : DeclAt) × ((a ≡ b) ⊎ Leads (namings program) a b) × (head_of program b ≡ Some h)
