-- What counts as a capability, and what it is called by: its head.
use Rattle.std.specs.Prelude.{◌&&◌, Bool, true, false, List, Option, None, Some, if◌then◌else◌, is_some}
use Rattle.au_syntax.specs.declared.declarations.Universe.{Universe}
use Rattle.au_syntax.specs.declared.declarations.Universe.TheVariants as universes
use Rattle.au_syntax.specs.Plain.{Bytes}
use Rattle.au_types.specs.declared.headings.Head.{Head}
use Rattle.au_types.specs.declared.parameters.Parameter.{Parameter}
use Rattle.au_types.specs.declared.types.DeclAt.{DeclAt}
use Rattle.au_types.specs.Rows as rows
use Rattle.au_types.specs.Universes.{universe_in}
use Rattle.au_modules.specs.Programs.{ModuleParts}
use Rattle.au_names.specs.HeadsOf.{heads_of}
use Rattle.au_names.specs.Standing.{Standing, opaque_name, standing_at}

-- values of this universe may be capabilities: those that can't be copied at will
abbrev pub is_kept : Universe → Bool
is_kept universes.Free = false
is_kept universes.Linear = true
is_kept universes.AnyType = true
is_kept universes.Region = false

-- whether a declaration that is found is that of an opaque type, if it is found
abbrev pub is_opaque : Option Standing → Bool
is_opaque None = false
is_opaque (Some d) = is_some (opaque_name d.says)

-- the head of a declared type that is opaque or not, by its row: its module's name, a colon and its own name
abbrev pub head_by : Bool → Option Head → Option Bytes
head_by opaque None = None
head_by opaque (Some head) = if opaque && is_kept head.universe then Some head.text else None

-- The head of a declared type: that of an opaque type, a shipped one too, whose universe isn't Free. Only the
-- module of an opaque type can make a value of it or look inside.
abbrev pub head_of : List ModuleParts → DeclAt → Option Bytes
head_of program at = head_by (is_opaque (standing_at program at)) (rows.head_of (heads_of program) at)

-- a type parameter of a universe, if there is one, may stand for a capability
abbrev pub is_kept_in : Option Universe → Bool
is_kept_in None = false
is_kept_in (Some universe) = is_kept universe

-- a name is that of a type parameter that may
abbrev pub may_stand : List Parameter → Bytes → Bool
may_stand params name = is_kept_in (universe_in params name)
