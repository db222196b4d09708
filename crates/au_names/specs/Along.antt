-- What has come along with imports: the cases of which unions and the methods of which classes, so that those
-- of each are walked once, however often it is named.
use Rattle.std.specs.Prelude.{◌≡◌, Bool, true, List, [], ◌∷◌, ◌++◌, Some, slice_get, if◌then◌else◌}
use Rattle.std.specs.List.{list_all, list_any}
use Rattle.au_syntax.specs.Plain.{Bytes}
use Rattle.au_types.specs.Tables.{has_name}
use Rattle.au_types.specs.declared.types.DeclAt.{DeclAt}
use Rattle.au_types.specs.Rows.{same_place}
use Rattle.au_modules.specs.Programs.{ModuleParts}
use Rattle.au_names.specs.declared.targets.Target.{Target}
use Rattle.au_names.specs.Exporting.{members_at}
use Rattle.au_names.specs.Owned.{declarations_in}

-- a declaration is one of these
abbrev pub is_among : DeclAt → List DeclAt → Bool
is_among at some = list_any (same_place at) some

-- these with one more, unless it is one of them
abbrev pub with_declaration : List DeclAt → DeclAt → List DeclAt
with_declaration some at = if is_among at some then some else some ++ at ∷ []

-- the cases or methods of a declaration of the interface of a module
abbrev pub members_in : DeclAt → ModuleParts → List (Bytes × Target)
members_in at m = members_at at.«module» at.decl (declarations_in m.interface)

-- each name of these is in a table
abbrev pub all_named : List (Bytes × Target) → List (Bytes × Target) → Bool
all_named table pairs = list_all (λ p. has_name p.0 table) pairs

-- Each name that comes along with one of these declarations is in a table.
abbrev pub AreAlong : List ModuleParts → List DeclAt → List (Bytes × Target) → Type 0
AreAlong program some table =
    (at : DeclAt) (m : ModuleParts) → is_among at some ≡ true → slice_get program at.«module» ≡ Some m
    → all_named table (members_in at m) ≡ true
