-- How a walk through the declarations of a module goes on.
use Rattle.std.specs.Prelude.{ℕ, ◌+◌, ◌≡◌, ◌<◌, ◌≤◌, ◌⊎◌, Bool, false, not, List, [], ◌∷◌, ◌++◌, map, None}
use Rattle.std.specs.Prelude.{if◌then◌else◌}
use Rattle.au_syntax.specs.contracts.parsed.ParsedPhase.TheImpl.{ghosts as parsed}
use Rattle.au_syntax.specs.declared.parsed.Parsed.{Parsed}
use Rattle.au_syntax.specs.declared.declarations.Decl.{Decl}
use Rattle.au_syntax.specs.declared.declarations.TypeParameter.{TypeParameter}
use Rattle.au_syntax.specs.Modules.{InUniverse}
use Rattle.au_syntax.specs.Plain.{Bytes, PlainDeclaration, plain_declaration, plain_in_universe}
use Rattle.au_syntax.specs.Views.{declaration, in_universe}
use Rattle.au_types.specs.DeclaredNames.{type_names, given}
use Rattle.au_types.specs.Tables.{has_name, with_all}
use Rattle.au_types.specs.declared.types.DeclAt.{DeclAt}
use Rattle.au_types.specs.declared.headings.Head.{Head}
use Rattle.au_types.specs.Rows.{head_of}
use Rattle.au_names.specs.declared.walking.Walk.{Walk}
use Rattle.au_names.specs.HeadsOf.{row_of}

-- what a declaration of the code says
abbrev pub written : Decl Parsed (List ℕ) (Unit {0}) (Unit {0}) → PlainDeclaration
written d = plain_declaration parsed.name_bytes (declaration parsed d)

-- what declarations of the code say
abbrev pub written_all : List (Decl Parsed (List ℕ) (Unit {0}) (Unit {0})) → List PlainDeclaration
written_all ds = map (plain_declaration parsed.name_bytes) (map (declaration parsed) ds)

-- what a type parameter of the code says
abbrev pub written_parameter : TypeParameter Parsed (List ℕ) (Unit {0}) (Unit {0}) → InUniverse Bytes
written_parameter p = plain_in_universe parsed.name_bytes (in_universe parsed p)

-- what type parameters of the code say
abbrev pub written_parameters : List (TypeParameter Parsed (List ℕ) (Unit {0}) (Unit {0}))
    → List (InUniverse Bytes)
written_parameters ps = map (plain_in_universe parsed.name_bytes) (map (in_universe parsed) ps)

-- the names that a declaration of the code brings in to the space of types, which are one or none
abbrev pub type_names_of : Decl Parsed (List ℕ) (Unit {0}) (Unit {0}) → List Bytes
type_names_of d = type_names (written d)

-- whether there is a name, and it doesn't stand in a table
abbrev pub is_new : List Bytes → List (Bytes × ℕ) → Bool
is_new [] seen = false
is_new (name ∷ names) seen = not (has_name name seen)

-- the row that the next declaration of a module gives
abbrev pub row_on : Walk → Bytes → PlainDeclaration → List (DeclAt × Head)
row_on w owner d = if is_new (type_names d) w.seen then row_of w.place owner (w.number, d) else []

-- the walk behind the next declaration
abbrev pub walk_past : Walk → PlainDeclaration → Walk
walk_past w d =
    record { place = w.place; number = w.number + 1; seen = with_all w.seen (given w.number (type_names d)) }

-- the rows that the next declarations of a module give
unfoldable pub rows_on : Walk → Bytes → List PlainDeclaration → List (DeclAt × Head)
rows_on w owner [] = []
rows_on w owner (d ∷ ds) = row_on w owner d ++ rows_on (walk_past w d) owner ds

-- the walk behind the next declarations
unfoldable pub walk_over : Walk → List PlainDeclaration → Walk
walk_over w [] = w
walk_over w (d ∷ ds) = walk_over (walk_past w d) ds

-- no row is of this declaration or of one behind it, in the same module or in a later one
abbrev pub IsFreeFrom : ℕ → ℕ → List (DeclAt × Head) → Type 0
IsFreeFrom place number rows =
    (at : DeclAt) → (place < at.«module») ⊎ ((place ≡ at.«module») × (number ≤ at.decl))
    → head_of rows at ≡ None
