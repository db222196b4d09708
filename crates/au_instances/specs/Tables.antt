-- Tables of instances, and the row of a class and a constructor.
use Rattle.std.specs.Prelude.{◌≡◌, ◌&&◌, List, Bool, Option, None, Some, AllPairs, Contains, if◌then◌else◌}
use Rattle.std.specs.List.{find}
use Rattle.au_types.specs.declared.headings.Head.{Head}
use Rattle.au_types.specs.declared.parameters.Parameter.{Parameter}
use Rattle.au_types.specs.declared.types.DeclAt.{DeclAt}
use Rattle.au_types.specs.Rows.{same_place}
use Rattle.au_types.specs.Types.{Meaning}
use Rattle.au_instances.specs.declared.constructors.Constructor.{Constructor}
use Rattle.au_instances.specs.Becoming.{becomes}
use Rattle.au_instances.specs.Constructors.{constructor_of, is_constructor}
use Rattle.au_instances.specs.Forms.{HasForm}
use Rattle.au_instances.specs.Rows.{Row}

-- two rows aren't of one class with heads of one constructor
abbrev pub AreApart : Row → Row → Type 0
AreApart one other = one.class ≡ other.class → ¬ (constructor_of one.head ≡ constructor_of other.head)

-- rows are a table: each head has the form, and no two rows of one class have heads of one constructor
pub record IsTable (rows : List Row) : Type 0 where
  pub formed : (row : Row) → Contains rows row → HasForm row.generics row.head
  pub apart : AllPairs AreApart rows

-- whether a row is of this class and has a head of this constructor
abbrev pub is_row_of : DeclAt → Constructor → Row → Bool
is_row_of class constructor row =
    same_place class row.class && is_constructor constructor (constructor_of row.head)

-- the first row of a class whose head has this constructor, and none where no row is such
abbrev pub row_of : List Row → DeclAt → Constructor → Option Row
row_of rows class constructor = find (is_row_of class constructor) rows

-- the same of a constructor that may be missing
abbrev pub row_with : List Row → DeclAt → Option Constructor → Option Row
row_with rows class None = None
row_with rows class (Some constructor) = row_of rows class constructor

module _ (heads : List (DeclAt × Head)) (scope : List Parameter) where
  -- that row, if its head becomes the type
  abbrev pub if_becomes : Meaning → Option Row → Option Row
  if_becomes t None = None
  if_becomes t (Some row) = if becomes heads scope row.generics row.head t then Some row else None

  -- the row of a class whose head becomes a type
  abbrev pub row_for : List Row → DeclAt → Meaning → Option Row
  row_for rows class t = if_becomes t (row_with rows class (constructor_of t))
