-- The row that gives the instance of a class at a closed type is that of the class and its constructor.
use Rattle.std.proofs.Common.{◌≡◌, Bool, true, false, cond, List, refl, sym, ◌∙◌}
use Rattle.std.specs.Prelude.{Option, None, Some}
use Rattle.au_types.specs.declared.headings.Head.{Head}
use Rattle.au_types.specs.declared.types.DeclAt.{DeclAt}
use Rattle.au_type_texts.specs.Types.{ClosedType}
use Rattle.au_instances.specs.ClosedInstances.{ClosedInstance, Part, closed_row, gives, if_gives, parts_in}
use Rattle.au_instances.specs.Constructors.{closed_constructor}
use Rattle.au_instances.specs.Rows.{Row}
use Rattle.au_instances.specs.Tables.{IsTable, row_with}
use Rattle.au_instances.proofs.ClosedLemmas.{closed_row_gave, closed_row_is, closed_row_there}

module _ (rows : List Row) (heads : List (DeclAt × Head)) (table : IsTable rows) (class : DeclAt)
    (t : ClosedType) where
  -- a row that is kept by a test is there
  kept : (parts : List Part) (o : Option Row) (row : Row) → if_gives heads t parts o ≡ Some row → o ≡ Some row
  kept parts None row e = absurd cc
  kept parts (Some other) row e = by (gives heads other.generics other.head t parts) e
    where
      by : (b : Bool) → cond b (Some other) None ≡ Some row → Some other ≡ Some row
      by true same = same
      by false none = absurd cc

  -- the row that gives the instance is the one of the class and the constructor
  pub one_row : (row : Row) → ClosedInstance rows heads class t row
      → row_with rows class (closed_constructor t) ≡ closed_row rows heads t class
  one_row row is =
      let here = closed_row_there rows heads table class t row is in
      kept (parts_in rows heads t) (row_with rows class (closed_constructor t)) row
      (sym (closed_row_is rows heads t class) ∙ here)
      ∙ sym here

  -- there is none where no answer is given, and each row that gives the instance would be answered
  pub no_row : (answer : Option DeclAt)
      → ((row : Row) → ClosedInstance rows heads class t row → answer ≡ Some row.instance)
      → answer ≡ None
      → closed_row rows heads t class ≡ None
  no_row answer all none = by (closed_row rows heads t class) refl
    where
      by : (o : Option Row) → closed_row rows heads t class ≡ o → o ≡ None
      by None e = refl
      by (Some row) e =
          let some : answer ≡ Some row.instance = all row (closed_row_gave rows heads table class t row e) in
          absurd cc
