-- The row that is found for a class at a closed type: what is written of its instance, and where that stands.
use Rattle.std.proofs.Common.{◌≡◌, ◌⊎◌, true, List, [], None, Option, Some, sym, ap, ◌∙◌, subst}
use Rattle.std.specs.Prelude.{Contains, slice_get}
use Rattle.std.proofs.lemmas.Option.{none-some}
use Rattle.au_syntax.specs.Plain.{Bytes}
use Rattle.au_types.specs.declared.types.DeclAt.{DeclAt}
use Rattle.au_type_texts.specs.Closing.{closed}
use Rattle.au_type_texts.specs.Types.{ClosedType}
use Rattle.au_type_texts.proofs.SameLemmas.{same_is}
use Rattle.au_modules.specs.Programs.{ModuleParts}
use Rattle.au_names.specs.HeadsOf.{heads_of}
use Rattle.au_judged_types.specs.Bounds.{Bounded}
use Rattle.au_instances.specs.declared.constructors.Constructor.{Constructor}
use Rattle.au_instances.specs.ClosedInstances.{closed_row, closes_to, gives, parts_in}
use Rattle.au_instances.specs.Constructors.{closed_constructor}
use Rattle.au_instances.specs.Rows.{Row}
use Rattle.au_instances.specs.Tables.{row_with}
use Rattle.au_instances.proofs.ClosedLemmas.{closed_row_is, if_gives_gave}
use Rattle.au_instances.proofs.TableLemmas.{row_gave}
use Rattle.au_classes.specs.Classes.{visible_at}
use Rattle.au_classes.specs.Rows.{rows_of}
use Rattle.au_classes.specs.Texts.{InstanceText, instances_of}
use Rattle.au_closing_laws.proofs.TableLemmas.{read_of}
use Rattle.au_closing_laws.proofs.TextLemmas.{IsDefined, IsPromised, Says, row_read, text_stands}

-- What is known of a row of a class that is found at a closed type: the text of its instance, and where this
-- stands; and where it has no type parameters its head closes to the type.
pub record IsFound (program : List ModuleParts) (at : DeclAt) (t : ClosedType) (row : Row) : Type 0 where
  pub text : InstanceText
  pub m : ModuleParts
  pub here : slice_get program text.number.«module» ≡ Some m
  pub stands : IsPromised program m text ⊎ IsDefined m text
  pub names : List (Bytes × DeclAt)
  pub sees : visible_at program text.number.«module» text.part ≡ Some names
  pub says : Says text names (heads_of program) row
  pub of_class : row.class ≡ at
  pub closes : row.generics ≡ [] → closed row.head ≡ Some t

closes_gave : (o : Option ClosedType) (t : ClosedType) → closes_to o t ≡ true → o ≡ Some t
closes_gave None t e = absurd cc
closes_gave (Some other) t e = ap Some (same_is other t e)

module _ (program : List ModuleParts) (t : ClosedType) (at : DeclAt) (row : Row)
    (e : closed_row (rows_of program) (heads_of program) t at ≡ Some row) where
  tested : (row_with (rows_of program) at (closed_constructor t) ≡ Some row)
      × (gives (heads_of program) row.generics row.head t (parts_in (rows_of program) (heads_of program) t) ≡ true)
  tested =
      if_gives_gave (rows_of program) (heads_of program) t (parts_in (rows_of program) (heads_of program) t)
      (row_with (rows_of program) at (closed_constructor t)) row
      (sym (closed_row_is (rows_of program) (heads_of program) t at) ∙ e)

  listed : Contains (rows_of program) row × (row.class ≡ at)
  listed = by (closed_constructor t) tested.0
    where
      by : (o : Option Constructor) → row_with (rows_of program) at o ≡ Some row
          → Contains (rows_of program) row × (row.class ≡ at)
      by None e = absurd (none-some row e)
      by (Some one) e = let its = row_gave (rows_of program) at one row e in (its.0, its.1)

  pub is_found : IsFound program at t row
  is_found =
      let read = read_of program (instances_of program) row listed.0 in
      let its = row_read program read.0 row read.2 in
      let there = text_stands program read.0 read.1 in
      record {
        text = read.0;
        m = there.0;
        here = there.1;
        stands = there.2;
        names = its.0;
        sees = its.1;
        says = its.2;
        of_class = listed.1;
        closes = λ none. closes_gave (closed row.head) t
            (subst (λ (gs : List Bounded). gives (heads_of program) gs row.head t
            (parts_in (rows_of program) (heads_of program) t) ≡ true) none tested.1);
      }
