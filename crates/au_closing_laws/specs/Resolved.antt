-- What a method of a class leads to, by the rule of instances.
use Rattle.std.specs.Prelude.{◌≡◌, ◌⊎◌, List, None}
use Rattle.au_syntax.specs.Plain.{Bytes}
use Rattle.au_types.specs.declared.types.DeclAt.{DeclAt}
use Rattle.au_type_texts.specs.Types.{ClosedType}
use Rattle.au_modules.specs.Programs.{ModuleParts}
use Rattle.au_names.specs.HeadsOf.{heads_of}
use Rattle.au_instances.specs.ClosedInstances.{ClosedInstance}
use Rattle.au_instances.specs.Rows.{Row}
use Rattle.au_classes.specs.Rows.{rows_of}
use Rattle.au_closed_trees.specs.ClosedNotes.{instance}
use Rattle.au_closing.specs.Leading.{class_leads, method_by_row}

module _ (program : List ModuleParts) (at : DeclAt) where
  -- a row gives the instance of a class at a closed type
  abbrev pub Gives : ClosedType → Row → Type 0
  Gives t row = ClosedInstance (rows_of program) (heads_of program) at t row

  -- A row is the one instance of a class at a closed type: it gives it, and no other row does.
  pub record IsTheInstance (t : ClosedType) (row : Row) : Type 0 where
    pub gives : Gives t row
    pub alone : (other : Row) → Gives t other → other ≡ row

  -- A method of a class at a closed type leads to that of the one instance of the class there, and to nothing
  -- where the class has none.
  abbrev pub Resolves : Bytes → ClosedType → Type 0
  Resolves name t =
      ((row : Row) × IsTheInstance t row
      × (class_leads program (rows_of program) at name t ≡ method_by_row program name t row))
      ⊎ (((row : Row) → ¬ Gives t row)
      × (class_leads program (rows_of program) at name t ≡ instance None))
