-- The law of instances, for those above; and what is found wrong with instances is never want of memory.
use Rattle.std.proofs.Common.{◌≡◌, Bool, true, false, List, [], ◌∷◌, Option, Some, None}
use Rattle.std.specs.Option.{option_map, option_or}
use Rattle.std.specs.Prelude.{slice_get}
use Rattle.au_base.specs.declared.places.Pos.{Pos}
use Rattle.au_syntax.specs.Plain.{Bytes}
use Rattle.au_types.specs.declared.headings.Head.{Head}
use Rattle.au_types.specs.declared.types.DeclAt.{DeclAt}
use Rattle.au_modules.specs.Programs.{ModuleParts}
use Rattle.au_classes.specs.Texts.{InstanceText, instances_of}
use Rattle.au_instances.specs.Rows.{Row}
use Rattle.au_classes.specs.declared.faults.ClassFault.{ClassFault}
use Rattle.au_classes.specs.declared.faults.ClassFault.TheVariants.{BadHead, Orphan, Overlap, MethodDiffers}
use Rattle.au_classes.specs.declared.faults.ClassFault.TheVariants as fault
use Rattle.au_classes.specs.Classes.{ClassText, class_at}
use Rattle.au_classes.specs.Faults.{Known, class_fault, fault_of, first_fault, instance_fault, module_fault}
use Rattle.au_classes.specs.Faults.{read_fault, row_fault, unless, with_text}
use Rattle.au_classes.specs.Good.{InstancesAreGood}
use Rattle.au_classes.proofs.GoodLemmas.{instances_accepted, instances_good}

pub good_from : (program : List ModuleParts) → instance_fault program ≡ None → InstancesAreGood program
good_from program h = instances_good program h

pub good_accepted : (program : List ModuleParts) → InstancesAreGood program → instance_fault program ≡ None
good_accepted program good = instances_accepted program good

-- ---- never want of memory

of_one_unwanted : (head home methods : Bool) (at : Pos) (earlier : Option Pos)
    → option_or (unless head (BadHead at)) (option_or (unless home (Orphan at))
    (option_or (option_map (Overlap at) earlier) (unless methods (MethodDiffers at)))) ≡ Some fault.Memory → ⊥
of_one_unwanted false home methods at earlier h = cc
of_one_unwanted true false methods at earlier h = cc
of_one_unwanted true true methods at (Some other) h = cc
of_one_unwanted true true false at None h = cc
of_one_unwanted true true true at None h = cc

module _ (heads : List (DeclAt × Head)) (known : List Known) (text : InstanceText) where
  class_unwanted : (names : List (Bytes × DeclAt)) (row : Row) (class : Option ClassText)
      → class_fault heads known text names row class ≡ Some fault.Memory → ⊥
  class_unwanted names row None h = cc
  class_unwanted names row (Some class) h = of_one_unwanted _ _ _ text.at _ h

  read_unwanted : (program : List ModuleParts) (names : List (Bytes × DeclAt)) (row : Option Row)
      → read_fault heads known text program names row ≡ Some fault.Memory → ⊥
  read_unwanted program names None h = cc
  read_unwanted program names (Some row) h = class_unwanted names row (class_at program row.class) h

module_unwanted : (program : List ModuleParts) (known : List Known) (text : InstanceText) (m : Option ModuleParts)
    → module_fault program known text m ≡ Some fault.Memory → ⊥
module_unwanted program known text None h = cc
module_unwanted program known text (Some m) h = read_unwanted _ known text program _ _ h

first_unwanted : (program : List ModuleParts) (known : List Known) (texts : List InstanceText)
    → first_fault program known texts ≡ Some fault.Memory → ⊥
unfolding first_fault
first_unwanted program known [] h = cc
first_unwanted program known (text ∷ texts) h =
    by (fault_of program known text) (module_unwanted program known text (slice_get program text.number.«module»))
    (first_unwanted program (with_text program known text) texts) h
  where
    by : (o : Option ClassFault) → (o ≡ Some fault.Memory → ⊥)
        → (first_fault program (with_text program known text) texts ≡ Some fault.Memory → ⊥)
        → option_or o (first_fault program (with_text program known text) texts) ≡ Some fault.Memory → ⊥
    by None one others all = others all
    by (Some x) one others all = one all

pub unwanted : (program : List ModuleParts) → instance_fault program ≡ Some fault.Memory → ⊥
unwanted program h = first_unwanted program [] (instances_of program) h
