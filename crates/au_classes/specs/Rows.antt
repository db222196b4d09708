-- The row of an instance as it is written. There is none where its class, its type parameters or its type
-- mean nothing, or where the type isn't well formed; the judging of declarations has seen such an instance
-- before.
use Rattle.std.specs.Prelude.{ℕ, List, [], Option, None, Some, flat_map, slice_get}
use Rattle.std.specs.Option.{option_to_list}
use Rattle.au_syntax.specs.Plain.{Bytes}
use Rattle.au_types.specs.declared.headings.Head.{Head}
use Rattle.au_types.specs.declared.types.DeclAt.{DeclAt}
use Rattle.au_types.specs.Types.{Meaning}
use Rattle.au_modules.specs.Programs.{ModuleParts}
use Rattle.au_names.specs.HeadsOf.{heads_of}
use Rattle.au_judged_types.specs.Agreement.{found}
use Rattle.au_judged_types.specs.Judging.{judged}
use Rattle.au_judged_types.specs.declared.reading.Meant.{Meant}
use Rattle.au_judged_types.specs.declared.reading.Meant.TheVariants.{Are, Fails}
use Rattle.au_judged_types.specs.Bounds.{Bounded, parameters}
use Rattle.au_judged_types.specs.Meanings.{class_meant, generics_meant}
use Rattle.au_classes.specs.Texts.{InstanceText, instances_of}
use Rattle.au_instances.specs.Rows.{Row}
use Rattle.au_classes.specs.Classes.{visible_at}

-- an instance, by the names that are seen where it is written and the rows of declared types
module _ (text : InstanceText) (names : List (Bytes × DeclAt)) (heads : List (DeclAt × Head)) where
  -- its class, its type parameters and the type that it is for, if there is one
  abbrev pub row_with : DeclAt → List Bounded → Option Meaning → Option Row
  row_with class generics None = None
  row_with class generics (Some head) = Some (record {
    instance = text.number;
    class = class;
    generics = generics;
    head = head;
  })

  -- its class, and what its type parameters mean
  abbrev pub row_over : DeclAt → Meant → Option Row
  row_over class (Fails why) = None
  row_over class (Are generics) =
      row_with class generics (found (judged [] (parameters generics) names heads text.of))

  -- its class, if its name means one
  abbrev pub row_of_class : Option DeclAt → Option Row
  row_of_class None = None
  row_of_class (Some class) = row_over class (generics_meant names heads text.generics)

  -- its row
  abbrev pub row_in : Option Row
  row_in = row_of_class (class_meant [] names heads text.name.name)

-- the same, if the names are known
abbrev pub row_seen : InstanceText → List (DeclAt × Head) → Option (List (Bytes × DeclAt)) → Option Row
row_seen text heads None = None
row_seen text heads (Some names) = row_in text names heads

-- the row of an instance of a program
abbrev pub row_of : List ModuleParts → InstanceText → Option Row
row_of program text = row_seen text (heads_of program) (visible_at program text.number.«module» text.part)

-- the rows of instances of a program, and those of all its instances
abbrev pub rows_read : List ModuleParts → List InstanceText → List Row
rows_read program texts = flat_map (λ text. option_to_list (row_of program text)) texts

abbrev pub rows_of : List ModuleParts → List Row
rows_of program = rows_read program (instances_of program)
