-- Runs of a checked program from an entry.
use Rattle.std.proofs.Common.{ℕ, List, Option, refl}
use Rattle.au_types.specs.Types.{integer}
use Rattle.au_type_texts.specs.Types.{ClosedType}
use Rattle.au_running_types.specs.Running.{running}
use Rattle.au_modules.specs.Programs.{ModuleParts}
use Rattle.au_judged_bodies.specs.Typing.Parts.{borrow_type}
use Rattle.au_judged_bodies.specs.Notes.{type_of}
use Rattle.au_judged_bodies.specs.Trees.{NotedParts}
use Rattle.au_judged_bodies.specs.Generic.{generic_functions}
use Rattle.au_judged_bodies.specs.Held.{Permits}
use Rattle.au_judged_programs.specs.CheckedChecked.{IsChecked}
use Rattle.au_judged_programs.specs.Judged.{AreCovered, anything, anywhere}
use Rattle.au_judged_programs.proofs.BirthLemmas.{checked_typed}
use Rattle.au_judged_bodies.specs.Keys.{Key, ways}
use Rattle.au_judged_bodies.specs.Tables.{types_of}
use Rattle.au_judged_programs.proofs.JudgedLemmas.{programs_judged}
use Rattle.au_sound.proofs.CallLemmas.{calls_hold}
use Rattle.au_sound.proofs.MainLemmas.{runs_well}
use Rattle.au_sound.proofs.WireLemmas.{runs_are_safe}
use Rattle.au_judged_programs.specs.Runs.{CallsHoldWell, RunsAreSeenWell, RunsHoldWell}

module _ (program : List ModuleParts) (noted : List NotedParts) (owner : ClosedType → Option (List ℕ)) where
  all_covered : AreCovered program noted (anything (Key program noted)) (anything (Key program noted))
  all_covered key = record {
    integers = λ kind s stands. ((key, running s 0 (integer kind)), refl, refl);
    references = λ mode region t of lent held s stands. ((key, running s 0 (borrow_type mode region of)), refl, refl);
    given = λ p there t is s stands. ((key, running s 0 t), refl, refl);
    written = λ w there sc outside generics t is s stands. ((key, running s 0 t), refl, refl);
    handed = λ e there. ((key, type_of e), refl, refl);
  }

  pub runs_well_seen : IsChecked program noted → RunsAreSeenWell program noted owner
  runs_well_seen checked calls first key entry input ticks =
      (runs_well (types_of program) owner (anything (Key program noted))
      (runs_are_safe (types_of program) owner (checked_typed program noted checked))
      (ways program noted) (anywhere (Key program noted)) (generic_functions program noted first)
      (programs_judged program noted owner (anything (Key program noted)) (anywhere (Key program noted))
      (anything (Key program noted)) checked calls all_covered first) key entry input ticks).0

  pub runs_held : {W : Type 0} (permits : Permits (Key program noted) W) → IsChecked program noted
      → RunsHoldWell program noted owner permits
  runs_held permits checked calls covered first key entry input ticks =
      (runs_well (types_of program) owner permits
      (runs_are_safe (types_of program) owner (checked_typed program noted checked))
      (ways program noted) (anywhere (Key program noted)) (generic_functions program noted first)
      (programs_judged program noted owner permits (anywhere (Key program noted)) (anything (Key program noted)) checked
      calls covered first) key entry input ticks).1

  pub calls_held : {W : Type 0} (permits : Permits (Key program noted) W) → IsChecked program noted
      → CallsHoldWell program noted owner permits
  calls_held permits checked calls covered first =
      calls_hold (types_of program) owner permits
      (runs_are_safe (types_of program) owner (checked_typed program noted checked))
      (ways program noted) (anywhere (Key program noted)) (generic_functions program noted first)
      (programs_judged program noted owner permits (anywhere (Key program noted)) (anything (Key program noted)) checked
      calls covered first)
