-- What a program with notes holds.
use Rattle.std.specs.Prelude.{◌≡◌, List, Ok}
use Rattle.au_modules.specs.declared.modules.Modules.{Modules}
use Rattle.au_modules.specs.Slots as slots
use Rattle.au_names.specs.HeadsOf.{heads_of}
use Rattle.au_classes.specs.declared.declaring.Classes.{Classes}
use Rattle.au_classes.specs.Rows.{rows_of}
use Rattle.au_noting_programs.specs.declared.modules.NotedModule.{NotedModule}
use Rattle.au_noting_programs.specs.Faults.{noting_of}
use Rattle.au_noting_programs.specs.Said.{modules_said}

-- These modules with notes are those that the search finds for a program, and these are its classes.
pub record IsNoted (program : Modules) (classes : Classes) (noted : List NotedModule) : Type 0 where
  pub found : noting_of (slots.modules program) ≡ Ok (modules_said noted)
  pub instances : classes.instances ≡ rows_of (slots.modules program)
  pub heads : classes.heads ≡ heads_of (slots.modules program)
