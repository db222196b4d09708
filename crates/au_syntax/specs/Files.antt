-- What a file's tree says, and which trees are whole.
use Rattle.std.specs.Prelude.{Bool}
use Rattle.au_syntax.specs.declared.phases.Phase.{Ghosts}
use Rattle.au_syntax.specs.declared.modules.Module.{Module}
use Rattle.au_syntax.specs.Forms.{formed_module}
use Rattle.au_syntax.specs.Notes.{notes_of_module}
use Rattle.au_syntax.specs.Plain.{PlainModule, plain_module}
use Rattle.au_syntax.specs.Sizes.{fits}
use Rattle.au_syntax.specs.Views.{module_tree}

module _ {X N T C : Type 0} (g : Ghosts X N T C) where
  -- what is written in a module, and where
  abbrev pub says : Module X N T C → PlainModule
  says m = plain_module g.name_bytes (module_tree g m)

  -- a module has the form that the grammar asks for
  abbrev pub is_formed : Module X N T C → Bool
  is_formed m = formed_module (says m)

  -- a module is within the limits
  abbrev pub is_within : Module X N T C → Bool
  is_within m = fits (says m)

  -- the phase allows every note of a module
  abbrev pub is_allowed : Module X N T C → Bool
  is_allowed m = notes_of_module g.allows_type g.allows_call (module_tree g m)
