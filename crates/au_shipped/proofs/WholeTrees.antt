-- The shipped trees have the form that the grammar asks for and are within the limits, so their files are whole.
use Rattle.std.proofs.Common.{◌≡◌, Bool, true, ap, ◌∙◌, refl}
use Rattle.au_base.specs.declared.names.Name.{Name}
use Rattle.au_syntax.specs.contracts.parsed.ParsedPhase.TheImpl.{ghosts as parsed}
use Rattle.au_syntax.specs.declared.modules.Module.{Module}
use Rattle.au_syntax.specs.declared.parsed.Parsed.{Parsed}
use Rattle.au_syntax.specs.Files.{says, is_formed, is_within, is_allowed}
use Rattle.au_syntax.specs.Forms.{formed_module}
use Rattle.au_syntax.specs.Notes.{notes_of_module}
use Rattle.au_syntax.specs.Plain.{Bytes, PlainModule, plain_module}
use Rattle.au_syntax.specs.Sizes.{fits}
use Rattle.au_syntax.specs.Views.{module_tree}
use Rattle.au_shipped.specs.Building.{place}
use Rattle.au_shipped.specs.PervasiveInterface.{pervasive}
use Rattle.au_shipped.specs.BoxInterface.{boxes}
use Rattle.au_shipped.specs.BufferInterface.{buffers}
use Rattle.au_shipped.specs.TerminalInterface.{terminal}

-- a tree as it is read
abbrev pub ParsedModule : Type 0
ParsedModule = Module Parsed Name (Unit {0}) (Unit {0})

abbrev bytes : Bytes → Bytes
bytes name = name

abbrev allowed : Unit {0} → Bool
allowed note = true

-- a tree of the definitions that says itself, has its form, is within the limits, and of which all notes are allowed
pub record IsWhole (tree : PlainModule) : Type 0 where
  pub itself : plain_module bytes tree ≡ tree
  pub formed : formed_module tree ≡ true
  pub within : fits tree ≡ true
  pub noted : notes_of_module allowed allowed tree ≡ true

pub pervasive_whole : IsWhole (pervasive (place 65532))
pervasive_whole = record { itself = refl; formed = refl; within = refl; noted = refl }

pub boxes_whole : IsWhole (boxes (place 65533))
boxes_whole = record { itself = refl; formed = refl; within = refl; noted = refl }

pub buffers_whole : IsWhole (buffers (place 65534))
buffers_whole = record { itself = refl; formed = refl; within = refl; noted = refl }

pub terminal_whole : IsWhole (terminal (place 65535))
terminal_whole = record { itself = refl; formed = refl; within = refl; noted = refl }

-- a tree of the code that is such a tree
module _ (tree : ParsedModule) (written : PlainModule) (is : module_tree parsed tree ≡ written)
    (whole : IsWhole written) where
  pub says_written : says parsed tree ≡ written
  says_written = ap (plain_module bytes) is ∙ whole.itself

  pub written_formed : is_formed parsed tree ≡ true
  written_formed = ap formed_module says_written ∙ whole.formed

  pub written_within : is_within parsed tree ≡ true
  written_within = ap fits says_written ∙ whole.within

  pub written_allowed : is_allowed parsed tree ≡ true
  written_allowed = ap (notes_of_module allowed allowed) is ∙ whole.noted
