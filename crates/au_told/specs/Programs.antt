-- Code of accepted programs.
use Rattle.std.specs.Prelude.{◌≡◌, ℕ, List}
use Rattle.au_base.specs.Outside.{Files}
use Rattle.au_syntax.specs.Plain.{Bytes}
use Rattle.au_typing.specs.Trees.{NotedParts}
use Rattle.au_closed_programs.specs.Programs.{ClosedProgram, Closes}
use Rattle.au_low.specs.declared.code.Code.{Code}
use Rattle.au_lowering.specs.Closed.{code_of}
use Rattle.au_accepted.specs.Accepted.{AreAcceptedAs}
use Rattle.au_accepted.specs.Programs.{program_modules}
use Rattle.au_accepted.specs.Trees.{ReadFile}

-- Accepted files are lowered to this code, from an entry that is named by its module and its own name: it is
-- that of what their program closes to from there.
pub record IsAcceptedCode (code : Code) : Type 0 where
  pub files : Files
  pub names : List (List ℕ)
  pub all : List (List ℕ)
  pub reads : List ReadFile
  pub accepted : AreAcceptedAs files names all reads
  pub noted : List NotedParts
  pub owner : Bytes
  pub name : Bytes
  pub c : ClosedProgram
  pub closes : Closes (program_modules reads) noted owner name c
  pub is : code ≡ code_of c
