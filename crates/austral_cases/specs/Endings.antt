-- How calls can end, and when a case holds.
use Rattle.std.specs.Prelude.{◌≡◌, ℕ, List, [], Some, IsTrue, false, map}
use Rattle.std.specs.String.{string_bytes}
use Rattle.au_base.specs.declared.statuses.Status.{Status}
use Rattle.au_base.specs.Statuses.{status_number}
use Rattle.au_base.specs.Stored.{NamedFile, file_in, file_of}
use Rattle.au_top.specs.Calls.{Call}
use Rattle.au_top.specs.Promises.{Promises}
use Rattle.austral_cases.specs.Patterns.{is_told}
use Rattle.austral_cases.specs.declared.cases.Case.{Case}
use Rattle.austral_cases.specs.declared.cases.Wanted.{Wanted}

-- A call with these words, over these files and this input, can end so, with these bytes on sinks that were
-- empty: there is one, and it is as `austral` promises.
pub record CanEnd (words : List (List ℕ)) (files : List NamedFile) (input out err : List ℕ) (ends : Status)
    : Type 0 where
  pub call : Call
  pub asked : call.words ≡ words
  pub told : call.shelf.files ≡ Some (file_in files)
  pub given : call.streams.input.old ≡ Some input
  pub left : List ℕ
  pub leaves : call.streams.input.new ≡ Some left
  pub out_empty : call.streams.out.old ≡ Some []
  pub out_bytes : call.streams.out.new ≡ Some out
  pub err_empty : call.streams.err.old ≡ Some []
  pub err_bytes : call.streams.err.new ≡ Some err
  pub ended : call.status ≡ ends
  pub promised : Promises call

-- What a call left is what is wanted: the same bytes on `out`, bytes on `err` that the wanted ones tell,
-- and a status of the same number.
pub record IsWanted (wanted : Wanted) (out err : List ℕ) (ends : Status) : Type 0 where
  pub same_out : out ≡ wanted.out.items
  pub told_err : IsTrue (is_told false wanted.err.items err)
  pub same_status : status_number ends ≡ wanted.status

-- The call of a case can end as the case wants it.
abbrev pub Holds : Case → Type 0
Holds one =
    (out : List ℕ) × (err : List ℕ) × (ends : Status)
    × CanEnd (map string_bytes one.call.words.items) (map file_of one.call.files.items) one.call.input.items
    out err ends
    × IsWanted one.wanted out err ends
