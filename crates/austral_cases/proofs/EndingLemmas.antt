-- How the call of a case holds.
use Rattle.std.proofs.Common.{List, ℕ, map}
use Rattle.std.specs.String.{string_bytes}
use Rattle.au_base.specs.declared.statuses.Status.{Status}
use Rattle.au_base.specs.Stored.{file_of}
use Rattle.austral_cases.specs.Endings.{CanEnd, Holds, IsWanted}
use Rattle.austral_cases.specs.declared.cases.Case.{Case}

-- A case holds whose call can end so, and ended as wanted.
pub holds_so : (one : Case) (out err : List ℕ) (ends : Status)
    → CanEnd (map string_bytes one.call.words.items) (map file_of one.call.files.items) one.call.input.items
    out err ends
    → IsWanted one.wanted out err ends → Holds one
holds_so one out err ends can wanted = (out, err, ends, can, wanted)
