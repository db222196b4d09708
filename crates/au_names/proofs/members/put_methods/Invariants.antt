use Rattle.std.proofs.Common.{◌≡◌, drop, map}
use Rattle.au_syntax.specs.Plain.{plain_header}
use Rattle.au_syntax.specs.Views.{header}
use Rattle.au_syntax.specs.contracts.parsed.ParsedPhase.TheImpl.{ghosts as parsed}
use Rattle.au_types.specs.DeclaredNames.{given}
use Rattle.au_types.specs.Tables.{with_all}
use Rattle.au_names.specs.Owned.{targets}
use Rattle.au_names.proofs.members.put_methods.Given as goal

-- what is left to put comes to the same
abbrev pub invariant-loop-one : goal.invariant-loop-one
invariant-loop-one l =
    with_all l.table
    (targets l.at.«module»
    (given l.at.decl
    (map (λ h. h.name.name)
    (map (plain_header parsed.name_bytes)
    (map (header parsed) (drop l.one-index l.one-items))))))
    ≡ with_all l.fn.table
    (targets l.at.«module»
    (given l.at.decl
    (map (λ h. h.name.name)
    (map (plain_header parsed.name_bytes) (map (header parsed) l.one-items)))))
