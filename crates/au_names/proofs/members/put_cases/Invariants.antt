use Rattle.std.proofs.Common.{◌≡◌, drop, map}
use Rattle.au_syntax.specs.Plain.{plain_variant}
use Rattle.au_syntax.specs.Views.{variant}
use Rattle.au_syntax.specs.contracts.parsed.ParsedPhase.TheImpl.{ghosts as parsed}
use Rattle.au_types.specs.DeclaredNames.{given}
use Rattle.au_types.specs.Tables.{with_all}
use Rattle.au_names.specs.Owned.{targets}
use Rattle.au_names.proofs.members.put_cases.Given as goal

-- what is left to put comes to the same
abbrev pub invariant-loop-one : goal.invariant-loop-one
invariant-loop-one l =
    with_all l.table
    (targets l.at.«module»
    (given l.at.decl
    (map (λ c. c.name.name)
    (map (plain_variant parsed.name_bytes)
    (map (variant parsed) (drop l.one-index l.one-items))))))
    ≡ with_all l.fn.table
    (targets l.at.«module»
    (given l.at.decl
    (map (λ c. c.name.name)
    (map (plain_variant parsed.name_bytes) (map (variant parsed) l.one-items)))))
