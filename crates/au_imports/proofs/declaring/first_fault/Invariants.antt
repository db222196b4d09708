use Rattle.std.proofs.Common.{◌≡◌, drop, map}
use Rattle.au_syntax.specs.Plain.{plain_declaration}
use Rattle.au_syntax.specs.Views.{declaration}
use Rattle.au_syntax.specs.contracts.parsed.ParsedPhase.TheImpl.{ghosts as parsed}
use Rattle.au_imports.specs.Choices.{first_of}
use Rattle.au_imports.specs.Declaring.{declaration_fault_at}
use Rattle.au_imports.proofs.declaring.first_fault.Given as goal

-- what the declarations that are left are refused for is what all are refused for
abbrev pub invariant-loop-one : goal.invariant-loop-one
invariant-loop-one l =
    first_of (declaration_fault_at l.site) (map (plain_declaration parsed.name_bytes)
    (map (declaration parsed) (drop l.one-index l.one-items)))
    ≡ first_of (declaration_fault_at l.site) (map (plain_declaration parsed.name_bytes)
    (map (declaration parsed) l.one-items))
