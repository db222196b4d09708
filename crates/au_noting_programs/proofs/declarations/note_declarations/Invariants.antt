use Rattle.std.proofs.Common.{◌≡◌, drop, map}
use Rattle.au_typing.specs.ProgramSearch.{note_declaration, note_declarations}
use Rattle.au_sights.specs.contracts.noted.NotedPhase.TheImpl.{ghosts as noted}
use Rattle.au_sights.specs.Sights.{outside_seen}
use Rattle.au_syntax.specs.contracts.parsed.ParsedPhase.TheImpl.{ghosts as parsed}
use Rattle.au_syntax.specs.Views.{declaration}
use Rattle.au_noting_programs.proofs.ChainLemmas.{behind, each}
use Rattle.au_noting_programs.proofs.declarations.note_declarations.Given as goal

-- the declarations so far are noted, before those that are left
abbrev pub invariant-loop-one : goal.invariant-loop-one
invariant-loop-one l =
    note_declarations (outside_seen l.outside) (map (declaration parsed) l.declarations)
    ≡ behind (map (declaration noted) l.all.items)
    (each (note_declaration (outside_seen l.outside)) (map (declaration parsed) (drop l.one-index l.declarations)))
