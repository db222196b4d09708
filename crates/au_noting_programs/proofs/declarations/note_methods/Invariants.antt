use Rattle.std.proofs.Common.{◌≡◌, drop, map}
use Rattle.au_typing.specs.ProgramSearch.{note_methods}
use Rattle.au_sights.specs.contracts.noted.NotedPhase.TheImpl.{ghosts as noted}
use Rattle.au_sights.specs.Sights.{outside_seen}
use Rattle.au_syntax.specs.contracts.parsed.ParsedPhase.TheImpl.{ghosts as parsed}
use Rattle.au_syntax.specs.Views.{constrained, method_body}
use Rattle.au_noting_programs.specs.Steps.{note_method}
use Rattle.au_noting_programs.proofs.ChainLemmas.{behind, each}
use Rattle.au_noting_programs.proofs.declarations.note_methods.Given as goal

-- the methods so far are noted, before those that are left
abbrev pub invariant-loop-one : goal.invariant-loop-one
invariant-loop-one l =
    note_methods (outside_seen l.outside) (map (constrained parsed) l.generics.items)
    (map (method_body parsed) l.methods)
    ≡ behind (map (method_body noted) l.all.items)
    (each (note_method (outside_seen l.outside) (map (constrained parsed) l.generics.items))
    (map (method_body parsed) (drop l.one-index l.methods)))
