use Rattle.std.proofs.Common.{◌∙◌, drop, map, ◌+◌, ap, sym}
use Rattle.au_typing.specs.ProgramSearch.{note_declaration}
use Rattle.au_sights.specs.contracts.noted.NotedPhase.TheImpl.{ghosts as noted}
use Rattle.au_sights.specs.Sights.{outside_seen}
use Rattle.au_syntax.specs.contracts.parsed.ParsedPhase.TheImpl.{ghosts as parsed}
use Rattle.au_syntax.specs.Views.{declaration}
use Rattle.au_noting_programs.proofs.ChainLemmas.{behind, each, loop_more}
use Rattle.au_noting_programs.proofs.declarations.note_declarations.Goals as goal

pub loop-one-preserved : goal.loop-one-preserved
loop-one-preserved c =
    loop_more (note_declaration (outside_seen c.args.outside.now)) (declaration parsed) (declaration noted) _
    c.loop-one.all.items c.args.declarations.now
    c.loop-one.one-index c.one-item.result c.in_ok-made.made c.loop-one.invariant c.loop-one-test.true
    c.one-item.is c.in_ok-made.ensures
    ∙ ap (λ all. behind (map (declaration noted) all)
    (each (note_declaration (outside_seen c.args.outside.now))
    (map (declaration parsed) (drop (c.loop-one.one-index + 1) c.args.declarations.now))))
    (sym c.in_ok-put.ensures)
