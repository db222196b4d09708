use Rattle.std.proofs.Common.{◌∙◌, Ok, map, sym, ap}
use Rattle.au_sights.specs.contracts.noted.NotedPhase.TheImpl.{ghosts as noted}
use Rattle.au_sights.specs.Sights.{outside_seen}
use Rattle.au_syntax.specs.contracts.parsed.ParsedPhase.TheImpl.{ghosts as parsed}
use Rattle.au_syntax.proofs.DeclarationLemmas.{function_body_says}
use Rattle.au_syntax.specs.Views.{block, constrained, header}
use Rattle.au_noting_programs.proofs.StepLemmas.{function_noted}
use Rattle.au_noting_programs.proofs.declarations.note_function.Goals as goal

pub returns : goal.returns
returns c =
    function_noted (outside_seen c.args.outside.now) c.args.at
    (map (constrained parsed) c.args.generics.now.items)
    (map (constrained noted) c.in_ok-generics.generics.items)
    (header parsed c.args.signature.now) (header noted c.in_ok-generics.signature)
    (block parsed c.args.body.now) c.args.stop (block noted c.in_ok-body.body)
    c.in_ok-body.ensures c.in_ok-generics.ensures.generics c.in_ok-generics.ensures.signature
    ∙ ap Ok (sym (function_body_says noted c.args.at c.in_ok-generics.generics c.in_ok-generics.signature
    c.in_ok-body.body c.args.stop))
