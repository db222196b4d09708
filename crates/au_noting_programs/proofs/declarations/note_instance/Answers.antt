use Rattle.std.proofs.Common.{◌∙◌, Ok, map, sym, ap}
use Rattle.au_typing.specs.ProgramSearch.{note_methods}
use Rattle.au_sights.specs.contracts.noted.NotedPhase.TheImpl.{ghosts as noted}
use Rattle.au_sights.specs.Sights.{outside_seen}
use Rattle.au_syntax.specs.contracts.parsed.ParsedPhase.TheImpl.{ghosts as parsed}
use Rattle.au_syntax.proofs.DeclarationLemmas.{instance_body_says}
use Rattle.au_syntax.specs.Views.{constrained, method_body, placed, written}
use Rattle.au_noting_programs.specs.Said.{methods_said}
use Rattle.au_noting_programs.proofs.StepLemmas.{instance_noted}
use Rattle.au_noting_programs.proofs.declarations.note_instance.Goals as goal

pub returns : goal.returns
returns c =
    instance_noted (outside_seen c.args.outside.now) c.args.at
    (map (constrained parsed) c.args.generics.now.items)
    (map (constrained noted) c.in_ok-generics.generics.items)
    (placed parsed c.args.name.now) (placed noted c.in_ok-generics.name) (written c.args.of.now)
    (written c.in_ok-generics.of)
    (map (method_body parsed) c.args.methods.now.items) (methods_said c.in_ok-methods.methods)
    (ap (λ ms. note_methods (outside_seen c.args.outside.now)
    (map (constrained parsed) c.args.generics.now.items) (map (method_body parsed) ms))
    (sym c.as_slice.ensures.value) ∙ c.in_ok-methods.ensures)
    c.in_ok-generics.ensures.generics c.in_ok-generics.ensures.name c.in_ok-generics.ensures.of
    ∙ ap Ok (sym (instance_body_says noted c.args.at c.in_ok-generics.generics c.in_ok-generics.name
    c.in_ok-generics.of c.in_ok-methods.methods))
