use Rattle.std.proofs.Common.{◌∙◌, drop, map, ◌+◌, ap, sym}
use Rattle.std.proofs.lemmas.Result.{err_from_is_err_and}
use Rattle.au_typing.specs.ProgramSearch.{note_methods}
use Rattle.au_sights.specs.contracts.noted.NotedPhase.TheImpl.{ghosts as noted}
use Rattle.au_sights.specs.Sights.{outside_seen}
use Rattle.au_syntax.specs.contracts.parsed.ParsedPhase.TheImpl.{ghosts as parsed}
use Rattle.au_syntax.specs.Views.{constrained, method_body}
use Rattle.au_noting_programs.specs.Said.{methods_said}
use Rattle.au_noting_programs.specs.Steps.{note_method}
use Rattle.au_noting_programs.proofs.ChainLemmas.{begins, behind, each, judged_err, loop_more, loop_stops}
use Rattle.au_noting_programs.proofs.ChainLemmas.{refuses_whole}
use Rattle.au_noting_programs.proofs.StepLemmas.{methods_each}
use Rattle.au_noting_programs.proofs.declarations.note_methods.Goals as goal

pub loop-one-init : goal.loop-one-init
loop-one-init c =
    methods_each (outside_seen c.args.outside.now) (map (constrained parsed) c.args.generics.now.items)
    (map (method_body parsed) c.args.methods.now)
    ∙ begins (each (note_method (outside_seen c.args.outside.now)
    (map (constrained parsed) c.args.generics.now.items)) (map (method_body parsed) c.args.methods.now))
    ∙ ap (λ all. behind (map (method_body noted) all)
    (each (note_method (outside_seen c.args.outside.now)
    (map (constrained parsed) c.args.generics.now.items)) (map (method_body parsed) c.args.methods.now)))
    (sym c.new-all.ensures.items)

pub returns-in_err-made : goal.returns-in_err-made
returns-in_err-made c =
    let p = err_from_is_err_and c.from_residual.result c.from_residual.ensures.1 in
    judged_err methods_said c.from_residual.result c.in_err-made.field-0.0 _ p
    (refuses_whole c.in_err-made.field-0.0
    (note_method (outside_seen c.args.outside.now) (map (constrained parsed) c.args.generics.now.items)
    (method_body parsed c.one-item.result))
    (note_methods (outside_seen c.args.outside.now) (map (constrained parsed) c.args.generics.now.items)
    (map (method_body parsed) c.args.methods.now))
    (λ fault is.
    loop_stops (note_method (outside_seen c.args.outside.now)
    (map (constrained parsed) c.args.generics.now.items)) (method_body parsed) (method_body noted) _
    c.loop-one.all.items c.args.methods.now
    c.loop-one.one-index c.one-item.result fault c.loop-one.invariant c.loop-one-test.true c.one-item.is is)
    c.in_err-made.ensures)

pub loop-one-preserved : goal.loop-one-preserved
loop-one-preserved c =
    loop_more (note_method (outside_seen c.args.outside.now)
    (map (constrained parsed) c.args.generics.now.items)) (method_body parsed) (method_body noted) _
    c.loop-one.all.items c.args.methods.now
    c.loop-one.one-index c.one-item.result c.in_ok-made.made c.loop-one.invariant c.loop-one-test.true
    c.one-item.is c.in_ok-made.ensures
    ∙ ap (λ all. behind (map (method_body noted) all)
    (each (note_method (outside_seen c.args.outside.now) (map (constrained parsed) c.args.generics.now.items))
    (map (method_body parsed) (drop (c.loop-one.one-index + 1) c.args.methods.now))))
    (sym c.in_ok-put.ensures)
