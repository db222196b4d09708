use Rattle.std.proofs.Common.{ap, sym, ◌∙◌}
use Rattle.au_closed_trees.specs.contracts.phase.ClosedTreesPhase.TheImpl.{ghosts as closed}
use Rattle.au_closed_meanings.specs.Surroundings.{view_in}
use Rattle.au_lowered.specs.Expressions.{closing, code, opens}
use Rattle.au_lowering_expressions.specs.Views.{drafts_said, scope_said}
use Rattle.au_lowering_expressions.specs.Wrote.{wrote}
use Rattle.au_lowering_expressions.proofs.WroteLemmas.{wrote_row}
use Rattle.au_syntax.specs.Views.{expression}
use Rattle.au_lowering_expressions.proofs.expressions.write_whole.Goals as goal

pub returns : goal.returns
returns g c =
    let e = expression closed c.args.of.now in
    let own = code (view_in (g.R.Lookup.round c.args.lookup.now)) (scope_said c.args.scope.now) e in
    c.in_ok-put_closing.ensures
    ∙ ap (λ o. wrote (closing o c.args.around) (drafts_said c.write.new.out.items)) c.opens.ensures
    ∙ ap (wrote (closing (opens e) c.args.around)) c.in_ok-write.ensures
    ∙ sym (wrote_row own (closing (opens e) c.args.around) (drafts_said c.args.out.now.items))
