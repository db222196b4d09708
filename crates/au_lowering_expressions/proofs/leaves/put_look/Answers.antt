use Rattle.std.proofs.Common.{map, ap, sym, ◌∙◌}
use Rattle.std.specs.Option.{option_map}
use Rattle.au_closed_trees.specs.contracts.phase.ClosedTreesPhase.TheImpl.{ghosts as closed}
use Rattle.au_closed_meanings.specs.Surroundings.{view_in}
use Rattle.au_lowering_expressions.specs.Parts.{Part, looks}
use Rattle.au_lowering_expressions.specs.Views.{drafts_said, part_said, scope_said}
use Rattle.au_lowering_expressions.specs.Wrote.{wrote}
use Rattle.au_lowering_expressions.proofs.PartLemmas.{part_of_is}
use Rattle.au_lowering_expressions.proofs.WroteLemmas.{none_written}
use Rattle.au_meaning.specs.Expressions.{names_of}
use Rattle.au_meaning.specs.Names.{variable_of}
use Rattle.au_syntax.specs.Views.{placed}
use Rattle.au_lowering_expressions.proofs.leaves.put_look.Goals as goal

pub returns-in-None : goal.returns-in-None
returns-in-None g c =
    let see = view_in (g.R.Lookup.round c.args.lookup.now) in
    let variable = variable_of (scope_said c.args.scope.now) c.args.name.now in
    let names = names_of (map (placed closed) c.args.fields.now.items) in
    none_written _ (λ (one : Part). looks one.0 one.1) (drafts_said c.args.out.now.items)
    (sym c.in_ok-part_of.ensures ∙ ap (option_map part_said) c.in-None.is)
    ∙ ap (λ w. wrote w (drafts_said c.args.out.now.items)) (sym (part_of_is see variable names looks))
