use Rattle.std.proofs.Common.{◌≢◌, length, map, ap, sym, ◌∙◌}
use Rattle.std.proofs.lemmas.Bool.{eqb-false}
use Rattle.std.proofs.lemmas.List.{length-map}
use Rattle.std.specs.Option.{option_copied, option_map}
use Rattle.au_closed_trees.specs.contracts.phase.ClosedTreesPhase.TheImpl.{ghosts as closed}
use Rattle.au_type_texts.specs.Views.{closed_meaning}
use Rattle.au_closed_meanings.specs.Surroundings.{view_in}
use Rattle.au_lowered.specs.Expressions.{numbers_along}
use Rattle.au_lowering_expressions.proofs.PartLemmas.{no_numbers}
use Rattle.au_meaning.specs.Expressions.{names_of}
use Rattle.au_syntax.specs.Views.{placed}
use Rattle.au_lowering_expressions.proofs.parts.numbers_of.Goals as goal

pub returns-else-is_empty : goal.returns-else-is_empty
returns-else-is_empty g c =
    let round = g.R.Lookup.round c.args.lookup.now in
    let names = c.args.names.now in
    let some : length (map (placed closed) names.items) ≢ 0 =
    λ e. eqb-false names.len 0 (sym c.is_empty.ensures ∙ c.if-is_empty.false)
    (names.ok.0 ∙ sym (length-map names.items (placed closed)) ∙ e) in
    sym (ap (λ f. numbers_along (view_in round) (option_map closed_meaning (option_copied f))
    (names_of (map (placed closed) names.items))) c.in-None.is
    ∙ no_numbers (λ t. round.fields t 0) (map (placed closed) names.items) some)
