use Rattle.std.proofs.Common.{◌≡◌, ◌≢◌, ℕ, length, map, ap, sym, ◌∙◌}
use Rattle.std.proofs.lemmas.Bool.{eqb-false, eqb-true}
use Rattle.std.proofs.lemmas.List.{length-map}
use Rattle.au_closed_trees.specs.contracts.phase.ClosedTreesPhase.TheImpl.{ghosts as closed}
use Rattle.au_closed_trees.specs.ClosedNotes.{Callee}
use Rattle.au_meaning.specs.Expressions.{alone}
use Rattle.au_lowering_expressions.specs.Views.{scope_said}
use Rattle.au_lowering_expressions.proofs.PartLemmas.{alone_part, alone_path}
use Rattle.au_syntax.specs.Views.{expression, node, placed}
use Rattle.au_syntax.proofs.ExpressionLemmas.{path_says}
use Rattle.au_lowering_expressions.proofs.leaves.+alone.Goals as goal

pub returns-then-is_empty : goal.returns-then-is_empty
returns-then-is_empty t c =
    let p = c.in-Path in
    let scope = scope_said c.args.scope.now in
    let none : length (map (placed closed) p.fields.items) ≡ 0 =
    length-map p.fields.items (placed closed) ∙ sym p.fields.ok.0
    ∙ eqb-true p.fields.len 0 (sym c.is_empty.ensures ∙ c.if-is_empty.true) in
    c.find.ensures
    ∙ sym (ap (alone scope) (ap (expression closed) p.is ∙ path_says closed p.field-0 p.name p.fields)
    ∙ alone_path (Callee ℕ) scope (node closed p.field-0) (placed closed p.name)
    (map (placed closed) p.fields.items) none)

pub returns-else-is_empty : goal.returns-else-is_empty
returns-else-is_empty t c =
    let p = c.in-Path in
    let scope = scope_said c.args.scope.now in
    let some : length (map (placed closed) p.fields.items) ≢ 0 =
    λ e. eqb-false p.fields.len 0 (sym c.is_empty.ensures ∙ c.if-is_empty.false)
    (p.fields.ok.0 ∙ sym (length-map p.fields.items (placed closed)) ∙ e) in
    sym (ap (alone scope) (ap (expression closed) p.is ∙ path_says closed p.field-0 p.name p.fields)
    ∙ alone_part (Callee ℕ) scope (node closed p.field-0) (placed closed p.name)
    (map (placed closed) p.fields.items) some)
