use Rattle.std.proofs.Common.{◌∙◌, ap, map, sym}
use Rattle.au_sights.specs.contracts.noted.NotedPhase.TheImpl.{ghosts as noted}
use Rattle.au_syntax.specs.contracts.parsed.ParsedPhase.TheImpl.{ghosts as parsed}
use Rattle.au_syntax.specs.Expressions.{borrow_part}
use Rattle.au_syntax.specs.Views.{node, placed}
use Rattle.au_syntax.proofs.ExpressionLemmas.{borrow_part_says}
use Rattle.au_typing.specs.Search.{borrow_part_note}
use Rattle.au_noting.specs.Scopes.{scope_said}
use Rattle.au_noting.specs.Modes.{wanted}
use Rattle.au_types.specs.Views.{meaning}
use Rattle.au_noting_expressions.proofs.MadeLemmas.{made_behind}
use Rattle.au_noting_expressions.proofs.places.note_borrow_part.Goals as goal

pub returns : goal.returns
returns c =
    made_behind _ _ (borrow_part_note (scope_said c.args.scope.now) (wanted c.args.mode)
    (map (placed parsed) c.args.fields.now.items)) _ (node parsed c.args.site.now)
    (λ m. borrow_part m (placed parsed c.args.name.now) (map (placed parsed) c.args.fields.now.items)) _ _
    c.in_ok-of.ensures (ap (λ fs. borrow_part_note (scope_said c.args.scope.now) (wanted c.args.mode) fs
    (meaning c.in_ok-of.of)) (sym (ap (map (placed parsed)) c.deref.ensures.value)) ∙ c.in_ok-note.ensures)
    c.noted_site.ensures
    (borrow_part_says noted c.noted_site.result c.in_ok-name.name c.in_ok-name.fields
    ∙ ap (λ x. borrow_part (node noted c.noted_site.result) x (map (placed noted) c.in_ok-name.fields.items))
    c.in_ok-name.ensures.name
    ∙ ap (borrow_part (node noted c.noted_site.result) (placed parsed c.args.name.now)) c.in_ok-name.ensures.fields)
