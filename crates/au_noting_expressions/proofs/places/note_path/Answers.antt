use Rattle.std.proofs.Common.{◌∙◌, ap, map, sym}
use Rattle.au_sights.specs.contracts.noted.NotedPhase.TheImpl.{ghosts as noted}
use Rattle.au_syntax.specs.contracts.parsed.ParsedPhase.TheImpl.{ghosts as parsed}
use Rattle.au_syntax.specs.Expressions.{path}
use Rattle.au_syntax.specs.Views.{node, placed}
use Rattle.au_syntax.proofs.ExpressionLemmas.{path_says}
use Rattle.au_typing.specs.Search.{path_note}
use Rattle.au_noting.specs.Scopes.{scope_said}
use Rattle.au_noting.specs.Modes.{wanted}
use Rattle.au_types.specs.Views.{meaning}
use Rattle.au_noting_expressions.proofs.MadeLemmas.{made_behind}
use Rattle.au_noting_expressions.proofs.places.note_path.Goals as goal

pub returns : goal.returns
returns c =
    made_behind _ _ (path_note (scope_said c.args.scope.now) (wanted c.args.mode)
    (map (placed parsed) c.args.fields.now.items)) _ (node parsed c.args.site.now)
    (λ m. path m (placed parsed c.args.name.now) (map (placed parsed) c.args.fields.now.items)) _ _
    c.in_ok-of.ensures (ap (λ fs. path_note (scope_said c.args.scope.now) (wanted c.args.mode) fs
    (meaning c.in_ok-of.of)) (sym (ap (map (placed parsed)) c.deref.ensures.value)) ∙ c.in_ok-note.ensures)
    c.noted_site.ensures
    (path_says noted c.noted_site.result c.in_ok-name.name c.in_ok-name.fields
    ∙ ap (λ x. path (node noted c.noted_site.result) x (map (placed noted) c.in_ok-name.fields.items))
    c.in_ok-name.ensures.name
    ∙ ap (path (node noted c.noted_site.result) (placed parsed c.args.name.now)) c.in_ok-name.ensures.fields)
