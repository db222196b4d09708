use Rattle.std.proofs.Common.{◌∙◌, ap, map, sym, subst}
use Rattle.au_sights.specs.contracts.noted.NotedPhase.TheImpl.{ghosts as noted}
use Rattle.au_syntax.specs.contracts.parsed.ParsedPhase.TheImpl.{ghosts as parsed}
use Rattle.au_syntax.specs.Expressions.{arrow}
use Rattle.au_syntax.specs.Views.{node, placed}
use Rattle.au_syntax.proofs.ExpressionLemmas.{arrow_says}
use Rattle.au_typing.specs.Search.{arrow_note}
use Rattle.au_noting.specs.Scopes.{scope_said}
use Rattle.au_noting.specs.Modes.{wanted}
use Rattle.au_noting_expressions.proofs.MadeLemmas.{made_behind}
use Rattle.std.proofs.lemmas.Result.{err_from_is_err_and}
use Rattle.au_noting.specs.Giving.{Stops}
use Rattle.au_syntax.specs.Views.{expression}
use Rattle.au_typing.specs.Notes.{noted_at}
use Rattle.au_types.specs.Views.{meaning}
use Rattle.std.proofs.Common.{Ok}
use Rattle.au_noting_expressions.proofs.StopLemmas.{stops_behind}
use Rattle.au_noting_expressions.proofs.places.note_arrow.Goals as goal

pub returns : goal.returns
returns c =
    made_behind _ _ (arrow_note (scope_said c.args.scope.now) (wanted c.args.mode)
    (map (placed parsed) c.args.fields.now.items)) _ (node parsed c.args.site.now)
    (λ m. arrow m (placed parsed c.args.name.now) (map (placed parsed) c.args.fields.now.items)) _ _
    c.in_ok-of.ensures (ap (λ fs. arrow_note (scope_said c.args.scope.now) (wanted c.args.mode) fs
    (meaning c.in_ok-of.of)) (sym (ap (map (placed parsed)) c.deref.ensures.value)) ∙ c.in_ok-note.ensures)
    c.noted_site.ensures
    (arrow_says noted c.noted_site.result c.in_ok-name.name c.in_ok-name.fields
    ∙ ap (λ x. arrow (node noted c.noted_site.result) x (map (placed noted) c.in_ok-name.fields.items))
    c.in_ok-name.ensures.name
    ∙ ap (arrow (node noted c.noted_site.result) (placed parsed c.args.name.now)) c.in_ok-name.ensures.fields)

pub returns-in_err-note : goal.returns-in_err-note
returns-in_err-note c =
    let fs = map (placed parsed) c.args.fields.now.items in
    stops_behind (expression noted) c.from_residual-in_err-note.result c.in_err-note.field-0.0 _ _
    (arrow_note (scope_said c.args.scope.now) (wanted c.args.mode) fs)
    (λ m. Ok (arrow (noted_at (node parsed c.args.site.now) m) (placed parsed c.args.name.now) fs))
    (err_from_is_err_and c.from_residual-in_err-note.result c.from_residual-in_err-note.ensures.1) c.in_ok-of.ensures
    (subst (λ xs. Stops c.in_err-note.field-0.0
    (arrow_note (scope_said c.args.scope.now) (wanted c.args.mode) (map (placed parsed) xs)
    (meaning c.in_ok-of.of))) c.deref.ensures.value c.in_err-note.ensures)
