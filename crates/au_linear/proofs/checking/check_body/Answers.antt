use Rattle.std.proofs.Common.{ap, sym, subst, ◌∙◌}
use Rattle.std.proofs.lemmas.Result.{err_from_is_err_and}
use Rattle.au_lives.proofs.RefusalLemmas.{none_refused}
use Rattle.au_lives.specs.Scopes.{scopes_of}
use Rattle.au_paths.specs.Seen.{seen_parameters, seen_block}
use Rattle.au_linear.specs.Telling.{Tells}
use Rattle.au_linear.specs.Allotting.{Allotted, first_told}
use Rattle.au_linear.proofs.TellingLemmas.{told_all}
use Rattle.au_linear.proofs.checking.check_body.Goals as goal

pub returns : goal.returns
returns g c =
    let scopes = scopes_of (seen_parameters g.P.Phase c.args.parameters.now.items)
    (seen_block g.P.Phase c.args.body.now) in
    none_refused _
    (sym (told_all scopes c.args.sorts.now c.in_ok-tasks.tasks.items
    (subst (λ l. Allotted l c.args.sorts.now c.in_ok-tasks.tasks.items) c.in_ok-found.ensures c.in_ok-tasks.ensures))
    ∙ ap (first_told scopes) (sym c.as_slice.ensures.value) ∙ c.in_ok-check_all.ensures.0)

pub returns-in_err-check_all : goal.returns-in_err-check_all
returns-in_err-check_all g c =
    let scopes = scopes_of (seen_parameters g.P.Phase c.args.parameters.now.items)
    (seen_block g.P.Phase c.args.body.now) in
    let p = err_from_is_err_and c.from_residual-in_err-check_all.result c.from_residual-in_err-check_all.ensures.1 in
    rw (p.1, p.2) (subst (Tells c.in_err-check_all.field-0.0)
    (ap (first_told scopes) c.as_slice.ensures.value ∙ told_all scopes c.args.sorts.now c.in_ok-tasks.tasks.items
    (subst (λ l. Allotted l c.args.sorts.now c.in_ok-tasks.tasks.items) c.in_ok-found.ensures c.in_ok-tasks.ensures))
    c.in_err-check_all.ensures)
