use Rattle.std.proofs.Common.{Some, is_some, ap, subst, sym, ◌∙◌}
use Rattle.au_types.specs.Views.{meaning}
use Rattle.au_typing.specs.Faults.{check, record_wanted, shape}
use Rattle.au_typing.specs.Lookups.{part_type}
use Rattle.au_sights.specs.Steps.{all_said}
use Rattle.au_noting.specs.Giving.{Gives}
use Rattle.au_noting.specs.Said.{all_typed, fields_said}
use Rattle.au_noting.specs.Scopes.{scope_said}
use Rattle.au_noting.proofs.lookups.record_part.Goals as goal

pub part_within-requires : goal.part_within-requires
part_within-requires c =
    sym c.in_ok-all.ensures ∙ ap all_said c.in-Some.is
    ∙ ap (λ fields. Some (all_typed fields)) (sym c.as_slice.ensures.value)

pub returns-in-Some : goal.returns-in-Some
returns-in-Some c =
    let path = part_type (scope_said c.args.scope.now) (meaning c.args.of.now) (fields_said c.args.path.now) in
    subst (Gives meaning c.part_within.result)
    (ap (λ found. check (is_some found) (shape record_wanted) path)
    (sym (ap all_said c.in-Some.is) ∙ c.in_ok-all.ensures)) c.part_within.ensures
