-- The first that is refused ends it: of instances, then of types, then of lives.
use Rattle.std.proofs.Common.{◌≡◌, ◌⊎◌, Some, None, ◌∙◌, ap, refl, subst}
use Rattle.std.proofs.lemmas.Result.{err_from_is_err_and}
use Rattle.au_classes.proofs.AcceptedLemmas as standing
use Rattle.au_modules.specs.Slots as slots
use Rattle.au_program_lives.specs.declared.faults.LinearFault.TheVariants as lives
use Rattle.au_program_lives.specs.LinearFaults.{linear_fault}
use Rattle.au_outcomes.specs.Programs.{life_outcome}
use Rattle.au_outcomes.proofs.FaultLemmas.{unread}
use Rattle.au_outcomes.proofs.JudgeLemmas.{bodies_good, instances_halt, lives_halt, types_halt}
use Rattle.au_outcomes.proofs.judging.judge_bodies.Goals as goal

pub returns-in_err-classes-clause-comes : goal.returns-in_err-classes-clause-comes
returns-in_err-classes-clause-comes c =
    let p = err_from_is_err_and c.from_residual.result c.from_residual.ensures.1 in
    let e = c.in_err-classes.field-0.0 in
    rw (p.1, p.2) (instances_halt (slots.modules c.args.resolved) e _ (c.in_err-classes.ensures.refused e refl))

pub returns-in_err-noted-clause-comes : goal.returns-in_err-noted-clause-comes
returns-in_err-noted-clause-comes c =
    let p = err_from_is_err_and c.from_residual-in_err-noted.result c.from_residual-in_err-noted.ensures.1 in
    let e = c.in_err-noted.field-0.0 in
    rw (p.1, p.2)
    (types_halt (slots.modules c.args.resolved) e _
    (standing.good_accepted _ c.in_ok-classes.ensures.good)
    (c.in_err-noted.ensures.refused e refl))

pub returns-in_err-check_linear-clause-comes : goal.returns-in_err-check_linear-clause-comes
returns-in_err-check_linear-clause-comes c =
    let p =
    err_from_is_err_and c.from_residual-in_err-check_linear.result
    c.from_residual-in_err-check_linear.ensures.1 in
    let e = c.in_err-check_linear.field-0.0 in
    rw (p.1, p.2)
    (lives_halt (slots.modules c.args.resolved) e _
    (standing.good_accepted _ c.in_ok-classes.ensures.good)
    c.in_ok-noted.ensures.accepted
    (subst (λ m. (e ≡ lives.Memory) ⊎ (linear_fault (slots.modules m) ≡ Some e))
    (c.program.ensures ∙ c.in_ok-noted.ensures.program)
    (c.in_err-check_linear.ensures.refused e refl)))

pub returns-in_err-check_linear-clause-is_read : goal.returns-in_err-check_linear-clause-is_read
returns-in_err-check_linear-clause-is_read c =
    let p =
    err_from_is_err_and c.from_residual-in_err-check_linear.result
    c.from_residual-in_err-check_linear.ensures.1 in
    rw (p.1, p.2) (unread (Unit {0}) (life_outcome c.in_err-check_linear.field-0.0))

pub returns-clause-comes : goal.returns-clause-comes
returns-clause-comes c = (
  bodies_good (slots.modules c.args.resolved)
      (standing.good_accepted _ c.in_ok-classes.ensures.good)
      c.in_ok-noted.ensures.accepted
      (subst (λ m. linear_fault (slots.modules m) ≡ None) (c.program.ensures ∙ c.in_ok-noted.ensures.program)
      c.in_ok-check_linear.ensures.accepted),
  ap slots.modules c.in_ok-noted.ensures.program,
)
