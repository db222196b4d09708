-- The first that is refused ends it: of names and promises, then of declarations, then of what stands in bodies.
use Rattle.std.proofs.Common.{◌≡◌, ◌⊎◌, Some, None, refl, subst}
use Rattle.std.proofs.lemmas.Result.{err_from_is_err_and}
use Rattle.au_modules.specs.Slots as slots
use Rattle.au_rules.specs.declared.faults.DeclFault.TheVariants as rules
use Rattle.au_rules.specs.DeclFaults.{decl_fault}
use Rattle.au_outcomes.specs.Halts.{Says}
use Rattle.au_outcomes.specs.Programs.{bodies_outcome}
use Rattle.au_outcomes.proofs.JudgeLemmas.{declarations_halt, modules_say, resolve_halts}
use Rattle.au_outcomes.proofs.judging.judge_modules.Goals as goal

pub returns-in_err-program-clause-comes : goal.returns-in_err-program-clause-comes
returns-in_err-program-clause-comes c =
    let p = err_from_is_err_and c.from_residual.result c.from_residual.ensures.1 in
    rw (p.1, p.2)
    (resolve_halts (slots.modules c.args.modules) c.in_err-program.field-0.0 _
    (c.in_err-program.ensures.refused c.in_err-program.field-0.0 refl))

pub returns-in_err-declarations_hold-clause-comes : goal.returns-in_err-declarations_hold-clause-comes
returns-in_err-declarations_hold-clause-comes c =
    let p =
    err_from_is_err_and c.from_residual-in_err-declarations_hold.result
    c.from_residual-in_err-declarations_hold.ensures.1 in
    let e = c.in_err-declarations_hold.field-0.0 in
    rw (p.1, p.2)
    (declarations_halt (slots.modules c.args.modules) e _ c.in_ok-program.ensures.accepted
    (subst (λ m. (e ≡ rules.Memory) ⊎ (decl_fault (slots.modules m) ≡ Some e)) c.in_ok-program.ensures.kept
    (c.in_err-declarations_hold.ensures.refused e refl)))

pub returns-clause-comes : goal.returns-clause-comes
returns-clause-comes c =
    modules_say (slots.modules c.args.modules) (λ n. slots.modules n ≡ slots.modules c.args.modules)
    c.judge_bodies.result c.in_ok-program.ensures.accepted
    (subst (λ m. decl_fault (slots.modules m) ≡ None) c.in_ok-program.ensures.kept
    c.in_ok-declarations_hold.ensures.accepted)
    (subst
    (λ m. Says c.judge_bodies.result
    (λ n. (bodies_outcome (slots.modules m) ≡ None) × (slots.modules n ≡ slots.modules m))
    (λ x. bodies_outcome (slots.modules m) ≡ Some x))
    c.in_ok-program.ensures.kept c.judge_bodies.ensures.comes)
