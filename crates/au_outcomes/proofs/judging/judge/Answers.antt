-- The first that is refused ends it, of the files and then of their modules.
use Rattle.std.proofs.Common.{◌++◌, map, refl}
use Rattle.std.proofs.lemmas.Result.{err_from_is_err_and}
use Rattle.au_modules.specs.Programs.{entry}
use Rattle.au_modules.specs.Slots as slots
use Rattle.au_accepted.specs.Programs.{shipped_entries}
use Rattle.au_outcomes.proofs.JudgeLemmas.{gather_halts, program_says}
use Rattle.au_outcomes.proofs.judging.judge.Goals as goal

pub returns-in_err-modules-clause-comes : goal.returns-in_err-modules-clause-comes
returns-in_err-modules-clause-comes c =
    let p = err_from_is_err_and c.from_residual-in_err-modules.result c.from_residual-in_err-modules.ensures.1 in
    rw (p.1, p.2)
    (gather_halts (map entry c.in_ok-files.files.items) (shipped_entries ++ map entry c.args.own.items)
    c.in_err-modules.field-0.0 _ c.in_ok-files.ensures.files
    (c.in_err-modules.ensures.refused c.in_err-modules.field-0.0 refl))

pub returns-clause-comes : goal.returns-clause-comes
returns-clause-comes c =
    program_says (λ n. slots.modules n) (map entry c.in_ok-files.files.items)
    (shipped_entries ++ map entry c.args.own.items)
    (slots.modules c.in_ok-modules.modules) _ c.in_ok-files.ensures.files
    c.in_ok-modules.ensures.modules c.in_ok-modules.ensures.accepted c.judge_modules.ensures.comes
