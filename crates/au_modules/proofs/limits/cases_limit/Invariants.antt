use Rattle.std.proofs.Common.{◌≡◌, map, drop}
use Rattle.au_modules.specs.Limits as spec
use Rattle.au_syntax.specs.Plain.{plain_variant}
use Rattle.au_syntax.specs.Views.{variant}
use Rattle.au_modules.proofs.limits.cases_limit.Given as goal

-- what is left decides
abbrev pub invariant-loop-index : goal.invariant-loop-index
invariant-loop-index g l = spec.first_passed
    (spec.counted_cases l.index (map (plain_variant g.P.Phase.name_bytes)
    (map (variant g.P.Phase) (drop l.index l.cases.items))))
    ≡ spec.first_passed (spec.counted_cases 0
    (map (plain_variant g.P.Phase.name_bytes) (map (variant g.P.Phase) l.cases.items)))
