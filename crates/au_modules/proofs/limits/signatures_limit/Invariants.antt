use Rattle.std.proofs.Common.{◌≡◌, map, drop}
use Rattle.std.specs.List.{flat_map}
use Rattle.au_modules.specs.Limits as spec
use Rattle.au_syntax.specs.Plain.{plain_header}
use Rattle.au_syntax.specs.Views.{header}
use Rattle.au_modules.proofs.limits.signatures_limit.Given as goal

-- what is left decides
abbrev pub invariant-loop-one : goal.invariant-loop-one
invariant-loop-one g l = spec.first_passed
    (flat_map spec.counted_parameters (map (plain_header g.P.Phase.name_bytes)
    (map (header g.P.Phase) (drop l.one-index l.one-items))))
    ≡ spec.first_passed (flat_map spec.counted_parameters
    (map (plain_header g.P.Phase.name_bytes) (map (header g.P.Phase) l.one-items)))
