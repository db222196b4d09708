use Rattle.std.proofs.Common.{◌≡◌, map, drop}
use Rattle.std.specs.List.{flat_map}
use Rattle.au_modules.specs.Limits as spec
use Rattle.au_syntax.specs.Plain.{plain_method}
use Rattle.au_syntax.specs.Views.{method_body}
use Rattle.au_modules.proofs.limits.methods_limit.Given as goal

-- what is left decides
abbrev pub invariant-loop-one : goal.invariant-loop-one
invariant-loop-one g l = spec.first_passed
    (flat_map spec.counted_method (map (plain_method g.P.Phase.name_bytes)
    (map (method_body g.P.Phase) (drop l.one-index l.one-items))))
    ≡ spec.first_passed (flat_map spec.counted_method
    (map (plain_method g.P.Phase.name_bytes) (map (method_body g.P.Phase) l.one-items)))
