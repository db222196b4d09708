use Rattle.std.proofs.Common.{◌≡◌, map, drop}
use Rattle.std.specs.List.{flat_map}
use Rattle.au_modules.specs.Limits as spec
use Rattle.au_syntax.specs.Plain.{plain_declaration}
use Rattle.au_syntax.specs.Views.{declaration}
use Rattle.au_modules.proofs.limits.limit_in.Given as goal

-- what is left decides
abbrev pub invariant-loop-one : goal.invariant-loop-one
invariant-loop-one g l = spec.first_passed
    (flat_map spec.counted (map (plain_declaration g.P.Phase.name_bytes)
    (map (declaration g.P.Phase) (drop l.one-index l.one-items))))
    ≡ spec.first_passed (flat_map spec.counted
    (map (plain_declaration g.P.Phase.name_bytes) (map (declaration g.P.Phase) l.one-items)))
