use Rattle.std.proofs.Common.{◌≡◌, take, map}
use Rattle.au_syntax.specs.Views as view
use Rattle.au_syntax.specs.Plain as plain
use Rattle.au_syntax.specs.Depths as spec
use Rattle.au_mapping.proofs.depths.methods_depth.Given as goal

-- the depth of what is visited
abbrev pub invariant-loop-one : goal.invariant-loop-one
invariant-loop-one g l = l.deepest
    ≡ spec.counted (spec.greatest spec.method_depth
    (map (plain.plain_method g.P.Phase.name_bytes)
    (map (view.method_body g.P.Phase) (take l.one-index l.one-items))))
