use Rattle.std.proofs.Common.{◌≡◌, take}
use Rattle.au_syntax.specs.Views.{statement_all, branch_all, arm_all}
use Rattle.au_syntax.specs.Plain.{plain_statements, plain_branches, plain_arms}
use Rattle.au_syntax.specs.Depths as spec
use Rattle.au_syntax.specs.Depths.{counted}
use Rattle.au_mapping.proofs.depths.+statement_depth.Given as goal

-- the depth of what is visited
abbrev pub invariant-block_depth-loop-one : goal.invariant-block_depth-loop-one
invariant-block_depth-loop-one g l =
    l.deepest ≡ counted (spec.block_depth
    (plain_statements g.P.Phase.name_bytes (statement_all g.P.Phase (take l.one-index l.one-items))))

abbrev pub invariant-branches_depth-loop-one : goal.invariant-branches_depth-loop-one
invariant-branches_depth-loop-one g l =
    l.deepest ≡ counted (spec.branches_depth
    (plain_branches g.P.Phase.name_bytes (branch_all g.P.Phase (take l.one-index l.one-items))))

abbrev pub invariant-arms_depth-loop-one : goal.invariant-arms_depth-loop-one
invariant-arms_depth-loop-one g l =
    l.deepest ≡ counted (spec.arms_depth
    (plain_arms g.P.Phase.name_bytes (arm_all g.P.Phase (take l.one-index l.one-items))))
