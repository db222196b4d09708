use Rattle.std.proofs.Common.{◌≡◌, drop}
use Rattle.au_lives.specs.Places.{consumed_at_all, consumed_at_arguments}
use Rattle.au_paths.specs.Seen.{seen_expressions, seen_arguments}
use Rattle.au_linear.specs.Firsts.{first_of}
use Rattle.au_linear.proofs.sought.+consumed.Given as goal

-- what is left has the first place of all
abbrev pub invariant-first_consumed_of_all-loop-one : goal.invariant-first_consumed_of_all-loop-one
invariant-first_consumed_of_all-loop-one g l =
    first_of (consumed_at_all l.x l.free (seen_expressions g.P.Phase (drop l.one-index l.one-items)))
    ≡ first_of (consumed_at_all l.x l.free (seen_expressions g.P.Phase l.one-items))

abbrev pub invariant-first_consumed_of_arguments-loop-one : goal.invariant-first_consumed_of_arguments-loop-one
invariant-first_consumed_of_arguments-loop-one g l =
    first_of (consumed_at_arguments l.x l.free (seen_arguments g.P.Phase (drop l.one-index l.one-items)))
    ≡ first_of (consumed_at_arguments l.x l.free (seen_arguments g.P.Phase l.one-items))
