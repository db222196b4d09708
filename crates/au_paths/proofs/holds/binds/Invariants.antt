use Rattle.std.proofs.Common.{◌≡◌, drop}
use Rattle.au_lives.specs.Lives.{Hold, held_from}
use Rattle.au_lives.specs.Paths.{bound_names}
use Rattle.au_paths.specs.Seen.{seen_binds}
use Rattle.au_paths.proofs.holds.binds.Given as goal

-- what is left says how it is held
abbrev pub invariant-loop-one : goal.invariant-loop-one
invariant-loop-one g l =
    (h : Hold) → held_from l.x (bound_names (seen_binds g.P.Phase (drop l.one-index l.one-items))) h
    ≡ held_from l.x (bound_names (seen_binds g.P.Phase l.one-items)) h
