use Rattle.std.proofs.Common.{◌≡◌, drop}
use Rattle.au_matching.specs.Joined.{joined}
use Rattle.au_matching.specs.Universes.{judged}
use Rattle.au_type_texts.specs.Views.{closed_meanings}
use Rattle.au_instances.specs.ClosedInstances.{closed_universes}
use Rattle.au_instances.proofs.universes.+closed_universe.Given as goal

-- what the types so far come to, and those that are left
abbrev pub invariant-judged-loop-one : goal.invariant-judged-loop-one
invariant-judged-loop-one l = judged (closed_universes l.heads (closed_meanings l.one-items))
    ≡ joined l.so_far (judged (closed_universes l.heads (closed_meanings (drop l.one-index l.one-items))))
