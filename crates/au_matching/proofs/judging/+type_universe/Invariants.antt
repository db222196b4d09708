use Rattle.std.proofs.Common.{◌≡◌, take}
use Rattle.au_types.specs.Views.{argument_all}
use Rattle.au_matching.specs.Universes.{judged, argument_universes}
use Rattle.au_matching.proofs.judging.+type_universe.Given as goal

-- what the arguments so far come to
abbrev pub invariant-judged-loop-one : goal.invariant-judged-loop-one
invariant-judged-loop-one l = l.so_far
    ≡ judged (argument_universes l.heads l.scope (argument_all (take l.one-index l.one-items)))
