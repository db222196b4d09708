use Rattle.std.proofs.Common.{◌≡◌, ◌++◌, take}
use Rattle.au_sights.specs.contracts.noted.NotedPhase.TheImpl.{ghosts as noted}
use Rattle.au_syntax.specs.Views.{argument_all}
use Rattle.au_caps_lists.specs.Holding.{named_mention}
use Rattle.au_caps_lists.specs.Views.{mentions_said}
use Rattle.au_caps_lists.proofs.handing.push_named_types.Given as goal

-- what stands in the types so far
abbrev pub invariant-loop-one : goal.invariant-loop-one
invariant-loop-one l =
    mentions_said l.made.items
    ≡ mentions_said l.fn.made.items ++ named_mention (argument_all noted (take l.one-index l.one-items))
