use Rattle.std.proofs.Common.{◌≡◌, ◌++◌, take}
use Rattle.au_sights.specs.contracts.noted.NotedPhase.TheImpl.{ghosts as noted}
use Rattle.std.specs.Prelude.{map}
use Rattle.au_syntax.specs.Views.{bound}
use Rattle.au_types.specs.WrittenViews.{sense_in}
use Rattle.au_caps_lists.specs.Mentions.{bind_mentions}
use Rattle.au_caps_lists.specs.Views.{mentions_said}
use Rattle.au_caps_lists.proofs.holding.push_binds.Given as goal

-- what stands in the types of the names so far
abbrev pub invariant-loop-one : goal.invariant-loop-one
invariant-loop-one l =
    mentions_said l.made.items
    ≡ mentions_said l.fn.made.items ++ bind_mentions (sense_in l.scope)
    (map (bound noted) (take l.one-index l.one-items))
