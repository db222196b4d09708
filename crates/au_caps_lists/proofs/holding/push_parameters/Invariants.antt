use Rattle.std.proofs.Common.{◌≡◌, ◌++◌, take}
use Rattle.au_sights.specs.contracts.noted.NotedPhase.TheImpl.{ghosts as noted}
use Rattle.std.specs.Prelude.{map}
use Rattle.au_syntax.specs.Views.{labelled}
use Rattle.au_types.specs.WrittenViews.{sense_in}
use Rattle.au_caps_lists.specs.Mentions.{field_mentions}
use Rattle.au_caps_lists.specs.Views.{mentions_said}
use Rattle.au_caps_lists.proofs.holding.push_parameters.Given as goal

-- what stands in the types of the parameters so far
abbrev pub invariant-loop-one : goal.invariant-loop-one
invariant-loop-one l =
    mentions_said l.made.items
    ≡ mentions_said l.fn.made.items ++ field_mentions (sense_in l.scope)
    (map (labelled noted) (take l.one-index l.one-items))
