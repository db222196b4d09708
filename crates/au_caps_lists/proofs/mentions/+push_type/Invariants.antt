use Rattle.std.proofs.Common.{◌≡◌, ◌++◌, take}
use Rattle.au_types.specs.Views.{argument_all}
use Rattle.au_caps_lists.specs.Mentions.{mentions_in_all}
use Rattle.au_caps_lists.specs.Views.{mentions_said}
use Rattle.au_caps_lists.proofs.mentions.+push_type.Given as goal

-- what stands in the arguments that are visited
abbrev pub invariant-push_arguments-loop-one : goal.invariant-push_arguments-loop-one
invariant-push_arguments-loop-one l = mentions_said l.made.items
    ≡ mentions_said l.fn.made.items ++ mentions_in_all (argument_all (take l.one-index l.one-items))
