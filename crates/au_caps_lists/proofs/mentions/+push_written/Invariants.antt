use Rattle.std.proofs.Common.{◌≡◌, ◌++◌, take}
use Rattle.au_syntax.specs.Views.{written_all}
use Rattle.au_types.specs.WrittenViews.{sense_in}
use Rattle.au_caps_lists.specs.Mentions.{all_written}
use Rattle.au_caps_lists.specs.Views.{mentions_said}
use Rattle.au_caps_lists.proofs.mentions.+push_written.Given as goal

-- what stands in the types that are visited
abbrev pub invariant-push_all_written-loop-one : goal.invariant-push_all_written-loop-one
invariant-push_all_written-loop-one l = mentions_said l.made.items
    ≡ mentions_said l.fn.made.items ++ all_written (sense_in l.scope)
    (written_all (take l.one-index l.one-items))
