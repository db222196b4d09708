use Rattle.std.proofs.Common.{◌≡◌, take}
use Rattle.au_types.specs.Views.{argument_all}
use Rattle.au_type_texts.specs.Views.{closed_meanings}
use Rattle.au_type_texts.specs.Given.{all_closed_under}
use Rattle.au_type_texts.specs.GivenViews.{given_said}
use Rattle.au_type_texts.proofs.under.+closed_under.Given as goal

-- the closed types of the arguments so far
abbrev pub invariant-all_under-loop-one : goal.invariant-all_under-loop-one
invariant-all_under-loop-one l =
    closed_meanings l.made.items
    ≡ all_closed_under (given_said l.given) (argument_all (take l.one-index l.one-items))
