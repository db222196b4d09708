use Rattle.std.proofs.Common.{◌≡◌, drop}
use Rattle.au_types.specs.Views.{argument_all}
use Rattle.au_type_texts.specs.Closing.{all_closed}
use Rattle.au_type_texts.specs.Views.{closed_meanings}
use Rattle.au_type_texts.proofs.ClosingLemmas.{before}
use Rattle.au_type_texts.proofs.closing.+closed_of.Given as goal

-- what is closed so far, and the arguments that are left
abbrev pub invariant-closed_arguments-loop-one : goal.invariant-closed_arguments-loop-one
invariant-closed_arguments-loop-one l =
    all_closed (argument_all l.one-items) ≡ before (closed_meanings l.list.items)
    (all_closed (argument_all (drop l.one-index l.one-items)))
