use Rattle.std.proofs.Common.{◌≡◌, [], ◌++◌, drop}
use Rattle.std.specs.Prelude.{unwrap_or}
use Rattle.au_judged_types.specs.Meanings.{written_params}
use Rattle.au_promises.specs.Written.{generics_of}
use Rattle.au_type_texts.specs.Given as given_types
use Rattle.au_type_texts.specs.GivenViews.{given_said}
use Rattle.au_closed_trees.specs.TypeNames.{type_names}
use Rattle.au_closing.proofs.functions.given_by.Given as goal

-- what is given so far, before what is left
abbrev pub invariant-loop-one : goal.invariant-loop-one
invariant-loop-one l =
    given_said l.made.items
    ++ given_types.given_by (given_said l.given) (unwrap_or l.call [])
    (type_names (written_params (generics_of (drop l.one-index l.one-items))))
    ≡ given_types.given_by (given_said l.given) (unwrap_or l.call [])
    (type_names (written_params (generics_of l.one-items)))
