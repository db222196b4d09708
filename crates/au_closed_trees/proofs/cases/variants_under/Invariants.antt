use Rattle.std.proofs.Common.{◌≡◌, map, take}
use Rattle.au_type_texts.specs.GivenViews.{given_said}
use Rattle.au_sights.specs.Steps.{variants_of}
use Rattle.au_closed_trees.specs.Parts.{variant_under}
use Rattle.au_closed_trees.specs.Views.{cases_said}
use Rattle.au_closed_trees.proofs.cases.variants_under.Given as goal

-- the cases so far
abbrev pub invariant-loop-one : goal.invariant-loop-one
invariant-loop-one l =
    cases_said l.made.items
    ≡ map (variant_under l.place.names.now l.place.heads.now l.place.params.now (given_said l.place.given.now))
    (variants_of (take l.one-index l.one-items))
