use Rattle.std.proofs.Common.{◌≡◌, map, take}
use Rattle.au_type_texts.specs.GivenViews.{given_said}
use Rattle.au_promises.specs.Written.{labels_of}
use Rattle.au_closed_trees.specs.Parts.{field_under}
use Rattle.au_closed_trees.specs.Views.{fields_said}
use Rattle.au_closed_trees.proofs.cases.written_fields.Given as goal

-- the fields so far
abbrev pub invariant-loop-one : goal.invariant-loop-one
invariant-loop-one l =
    fields_said l.made.items
    ≡ map (field_under l.place.names.now l.place.heads.now l.place.params.now (given_said l.place.given.now))
    (labels_of (take l.one-index l.one-items))
