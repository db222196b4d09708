use Rattle.std.proofs.Common.{◌≡◌, drop, []}
use Rattle.au_types.specs.Tables.{with_all}
use Rattle.au_modules.specs.Slots as slots
use Rattle.au_names.specs.Placing.{places_from}
use Rattle.au_names.proofs.exports.places_by_name.Given as goal

-- what is left to put comes to the same
abbrev pub invariant-loop-place : goal.invariant-loop-place
invariant-loop-place l =
    with_all l.places (places_from l.place (drop l.place (slots.modules l.modules)))
    ≡ with_all [] (places_from 0 (slots.modules l.modules))
