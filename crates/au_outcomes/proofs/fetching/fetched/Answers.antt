-- The files are those that the shelf tells, or one of the bytes that it gave.
use Rattle.au_outcomes.proofs.FetchLemmas.{tells_whole, tells_large}
use Rattle.au_outcomes.proofs.fetching.fetched.Goals as goal

pub returns-in-Whole-clause-comes : goal.returns-in-Whole-clause-comes
returns-in-Whole-clause-comes g c = tells_whole (g.S.Shelf.files c.args.shelf.now) c.args.name.now
    c.fetch.new.room.items c.in-Whole.ensures.file c.in-Whole.ensures.room

pub returns-in-TooLarge-clause-comes : goal.returns-in-TooLarge-clause-comes
returns-in-TooLarge-clause-comes g c =
    tells_large (g.S.Shelf.files c.args.shelf.now) c.args.name.now c.fetch.new.room.items
    c.in-TooLarge.ensures.file c.in-TooLarge.ensures.room
