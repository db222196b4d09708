use Rattle.au_cells.specs.Cells.{low, lows, lent}
use Rattle.au_stores.specs.Stores.{world_of}
use Rattle.au_stores.proofs.CaseLemmas.{behind_none, behind_other, behind_made}
use Rattle.au_stores.proofs.worlds.World.told_behind.Goals as goal

pub returns-in_default : goal.returns-in_default
returns-in_default c = behind_none (lent c.args.one.now) (world_of c.args.self.now) c.in_default.ensures

pub returns-in_default-case_of : goal.returns-in_default-case_of
returns-in_default-case_of c =
    behind_other (lent c.args.one.now) (world_of c.args.self.now) (low c.in-Some.held_value.now)
    c.in-Some.ensures c.in_default-case_of.ensures

pub returns : goal.returns
returns c =
    behind_made (lent c.args.one.now) (world_of c.args.self.now) (low c.in-Some.held_value.now)
    c.in-Some-case_of.tag c.in-Some-case_of.count (lows c.in_ok-fields.fields.items) c.in-Some.ensures
    c.in-Some-case_of.ensures c.in_ok-fields.ensures
