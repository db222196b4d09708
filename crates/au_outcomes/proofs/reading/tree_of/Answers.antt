-- Where reading stops, there is the place of the fault, or of a limit.
use Rattle.std.proofs.Common.{Err, ap}
use Rattle.au_outcomes.proofs.reading.tree_of.Goals as goal

pub returns-in-Err-Syntax-clause-comes : goal.returns-in-Err-Syntax-clause-comes
returns-in-Err-Syntax-clause-comes c =
    let index = c.in-Err-Syntax.index in
    let stop = c.in-Err-Syntax.ensures.syntax index (ap Err c.in-Err-Syntax.field-0-is) in (
      λ m formed spelled. stop.0.short (record { tree = m; formed = formed; spelled = spelled }),
      (index, stop.0, stop.1, c.place_at-at.ensures),
    )

pub returns-in-Err-Limit-clause-comes : goal.returns-in-Err-Limit-clause-comes
returns-in-Err-Limit-clause-comes c = c.in-Err-Limit.ensures.limit c.in-Err-Limit.limit (ap Err c.in-Err-Limit.field-0-is)
