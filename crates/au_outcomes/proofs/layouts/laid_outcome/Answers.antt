-- Files that are read and laid out come to their layout.
use Rattle.std.proofs.Common.{map, sym, subst, inr}
use Rattle.au_outcomes.specs.Halts.{bytes_in}
use Rattle.au_outcomes.specs.Outcomes.{BytesCome}
use Rattle.au_outcomes.specs.declared.outcomes.Aim.TheVariants as aims
use Rattle.au_outcomes.specs.declared.outcomes.Outcome.TheVariants as outcome
use Rattle.au_outcomes.proofs.layouts.laid_outcome.Goals as goal

pub returns-clause-comes : goal.returns-clause-comes
returns-clause-comes c =
    let laid = c.in_ok-text.ensures.comes in
    subst (λ text. BytesCome aims.Format (map bytes_in c.args.all.now) (outcome.Laid text)) (sym c.from_vec.ensures)
    (inr (laid.0.0, laid.0.1, laid.1))
