-- Files that aren't judged are laid out.
use Rattle.std.proofs.Common.{◌∙◌, sym, map}
use Rattle.au_outcomes.specs.Halts.{bytes_in}
use Rattle.au_outcomes.proofs.ComesLemmas.{judged_says, laid_says}
use Rattle.au_outcomes.proofs.checking.outcome_of.Goals as goal

pub returns-then-not-is_judged-clause-comes : goal.returns-then-not-is_judged-clause-comes
returns-then-not-is_judged-clause-comes c =
    laid_says c.args.aim (map bytes_in c.args.all.now) c.laid_outcome.result
    (sym c.is_judged.ensures ∙ c.if-not-is_judged.true) c.laid_outcome.ensures.comes

pub returns-clause-comes : goal.returns-clause-comes
returns-clause-comes c =
    judged_says c.args.aim (map bytes_in c.args.all.now) c.judged_outcome.result
    (sym c.is_judged.ensures ∙ c.if-not-is_judged.false) c.judged_outcome.ensures.comes
