-- It takes memory for the words of an abort, and for the lines of events.
use Rattle.std.proofs.Common.{inl, inr}
use Rattle.au_base.proofs.OutsideLemmas.{on_err}
use Rattle.au_running.proofs.ends.report_of.Goals as goal

pub returns-in_err-ran-clause-words : goal.returns-in_err-ran-clause-words
returns-in_err-ran-clause-words c = on_err c.from_residual.result (inl c.in_err-ran.ensures.words)

pub returns-in_err-lines-clause-words : goal.returns-in_err-lines-clause-words
returns-in_err-lines-clause-words c =
    on_err c.from_residual-in_err-lines.result (inr c.in_err-lines.ensures.told)
