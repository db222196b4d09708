use Rattle.std.proofs.Common.{◌≡◌, take}
use Rattle.au_rules.specs.Outside.{is_outside_of}
use Rattle.au_rules.specs.Scopes.{after_all, first_in}
use Rattle.au_rules.proofs.finding.judge_marks.Given as goal

-- what the marks that are visited declare again, and the tables behind them
abbrev pub invariant-loop-mark : goal.invariant-loop-mark
invariant-loop-mark l =
    (l.first ≡ first_in (is_outside_of l.here) l.fn.scopes (take l.mark-index l.mark-items))
    × (l.scopes ≡ after_all l.fn.scopes (take l.mark-index l.mark-items))
