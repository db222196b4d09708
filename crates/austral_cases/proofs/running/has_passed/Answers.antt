-- A case passes where its call ended as wanted, and so it can end.
use Rattle.austral_cases.proofs.EndingLemmas.{holds_so}
use Rattle.austral_cases.proofs.running.has_passed.Goals as goal

pub returns-then-is_wanted : goal.returns-then-is_wanted
returns-then-is_wanted g c = λ _.
    holds_so c.args.case c.in_ok-ending.ending.out.written c.in_ok-ending.ending.err.written
    c.in_ok-ending.ending.status
    c.in_ok-ending.ensures (c.is_wanted.ensures.0 c.if-is_wanted.true)
