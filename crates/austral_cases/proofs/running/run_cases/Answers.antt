-- The cases come in the order of the list, so the tally counts the cases so far, and in the end all.
use Rattle.std.proofs.Common.{arith}
use Rattle.std.proofs.lemmas.Iterator.Adapters.{YieldsList-from_vec}
use Rattle.std.proofs.lemmas.Iterator.Consumers.{YieldsList-turn, YieldsList-end}
use Rattle.austral_cases.specs.Endings.{Holds}
use Rattle.austral_cases.proofs.RunLemmas.{all_so_far, one_failed, one_passed}
use Rattle.austral_cases.proofs.running.run_cases.Goals as goal

pub overflow_add-tally : goal.overflow_add-tally
overflow_add-tally g c =
    let gives = c.into_iter-case-iterator.ensures.into_iter_gives in
    let turn = YieldsList-turn (YieldsList-from_vec {s = c.into_iter-case-iterator.result} c.args.cases.items
    gives.0 (omega (arith, gives.1, c.args.cases.ok))) c.loop-case.yielded c.loop-case.case-iterator
    c.loop-case.yielded_by c.next.result c.next.new.self c.in-Some.case c.in-Some.is c.next.ensures.steps in
    omega (arith, turn.0, c.loop-case.invariant.2, gives.1, gives.2)

pub loop-case-preserved-then-branch : goal.loop-case-preserved-then-branch
loop-case-preserved-then-branch g c =
    let all = one_passed Holds c.loop-case.yielded c.in-Some.case c.loop-case.tally.passed
    c.loop-case.tally.failed (c.loop-case.invariant.2, c.loop-case.invariant.3)
    (c.in_ok-has_passed.ensures c.if-branch.true) in
    (tt, tt, all.0, all.1)

pub loop-case-preserved : goal.loop-case-preserved
loop-case-preserved g c =
    let all = one_failed Holds c.loop-case.yielded c.in-Some.case c.loop-case.tally.passed
    c.loop-case.tally.failed c.loop-case.invariant.2 in
    (tt, tt, all.0, all.1)

pub returns-clause-held : goal.returns-clause-held
returns-clause-held g c = λ none.
    let gives = c.into_iter-case-iterator.ensures.into_iter_gives in
    let ends = YieldsList-end (YieldsList-from_vec {s = c.into_iter-case-iterator.result} c.args.cases.items
    gives.0 (omega (arith, gives.1, c.args.cases.ok))) c.loop-case.yielded c.loop-case.case-iterator
    c.loop-case.yielded_by c.next.result c.next.new.self c.in-None.is c.next.ensures.steps in
    all_so_far Holds c.loop-case.yielded c.args.cases.items ends.0 (c.loop-case.invariant.3 none)
