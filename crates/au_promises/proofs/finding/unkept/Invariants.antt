use Rattle.std.proofs.Common.{◌≡◌, drop}
use Rattle.au_promises.specs.Promises as spec
use Rattle.au_promises.specs.Written.{declarations_of, sight_in}
use Rattle.au_promises.proofs.finding.unkept.Given as goal

-- all promises so far are kept, so those that are left decide
abbrev pub invariant-loop-promise : goal.invariant-loop-promise
invariant-loop-promise l =
    spec.unkept (sight_in l.sight) (declarations_of l.decls.items) (declarations_of l.promise-items)
    ≡ spec.unkept (sight_in l.sight) (declarations_of l.decls.items)
    (declarations_of (drop l.promise-index l.promise-items))
