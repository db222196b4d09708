use Rattle.std.proofs.Common.{take}
use Rattle.au_promises.specs.Defining.{AreFirst, key_defined}
use Rattle.au_promises.specs.Written.{declarations_of, sight_in}
use Rattle.au_promises.proofs.keys.first_keyed.Given as goal

-- the table finds the first of the declarations that are visited
abbrev pub invariant-loop-index : goal.invariant-loop-index
invariant-loop-index l = AreFirst (key_defined l.sort (sight_in l.sight))
    (declarations_of (take l.index l.decls)) l.table
