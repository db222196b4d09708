use Rattle.std.proofs.Common.{take}
use Rattle.au_promises.specs.Defining.{AreFirst, name_defined}
use Rattle.au_promises.specs.Written.{declarations_of}
use Rattle.au_promises.proofs.definitions.first_defined.Given as goal

-- the table finds the first of the declarations that are visited
abbrev pub invariant-loop-index : goal.invariant-loop-index
invariant-loop-index l = AreFirst (name_defined l.sort) (declarations_of (take l.index l.decls)) l.table
