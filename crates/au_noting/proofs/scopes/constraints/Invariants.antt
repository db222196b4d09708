use Rattle.std.proofs.Common.{◌≡◌, ◌++◌, drop}
use Rattle.au_instances.specs.Pairs.{constraints_of}
use Rattle.au_noting.proofs.WalkLemmas.{constraints_from}
use Rattle.au_noting.proofs.scopes.constraints.Given as goal

-- the constraints of the type parameters so far, before those of the others
abbrev pub invariant-loop-index : goal.invariant-loop-index
invariant-loop-index l = l.known.items ++ constraints_from l.generics (drop l.index l.generics)
    ≡ constraints_of l.generics
