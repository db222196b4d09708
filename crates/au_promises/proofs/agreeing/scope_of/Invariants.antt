use Rattle.std.proofs.Common.{◌≡◌, take}
use Rattle.au_promises.specs.Agreeing as spec
use Rattle.au_promises.specs.Written.{generics_of}
use Rattle.au_promises.proofs.agreeing.scope_of.Given as goal

-- the type parameters that are visited
abbrev pub invariant-loop-one : goal.invariant-loop-one
invariant-loop-one l = l.params ≡ spec.scope_of (generics_of (take l.one-index l.one-items))
