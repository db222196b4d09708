use Rattle.std.proofs.Common.{◌≡◌, take, map}
use Rattle.au_promises.specs.Mentions.{generic_parameter}
use Rattle.au_promises.specs.Said.{generics_said}
use Rattle.au_promises.proofs.scopes.generic_params_of.Given as goal

-- the type parameters that are visited
abbrev pub invariant-loop-one : goal.invariant-loop-one
invariant-loop-one l = l.params ≡ map generic_parameter (generics_said (take l.one-index l.one-items))
