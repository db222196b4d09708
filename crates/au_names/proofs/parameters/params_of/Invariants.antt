use Rattle.std.proofs.Common.{◌≡◌, take, map}
use Rattle.au_names.specs.HeadsOf as spec
use Rattle.au_names.specs.Walks.{written_parameters}
use Rattle.au_names.proofs.parameters.params_of.Given as goal

-- the type parameters that are visited
abbrev pub invariant-loop-one : goal.invariant-loop-one
invariant-loop-one l = l.params ≡ map spec.parameter (written_parameters (take l.one-index l.one-items))
