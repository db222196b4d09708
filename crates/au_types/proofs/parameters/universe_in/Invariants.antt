use Rattle.std.proofs.Common.{◌≡◌, drop}
use Rattle.au_types.specs.Universes.{universe_in}
use Rattle.au_types.proofs.parameters.universe_in.Given as goal

-- no parameter so far has the name, so those that are left decide
abbrev pub invariant-loop-one : goal.invariant-loop-one
invariant-loop-one l = universe_in l.one-items l.name ≡ universe_in (drop l.one-index l.one-items) l.name
