use Rattle.std.proofs.Common.{◌≡◌, drop}
use Rattle.au_matching.specs.Bindings.{value_of}
use Rattle.au_matching.specs.Listed.{pairs}
use Rattle.au_matching.proofs.substitutions.find.Given as goal

-- no binding so far has the name, so those that are left decide
abbrev pub invariant-loop-one : goal.invariant-loop-one
invariant-loop-one l = value_of l.name (pairs l.one-items) ≡ value_of l.name (pairs (drop l.one-index l.one-items))
