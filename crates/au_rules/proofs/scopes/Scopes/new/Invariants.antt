use Rattle.std.proofs.Common.{◌≡◌, replicate}
use Rattle.au_rules.specs.Scopes.{no_names}
use Rattle.au_rules.proofs.scopes.Scopes.new.Given as goal

-- the names of the kinds that are visited
abbrev pub invariant-loop-kind : goal.invariant-loop-kind
invariant-loop-kind l = l.by_kind.items ≡ replicate l._kind no_names
