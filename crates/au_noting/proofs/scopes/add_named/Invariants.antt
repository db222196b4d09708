use Rattle.std.proofs.Common.{◌≡◌, ◌++◌, drop}
use Rattle.au_instances.specs.Pairs.{named_with}
use Rattle.au_noting.proofs.scopes.add_named.Given as goal

-- the classes so far are added, before the others
abbrev pub invariant-loop-class : goal.invariant-loop-class
invariant-loop-class l = l.known.items ++ named_with l.name (drop l.class-index l.classes) ≡ l.fn.known.items
    ++ named_with l.name l.classes
