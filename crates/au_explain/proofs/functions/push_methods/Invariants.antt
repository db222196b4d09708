use Rattle.std.proofs.Common.{◌≡◌, ◌++◌, drop, map}
use Rattle.au_explain.specs.Programs.{method_lives}
use Rattle.au_explain.specs.Said.{generics_said, methods_said}
use Rattle.au_sights.specs.Sights.{outside_seen}
use Rattle.au_explain.proofs.functions.push_methods.Given as goal

-- what is put and what is left are all
abbrev pub invariant-loop-one : goal.invariant-loop-one
invariant-loop-one l =
    l.made.items ++ map (method_lives (outside_seen l.outside) l.owner (generics_said l.generics.items))
    (methods_said (drop l.one-index l.one-items))
    ≡ l.fn.made.items ++ map (method_lives (outside_seen l.outside) l.owner (generics_said l.generics.items))
    (methods_said l.one-items)
