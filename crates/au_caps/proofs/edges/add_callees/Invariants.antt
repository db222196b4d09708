use Rattle.std.proofs.Common.{map, take}
use Rattle.std.specs.List.{flat_map}
use Rattle.au_caps.specs.Views.{Grows, callee_said}
use Rattle.au_caps.specs.Webs.{birth_pairs, call_arcs}
use Rattle.au_caps.proofs.edges.add_callees.Given as goal

-- what the calls so far add
abbrev pub invariant-loop-one : goal.invariant-loop-one
invariant-loop-one l =
    Grows (flat_map (call_arcs l.own) (map callee_said (take l.one-index l.one-items)))
    (flat_map (birth_pairs l.reaching l.own) (map callee_said (take l.one-index l.one-items))) l.fn.web l.web
