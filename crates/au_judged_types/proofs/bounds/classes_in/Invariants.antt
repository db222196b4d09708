use Rattle.std.proofs.Common.{◌≡◌, drop, length}
use Rattle.au_judged_types.specs.Bounds.{bounded, classes_of}
use Rattle.au_judged_types.proofs.bounds.classes_in.Given as goal

-- no type parameter so far has the name, so those that are left decide
abbrev pub invariant-loop-index : goal.invariant-loop-index
invariant-loop-index l = record {
  lengths : length l.params ≡ length l.classes.items;
  rest : classes_of (bounded l.params l.classes.items) l.name
      ≡ classes_of (bounded (drop l.index l.params) (drop l.index l.classes.items)) l.name;
}
