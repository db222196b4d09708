use Rattle.std.proofs.Common.{◌≡◌, drop, length}
use Rattle.std.specs.List.{list_all}
use Rattle.au_types.specs.Views.{argument_all}
use Rattle.au_type_texts.specs.Views.{closed_meaning, closed_meanings}
use Rattle.au_instances.specs.ClosedInstances.{all_closed_stand, has_instance, parts_of, types_in}
use Rattle.au_instances.proofs.closed.+closed_row.Given as goal

-- the closed types so far may stand for the types in their places, so those that are left decide
abbrev pub invariant-all_stand-loop-index : goal.invariant-all_stand-loop-index
invariant-all_stand-loop-index l = record {
  lengths : length (types_in (argument_all l.names)) ≡ length l.args.items;
  rest : all_closed_stand l.heads l.generics (types_in (argument_all l.names))
      (parts_of l.instances l.heads (closed_meanings l.args.items)) ≡ all_closed_stand l.heads l.generics
      (drop l.index (types_in (argument_all l.names)))
      (parts_of l.instances l.heads (closed_meanings (drop l.index l.args.items)));
}

-- the classes so far have instances, so those that are left decide
abbrev pub invariant-have_instances-loop-class : goal.invariant-have_instances-loop-class
invariant-have_instances-loop-class l = list_all (has_instance l.instances l.heads (closed_meaning l.one))
    l.classes ≡ list_all (has_instance l.instances l.heads (closed_meaning l.one))
    (drop l.class-index l.classes)
