use Rattle.std.proofs.Common.{◌≡◌, ◌+◌, ◌*◌, drop}
use Rattle.std.specs.List.{flat_map}
use Rattle.au_types.specs.Views.{argument, argument_all, meaning}
use Rattle.au_instances.specs.Pairs.{named_with}
use Rattle.au_instances.specs.Views.{lacking_among, lacking_at, lacking_from}
use Rattle.au_instances.proofs.LackingLemmas.{at_left, constraints_by, led_all}
use Rattle.au_instances.proofs.SizeLemmas.{all_size, argument_size, type_size}
use Rattle.au_instances.proofs.lacking.+lacking.Given as goal

-- the size of what is looked at, and behind it the place of the function among those that take the same
abbrev pub decreases-lacking_in : goal.decreases-lacking_in
decreases-lacking_in l = 8 * type_size (meaning l.of.now) + 5

abbrev pub decreases-lacking_below : goal.decreases-lacking_below
decreases-lacking_below l = 8 * type_size (meaning l.of.now) + 4

abbrev pub decreases-lacking_among : goal.decreases-lacking_among
decreases-lacking_among l = 8 * all_size (argument_all l.args.now.items) + 3

abbrev pub decreases-lacking_from : goal.decreases-lacking_from
decreases-lacking_from l = 8 * all_size (argument_all l.args.now.items) + 2

abbrev pub decreases-lacking_at : goal.decreases-lacking_at
decreases-lacking_at l = 8 * all_size (argument_all l.args.now.items) + 1

abbrev pub decreases-lacking_of : goal.decreases-lacking_of
decreases-lacking_of l = 8 * argument_size (argument l.one.now)

-- nothing is lacking for the type parameters so far, so those that are left decide
abbrev pub invariant-lacking_among-loop-index : goal.invariant-lacking_among-loop-index
invariant-lacking_among-loop-index l =
    lacking_among l.sight l.row.generics (argument_all l.names) (argument_all l.args.items)
    ≡ led_all l.sight (argument_all l.names) (argument_all l.args.items)
    (flat_map (constraints_by l.sight (argument_all l.names) (argument_all l.args.items) l.row.generics)
    (drop l.index l.row.generics))

-- the arguments so far stand in the places of other names, so those that are left decide
abbrev pub invariant-lacking_at-loop-index : goal.invariant-lacking_at-loop-index
invariant-lacking_at-loop-index l =
    lacking_at l.sight l.name l.class (argument_all l.names) (argument_all l.args.items)
    ≡ at_left l.sight l.name l.class (drop l.index l.names) (drop l.index l.args.items)

-- nothing is lacking for the classes so far, so those that are left decide
abbrev pub invariant-lacking_from-loop-class : goal.invariant-lacking_from-loop-class
invariant-lacking_from-loop-class l =
    lacking_from l.sight l.name l.classes (argument_all l.names) (argument_all l.args.items)
    ≡ led_all l.sight (argument_all l.names) (argument_all l.args.items)
    (named_with l.name (drop l.class-index l.classes))
