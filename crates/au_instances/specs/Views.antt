-- What is lacking at what the code looks at.
use Rattle.std.specs.Prelude.{◌≡◌, List, Option, true}
use Rattle.std.specs.List.{find, flat_map}
use Rattle.au_syntax.specs.Plain.{Bytes}
use Rattle.au_types.specs.declared.types.DeclAt.{DeclAt}
use Rattle.au_types.specs.Types.{Meaning, Argument, Arguments}
use Rattle.au_judged_types.specs.Bounds.{Bounded}
use Rattle.au_instances.specs.declared.lacking.Sight.{Sight}
use Rattle.au_instances.specs.Forms.{arguments_of}
use Rattle.au_instances.specs.Pairs.{Pair, Parts, constraints_of, is_lacking, lacking, named_with, part_for}
use Rattle.au_instances.specs.Pairs.{part_of, parts_of}

-- the first lacking one of these pairs
abbrev pub first_in : Sight → List Pair → Option Pair
first_in sight pairs =
    find
    (λ pair. is_lacking sight.instances.now sight.heads.now sight.scope.now sight.known.now pair.0 pair.1)
    pairs

-- what arguments lead to
abbrev pub parts_in : Sight → Arguments → Parts
parts_in sight args = parts_of sight.instances.now sight.heads.now sight.scope.now args

-- what is lacking first at a type; below it, for a row with these type parameters and this head
abbrev pub lacking_in : Sight → DeclAt → Meaning → Option Pair
lacking_in sight class t = lacking sight.instances.now sight.heads.now sight.scope.now sight.known.now class t

abbrev pub lacking_among : Sight → List Bounded → Arguments → Arguments → Option Pair
lacking_among sight generics names args =
    first_in sight
    (flat_map (λ one. part_for one.0 names (parts_in sight args) one.1) (constraints_of generics))

abbrev pub lacking_below : Sight → List Bounded → Meaning → Meaning → Option Pair
lacking_below sight generics head t = lacking_among sight generics (arguments_of head) (arguments_of t)

-- for these classes of a name, for one of them, and at an argument
abbrev pub lacking_from : Sight → Bytes → List DeclAt → Arguments → Arguments → Option Pair
lacking_from sight name classes names args =
    first_in sight
    (flat_map (λ one. part_for one.0 names (parts_in sight args) one.1) (named_with name classes))

abbrev pub lacking_at : Sight → Bytes → DeclAt → Arguments → Arguments → Option Pair
lacking_at sight name class names args = first_in sight (part_for name names (parts_in sight args) class)

abbrev pub lacking_of : Sight → DeclAt → Argument → Option Pair
lacking_of sight class one =
    first_in sight (part_of sight.instances.now sight.heads.now sight.scope.now one class)
