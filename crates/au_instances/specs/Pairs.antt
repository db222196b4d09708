-- Which constraints a class at a type leads to, and which of them is lacking first.
use Rattle.std.specs.Prelude.{List, [], ◌∷◌, Bool, not, Option, None, Some, is_none, map, unwrap_or}
use Rattle.std.specs.Prelude.{if◌then◌else◌}
use Rattle.std.specs.Borrow.{Bor}
use Rattle.std.specs.List.{find, flat_map}
use Rattle.au_syntax.specs.Plain.{Bytes}
use Rattle.au_types.specs.declared.headings.Head.{Head}
use Rattle.au_types.specs.declared.parameters.Parameter.{Parameter}
use Rattle.au_types.specs.declared.types.DeclAt.{DeclAt}
use Rattle.au_types.specs.declared.types.Ty.{Ty}
use Rattle.au_types.specs.Views.{meaning}
use Rattle.au_types.specs.Types.{Meaning, Argument, Arguments, unit, truth, integer, text, parameter, named}
use Rattle.au_types.specs.Types.{reads, writes, of_type, in_region, no_arguments, arguments}
use Rattle.au_judged_types.specs.Bounds.{Bounded, classes_of}
use Rattle.au_instances.specs.Forms.{arguments_of, is_called, name_of}
use Rattle.au_instances.specs.Instances.{Known, is_known}
use Rattle.au_instances.specs.Rows.{Row}
use Rattle.au_instances.specs.Tables.{row_for}

-- a class and a type that it is wanted of
abbrev pub Pair : Type 0
Pair = DeclAt × Meaning

-- a class and a type of the code, and the same behind a reference
abbrev pub told : DeclAt × Ty → Pair
told pair = (pair.0, meaning pair.1)

abbrev pub wanted : DeclAt × Bor Ty → Pair
wanted pair = (pair.0, meaning pair.1.now)

-- the classes of a type parameter, each with its name
abbrev pub named_with : Bytes → List DeclAt → Known
named_with name classes = map (λ class. (name, class)) classes

-- the constraints of type parameters from left to right
abbrev pub constraints_of : List Bounded → Known
constraints_of generics =
    flat_map
    (λ one. named_with one.parameter.name (unwrap_or (classes_of generics one.parameter.name) []))
    generics

-- what arguments lead to, each in its place: for each class a list of pairs
abbrev pub Parts : Type 0
Parts = List (DeclAt → List Pair)

-- what the argument leads to that is in the place of a name
abbrev pub part_for : Bytes → Arguments → Parts → DeclAt → List Pair
part_for name no_arguments parts class = []
part_for name (arguments one rest) [] class = []
part_for name (arguments one rest) (part ∷ parts) class =
    if is_called name (name_of one) then part class else part_for name rest parts class

-- what the constraints of a row lead to, if there is one
abbrev pub below : Option Row → Parts → List Pair
below None parts = []
below (Some row) parts =
    flat_map (λ one. part_for one.0 (arguments_of row.head) parts one.1) (constraints_of row.generics)

module _ (rows : List Row) (heads : List (DeclAt × Head)) (scope : List Parameter) where
  abbrev mutual
    -- The pairs that come from a class at a type: this pair, and then, where a row of the class has a head
    -- that becomes the type, those that come from each constraint of the row's parameters and the parameter's
    -- value, in order.
    pub pairs : Meaning → DeclAt → List Pair
    pairs unit class = (class, unit) ∷ []
    pairs truth class = (class, truth) ∷ []
    pairs (integer kind) class = (class, integer kind) ∷ []
    pairs text class = (class, text) ∷ []
    pairs (parameter name) class = (class, parameter name) ∷ []
    pairs (named at args) class =
        (class, named at args) ∷ below (row_for heads scope rows class (named at args)) (parts_of args)
    pairs (reads to region) class = (class, reads to region) ∷ []
    pairs (writes to region) class = (class, writes to region) ∷ []

    -- the same of an argument; a region leads to none
    pub part_of : Argument → DeclAt → List Pair
    part_of (of_type t) class = pairs t class
    part_of (in_region region) class = []

    -- the same of arguments
    pub parts_of : Arguments → Parts
    parts_of no_arguments = []
    parts_of (arguments one rest) = part_of one ∷ parts_of rest

module _ (rows : List Row) (heads : List (DeclAt × Head)) (scope : List Parameter) (known : Known) where
  -- whether a class is lacking at a type: the type is a type parameter that isn't known to have it, or no
  -- type parameter, and no row of the class has a head that becomes it
  abbrev pub is_lacking : DeclAt → Meaning → Bool
  is_lacking class (parameter name) = not (is_known known name class)
  is_lacking class t = is_none (row_for heads scope rows class t)

  -- the first lacking pair that comes from a class at a type, and none where no pair is lacking
  abbrev pub lacking : DeclAt → Meaning → Option Pair
  lacking class t = find (λ pair. is_lacking pair.0 pair.1) (pairs rows heads scope t class)
