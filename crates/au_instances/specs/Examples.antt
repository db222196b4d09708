-- A table of instances, and by hand which of them a class has at a type.
use Rattle.std.specs.Prelude.{ℕ, List, [], ◌∷◌, Option, None, Some, codes}
use Rattle.au_base.specs.declared.kinds.IntKind.TheVariants as kinds
use Rattle.au_syntax.specs.declared.declarations.Universe.{Universe}
use Rattle.au_syntax.specs.declared.declarations.Universe.TheVariants as universes
use Rattle.au_syntax.specs.Plain.{Bytes}
use Rattle.au_types.specs.declared.headings.Head.{Head}
use Rattle.au_types.specs.declared.parameters.Parameter.{Parameter}
use Rattle.au_types.specs.declared.types.DeclAt.{DeclAt}
use Rattle.au_types.specs.declared.types.Region.TheVariants as regions
use Rattle.au_types.specs.Types as whole
use Rattle.au_types.specs.Types.{Meaning, Argument, Arguments}
use Rattle.au_type_texts.specs.Types.{ClosedType, integer, text, truth, named, reads, no_types, types}
use Rattle.au_judged_types.specs.Bounds.{Bounded}
use Rattle.au_instances.specs.Instances.{Known}
use Rattle.au_instances.specs.Pairs.{Pair}
use Rattle.au_instances.specs.Rows.{Row}

-- ---- two classes, and four declared types with their heads

abbrev pub place : ℕ → ℕ → DeclAt
place «module» decl = record { «module» = «module»; decl = decl }

abbrev pub shown : DeclAt
shown = place 0 7

abbrev pub ordered : DeclAt
ordered = place 4 2

abbrev pub option : DeclAt
option = place 0 0

abbrev pub box : DeclAt
box = place 1 0

abbrev pub pair : DeclAt
pair = place 4 0

abbrev pub lent : DeclAt
lent = place 4 1

abbrev pub parameter_of : Bytes → Universe → Parameter
parameter_of name universe = record { name = name; universe = universe }

abbrev pub headed : List ℕ → Universe → List Parameter → Head
headed said universe params = record { text = said; universe = universe; params = params }

abbrev pub declared : List (DeclAt × Head)
declared = (
  option,
  headed (codes "Austral.Pervasive:Option") universes.AnyType
      (parameter_of (codes "T") universes.AnyType ∷ []),
)
    ∷ (
      box,
      headed (codes "Standard.Box:Box") universes.Linear
          (parameter_of (codes "T") universes.AnyType ∷ []),
    )
    ∷ (
      pair,
      headed (codes "Main:Pair") universes.Free
          (parameter_of (codes "A") universes.Free ∷ parameter_of (codes "B") universes.Free ∷ []),
    )
    ∷ (
      lent,
      headed (codes "Main:Lent") universes.Free
          (parameter_of (codes "R") universes.Region ∷ parameter_of (codes "T") universes.Free ∷ []),
    )
    ∷ []

-- ---- types

abbrev pub nat8 : Meaning
nat8 = whole.integer kinds.Nat8

abbrev pub nat16 : Meaning
nat16 = whole.integer kinds.Nat16

-- a type parameter, its name, and the universe that it mostly has
abbrev pub t_name : Bytes
t_name = codes "T"

abbrev pub t : Meaning
t = whole.parameter t_name

abbrev pub free : Universe
free = universes.Free

-- T of a universe alone in scope
abbrev pub scope : Universe → List Parameter
scope universe = parameter_of t_name universe ∷ []

-- a declared type over one type, and over two
abbrev pub of_one : DeclAt → Meaning → Meaning
of_one at one = whole.named at (whole.arguments (whole.of_type one) whole.no_arguments)

abbrev pub of_two : DeclAt → Meaning → Meaning → Meaning
of_two at one other =
    whole.named at
    (whole.arguments (whole.of_type one) (whole.arguments (whole.of_type other) whole.no_arguments))

-- a type that is lent for a region of a name
abbrev pub lent_for : Bytes → Meaning → Meaning
lent_for region one =
    whole.named lent
    (whole.arguments (whole.in_region (regions.Named region))
    (whole.arguments (whole.of_type one) whole.no_arguments))

-- closed ones
abbrev pub closed_one : DeclAt → ClosedType → ClosedType
closed_one at one = named at (types one no_types)

abbrev pub closed_two : DeclAt → ClosedType → ClosedType → ClosedType
closed_two at one other = named at (types one (types other no_types))

-- ---- the table

abbrev pub bounded_by : Bytes → Universe → List DeclAt → Bounded
bounded_by name universe classes = record { parameter = parameter_of name universe; classes = classes }

-- the instance with a number, of a class, with these type parameters, for a type
abbrev pub instance_row : ℕ → DeclAt → List Bounded → Meaning → Row
instance_row number class generics head = record {
  instance = place 9 number;
  class = class;
  generics = generics;
  head = head;
}

-- Shown: Nat8, texts, Option over a Free type that is shown, Box over any type, and what is lent. Ordered:
-- Option[Nat8], and pairs of what is ordered behind what is shown.
abbrev pub table : List Row
table =
    instance_row 1 shown [] nat8
    ∷ instance_row 2 shown [] whole.text
    ∷ instance_row 3 shown (bounded_by (codes "T") universes.Free (shown ∷ []) ∷ []) (of_one option t)
    ∷ instance_row 4 shown (bounded_by (codes "T") universes.AnyType [] ∷ []) (of_one box t)
    ∷ instance_row 5 shown
    (bounded_by (codes "U") universes.Free (shown ∷ []) ∷ bounded_by (codes "S") universes.Region [] ∷ [])
    (lent_for (codes "S") (whole.parameter (codes "U")))
    ∷ instance_row 6 ordered [] (of_one option nat8)
    ∷ instance_row 7 ordered
    (bounded_by (codes "B") universes.Free (ordered ∷ [])
    ∷ bounded_by (codes "A") universes.Free (shown ∷ []) ∷ [])
    (of_two pair (whole.parameter (codes "A")) (whole.parameter (codes "B")))
    ∷ []

-- ---- which row a class has at a type, where T has this universe

pub record RowExample : Type 0 where
  pub universe : Universe
  pub class : DeclAt
  pub of : Meaning
  pub is : Option ℕ

abbrev pub at_type : DeclAt → Meaning → Option ℕ → RowExample
at_type class of is = record { universe = universes.Free; class = class; of = of; is = is }

abbrev pub row_examples : List RowExample
row_examples =
    at_type shown nat8 (Some 1)
    -- another kind of integers, and another class
    ∷ at_type shown nat16 None
    ∷ at_type ordered nat8 None
    ∷ at_type shown whole.text (Some 2)
    -- constraints aren't asked, but universes are
    ∷ at_type shown (of_one option nat16) (Some 3)
    ∷ at_type shown (of_one option (of_one box nat8)) None
    ∷ at_type shown (of_one box (of_one box nat8)) (Some 4)
    ∷ at_type shown (of_one option t) (Some 3)
    ∷ record { universe = universes.AnyType; class = shown; of = of_one option t; is = None }
    ∷ record { universe = universes.AnyType; class = shown; of = of_one box t; is = Some 4 }
    ∷ at_type shown (lent_for (codes "R") nat8) (Some 5)
    -- a head that is closed becomes itself alone
    ∷ at_type ordered (of_one option nat8) (Some 6)
    ∷ at_type ordered (of_one option whole.truth) None
    ∷ at_type ordered (of_one option t) None
    ∷ at_type ordered (of_two pair nat8 nat16) (Some 7)
    -- neither a type parameter nor a reference has a row
    ∷ at_type shown t None
    ∷ at_type shown (whole.reads nat8 regions.Static) None
    ∷ []

-- ---- which instance a class has at a closed type

pub record ClosedExample : Type 0 where
  pub class : DeclAt
  pub of : ClosedType
  pub is : Option ℕ

abbrev pub closed_at : DeclAt → ClosedType → Option ℕ → ClosedExample
closed_at class of is = record { class = class; of = of; is = is }

abbrev pub closed_nat8 : ClosedType
closed_nat8 = integer kinds.Nat8

abbrev pub closed_nat16 : ClosedType
closed_nat16 = integer kinds.Nat16

abbrev pub closed_examples : List ClosedExample
closed_examples =
    closed_at shown closed_nat8 (Some 1)
    ∷ closed_at shown text (Some 2)
    -- constraints are asked, also of the arguments of arguments
    ∷ closed_at shown (closed_one option closed_nat8) (Some 3)
    ∷ closed_at shown (closed_one option closed_nat16) None
    ∷ closed_at shown (closed_one option (closed_one option text)) (Some 3)
    ∷ closed_at shown (closed_one option (closed_one option closed_nat16)) None
    ∷ closed_at shown (closed_one option (closed_one box closed_nat8)) None
    ∷ closed_at shown (closed_one box closed_nat16) (Some 4)
    -- the region is left out
    ∷ closed_at shown (closed_one lent closed_nat8) (Some 5)
    ∷ closed_at ordered (closed_one option closed_nat8) (Some 6)
    ∷ closed_at ordered (closed_one option truth) None
    ∷ closed_at ordered (closed_two pair text (closed_one option closed_nat8)) (Some 7)
    ∷ closed_at ordered (closed_two pair closed_nat8 closed_nat8) None
    ∷ closed_at shown (reads closed_nat8) None
    ∷ []

-- ---- which pair is lacking first, where T is Free and these constraints of it are known

pub record LackingExample : Type 0 where
  pub known : Known
  pub class : DeclAt
  pub of : Meaning
  pub lacks : Option Pair

abbrev pub lacks_at : DeclAt → Meaning → Option Pair → LackingExample
lacks_at class of lacks = record { known = (codes "T", shown) ∷ []; class = class; of = of; lacks = lacks }

abbrev pub lacking_examples : List LackingExample
lacking_examples =
    lacks_at shown nat8 None
    ∷ lacks_at shown nat16 (Some (shown, nat16))
    ∷ lacks_at shown (of_one option (of_one option nat16)) (Some (shown, nat16))
    ∷ lacks_at shown t None
    ∷ lacks_at ordered t (Some (ordered, t))
    ∷ lacks_at shown (of_one option t) None
    ∷ record { known = []; class = shown; of = of_one option t; lacks = Some (shown, t) }
    -- the parameters are asked in the order of the instance, not of the type
    ∷ lacks_at ordered (of_two pair nat16 whole.truth) (Some (ordered, whole.truth))
    ∷ lacks_at ordered (of_two pair nat16 (of_one option nat8)) (Some (shown, nat16))
    ∷ lacks_at ordered (of_two pair whole.text (of_one option nat8)) None
    ∷ lacks_at shown (of_one option (of_one box nat8)) (Some (shown, of_one option (of_one box nat8)))
    ∷ lacks_at shown (lent_for (codes "R") nat16) (Some (shown, nat16))
    ∷ []
