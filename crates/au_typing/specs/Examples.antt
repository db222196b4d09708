-- A small program of three modules, and by hand what is seen of it in its parts.
use Rattle.std.specs.Prelude.{ℕ, List, [], ◌∷◌, Option, None, Some, codes}
use Rattle.au_base.specs.declared.kinds.IntKind.TheVariants as kinds
use Rattle.au_base.specs.declared.places.Pos.{Pos}
use Rattle.au_syntax.specs.declared.declarations.Universe.{Universe}
use Rattle.au_syntax.specs.declared.declarations.Universe.TheVariants as universes
use Rattle.au_syntax.specs.declared.modules.Part.{Part}
use Rattle.au_syntax.specs.declared.modules.Part.TheVariants.{Interface, Body}
use Rattle.au_syntax.specs.declared.types.Access.TheVariants as accesses
use Rattle.au_syntax.specs.Expressions.{nil}
use Rattle.au_syntax.specs.Modules.{Constrained, Header, Importing, InUniverse, Variant}
use Rattle.au_syntax.specs.Modules.{class, constant, constant_body, function, function_body}
use Rattle.au_syntax.specs.Modules.{opaque_type, record_type, union_type}
use Rattle.au_syntax.specs.Names.{Placed, Renaming}
use Rattle.au_syntax.specs.Plain.{Bytes, PlainDeclaration, PlainExpression}
use Rattle.au_syntax.specs.Statements.{no_statements}
use Rattle.au_syntax.specs.Types as written
use Rattle.au_syntax.specs.Types.{Labelled, WrittenType, WrittenTypes}
use Rattle.au_types.specs.declared.types.DeclAt.{DeclAt}
use Rattle.au_types.specs.declared.types.Region.{Region}
use Rattle.au_types.specs.declared.types.Region.TheVariants as regions
use Rattle.au_types.specs.Types.{Meaning, integer, named, parameter, reads, unit}
use Rattle.au_types.specs.Types.{arguments, in_region, no_arguments, of_type}
use Rattle.au_modules.specs.Programs.{Entry, ModuleParts}
use Rattle.au_names.specs.declared.targets.Target.{Target}
use Rattle.au_judged_types.specs.Bounds.{Bounded}
use Rattle.au_typing.specs.Scopes.{Callable, Case, Typed}

-- ---- what is written

abbrev pub here : Pos
here = record { file = 0; line = 1; column = 1 }

abbrev pub put : Bytes → Placed Bytes
put name = record { name = name; at = here }

-- a type of a name alone, and one with an argument
abbrev pub plain : Bytes → WrittenType
plain name = written.named (put name) written.no_types

abbrev pub over : Bytes → WrittenType → WrittenType
over name one = written.named (put name) (written.types one written.no_types)

-- a reference for reading
abbrev pub read_of : WrittenType → Bytes → WrittenType
read_of t region = written.reference here accesses.Read t (put region)

abbrev pub labelled : Bytes → WrittenType → Labelled Bytes
labelled name t = record { name = put name; of = t }

abbrev pub in_universe : Bytes → Universe → InUniverse Bytes
in_universe name universe = record { name = put name; universe = universe }

-- `generic [T: Type]` of a type
abbrev pub t_type : List (InUniverse Bytes)
t_type = in_universe (codes "T") universes.AnyType ∷ []

abbrev pub header : Bytes → List (Labelled Bytes) → WrittenType → Header Bytes
header name parameters result = record { name = put name; parameters = parameters; result = result }

abbrev pub a_case : Bytes → List (Labelled Bytes) → Variant Bytes
a_case name fields = record { name = put name; fields = fields }

abbrev pub item : Bytes → Renaming Bytes
item name = record { name = put name; alias = None }

abbrev pub item_as : Bytes → Bytes → Renaming Bytes
item_as name alias = record { name = put name; alias = Some (put alias) }

abbrev pub a_file : Part → Bytes → List (Importing Bytes) → List PlainDeclaration → Entry
a_file part name imports declarations = record {
  file = 0;
  tree = record {
    imports = imports;
    at = here;
    part = part;
    name = put name ∷ [];
    pragma = None;
    declarations = declarations;
  };
}

abbrev pub nothing : PlainExpression
nothing = nil (record { at = here; note = tt })

-- ---- the program

-- a union over a type parameter, and a class
abbrev pub first_interface : List PlainDeclaration
first_interface =
    union_type here (put (codes "Option")) t_type universes.AnyType
    (
    a_case (codes "None") []
    ∷ a_case (codes "Some") (labelled (codes "value") (plain (codes "T")) ∷ [])
    ∷ []
    )
    ∷ class here (put (codes "Shown")) (in_universe (codes "T") universes.Free)
    (header (codes "show") (labelled (codes "t") (plain (codes "T")) ∷ []) (plain (codes "Unit")) ∷ [])
    ∷ []

-- a function over a type parameter with a class
abbrev pub generics : List (Constrained Bytes)
generics = record {
  parameter = in_universe (codes "T") universes.Free;
  classes = put (codes "Shown") ∷ [];
} ∷ []

abbrev pub same_header : Header Bytes
same_header = header (codes "same") (labelled (codes "t") (plain (codes "T")) ∷ []) (plain (codes "T"))

-- an opaque type, a record, a constant and the function
abbrev pub store_interface : List PlainDeclaration
store_interface =
    opaque_type here (put (codes "Pair")) t_type universes.AnyType
    ∷ record_type here (put (codes "Point")) [] universes.Free
    (
    labelled (codes "x") (plain (codes "Nat8"))
    ∷ labelled (codes "y") (over (codes "Option") (plain (codes "Nat8")))
    ∷ []
    )
    ∷ constant here (put (codes "least")) (plain (codes "Nat16"))
    ∷ function here generics same_header
    ∷ []

-- what they are
abbrev pub store_body : List PlainDeclaration
store_body =
    constant_body here (put (codes "least")) (plain (codes "Nat16")) nothing
    ∷ record_type here (put (codes "Pair")) t_type universes.AnyType
    (labelled (codes "left") (plain (codes "T")) ∷ labelled (codes "right") (plain (codes "Point")) ∷ [])
    ∷ function_body here generics same_header no_statements here
    ∷ []

-- a module that imports them, the record under another name
abbrev pub import_of_store : Importing Bytes
import_of_store = record {
  at = here;
  from = put (codes "Store") ∷ [];
  items =
      item (codes "Pair")
      ∷ item_as (codes "Point") (codes "Dot")
      ∷ item (codes "least")
      ∷ item (codes "same")
      ∷ [];
}

-- a record over a region, which has the name of the type that isn't imported under its own
abbrev pub main_body : List PlainDeclaration
main_body =
    record_type here (put (codes "Point")) (in_universe (codes "R") universes.Region ∷ []) universes.Free
    (labelled (codes "behind") (read_of (plain (codes "Dot")) (codes "R")) ∷ [])
    ∷ []

abbrev pub program : List ModuleParts
program =
    record {
      name = codes "Austral.Pervasive";
      interface = Some (a_file Interface (codes "Austral.Pervasive") [] first_interface);
      body = None;
    }
    ∷ record {
      name = codes "Store";
      interface = Some (a_file Interface (codes "Store") [] store_interface);
      body = Some (a_file Body (codes "Store") [] store_body);
    }
    ∷ record {
      name = codes "Main";
      interface = None;
      body = Some (a_file Body (codes "Main") (import_of_store ∷ []) main_body);
    }
    ∷ []

-- ---- what is meant

abbrev pub place : ℕ → ℕ → DeclAt
place «module» decl = record { «module» = «module»; decl = decl }

-- the class, and a type
abbrev pub shown : DeclAt
shown = place 0 1

abbrev pub some_type : DeclAt
some_type = place 1 1

abbrev pub nat8 : Meaning
nat8 = integer kinds.Nat8

abbrev pub t : Meaning
t = parameter (codes "T")

abbrev pub option_of : Meaning → Meaning
option_of one = named (place 0 0) (arguments (of_type one) no_arguments)

-- the opaque type has the number of the interface's declaration
abbrev pub pair_of : Meaning → Meaning
pair_of one = named (place 1 0) (arguments (of_type one) no_arguments)

abbrev pub point : Meaning
point = named (place 1 1) no_arguments

abbrev pub lent_point : Region → Meaning
lent_point region = named (place 2 0) (arguments (in_region region) no_arguments)

abbrev pub typed : Bytes → Meaning → Typed
typed name of = record { name = name; of = of }

abbrev pub bounded : Universe → List DeclAt → List Bounded
bounded universe classes = record {
  parameter = record { name = codes "T"; universe = universe };
  classes = classes;
} ∷ []

abbrev pub called : List Bounded → List Typed → Meaning → Option (Bytes × DeclAt) → Option Callable
called generics given result its_class = Some (record {
  generics = generics;
  parameters = given;
  result = result;
  class = its_class;
})

-- ---- what names mean that are called

pub record CallableExample : Type 0 where
  pub place : ℕ
  pub part : Part
  pub name : Bytes
  pub is : Option Callable

abbrev pub call_of : ℕ → Part → Bytes → Option Callable → CallableExample
call_of place part name is = record { place = place; part = part; name = name; is = is }

abbrev pub any_type : List Bounded
any_type = bounded universes.AnyType []

-- what makes a pair
abbrev pub pair_maker : Option Callable
pair_maker = called any_type (typed (codes "left") t ∷ typed (codes "right") point ∷ []) (pair_of t) None

abbrev pub point_maker : Option Callable
point_maker = called [] (typed (codes "x") nat8 ∷ typed (codes "y") (option_of nat8) ∷ []) point None

abbrev pub over_region : List Bounded
over_region = record {
  parameter = record { name = codes "R"; universe = universes.Region };
  classes = [];
} ∷ []

-- its field
abbrev pub behind : Region → List Typed
behind region = typed (codes "behind") (reads point region) ∷ []

abbrev pub lent_maker : Option Callable
lent_maker =
    called over_region (behind (regions.Named (codes "R"))) (lent_point (regions.Named (codes "R"))) None

-- a parameter of the type of the type parameter
abbrev pub one_t : List Typed
one_t = typed (codes "t") t ∷ []

-- the type parameter of the class and the class
abbrev pub of_shown : Option (Bytes × DeclAt)
of_shown = Some (codes "T", place 0 1)

abbrev pub callable_examples : List CallableExample
callable_examples =
    -- the constructor of an opaque type, in both parts of its module and in none of another
    call_of 1 Interface (codes "Pair") pair_maker
    ∷ call_of 1 Body (codes "Pair") pair_maker
    ∷ call_of 2 Body (codes "Pair") None
    -- that of a record, under the name that an import gives it
    ∷ call_of 1 Body (codes "Point") point_maker
    ∷ call_of 2 Body (codes "Dot") point_maker
    -- that of another record, over a region
    ∷ call_of 2 Body (codes "Point") lent_maker
    -- the cases of a union
    ∷ call_of 2 Body (codes "None") (called any_type [] (option_of t) None)
    ∷ call_of 1 Interface (codes "Some") (called any_type (typed (codes "value") t ∷ []) (option_of t) None)
    -- a method
    ∷ call_of 2 Body (codes "show") (called (bounded universes.Free []) one_t unit of_shown)
    -- a function, with the class of its type parameter
    ∷ call_of 2 Body (codes "same") (called (bounded universes.Free (place 0 1 ∷ [])) one_t t None)
    -- a type alone, a constant, what means nothing, and a module that isn't there
    ∷ call_of 2 Body (codes "Option") None
    ∷ call_of 2 Body (codes "least") None
    ∷ call_of 2 Body (codes "other") None
    ∷ call_of 3 Body (codes "Some") None
    ∷ []

-- ---- the types of constants

pub record ConstantExample : Type 0 where
  pub place : ℕ
  pub part : Part
  pub name : Bytes
  pub is : Option Meaning

abbrev pub constant_of : ℕ → Part → Bytes → Option Meaning → ConstantExample
constant_of place part name is = record { place = place; part = part; name = name; is = is }

abbrev pub constant_examples : List ConstantExample
constant_examples =
    constant_of 1 Body (codes "least") (Some (integer kinds.Nat16))
    ∷ constant_of 2 Body (codes "least") (Some (integer kinds.Nat16))
    ∷ constant_of 0 Interface (codes "least") None
    ∷ constant_of 2 Body (codes "same") None
    ∷ []

-- ---- what a name after `when` means

pub record TargetExample : Type 0 where
  pub place : ℕ
  pub part : Part
  pub name : Bytes
  pub is : Option Target

abbrev pub target_of : ℕ → Part → Bytes → Option Target → TargetExample
target_of place part name is = record { place = place; part = part; name = name; is = is }

abbrev pub a_target : ℕ → ℕ → Bytes → Target
a_target «module» decl name = record { at = place «module» decl; name = name }

abbrev pub target_examples : List TargetExample
target_examples =
    target_of 2 Body (codes "Some") (Some (a_target 0 0 (codes "Some")))
    ∷ target_of 2 Body (codes "Dot") (Some (a_target 1 1 (codes "Point")))
    -- the record of an opaque type stands in the body, the sixth declaration of its module
    ∷ target_of 1 Interface (codes "Pair") (Some (a_target 1 5 (codes "Pair")))
    ∷ target_of 2 Body (codes "Pair") None
    ∷ []

-- ---- fields and cases of types

pub record FieldExample : Type 0 where
  pub place : ℕ
  pub of : Meaning
  pub is : Option (List Typed)

abbrev pub fields_at : ℕ → Meaning → Option (List Typed) → FieldExample
fields_at place of is = record { place = place; of = of; is = is }

abbrev pub field_examples : List FieldExample
field_examples =
    -- an opaque type, in its module and in another
    fields_at 1 (pair_of nat8) (Some (typed (codes "left") nat8 ∷ typed (codes "right") point ∷ []))
    ∷ fields_at 2 (pair_of nat8) None
    -- a record, also where its name isn't imported
    ∷ fields_at 2 point (Some (typed (codes "x") nat8 ∷ typed (codes "y") (option_of nat8) ∷ []))
    ∷ fields_at 0 point (Some (typed (codes "x") nat8 ∷ typed (codes "y") (option_of nat8) ∷ []))
    -- a record over a region
    ∷ fields_at 1 (lent_point regions.Static) (Some (behind regions.Static))
    -- no record
    ∷ fields_at 2 (option_of nat8) None
    ∷ fields_at 2 nat8 None
    ∷ []

pub record CasesExample : Type 0 where
  pub place : ℕ
  pub of : Meaning
  pub is : Option (List Case)

abbrev pub cases_at : ℕ → Meaning → Option (List Case) → CasesExample
cases_at place of is = record { place = place; of = of; is = is }

abbrev pub case_with : Bytes → List Typed → Case
case_with name fields = record { target = a_target 0 0 name; fields = fields }

abbrev pub cases_examples : List CasesExample
cases_examples =
    cases_at 2 (option_of (pair_of t)) (Some (
    case_with (codes "None") []
    ∷ case_with (codes "Some") (typed (codes "value") (pair_of t) ∷ [])
    ∷ []
    ))
    -- no union
    ∷ cases_at 1 (pair_of nat8) None
    ∷ cases_at 2 point None
    ∷ cases_at 2 unit None
    ∷ []
