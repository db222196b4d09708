-- What the instances of a program are refused for: the first of them, in the order of the text, of which the
-- head isn't one, which stands in another module than its class and its head type do, which is for the class
-- and the head constructor of an earlier one, or whose methods aren't those of its class; and of one instance
-- the first of these.
use Rattle.std.specs.Prelude.{◌&&◌, ◌||◌, ◌==◌, ℕ, List, [], ◌∷◌, ◌++◌, Bool, false, true, Option, None}
use Rattle.std.specs.Prelude.{Some, if◌then◌else◌, slice_get}
use Rattle.std.specs.List.{find}
use Rattle.std.specs.Option.{option_map, option_or}
use Rattle.au_base.specs.declared.places.Pos.{Pos}
use Rattle.au_syntax.specs.declared.modules.Part.TheVariants.{Body}
use Rattle.au_syntax.specs.Plain.{Bytes, PlainMethod}
use Rattle.au_types.specs.declared.headings.Head.{Head}
use Rattle.au_types.specs.declared.types.DeclAt.{DeclAt}
use Rattle.au_matching.specs.Forming.{takes}
use Rattle.au_matching.specs.Universes.{universe_of}
use Rattle.au_modules.specs.Programs.{ModuleParts}
use Rattle.au_names.specs.HeadsOf.{heads_of}
use Rattle.au_judged_types.specs.Bounds.{parameters}
use Rattle.au_promises.specs.Agreeing.{visible}
use Rattle.au_classes.specs.Texts.{InstanceText, instances_of}
use Rattle.au_instances.specs.declared.constructors.Constructor.{Constructor}
use Rattle.au_instances.specs.declared.constructors.Constructor.TheVariants as constructors
use Rattle.au_instances.specs.Constructors.{constructor_of}
use Rattle.au_instances.specs.Forms.{has_form}
use Rattle.au_instances.specs.Rows.{Row}
use Rattle.au_instances.specs.Tables.{is_row_of}
use Rattle.au_classes.specs.Classes.{ClassText, class_at}
use Rattle.au_classes.specs.Methods.{are_methods}
use Rattle.au_classes.specs.Signatures.{given, wanted}
use Rattle.au_classes.specs.declared.faults.ClassFault.{ClassFault}
use Rattle.au_classes.specs.declared.faults.ClassFault.TheVariants.{BadHead, Orphan, Overlap, MethodDiffers}
use Rattle.au_classes.specs.Rows.{row_in, row_of}

-- ---- heads

-- the head of a row is one for its class: it has the form, and fits the universe of the class's parameter
abbrev pub is_head : List (DeclAt × Head) → ClassText → Row → Bool
is_head heads class row =
    has_form row.generics row.head
    && takes class.parameter.universe (universe_of heads (parameters row.generics) row.head)

-- ---- modules

-- the module of what heads a type: a declared type's own, and for what is built in that of the first place
abbrev pub home_of : Option Constructor → ℕ
home_of (Some (constructors.Declared at)) = at.«module»
home_of built_in = 0

-- a row may stand in the module at a place: its class or its head type does
abbrev pub is_home : ℕ → Row → Bool
is_home place row = (place == row.class.«module») || (place == home_of (constructor_of row.head))

-- ---- other instances

-- a row, with the place of its instance in the text
pub record Known : Type 0 where
  pub at : Pos
  pub row : Row

abbrev pub place_of : Known → Pos
place_of known = known.at

-- a row is of this class and has a head of this constructor, if there is one
abbrev pub is_like : DeclAt → Option Constructor → Known → Bool
is_like class None known = false
is_like class (Some constructor) known = is_row_of class constructor known.row

-- the first of these that is of the class and the constructor of a row
abbrev pub first_like : List Known → Row → Option Known
first_like known row = find (is_like row.class (constructor_of row.head)) known

-- ---- methods

-- methods, if any are written, are those of the class of a row
abbrev pub are_written : List (DeclAt × Head) → List (Bytes × DeclAt) → ClassText → Row →
    Option (List PlainMethod) → Bool
are_written heads names class row None = true
are_written heads names class row (Some methods) =
    are_methods (wanted heads class row.head) (given heads names (parameters row.generics))
    class.methods methods

-- ---- one instance

-- a fault, unless something holds
abbrev pub unless : Bool → ClassFault → Option ClassFault
unless holds fault = if holds then None else Some fault

-- an instance that overlaps one at this place, if there is one
abbrev pub overlap : Pos → Option Pos → Option ClassFault
overlap at earlier = option_map (Overlap at) earlier

-- over the rows of declared types, an instance and the rows of those before it
module _ (heads : List (DeclAt × Head)) (known : List Known) (text : InstanceText) where
  -- its methods, which stand in a body that sees these names
  abbrev pub methods_fault : List (Bytes × DeclAt) → Row → ClassText → Option ClassFault
  methods_fault names row class =
      unless (are_written heads names class row text.methods) (MethodDiffers text.at)

  -- its row and its class
  abbrev pub row_fault : List (Bytes × DeclAt) → Row → ClassText → Option ClassFault
  row_fault names row class =
      option_or (unless (is_head heads class row) (BadHead text.at))
      (option_or (unless (is_home text.number.«module» row) (Orphan text.at))
      (option_or (overlap text.at (option_map place_of (first_like known row)))
      (methods_fault names row class)))

  -- its row, and its class if that's there
  abbrev pub class_fault : List (Bytes × DeclAt) → Row → Option ClassText → Option ClassFault
  class_fault names row None = Some (BadHead text.at)
  class_fault names row (Some class) = row_fault names row class

  -- its row, if it has one, over a program
  abbrev pub read_fault : List ModuleParts → List (Bytes × DeclAt) → Option Row → Option ClassFault
  read_fault program names None = Some (BadHead text.at)
  read_fault program names (Some row) = class_fault names row (class_at program row.class)

-- an instance in its module, if that's there, after those that are known
abbrev pub module_fault : List ModuleParts → List Known → InstanceText → Option ModuleParts →
    Option ClassFault
module_fault program known text None = Some (BadHead text.at)
module_fault program known text (Some m) =
    read_fault (heads_of program) known text program (visible program text.number.«module» m Body)
    (row_in text (visible program text.number.«module» m text.part) (heads_of program))

-- what an instance of a program is refused for, after those that are known
abbrev pub fault_of : List ModuleParts → List Known → InstanceText → Option ClassFault
fault_of program known text = module_fault program known text (slice_get program text.number.«module»)

-- ---- all instances

-- the row of an instance with its place, if it has one
abbrev pub known_of : Pos → Option Row → List Known
known_of at None = []
known_of at (Some row) = record { at = at; row = row } ∷ []

-- what is known once an instance is read
abbrev pub with_text : List ModuleParts → List Known → InstanceText → List Known
with_text program known text = known ++ known_of text.at (row_of program text)

-- what is known once instances are read
unfoldable pub with_texts : List ModuleParts → List Known → List InstanceText → List Known
with_texts program known [] = known
with_texts program known (text ∷ texts) = with_texts program (with_text program known text) texts

-- the first of these instances that is refused, after those that are known
unfoldable pub first_fault : List ModuleParts → List Known → List InstanceText → Option ClassFault
first_fault program known [] = None
first_fault program known (text ∷ texts) =
    option_or (fault_of program known text) (first_fault program (with_text program known text) texts)

-- what the instances of a program are refused for
abbrev pub instance_fault : List ModuleParts → Option ClassFault
instance_fault program = first_fault program [] (instances_of program)
