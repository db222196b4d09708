-- The rule on the instances of a program as it reads.
use Rattle.std.specs.Prelude.{◌≡◌, ◌⊎◌, List, [], ◌∷◌, ◌++◌, IsTrue, Option, Some, Contains}
use Rattle.au_syntax.specs.declared.modules.Part.TheVariants.{Body}
use Rattle.au_syntax.specs.Plain.{Bytes, PlainMethod}
use Rattle.au_types.specs.declared.types.DeclAt.{DeclAt}
use Rattle.au_matching.specs.Forming.{takes}
use Rattle.au_matching.specs.Universes.{universe_of}
use Rattle.au_modules.specs.Programs.{ModuleParts}
use Rattle.au_names.specs.HeadsOf.{heads_of}
use Rattle.au_judged_types.specs.Bounds.{parameters}
use Rattle.au_classes.specs.Texts.{InstanceText, instances_of}
use Rattle.au_instances.specs.Constructors.{constructor_of}
use Rattle.au_instances.specs.Forms.{HasForm}
use Rattle.au_instances.specs.Rows.{Row}
use Rattle.au_instances.specs.Tables.{AreApart}
use Rattle.au_classes.specs.Classes.{ClassText, class_at, visible_at}
use Rattle.au_classes.specs.Methods.{AreMethods}
use Rattle.au_classes.specs.Signatures.{given, wanted}
use Rattle.au_classes.specs.Faults.{home_of}
use Rattle.au_classes.specs.Rows.{row_of}

-- An instance of a program is good after others: it means a row, whose head has the form of a head and fits
-- the universe of the class's parameter; it stands in the module of its class or of its head type; no
-- instance before it is of its class with its head constructor; and its methods, where they are written,
-- are exactly those of its class.
pub record IsGood (program : List ModuleParts) (before : List InstanceText) (text : InstanceText) :
    Type 0 where
  -- its row, its class, and the names that the body of its module sees
  pub row : Row
  pub class : ClassText
  pub names : List (Bytes × DeclAt)
  pub reads : row_of program text ≡ Some row
  pub of_class : class_at program row.class ≡ Some class
  pub seen : visible_at program text.number.«module» Body ≡ Some names
  -- its head
  pub form : HasForm row.generics row.head
  pub fits : IsTrue (takes class.parameter.universe
      (universe_of (heads_of program) (parameters row.generics) row.head))
  -- where it stands
  pub home : (text.number.«module» ≡ row.class.«module») ⊎
      (text.number.«module» ≡ home_of (constructor_of row.head))
  -- the instances before it
  pub apart : (other : InstanceText) (its : Row) → Contains before other → row_of program other ≡ Some its
      → AreApart its row
  -- its methods
  pub methods : (methods : List PlainMethod) → text.methods ≡ Some methods
      → AreMethods (wanted (heads_of program) class row.head)
      (given (heads_of program) names (parameters row.generics)) class.methods methods

-- Each instance of a program is good after those before it.
abbrev pub InstancesAreGood : List ModuleParts → Type 0
InstancesAreGood program =
    (before after : List InstanceText) (text : InstanceText) → instances_of program ≡ before ++ text ∷ after
    → IsGood program before text
