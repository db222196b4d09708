-- What heads a type: a built-in type or a declared one. Nothing heads a type parameter or a reference.
use Rattle.std.specs.Prelude.{Bool, true, false, Option, None, Some}
use denote.Enum.Bare.{sameb}
use Rattle.au_base.specs.contracts.kinds.IntKind.{the_type as kind}
use Rattle.au_types.specs.Rows.{same_place}
use Rattle.au_types.specs.Types.{Meaning, unit, truth, integer, text, parameter, named, reads, writes}
use Rattle.au_type_texts.specs.Types as closed
use Rattle.au_type_texts.specs.Types.{ClosedType}
use Rattle.au_instances.specs.declared.constructors.Constructor.{Constructor}
use Rattle.au_instances.specs.declared.constructors.Constructor.TheVariants as constructors

-- a type
abbrev pub constructor_of : Meaning → Option Constructor
constructor_of unit = Some constructors.Unit
constructor_of truth = Some constructors.Bool
constructor_of (integer of) = Some (constructors.Int of)
constructor_of text = Some constructors.Text
constructor_of (parameter name) = None
constructor_of (named at args) = Some (constructors.Declared at)
constructor_of (reads to region) = None
constructor_of (writes to region) = None

-- a closed type
abbrev pub closed_constructor : ClosedType → Option Constructor
closed_constructor closed.unit = Some constructors.Unit
closed_constructor closed.truth = Some constructors.Bool
closed_constructor (closed.integer of) = Some (constructors.Int of)
closed_constructor closed.text = Some constructors.Text
closed_constructor (closed.named at args) = Some (constructors.Declared at)
closed_constructor (closed.reads to) = None
closed_constructor (closed.writes to) = None

-- whether two constructors are one
abbrev pub same_constructor : Constructor → Constructor → Bool
same_constructor constructors.Unit constructors.Unit = true
same_constructor constructors.Bool constructors.Bool = true
same_constructor (constructors.Int a) (constructors.Int b) = sameb kind a b
same_constructor constructors.Text constructors.Text = true
same_constructor (constructors.Declared a) (constructors.Declared b) = same_place a b
same_constructor one other = false

-- whether that is a constructor, and this one
abbrev pub is_constructor : Constructor → Option Constructor → Bool
is_constructor one None = false
is_constructor one (Some other) = same_constructor one other
