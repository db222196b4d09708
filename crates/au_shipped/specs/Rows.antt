-- What the rows of the shipped interfaces say. Everything in them has one and the same place.
use Rattle.std.specs.Prelude.{map, codes}
use Rattle.au_base.specs.declared.places.Pos.{Pos}
use Rattle.au_syntax.specs.Types.{WrittenType, Labelled}
use Rattle.au_syntax.specs.Modules.{InUniverse, Constrained, Header, Variant}
use Rattle.au_syntax.specs.Plain.{Bytes, PlainDeclaration}
use Rattle.au_shipped.specs.declared.rows.Shape.{Shape}
use Rattle.au_shipped.specs.declared.rows.Shape.TheVariants as shape
use Rattle.au_shipped.specs.declared.rows.Form.{Form}
use Rattle.au_shipped.specs.declared.rows.Form.TheVariants as form
use Rattle.au_shipped.specs.declared.rows.Takes.{Takes}
use Rattle.au_shipped.specs.declared.rows.Over.{Over}
use Rattle.au_shipped.specs.declared.rows.Case.{Case}
use Rattle.au_shipped.specs.declared.rows.Call.{Call}
use Rattle.au_shipped.specs.declared.rows.Row.{Row}
use Rattle.au_shipped.specs.declared.rows.Row.TheVariants as row
use Rattle.au_shipped.specs.Building as spec

module _ (at : Pos) where
  -- a type that isn't a reference
  abbrev pub shape_type : Shape → WrittenType
  shape_type (shape.Simple name) = spec.simple at name.now
  shape_type (shape.Applied name one) = spec.applied at name.now (spec.simple at one.now)
  shape_type (shape.AppliedToTwo name one other) =
      spec.applied_to_two at name.now (spec.simple at one.now) (spec.simple at other.now)

  -- a type
  abbrev pub form_type : Form → WrittenType
  form_type (form.Plain target) = shape_type target
  form_type (form.Reads target) = spec.reads at (shape_type target) (codes "R")
  form_type (form.Writes target) = spec.writes at (shape_type target) (codes "R")

  -- a parameter or a field
  abbrev pub taken : Takes → Labelled Bytes
  taken one = spec.takes at one.name.now (form_type one.of)

  -- a type parameter of a type or of a class
  abbrev pub ranged : Over → InUniverse Bytes
  ranged one = spec.over at one.name.now one.universe

  -- a type parameter behind `generic`
  abbrev pub generic : Over → Constrained Bytes
  generic one = spec.generic at one.name.now one.universe

  -- a case
  abbrev pub cased : Case → Variant Bytes
  cased one = spec.a_case at one.name.now (map taken one.fields.now)

  -- the head of a function or a method
  abbrev pub called : Call → Header Bytes
  called one = spec.signature at one.name.now (map taken one.parameters.now) (form_type one.gives)

  -- a declaration
  abbrev pub declared : Row → PlainDeclaration
  declared (row.Opaque name parameters universe) =
      spec.an_opaque at name.now (map ranged parameters.now) universe
  declared (row.Union name parameters universe cases) =
      spec.a_union at name.now (map ranged parameters.now) universe (map cased cases.now)
  declared (row.Function generics call) =
      spec.a_function at (map generic generics.now) call.name.now (map taken call.parameters.now)
      (form_type call.gives)
  declared (row.Class name parameter methods) =
      spec.a_class at name.now (ranged parameter) (map called methods.now)
  declared (row.Instance name of) = spec.an_instance at name.now (shape_type of)
