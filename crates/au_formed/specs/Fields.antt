-- Whether the fields of records and unions fit the universes that these are declared in, and whether unions
-- have cases.
use Rattle.std.specs.Prelude.{Bool, true, false, not, List, [], Option, None, Some}
use Rattle.au_base.specs.declared.places.Pos.{Pos}
use Rattle.au_syntax.specs.declared.declarations.Universe.{Universe}
use Rattle.au_syntax.specs.declared.declarations.Universe.TheVariants as universes
use Rattle.au_syntax.specs.Modules.{Variant, record_type, union_type}
use Rattle.au_syntax.specs.Plain.{Bytes, PlainDeclaration}
use Rattle.au_syntax.specs.Types.{Labelled, WrittenType}
use Rattle.au_types.specs.Types.{Meaning}
use Rattle.au_judged_types.specs.Reasons.{Outcome, means, fails}
use Rattle.au_imports.specs.Choices.{first_of, where_so}
use Rattle.au_matching.specs.declared.universes.TypeUniverse.{TypeUniverse}
use Rattle.au_matching.specs.Universes.{is_free, is_linear}

-- what is declared in a universe may hold a field of this one: what is Free holds Free fields, what is `Type`
-- holds no Linear field, and what is Linear holds any
abbrev pub holds : Universe → TypeUniverse → Bool
holds universes.Free field = is_free field
holds universes.AnyType field = not (is_linear field)
holds universe field = true

-- by what a written type is judged to mean, and by the universe of a type
module _ (judge : WrittenType → Outcome Meaning) (universe_of : Meaning → TypeUniverse) where
  -- whether a type is above a universe that it is held in
  abbrev pub is_above : Universe → Outcome Meaning → Bool
  is_above universe (means t) = not (holds universe (universe_of t))
  is_above universe (fails why) = false

  -- the place of a field that is above
  abbrev pub above_place : Universe → Labelled Bytes → Option Pos
  above_place universe field = where_so (is_above universe (judge field.of)) field.name.at

  -- the place of the first that is
  abbrev pub first_above : Universe → List (Labelled Bytes) → Option Pos
  first_above universe fields = first_of (above_place universe) fields

  -- the same in a case of a union
  abbrev pub case_above : Universe → Variant Bytes → Option Pos
  case_above universe one = first_above universe one.fields

  -- the same in several cases
  abbrev pub cases_above : Universe → List (Variant Bytes) → Option Pos
  cases_above universe cases = first_of (case_above universe) cases

  -- the place of the first field of a record or a union that is above its universe
  abbrev pub field_above : PlainDeclaration → Option Pos
  field_above (record_type at name parameters universe fields) = first_above universe fields
  field_above (union_type at name parameters universe cases) = cases_above universe cases
  field_above other = None

-- the place of a union with these cases, if there are none
abbrev pub without_case : Pos → List (Variant Bytes) → Option Pos
without_case at [] = Some at
without_case at cases = None

-- the place of a union without a case
abbrev pub empty_union : PlainDeclaration → Option Pos
empty_union (union_type at name parameters universe cases) = without_case at cases
empty_union other = None
