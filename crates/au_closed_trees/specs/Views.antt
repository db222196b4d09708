-- What the code's fields and cases say.
use Rattle.std.specs.Prelude.{List, map}
use Rattle.au_type_texts.specs.Views.{closed_meaning}
use Rattle.au_closed_trees.specs.declared.parts.ClosedCase as found_case
use Rattle.au_closed_trees.specs.declared.parts.ClosedField as found_field
use Rattle.au_closed_trees.specs.Parts.{ClosedCase, ClosedField}

-- a field
abbrev pub field_said : found_field.ClosedField → ClosedField
field_said one = record { name = one.name; of = closed_meaning one.of }

-- fields in order
abbrev pub fields_said : List found_field.ClosedField → List ClosedField
fields_said all = map field_said all

-- a case
abbrev pub case_said : found_case.ClosedCase → ClosedCase
case_said one = record { name = one.name; fields = fields_said one.fields.items }

-- cases in order
abbrev pub cases_said : List found_case.ClosedCase → List ClosedCase
cases_said all = map case_said all
