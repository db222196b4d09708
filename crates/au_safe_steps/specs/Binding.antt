-- Values that are bound by the names of fields, and arguments that are brought into the order of parameters.
use Rattle.std.specs.Prelude.{◌≡◌, ◌⊎◌, List, [], ◌∷◌, length, map, Some}
use Rattle.au_syntax.specs.Plain.{Bytes}
use Rattle.au_syntax.specs.Types.{Bound}
use Rattle.au_types.specs.Types.{Meaning}
use Rattle.au_memory.specs.Forests.{Made}
use Rattle.au_meaning.specs.Acts.{bound_counted, by_labels}
use Rattle.au_meaning.specs.Expressions.{labelled}
use Rattle.au_meaning.specs.Views.{Field}
use Rattle.au_meaning.specs.Worlds.{Value}
use Rattle.au_safe_acts.specs.Making.{values_of}
use Rattle.au_safe_steps.specs.Orders.{AreApart, IsReordered}

-- ---- what stands under a name

-- Of values under names, this is the one under this name, which is the first that has it.
abbrev pub IsUnder : Bytes → List Bytes → Made → Value × Meaning → Type 0
IsUnder name [] vs one = ⊥
IsUnder name (n ∷ names) [] one = ⊥
IsUnder name (n ∷ names) (v ∷ vs) one =
    ((name ≡ n) × (one ≡ v)) ⊎ ((name ≡ n → ⊥) × IsUnder name names vs one)

-- the same of several names
abbrev pub AreUnder : List Bytes → List Bytes → Made → Made → Type 0
AreUnder [] names vs [] = Unit {0}
AreUnder [] names vs (one ∷ others) = ⊥
AreUnder (name ∷ wanted) names vs [] = ⊥
AreUnder (name ∷ wanted) names vs (one ∷ others) = IsUnder name names vs one × AreUnder wanted names vs others

-- ---- fields and labels

abbrev pub field_names : List Field → List Bytes
field_names fields = map (λ (one : Field). one.name) fields

abbrev pub bound_fields : List (Bound Bytes) → List Bytes
bound_fields binds = map (λ (one : Bound Bytes). one.name.name.name) binds

-- Where the names that are bound are those of the fields, in whatever order, and no two fields have one
-- name, the values that are bound are those of the fields in the order of the names that are bound.
abbrev pub FieldsAreBound : Type 0
FieldsAreBound =
    (fields : List Field) (parts : Made) (binds : List (Bound Bytes)) → length parts ≡ length fields
    → AreApart (field_names fields) → IsReordered (bound_fields binds) (field_names fields)
    → (bound : Made) × (bound_counted fields (values_of parts) binds ≡ Some (values_of bound))
    × IsReordered bound parts × AreUnder (bound_fields binds) (field_names fields) parts bound

-- So it is of labels and parameters.
abbrev pub LabelsAreOrdered : Type 0
LabelsAreOrdered =
    (labels params : List Bytes) (vs : Made) → length vs ≡ length labels → AreApart labels
    → IsReordered params labels
    → (ordered : Made) × (by_labels (labelled labels (values_of vs)) params ≡ Some (values_of ordered))
    × IsReordered ordered vs × AreUnder params labels vs ordered
