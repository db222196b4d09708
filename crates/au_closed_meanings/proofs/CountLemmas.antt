-- The types that count: those of variables in scope, of fields, and of parts of records.
use Rattle.std.proofs.Common.{◌≡◌, ℕ, ◌+◌, Bool, true, false, List, [], ◌∷◌, Option, Some, None, refl, sym}
use Rattle.std.proofs.Common.{ap, ◌∙◌}
use Rattle.std.specs.Prelude.{cond, if◌then◌else◌, map, option_map}
use Rattle.std.specs.Str.{bytes_eq}
use Rattle.au_closed_trees.specs.Changes.{Change}
use Rattle.au_type_texts.specs.Types as types
use Rattle.au_type_texts.specs.Types.{ClosedType}
use Rattle.au_effects.specs.Parts.{along}
use Rattle.au_meaning.specs.Names.{Scope, Variable, variable_of, with_name, with_bound, with_parameters}
use Rattle.au_meaning.specs.Names.{bound_name, path_numbers, field_from, field_of, target_behind, borrowed}
use Rattle.au_meaning.specs.Names.{type_in, told_type, fields_through}
use Rattle.au_meaning.specs.Views.{Field, View}
use Rattle.au_closed_meanings.specs.Agreement.{AgreeOnTypes, Counts, FieldsCount, FoundCount, ScopeCounts}
use Rattle.au_syntax.specs.declared.expressions.BorrowMode.{BorrowMode}
use Rattle.au_syntax.specs.declared.expressions.BorrowMode.TheVariants as mode
use Rattle.au_syntax.specs.Plain.{Bytes}
use Rattle.au_syntax.specs.Types.{Bound}

module _ (known : ClosedType → Bool) where
  -- the variable that a name means has a type that counts, if it has a type
  abbrev pub VariableCounts : Option Variable → Type 0
  VariableCounts None = Unit {0}
  VariableCounts (Some x) = Counts known x.of

  -- the type of a field that is found counts
  abbrev pub FieldCounts : Option (ℕ × ClosedType) → Type 0
  FieldCounts None = Unit {0}
  FieldCounts (Some one) = known one.1 ≡ true

  pub variable_counts : (scope : Scope) → ScopeCounts known scope → (name : Bytes)
      → VariableCounts (variable_of scope name)
  variable_counts [] held name = tt
  variable_counts (x ∷ rest) held name = by (bytes_eq x.name name) held.0 (variable_counts rest held.1 name)
    where
      by : (b : Bool) → Counts known x.of → VariableCounts (variable_of rest name)
          → VariableCounts (cond b (Some x) (variable_of rest name))
      by true here later = here
      by false here later = later

  pub field_counts : (number : ℕ) (name : Bytes) (fields : List Field) → FieldsCount known fields
      → FieldCounts (field_from number name fields)
  field_counts number name [] held = tt
  field_counts number name (one ∷ rest) held =
      by (bytes_eq one.name name) held.0 (field_counts (number + 1) name rest held.1)
    where
      by : (b : Bool) → known one.of ≡ true → FieldCounts (field_from (number + 1) name rest)
          → FieldCounts (if b then Some (number, one.of) else field_from (number + 1) name rest)
      by true here later = here
      by false here later = later

  -- the type of the field of a name
  type_counts : (fields : Option (List Field)) → FoundCount known fields → (name : Bytes)
      → Counts known (option_map (λ (one : ℕ × ClosedType). one.1) (along fields (field_of name)))
  type_counts None c name = tt
  type_counts (Some fields) c name = by (field_of name fields) (field_counts 0 name fields c)
    where
      by : (f : Option (ℕ × ClosedType)) → FieldCounts f
          → Counts known (option_map (λ (one : ℕ × ClosedType). one.1) f)
      by None c = tt
      by (Some f) c = c

  -- fields that are bound
  pub bound_counts : (fields : Option (List Field)) → FoundCount known fields → (number : ℕ)
      → (binds : List (Bound Bytes)) (scope : Scope) → ScopeCounts known scope
      → ScopeCounts known (with_bound fields number binds scope)
  bound_counts fields c number [] scope held = held
  bound_counts fields c number (b ∷ rest) scope held =
      bound_counts fields c (number + 1) rest
      (with_name (bound_name b.name) number
      (option_map (λ (one : ℕ × ClosedType). one.1) (along fields (field_of b.name.name.name))) scope)
      (type_counts fields c b.name.name.name, held)

  -- parameters
  pub parameters_count : (number : ℕ) (params : List Field) → FieldsCount known params → (scope : Scope)
      → ScopeCounts known scope → ScopeCounts known (with_parameters number params scope)
  parameters_count number [] c scope held = held
  parameters_count number (p ∷ rest) c scope held =
      parameters_count (number + 1) rest c.1 (with_name p.name number (Some p.of) scope) (c.0, held)

-- a field, and then others after it
abbrev stepped : {I T C : Type 0} → View I T C → List Bytes → ℕ × ClosedType → Option (List ℕ)
stepped see names f =
    along (path_numbers (λ of. see.fields of 0) (Some f.1) names) (λ rest. Some (f.0 ∷ rest))

module _ {I J T C U D : Type 0} (known : ClosedType → Bool) (change : Change Bytes T C U D) (one : View I T C)
    (two : View J U D) (agree : AgreeOnTypes known change one two) where
  pub fields_by : (o : Option ClosedType) → Counts known o
      → along o (λ of. one.fields of 0) ≡ along o (λ of. two.fields of 0)
  fields_by None c = refl
  fields_by (Some of) c = agree.fields of c 0

  pub found_by : (o : Option ClosedType) → Counts known o
      → FoundCount known (along o (λ of. one.fields of 0))
  found_by None c = tt
  found_by (Some of) c = agree.inside of c 0

  -- the union that a `case` tells apart counts, and the fields that its arms bind
  told_counts : (of : ClosedType) → known of ≡ true → known (told_type of) ≡ true
  told_counts (types.reads of) c = sym (agree.references.reads of) ∙ c
  told_counts (types.writes of) c = sym (agree.references.writes of) ∙ c
  told_counts other c = c

  pub tags_by : (o : Option ClosedType) → Counts known o → (name : Bytes)
      → along o (λ of. one.tag (told_type of) name) ≡ along o (λ of. two.tag (told_type of) (change.arm name))
  tags_by None c name = refl
  tags_by (Some of) c name = agree.tags (told_type of) (told_counts of c) name

  pub told_by : (o : Option ClosedType) → Counts known o → (tag : ℕ)
      → along o (λ of. fields_through of (one.fields (told_type of) tag))
      ≡ along o (λ of. fields_through of (two.fields (told_type of) tag))
  told_by None c tag = refl
  told_by (Some of) c tag = ap (fields_through of) (agree.fields (told_type of) (told_counts of c) tag)

  reading_count : (fields : List Field) → FieldsCount known fields
      → FieldsCount known (map (λ (field : Field). record field { of = types.reads field.of }) fields)
  reading_count [] c = tt
  reading_count (field ∷ rest) c = (agree.references.reads field.of ∙ c.0, reading_count rest c.1)

  writing_count : (fields : List Field) → FieldsCount known fields
      → FieldsCount known (map (λ (field : Field). record field { of = types.writes field.of }) fields)
  writing_count [] c = tt
  writing_count (field ∷ rest) c = (agree.references.writes field.of ∙ c.0, writing_count rest c.1)

  through_count : (of : ClosedType) (fields : Option (List Field)) → FoundCount known fields
      → FoundCount known (fields_through of fields)
  through_count (types.reads of) None c = tt
  through_count (types.reads of) (Some fields) c = reading_count fields c
  through_count (types.writes of) None c = tt
  through_count (types.writes of) (Some fields) c = writing_count fields c
  through_count other fields c = c

  pub told_found : (o : Option ClosedType) → Counts known o → (tag : ℕ)
      → FoundCount known (along o (λ of. fields_through of (one.fields (told_type of) tag)))
  told_found None c tag = tt
  told_found (Some of) c tag =
      through_count of (one.fields (told_type of) tag) (agree.inside (told_type of) (told_counts of c) tag)

  step_same : (names : List Bytes)
      → ((of : ClosedType) → known of ≡ true
      → path_numbers (λ of. one.fields of 0) (Some of) names
      ≡ path_numbers (λ of. two.fields of 0) (Some of) names)
      → (f : Option (ℕ × ClosedType)) → FieldCounts known f → along f (stepped one names)
      ≡ along f (stepped two names)
  step_same names same None c = refl
  step_same names same (Some f) c = λ i. along (same f.1 c i) (λ rest. Some (f.0 ∷ rest))

  steps_same : (name : Bytes) (names : List Bytes)
      → ((of : ClosedType) → known of ≡ true
      → path_numbers (λ of. one.fields of 0) (Some of) names
      ≡ path_numbers (λ of. two.fields of 0) (Some of) names)
      → (fields : Option (List Field)) → FoundCount known fields
      → along (along fields (field_of name)) (stepped one names)
      ≡ along (along fields (field_of name)) (stepped two names)
  steps_same name names same None c = refl
  steps_same name names same (Some fields) c =
      step_same names same (field_of name fields) (field_counts known 0 name fields c)

  -- the numbers of fields along a path
  pub paths_same : (names : List Bytes) (o : Option ClosedType) → Counts known o
      → path_numbers (λ of. one.fields of 0) o names ≡ path_numbers (λ of. two.fields of 0) o names
  paths_same [] o c = refl
  paths_same (name ∷ names) None c = refl
  paths_same (name ∷ names) (Some of) c =
      steps_same name names (λ t there. paths_same names (Some t) there) (one.fields of 0)
      (agree.inside of c 0)
      ∙ ap (λ fields. along (along fields (field_of name)) (stepped two names)) (agree.fields of c 0)

  -- what stands behind a reference, and the reference that a borrow gives
  pub behind_counts : (o : Option ClosedType) → Counts known o → Counts known (target_behind o)
  behind_counts None c = tt
  behind_counts (Some (types.reads of)) c = sym (agree.references.reads of) ∙ c
  behind_counts (Some (types.writes of)) c = sym (agree.references.writes of) ∙ c
  behind_counts (Some other) c = tt

  borrowed_counts : (mode : BorrowMode) (o : Option ClosedType) → Counts known o
      → Counts known (borrowed mode o)
  borrowed_counts mode.Read None c = tt
  borrowed_counts mode.Read (Some of) c = agree.references.reads of ∙ c
  borrowed_counts mode.Write None c = tt
  borrowed_counts mode.Write (Some of) c = agree.references.writes of ∙ c
  borrowed_counts mode.Reborrow o c = c

  pub reference_counts : (mode : BorrowMode) (x : Option Variable) → VariableCounts known x
      → Counts known (borrowed mode (type_in x))
  reference_counts mode None c = borrowed_counts mode None tt
  reference_counts mode (Some x) c = borrowed_counts mode x.of c
