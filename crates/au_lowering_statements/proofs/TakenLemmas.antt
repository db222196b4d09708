-- The fields that are bound, from a value itself or through a reference.
use Rattle.std.proofs.Common.{◌≡◌, ℕ, ◌+◌, Bool, true, false, List, [], ◌∷◌, length, map, Option, Some, None}
use Rattle.std.proofs.Common.{refl, sym, ap, ◌∙◌}
use Rattle.std.specs.Prelude.{if◌then◌else◌}
use Rattle.std.specs.Option.{option_map}
use Rattle.std.specs.Str.{bytes_eq}
use Rattle.std.proofs.lemmas.List.{length-map}
use Rattle.au_type_texts.specs.Types as types
use Rattle.au_type_texts.specs.Types.{ClosedType}
use Rattle.au_type_texts.specs.Views.{closed_meaning}
use Rattle.au_closed_meanings.specs.Surroundings.{Surroundings, field_in, fields_in, known as round_known}
use Rattle.au_lowered.specs.Slots as slots
use Rattle.au_lowering_statements.specs.declared.taking.Taken.{Taken}
use Rattle.au_lowering_statements.specs.Views.{access_behind, fields_taken, reached}
use Rattle.au_lowering_statements.proofs.BlockLemmas.{field_known}
use Rattle.au_meaning.specs.Names.{field_from, field_of, fields_through}
use Rattle.au_meaning.specs.Views.{Field}
use Rattle.au_syntax.specs.declared.types.Access.{Access}
use Rattle.au_syntax.specs.Plain.{Bytes}

-- a field as it is reached, and one that was found
abbrev pub reached_field : Option Access → Field → Field
reached_field through field = record field { of = reached through field.of }

abbrev pub reached_found : Option Access → ℕ × ClosedType → ℕ × ClosedType
reached_found through found = (found.0, reached through found.1)

-- the field of a name among fields that are reached
field_reached : (through : Option Access) (number : ℕ) (name : Bytes) (fields : List Field)
    → field_from number name (map (reached_field through) fields)
    ≡ option_map (reached_found through) (field_from number name fields)
field_reached through number name [] = refl
field_reached through number name (one ∷ rest) =
    by (bytes_eq one.name name) (field_reached through (number + 1) name rest)
  where
    by : (b : Bool) → field_from (number + 1) name (map (reached_field through) rest)
        ≡ option_map (reached_found through) (field_from (number + 1) name rest)
        → (if b then Some (number, reached through one.of)
        else field_from (number + 1) name (map (reached_field through) rest))
        ≡ option_map (reached_found through)
        (if b then Some (number, one.of) else field_from (number + 1) name rest)
    by true later = refl
    by false later = later

pub taken_found : (round : Surroundings) (taken : Taken) (name : Bytes) (found : Option (ℕ × ClosedType))
    → found ≡ field_in round (closed_meaning taken.of.now) taken.tag name
    → option_map (reached_found taken.through) found ≡ field_of name (fields_taken round taken)
taken_found round taken name found is =
    let of = closed_meaning taken.of.now in
    ap (option_map (reached_found taken.through)) (is ∙ sym (field_known (round.fields of taken.tag) name))
    ∙ sym (field_reached taken.through 0 name (fields_in round of taken.tag))

-- fields that are reached through no reference
pub reached_same : (fields : List Field) → map (reached_field None) fields ≡ fields
reached_same [] = refl
reached_same (one ∷ rest) = ap (λ (more : List Field). one ∷ more) (reached_same rest)

-- the fields of a case, as they are reached through a type
pub through_same : (of : ClosedType) (fields : Option (List Field))
    → slots.known (fields_through of fields) ≡ map (reached_field (access_behind of)) (round_known fields)
through_same (types.reads of) None = refl
through_same (types.reads of) (Some all) = refl
through_same (types.writes of) None = refl
through_same (types.writes of) (Some all) = refl
through_same other None = refl
through_same other (Some all) = sym (reached_same all)

pub through_length : (of : ClosedType) (fields : Option (List Field))
    → length (slots.known (fields_through of fields)) ≡ length (round_known fields)
through_length of fields =
    ap length (through_same of fields) ∙ length-map (round_known fields) (reached_field (access_behind of))
