-- The limits of declarations: how many type parameters, parameters, fields and cases there may be.
use Rattle.std.specs.Prelude.{ℕ, ◌+◌, Bool, List, [], ◌∷◌, ◌++◌, Option, find}
use Rattle.std.specs.List.{flat_map}
use Rattle.std.specs.Prelude.{nat_lt, Some, None, if◌then◌else◌}
use Rattle.au_base.specs.declared.limits.Limit.{Limit}
use Rattle.au_base.specs.declared.limits.LimitKind.{LimitKind}
use Rattle.au_base.specs.declared.limits.LimitKind.TheVariants.{Parameters, Fields, Cases, TypeParameters}
use Rattle.au_syntax.specs.Modules.{Header, Variant, constant, opaque_type, record_type, union_type, function}
use Rattle.au_syntax.specs.Modules.{class, instance, constant_body, function_body, instance_body}
use Rattle.au_syntax.specs.Plain.{Bytes, PlainMethod, PlainDeclaration}

-- the most parameters of a function or method
abbrev pub most_parameters : ℕ
most_parameters = 32

-- the most fields of a record or of a case
abbrev pub most_fields : ℕ
most_fields = 64

-- the most cases of a union
abbrev pub most_cases : ℕ
most_cases = 256

-- the most type parameters of a declaration
abbrev pub most_type_parameters : ℕ
most_type_parameters = 8

-- Things that are counted together, in order: each with its kind, its number and how many there may be.
-- So many were counted before them.
abbrev pub numbered : {A : Type 0} → LimitKind → ℕ → ℕ → List A → List Limit
numbered kind most before [] = []
numbered kind most before (x ∷ xs) =
    record { kind = kind; count = before + 1; most = most } ∷ numbered kind most (before + 1) xs

-- type parameters
abbrev pub counted_type_parameters : {A : Type 0} → List A → List Limit
counted_type_parameters parameters = numbered TypeParameters most_type_parameters 0 parameters

-- the parameters of a function or method
abbrev pub counted_parameters : Header Bytes → List Limit
counted_parameters h = numbered Parameters most_parameters 0 h.parameters

-- the parameters of a method with its body
abbrev pub counted_method : PlainMethod → List Limit
counted_method m = counted_parameters m.header

-- the fields of a record or of a case
abbrev pub counted_fields : {A : Type 0} → List A → List Limit
counted_fields fields = numbered Fields most_fields 0 fields

-- cases, each before its own fields; so many cases were counted before them
abbrev pub counted_cases : ℕ → List (Variant Bytes) → List Limit
counted_cases before [] = []
counted_cases before (one ∷ cases) =
    record { kind = Cases; count = before + 1; most = most_cases }
    ∷ (counted_fields one.fields ++ counted_cases (before + 1) cases)

-- All that is counted in a declaration, in the order of the text. A class has one type parameter.
abbrev pub counted : PlainDeclaration → List Limit
counted (constant at name t) = []
counted (opaque_type at name parameters universe) = counted_type_parameters parameters
counted (record_type at name parameters universe fields) =
    counted_type_parameters parameters ++ counted_fields fields
counted (union_type at name parameters universe cases) =
    counted_type_parameters parameters ++ counted_cases 0 cases
counted (function at generics header) = counted_type_parameters generics ++ counted_parameters header
counted (class at name parameter methods) = flat_map counted_parameters methods
counted (instance at generics name t) = counted_type_parameters generics
counted (constant_body at name t e) = []
counted (function_body at generics header body stop) =
    counted_type_parameters generics ++ counted_parameters header
counted (instance_body at generics name t methods) =
    counted_type_parameters generics ++ flat_map counted_method methods

-- what is counted has a greater number than there may be
abbrev pub passes : Limit → Bool
passes l = nat_lt l.most l.count

-- the first that has, which tells the limit that is passed, and with which count
abbrev pub first_passed : List Limit → Option Limit
first_passed counts = find passes counts

-- the limit that a declaration passes, the first in the order of the text
unfoldable pub limit_of : PlainDeclaration → Option Limit
limit_of d = first_passed (counted d)

-- the limit that a file passes, the first in the order of the text
abbrev pub limit_in : List PlainDeclaration → Option Limit
limit_in declarations = first_passed (flat_map counted declarations)

-- the limit that so many things pass, of which there may be most
abbrev pub over : LimitKind → ℕ → ℕ → Option Limit
over kind most number =
    if nat_lt most number then Some (record { kind = kind; count = most + 1; most = most }) else None
