-- What the steps of the code say: what is read of a declaration, and the fields of types with arguments under
-- the substitution that these make.
use Rattle.std.specs.Prelude.{◌≡◌, ℕ, List, [], ◌∷◌, Option, None, Some, Vec, if◌then◌else◌, is_some, map}
use Rattle.std.specs.Borrow.{Bor}
use Rattle.std.specs.Global.{Global}
use Rattle.std.specs.Option.{option_map}
use Rattle.au_syntax.specs.contracts.parsed.ParsedPhase.TheImpl.{ghosts as parsed}
use Rattle.au_syntax.specs.declared.declarations.Signature.{Signature}
use Rattle.au_syntax.specs.declared.declarations.UnionCase.{UnionCase}
use Rattle.au_syntax.specs.declared.parsed.Parsed.{Parsed}
use Rattle.au_syntax.specs.Modules.{Header, Variant}
use Rattle.au_syntax.specs.Plain.{Bytes, plain_header, plain_variant}
use Rattle.au_syntax.specs.Types.{Labelled}
use Rattle.au_syntax.specs.Views.{header, variant}
use Rattle.au_types.specs.declared.parameters.Parameter.{Parameter}
use Rattle.au_types.specs.declared.types.DeclAt.{DeclAt}
use Rattle.au_types.specs.Types.{Argument}
use Rattle.au_matching.specs.Bindings.{Bindings, value_of, with_pair}
use Rattle.au_modules.specs.Programs.{ModuleParts}
use Rattle.au_names.specs.Owned.{target}
use Rattle.au_names.specs.Standing.{Standing, standing_at}
use Rattle.au_typing.specs.Scopes as scopes
use Rattle.au_typing.specs.Insides.{typed_under}
use Rattle.au_typing.specs.Written.{all_typed, followed}
use Rattle.au_sights.specs.declared.called.Case.{Case}
use Rattle.au_sights.specs.declared.called.Typed.{Typed}
use Rattle.au_sights.specs.Sights.{case_said, typed_said}

-- A declaration stands in a program: it has a number there.
abbrev pub Stands : List ModuleParts → Standing → Type 0
Stands program d = (at : DeclAt) × (standing_at program at ≡ Some d)

-- ---- what the code shows

-- fields or parameters with their types, if there are any
abbrev pub all_said : Option (Vec Typed Global) → Option (List scopes.Typed)
all_said found = option_map (λ (all : Vec Typed Global). map typed_said all.items) found

-- cases, if there are any
abbrev pub cases_said : Option (Vec Case Global) → Option (List scopes.Case)
cases_said found = option_map (λ (all : Vec Case Global). map case_said all.items) found

-- a case of a union that is written
abbrev pub variant_of : UnionCase Parsed (List ℕ) (Unit {0}) (Unit {0}) → Variant Bytes
variant_of one = plain_variant parsed.name_bytes (variant parsed one)

-- the cases of a union that are written
abbrev pub variants_of : List (UnionCase Parsed (List ℕ) (Unit {0}) (Unit {0})) → List (Variant Bytes)
variants_of all = map (plain_variant parsed.name_bytes) (map (variant parsed) all)

-- a case behind a reference, if there is one
abbrev pub variant_seen : Option (Bor (UnionCase Parsed (List ℕ) (Unit {0}) (Unit {0})))
    → Option (Variant Bytes)
variant_seen found =
    option_map (λ (b : Bor (UnionCase Parsed (List ℕ) (Unit {0}) (Unit {0}))). variant_of b.now) found

-- a method of a class that is written
abbrev pub method_of : Signature Parsed (List ℕ) (Unit {0}) (Unit {0}) → Header Bytes
method_of one = plain_header parsed.name_bytes (header parsed one)

-- the methods of a class that are written
abbrev pub methods_of : List (Signature Parsed (List ℕ) (Unit {0}) (Unit {0})) → List (Header Bytes)
methods_of all = map (plain_header parsed.name_bytes) (map (header parsed) all)

-- a method behind a reference, if there is one
abbrev pub method_seen : Option (Bor (Signature Parsed (List ℕ) (Unit {0}) (Unit {0})))
    → Option (Header Bytes)
method_seen found =
    option_map (λ (b : Bor (Signature Parsed (List ℕ) (Unit {0}) (Unit {0}))). method_of b.now) found

-- ---- arguments that are put one by one

-- a name stands for an argument, unless it stands for something already
abbrev pub put_first : List ℕ → Argument → Bindings → Bindings
put_first name one s = if is_some (value_of name s) then s else with_pair name one s

-- the same of a type parameter, if there is one
abbrev pub put_at : Option Parameter → Argument → Bindings → Bindings
put_at None one s = s
put_at (Some p) one s = put_first p.name one s

-- ---- fields and cases under a substitution

module _ (program : List ModuleParts) (d : Standing) (params : List Parameter) (s : Bindings) where
  -- fields with their types
  abbrev pub fields_by : List (Labelled Bytes) → Option (List scopes.Typed)
  fields_by fields = option_map (map (typed_under s)) (all_typed program d params fields)

  -- a case of the union of this number
  abbrev pub case_by : DeclAt → Variant Bytes → Option scopes.Case
  case_by at v =
      option_map (λ fields. record { target = target at.«module» v.name.name at.decl; fields = fields })
      (fields_by v.fields)

  -- cases in order, where all types of fields mean something
  abbrev pub cases_by : DeclAt → List (Variant Bytes) → Option (List scopes.Case)
  cases_by at [] = Some []
  cases_by at (v ∷ rest) = followed (case_by at v) (cases_by at rest)
