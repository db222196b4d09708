-- What makes values of records and unions.
use Rattle.std.proofs.Common.{◌≡◌, ℕ, List, [], ◌∷◌, Option, None, Some, map, refl, sym, ap, ◌∙◌}
use Rattle.std.specs.Prelude.{find, slice_get}
use Rattle.std.specs.Option.{option_map}
use Rattle.std.proofs.lemmas.Option.{none-some, same_Some}
use Rattle.au_syntax.specs.Modules.{Variant, record_type, union_type}
use Rattle.au_syntax.specs.Plain.{Bytes, PlainDeclaration}
use Rattle.au_syntax.specs.Types.{Labelled}
use Rattle.au_types.specs.declared.spaces.Space.TheVariants.{Types}
use Rattle.au_types.specs.Tables as tables
use Rattle.au_types.specs.declared.parameters.Parameter.{Parameter}
use Rattle.au_types.specs.declared.types.DeclAt.{DeclAt}
use Rattle.au_types.specs.Types.{Meaning, Arguments, named}
use Rattle.au_modules.specs.Programs.{ModuleParts}
use Rattle.au_names.specs.declared.targets.Target.{Target}
use Rattle.au_names.specs.Owned.{own}
use Rattle.au_names.specs.Standing.{Standing, standing_at, whole_name}
use Rattle.au_judged_types.specs.Bounds.{Bounded, parameters}
use Rattle.au_judged_types.specs.Meanings.{parameter}
use Rattle.au_typing.specs.Scopes.{Callable, Typed}
use Rattle.au_typing.specs.Called.{as_arguments, callable, callable_at, callable_standing, case_called}
use Rattle.au_typing.specs.Called.{declared_callable, is_case, maker, owned, type_itself, unconstrained}
use Rattle.au_typing.specs.Insides.{record_fields, typed_under, with_arguments}
use Rattle.au_typing.specs.Written.{all_typed}

-- ---- what is called has what it is made of

-- it has these type parameters, parameters and result
pub record Has (over : List Bounded) (takes : Option (List Typed)) (gives : Option Meaning)
    (c : Callable) : Type 0 where
  pub generics : c.generics ≡ over
  pub given : takes ≡ Some c.parameters
  pub result : gives ≡ Some c.result

has : (generics : List Bounded) (its_class : Option (Bytes × DeclAt)) (given : Option (List Typed))
    (result : Option Meaning) (c : Callable)
    → callable generics its_class given result ≡ Some c → Has generics given result c
has generics its_class (Some one) (Some other) c h =
    let same = same_Some (record { generics = generics; parameters = one; result = other; class = its_class }) c h in
    record {
      generics = ap (λ (x : Callable). x.generics) (sym same);
      given = ap (λ (x : Callable). Some x.parameters) same;
      result = ap (λ (x : Callable). Some x.result) same;
    }
has generics its_class None result c h = absurd (none-some c h)
has generics its_class (Some one) None c h = absurd (none-some c h)

no_constraints : (params : List Parameter) → parameters (map unconstrained params) ≡ params
no_constraints [] = refl
no_constraints (p ∷ params) = ap (λ rest. p ∷ rest) (no_constraints params)

-- what makes a type has its type parameters, its fields and the type itself
pub record Makes (program : List ModuleParts) (d : Standing) (name : Bytes) (fields : List (Labelled Bytes))
    (c : Callable) : Type 0 where
  pub given : all_typed program d (parameters c.generics) fields ≡ Some c.parameters
  pub result : type_itself program d.place name (parameters c.generics) ≡ Some c.result

pub made : (program : List ModuleParts) (d : Standing) (name : Bytes) (params : List Parameter)
    (fields : List (Labelled Bytes)) (c : Callable)
    → maker program d name params fields ≡ Some c → (parameters c.generics ≡ params) × Makes program d name fields c
made program d name params fields c h =
    let it = has (map unconstrained params) None (all_typed program d params fields)
    (type_itself program d.place name params) c h in
    let same : parameters c.generics ≡ params = ap parameters it.generics ∙ no_constraints params in (
      same,
      record {
        given = ap (λ ps. all_typed program d ps fields) same ∙ it.given;
        result = ap (type_itself program d.place name) same ∙ it.result;
      },
    )

-- ---- the type that is made

itself_is : (program : List ModuleParts) (place : ℕ) (m : ModuleParts) (name : Bytes) (meaning : Target)
    (params : List Parameter) → slice_get program place ≡ Some m
    → tables.find name (own Types place m) ≡ Some meaning → type_itself program place name params
    ≡ Some (named meaning.at (as_arguments params))
itself_is program place m name meaning params here means =
    ap (λ o. option_map (λ at. named at (as_arguments params))
    (option_map (λ (t : Target). t.at) (tables.find name (owned Types place o)))) here
    ∙ ap (λ o. option_map (λ at. named at (as_arguments params)) (option_map (λ (t : Target). t.at) o)) means

-- what is made by what has this name in the module at a place
abbrev pub MakesType : DeclAt → Callable → Type 0
MakesType at c = c.result ≡ named at (as_arguments (parameters c.generics))

makes_type : (program : List ModuleParts) (d : Standing) (place : ℕ) (m : ModuleParts) (name other : Bytes)
    (meaning : Target) (fields : List (Labelled Bytes)) (c : Callable)
    → slice_get program place ≡ Some m → tables.find name (own Types place m) ≡ Some meaning →
    d.place ≡ place → other ≡ name
    → Makes program d other fields c → MakesType meaning.at c
makes_type program d place m name other meaning fields c here means at same makes =
    same_Some c.result (named meaning.at (as_arguments (parameters c.generics)))
    (sym makes.result
    ∙ ap (λ p. type_itself program p other (parameters c.generics)) at
    ∙ ap (λ n. type_itself program place n (parameters c.generics)) same
    ∙ itself_is program place m name meaning (parameters c.generics) here means)

case_makes : (program : List ModuleParts) (d : Standing) (place : ℕ) (m : ModuleParts) (name other : Bytes)
    (meaning : Target) (params : List Parameter) (found : Option (Variant Bytes)) (c : Callable)
    → slice_get program place ≡ Some m → tables.find name (own Types place m) ≡ Some meaning →
    d.place ≡ place → other ≡ name
    → case_called program d other params found ≡ Some c → MakesType meaning.at c
case_makes program d place m name other meaning params None c here means at same h = absurd (none-some c h)
case_makes program d place m name other meaning params (Some v) c here means at same h =
    makes_type program d place m name other meaning v.fields c here means at same
    (made program d other params v.fields c h).1

-- by what a declaration says
says_makes : (program : List ModuleParts) (d : Standing) (place : ℕ) (m : ModuleParts) (name : Bytes)
    (meaning target : Target) (c : Callable) (says : PlainDeclaration)
    → slice_get program place ≡ Some m → tables.find name (own Types place m) ≡ Some meaning →
    d.place ≡ place → whole_name says ≡ Some name
    → declared_callable program d target.at target.name says ≡ Some c → MakesType meaning.at c
says_makes program d place m name meaning target c (record_type at its_name params universe fields) here means
    is whole h =
    makes_type program d place m name its_name.name meaning fields c here means is (same_Some its_name.name name whole)
    (made program d its_name.name (map parameter params) fields c h).1
says_makes program d place m name meaning target c (union_type at its_name params universe cases) here means
    is whole h =
    case_makes program d place m name its_name.name meaning (map parameter params)
    (find (is_case target.name) cases) c here means is (same_Some its_name.name name whole) h
says_makes program d place m name meaning target c other here means is whole h = absurd (none-some name whole)

-- what is called that stands at a declaration
pub called_there : (program : List ModuleParts) (d : Standing) (target : Target) (c : Callable) →
    standing_at program target.at ≡ Some d → callable_at program (Some target) ≡ Some c
    → declared_callable program d target.at target.name d.says ≡ Some c
called_there program d target c stands h = ap (callable_standing program target) (sym stands) ∙ h

pub makes_own_type : (program : List ModuleParts) (place : ℕ) (m : ModuleParts) (name : Bytes)
    (meaning target : Target) (d : Standing) (c : Callable) → slice_get program place ≡ Some m
    → tables.find name (own Types place m) ≡ Some meaning → d.place ≡ place → whole_name d.says ≡ Some name →
    standing_at program target.at ≡ Some d
    → callable_at program (Some target) ≡ Some c → MakesType meaning.at c
makes_own_type program place m name meaning target d c here means is whole stands h =
    says_makes program d place m name meaning target c d.says here means is whole
    (called_there program d target c stands h)

-- ---- fields

-- the parameters of what makes a type, where the type has these arguments
abbrev pub parameters_under : Arguments → Callable → List Typed
parameters_under args c = map (typed_under (with_arguments (parameters c.generics) args)) c.parameters

-- fields with their types under arguments are those parameters
pub fields_same : (program : List ModuleParts) (d : Standing) (name : Bytes) (params : List Parameter)
    (args : Arguments) (fields : List (Labelled Bytes)) (c : Callable) (found : List Typed)
    → maker program d name params fields ≡ Some c →
    option_map (map (typed_under (with_arguments params args))) (all_typed program d params fields)
    ≡ Some found
    → found ≡ parameters_under args c
fields_same program d name params args fields c found h k =
    let it = made program d name params fields c h in
    let typed : all_typed program d params fields ≡ Some c.parameters =
    ap (λ ps. all_typed program d ps fields) (sym it.0) ∙ it.1.given in
    same_Some found (parameters_under args c)
    (sym k
    ∙ ap (option_map (map (typed_under (with_arguments params args)))) typed
    ∙ ap (λ ps. Some (map (typed_under (with_arguments ps args)) c.parameters)) (sym it.0))

record_same : (program : List ModuleParts) (d : Standing) (args : Arguments) (target : Target) (c : Callable)
    (found : List Typed) (says : PlainDeclaration)
    → record_fields program d args says ≡ Some found → declared_callable program d target.at target.name says
    ≡ Some c → found ≡ parameters_under args c
record_same program d args target c found (record_type at name params universe fields) h k =
    fields_same program d name.name (map parameter params) args fields c found k h
record_same program d args target c found other h k = absurd (none-some found h)

pub record_parameters : (program : List ModuleParts) (d : Standing) (args : Arguments) (target : Target)
    (c : Callable) (found : List Typed)
    → record_fields program d args d.says ≡ Some found → standing_at program target.at ≡ Some d →
    callable_at program (Some target) ≡ Some c → found ≡ parameters_under args c
record_parameters program d args target c found h stands k = record_same program d args target c found d.says
    h (called_there program d target c stands k)
