-- Fields of types without `~`.
use Rattle.std.proofs.Common.{◌≡◌, ℕ, zero, suc, Bool, true, false, cond, List, [], ◌∷◌, map, Option, None}
use Rattle.std.proofs.Common.{Some, refl, sym, ap}
use Rattle.std.proofs.Common.{◌∙◌, subst}
use Rattle.std.specs.Prelude.{slice_get}
use Rattle.std.specs.Str.{bytes_eq}
use Rattle.std.proofs.lemmas.Bool.{and_from, and_parts}
use Rattle.std.proofs.lemmas.Option.{none-some, same_Some}
use Rattle.au_base.proofs.OptionLemmas.{map_some}
use Rattle.au_syntax.specs.Modules.{record_type}
use Rattle.au_syntax.specs.Plain.{Bytes, PlainDeclaration}
use Rattle.au_syntax.specs.Types.{Labelled}
use Rattle.au_types.specs.declared.parameters.Parameter.{Parameter}
use Rattle.au_types.specs.declared.types.Region.{Region}
use Rattle.au_types.specs.declared.types.Region.TheVariants.{Static, Named, Anonymous}
use Rattle.au_types.specs.Types.{Meaning, Argument, Arguments, unit, truth, integer, text, parameter, named}
use Rattle.au_types.specs.Types.{reads, writes, of_type, in_region, no_arguments, arguments}
use Rattle.au_matching.specs.Bindings.{Bindings, value_of}
use Rattle.au_matching.specs.Substituted.{all_substituted, argument_substituted, region_for}
use Rattle.au_matching.specs.Substituted.{region_substituted}
use Rattle.au_matching.specs.Substituted.{substituted, type_for}
use Rattle.au_matching.proofs.BindingLemmas.{value_of-with}
use Rattle.au_judged_types.specs.Meanings as judged
use Rattle.au_running_types.specs.Running.{are_lasting, argument_lasting, is_lasting, is_lasting_region}
use Rattle.au_written_types.proofs.MeantLemmas.{meant_written}
use Rattle.au_modules.specs.Programs.{ModuleParts}
use Rattle.au_names.specs.HeadsOf.{heads_of}
use Rattle.au_names.specs.Standing.{Standing}
use Rattle.au_typing.specs.Insides.{fields_defined, fields_of, known_definition, record_fields, typed_under}
use Rattle.au_typing.specs.Insides.{with_arguments}
use Rattle.au_typing.specs.Scopes.{Typed}
use Rattle.au_typing.specs.Written.{all_typed, meant_in, typed, types_at}
use Rattle.au_tables.proofs.LawfulLemmas.{followed_is}

module _ (s : Bindings) (each : (name : List ℕ) (value : Argument) → value_of name s ≡ Some value
    → argument_lasting value ≡ true) where
  type_lasts : (name : List ℕ) → is_lasting (type_for (value_of name s) name) ≡ true
  type_lasts name = by (value_of name s) refl
    where
      by : (o : Option Argument) → value_of name s ≡ o → is_lasting (type_for o name) ≡ true
      by None is = refl
      by (Some (of_type t)) is = each name (of_type t) is
      by (Some (in_region region)) is = refl

  region_lasts : (region : Region) → is_lasting_region region ≡ true
      → is_lasting_region (region_substituted s region) ≡ true
  region_lasts Static last = refl
  region_lasts Anonymous last = last
  region_lasts (Named name) last = by (value_of name s) refl
    where
      by : (o : Option Argument) → value_of name s ≡ o → is_lasting_region (region_for o name) ≡ true
      by None is = refl
      by (Some (of_type t)) is = refl
      by (Some (in_region region)) is = each name (in_region region) is

  mutual
    substituted_lasts : (t : Meaning) → is_lasting t ≡ true → is_lasting (substituted s t) ≡ true
    substituted_lasts unit last = refl
    substituted_lasts truth last = refl
    substituted_lasts (integer kind) last = refl
    substituted_lasts text last = refl
    substituted_lasts (parameter name) last = type_lasts name
    substituted_lasts (named at args) last = all_last args last
    substituted_lasts (reads to region) last =
        let both = and_parts (is_lasting to) (is_lasting_region region) last in
        and_from (is_lasting (substituted s to)) (is_lasting_region (region_substituted s region))
        (substituted_lasts to both.0) (region_lasts region both.1)
    substituted_lasts (writes to region) last =
        let both = and_parts (is_lasting to) (is_lasting_region region) last in
        and_from (is_lasting (substituted s to)) (is_lasting_region (region_substituted s region))
        (substituted_lasts to both.0) (region_lasts region both.1)

    one_lasts : (one : Argument) → argument_lasting one ≡ true → argument_lasting (argument_substituted s one) ≡ true
    one_lasts (of_type t) last = substituted_lasts t last
    one_lasts (in_region region) last = region_lasts region last

    all_last : (args : Arguments) → are_lasting args ≡ true → are_lasting (all_substituted s args) ≡ true
    all_last no_arguments last = refl
    all_last (arguments one rest) last =
        let both = and_parts (argument_lasting one) (are_lasting rest) last in
        and_from (argument_lasting (argument_substituted s one)) (are_lasting (all_substituted s rest))
        (one_lasts one both.0) (all_last rest both.1)

-- what type parameters stand for in a type without `~`
given_last : (params : List Parameter) (args : Arguments) → are_lasting args ≡ true → (name : List ℕ) (value : Argument)
    → value_of name (with_arguments params args) ≡ Some value → argument_lasting value ≡ true
given_last [] args last name value e = absurd (none-some value e)
given_last (p ∷ rest) no_arguments last name value e = absurd (none-some value e)
given_last (p ∷ rest) (arguments one others) last name value e =
    let both = and_parts (argument_lasting one) (are_lasting others) last in
    by (bytes_eq name p.name) both.0 (sym (value_of-with name p.name one (with_arguments rest others)) ∙ e)
    (given_last rest others both.1 name value)
  where
    by : (b : Bool) → argument_lasting one ≡ true
        → cond b (Some one) (value_of name (with_arguments rest others)) ≡ Some value
        → (value_of name (with_arguments rest others) ≡ Some value → argument_lasting value ≡ true)
        → argument_lasting value ≡ true
    by true first e later = subst (λ v. argument_lasting v ≡ true) (same_Some one value e) first
    by false first e later = later e

module _ (program : List ModuleParts) (d : Standing) (params : List Parameter) (s : Bindings)
    (each : (name : List ℕ) (value : Argument) → value_of name s ≡ Some value → argument_lasting value ≡ true) where
  one_typed : (one : Labelled Bytes) (x : Typed) → typed program d params one ≡ Some x → is_lasting x.of ≡ true
  one_typed one x e =
      let from = map_some (λ t. record { name = one.name.name; of = t }) (meant_in program d params one.of) x e in
      subst (λ (y : Typed). is_lasting y.of ≡ true) from.2
      (meant_written [] params (types_at program d.place d.part) (heads_of program) one.of from.0 from.1).lasting

  all_typed_last : (written : List (Labelled Bytes)) (kinds : List Typed) → all_typed program d params written ≡ Some
      kinds
      → (i : ℕ) (x : Typed) → slice_get (map (typed_under s) kinds) i ≡ Some x → is_lasting x.of ≡ true
  all_typed_last [] kinds e i x is =
      absurd (none-some x (ap (λ l. slice_get (map (typed_under s) l) i) (same_Some [] kinds e) ∙ is))
  all_typed_last (one ∷ rest) kinds e i x is =
      on (followed_is (typed program d params one) (all_typed program d params rest) kinds e) i is
      (λ others its n there. all_typed_last rest others its n x there)
    where
      on : (y : Typed) × (others : List Typed) × (typed program d params one ≡ Some y)
          × (all_typed program d params rest ≡ Some others) × (y ∷ others ≡ kinds)
          → (i : ℕ) → slice_get (map (typed_under s) kinds) i ≡ Some x
          → ((others : List Typed) → all_typed program d params rest ≡ Some others → (n : ℕ)
          → slice_get (map (typed_under s) others) n ≡ Some x → is_lasting x.of ≡ true) → is_lasting x.of ≡ true
      on (y, others, first, its, whole) zero is later =
          subst (λ (v : Typed). is_lasting v.of ≡ true)
          (same_Some (typed_under s y) x (ap (λ l. slice_get (map (typed_under s) l) 0) whole ∙ is))
          (substituted_lasts s each y.of (one_typed one y first))
      on (y, others, first, its, whole) (suc n) is later =
          later others its n (ap (λ l. slice_get (map (typed_under s) l) (suc n)) whole ∙ is)

record_last : (program : List ModuleParts) (d : Standing) (args : Arguments) (says : PlainDeclaration)
    (fields : List Typed)
    → record_fields program d args says ≡ Some fields → are_lasting args ≡ true → (i : ℕ) (one : Typed)
    → slice_get fields i ≡ Some one → is_lasting one.of ≡ true
record_last program d args (record_type at name params universe written) fields e last i one is =
    let ps = map judged.parameter params in
    let from = map_some (map (typed_under (with_arguments ps args))) (all_typed program d ps written) fields e in
    all_typed_last program d ps (with_arguments ps args) (given_last ps args last) written from.0 from.1 i one
    (ap (λ l. slice_get l i) from.2 ∙ is)
record_last program d args other fields e last i one is = absurd (none-some fields e)

pub fields_last : (program : List ModuleParts) (place : ℕ) (t : Meaning) (fields : List Typed)
    → fields_of program place t ≡ Some fields → is_lasting t ≡ true → (i : ℕ) (one : Typed)
    → slice_get fields i ≡ Some one → is_lasting one.of ≡ true
fields_last program place (named at args) fields e last i one is = by (known_definition program place at) e
  where
    by : (o : Option Standing) → fields_defined program args o ≡ Some fields → is_lasting one.of ≡ true
    by None e = absurd (none-some fields e)
    by (Some d) e = record_last program d args d.says fields e last i one is
fields_last program place other fields e last i one is = absurd (none-some fields e)
