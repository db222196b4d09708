-- The types of the shipped `Option` are as memory asks them to be.
use Rattle.std.proofs.Common.{◌≡◌, ℕ, Bool, true, false, true≢false, not, ◌&&◌, ◌||◌, List, [], ◌∷◌, ◌++◌, map}
use Rattle.std.proofs.Common.{Option, None}
use Rattle.std.proofs.Common.{Some, refl, sym, ap, ◌∙◌}
use Rattle.std.specs.Prelude.{codes, if◌then◌else◌, option_and_then, slice_get}
use Rattle.std.specs.List.{list_all}
use Rattle.std.specs.Option.{option_map}
use Rattle.std.specs.Str.{bytes_eq}
use Rattle.std.proofs.lemmas.Bool.{and_parts}
use Rattle.std.proofs.lemmas.Option.{same_Some}
use Rattle.std.proofs.lemmas.Slice.Eq.{bytes_eq-Decides}
use Rattle.au_base.specs.declared.kinds.IntKind.{IntKind}
use Rattle.au_base.specs.declared.places.Pos.{Pos}
use Rattle.au_syntax.specs.declared.declarations.Universe.{Universe}
use Rattle.au_syntax.specs.declared.declarations.Universe.TheVariants as universes
use Rattle.au_syntax.specs.Modules.{InUniverse, Variant, union_type}
use Rattle.au_syntax.specs.Names.{Placed}
use Rattle.au_syntax.specs.Plain.{Bytes, PlainDeclaration}
use Rattle.au_syntax.specs.Sizes.{joined}
use Rattle.au_syntax.specs.Types.{Labelled}
use Rattle.au_types.specs.declared.headings.Head.{Head}
use Rattle.au_types.specs.declared.parameters.Parameter.{Parameter}
use Rattle.au_types.specs.declared.types.DeclAt.{DeclAt}
use Rattle.au_types.specs.Rows.{head_of}
use Rattle.au_types.specs.Types.{Arguments, Meaning, arguments, integer, named, no_arguments, of_type, parameter}
use Rattle.au_matching.specs.Forming.{all_fit, all_formed, argument_formed, fit_row, fits, is_formed}
use Rattle.au_matching.specs.Universes.{argument_universe, argument_universes, is_free, judged, of_declaration}
use Rattle.au_matching.specs.Universes.{of_row, universe_of}
use Rattle.au_modules.specs.Programs.{Entry, ModuleParts}
use Rattle.au_names.specs.DeclaredTypes.{DeclaredType, a_type, type_declared}
use Rattle.au_names.specs.HeadsOf.{head_for, heads_of}
use Rattle.au_names.specs.Standing.{body_at, defined_by, definition_for, definition_of, opaque_name}
use Rattle.au_promises.specs.Mentions.{type_parameters}
use Rattle.au_judged_types.specs.Meanings.{parameter as written_parameter}
use Rattle.au_judged_bodies.specs.Insides.{fields_under, typed_under, with_arguments}
use Rattle.au_judged_bodies.specs.Scopes.{Typed}
use Rattle.au_judged_bodies.specs.Tables.{cases_written, defined_fields, field_types, fields_in, is_well_formed}
use Rattle.au_judged_bodies.specs.Tables.{types_of}
use Rattle.au_judged_bodies.specs.Trees.{NotedParts}
use Rattle.au_judged_bodies.specs.Written.{followed, types_at}
use Rattle.au_safe_steps.specs.Granting.{IsOptionOf}
use Rattle.au_closing_laws.proofs.GatheredLemmas.{all_among}
use Rattle.au_judged_programs.specs.CheckedChecked.{IsChecked}
use Rattle.au_judged_programs.proofs.BirthLemmas.{shipped}
use Rattle.au_judged_programs.proofs.ShippedMethodTestLemmas.{its_name, option_text, plain_is, plain_meant}
use Rattle.au_judged_programs.proofs.TypeLemmas.{IsShippedType, fine_is, shipped_type}

-- ---- the shape of `Option`

-- its type parameter
abbrev pub option_parameter : Parameter
option_parameter = record { name = its_name; universe = universes.AnyType }

abbrev is_any : Universe → Bool
is_any universes.AnyType = true
is_any other = false

abbrev is_bare : List (Labelled Bytes) → Bool
is_bare [] = true
is_bare (f ∷ fields) = false

abbrev means_it : Option Meaning → Bool
means_it (Some (parameter name)) = bytes_eq name its_name
means_it other = false

abbrev has_one : List (Labelled Bytes) → Bool
has_one (f ∷ []) = means_it (plain_meant (option_parameter ∷ []) f.of)
has_one other = false

abbrev is_option_shape : PlainDeclaration → Bool
is_option_shape (union_type at n (p ∷ []) universes.AnyType (a ∷ b ∷ [])) =
    bytes_eq p.name.name its_name && (is_any p.universe && (is_bare a.fields && has_one b.fields))
is_option_shape other = false

record IsOptionUnion (says : PlainDeclaration) : Type 0 where
  at : Pos
  n : Placed Bytes
  p : InUniverse Bytes
  a : Variant Bytes
  b : Variant Bytes
  is : says ≡ union_type at n (p ∷ []) universes.AnyType (a ∷ b ∷ [])
  over : written_parameter p ≡ option_parameter
  first : a.fields ≡ []
  f : Labelled Bytes
  second : b.fields ≡ f ∷ []
  of : plain_meant (option_parameter ∷ []) f.of ≡ Some (parameter its_name)

bare_is : (fields : List (Labelled Bytes)) → is_bare fields ≡ true → fields ≡ []
bare_is [] e = refl
bare_is (f ∷ fields) e = absurd (true≢false (sym e))

any_is : (u : Universe) → is_any u ≡ true → u ≡ universes.AnyType
any_is universes.AnyType e = refl
any_is other e = absurd cc

it_is : (o : Option Meaning) → means_it o ≡ true → o ≡ Some (parameter its_name)
it_is (Some (parameter name)) e = ap (λ n. Some (parameter n)) ((bytes_eq-Decides name its_name).0 e)
it_is other e = absurd cc

one_is : (fields : List (Labelled Bytes)) → has_one fields ≡ true
    → (f : Labelled Bytes) × (fields ≡ f ∷ []) × (plain_meant (option_parameter ∷ []) f.of ≡ Some (parameter its_name))
one_is (f ∷ []) e = (f, refl, it_is (plain_meant (option_parameter ∷ []) f.of) e)
one_is other e = absurd cc

shape_is : (says : PlainDeclaration) → is_option_shape says ≡ true → IsOptionUnion says
shape_is (union_type at n (p ∷ []) universes.AnyType (a ∷ b ∷ [])) e =
    let its = and_parts (bytes_eq p.name.name its_name) (is_any p.universe && (is_bare a.fields && has_one b.fields))
    e in
    let more = and_parts (is_any p.universe) (is_bare a.fields && has_one b.fields) its.1 in
    let fields = and_parts (is_bare a.fields) (has_one b.fields) more.1 in
    let one = one_is b.fields fields.1 in
    record {
      at = at;
      n = n;
      p = p;
      a = a;
      b = b;
      is = refl;
      over = λ i. record {
        name = (bytes_eq-Decides p.name.name its_name).0 its.0 i;
        universe = any_is p.universe more.0 i;
      };
      first = bare_is a.fields fields.0;
      f = one.0;
      second = one.1;
      of = one.2;
    }
shape_is other e = absurd cc

abbrev is_fine_option : Bytes → PlainDeclaration → Option DeclaredType → Bool
is_fine_option owner says None = true
is_fine_option owner says (Some one) = not (bytes_eq (owner ++ 58 ∷ one.name) option_text) || is_option_shape says

abbrev are_fine : Entry → Bool
are_fine e = list_all (λ says. is_fine_option (joined e.tree.name) says (type_declared says)) e.tree.declarations

all_fine : list_all are_fine shipped ≡ true
all_fine = refl

-- ---- types of it

module _ (program : List ModuleParts) (noted : List NotedParts) (checked : IsChecked program noted) (at : DeclAt)
    (head : Head) (e : head_of (heads_of program) at ≡ Some head) (text : bytes_eq head.text option_text ≡ true) where
  s : IsShippedType program noted checked at head (codes "Austral.Pervasive")
  s = shipped_type program noted checked at head (codes "Austral.Pervasive") (codes "Option") refl refl refl e
      ((bytes_eq-Decides head.text option_text).0 text)

  union : IsOptionUnion s.d.says
  union =
      shape_is s.d.says
      (fine_is (bytes_eq (joined s.entry.tree.name ++ 58 ∷ s.one.name) option_text) (is_option_shape s.d.says)
      (sym (ap (λ (x : ModuleParts). bytes_eq (x.name ++ 58 ∷ s.one.name) option_text) s.same)
      ∙ sym (ap (λ (h : Head). bytes_eq h.text option_text) s.is) ∙ text)
      (sym (ap (is_fine_option (joined s.entry.tree.name) s.d.says) s.declared)
      ∙ all_among (λ says. is_fine_option (joined s.entry.tree.name) says (type_declared says)) s.d.says
      s.entry.tree.declarations (all_among are_fine s.entry shipped all_fine s.among) s.listed))

  head_is : head ≡ head_for s.m.name (a_type false union.n.name (union.p ∷ []) universes.AnyType)
  head_is =
      s.is
      ∙ ap (λ (x : DeclaredType). head_for s.m.name x)
      (same_Some s.one (a_type false union.n.name (union.p ∷ []) universes.AnyType)
      (sym s.declared ∙ ap type_declared union.is))

  -- it has one type parameter
  pub option_over : head.params ≡ option_parameter ∷ []
  option_over = ap (λ (h : Head). h.params) head_is ∙ ap (λ p. p ∷ []) union.over

  defined : definition_of program at ≡ Some s.d
  defined =
      ap (definition_for program) s.found
      ∙ ap (defined_by (body_at s.d.place (slice_get program s.d.place)) s.d) (ap opaque_name union.is)

  params_are : type_parameters s.d.says ≡ option_parameter ∷ []
  params_are = ap type_parameters union.is ∙ ap (λ p. p ∷ []) union.over

  module _ (of : IntKind) where
    abbrev args : Arguments
    args = arguments (of_type (integer of)) no_arguments

    formed : is_well_formed program (named at args) ≡ true
    unfolding is_formed argument_formed all_formed universe_of
    formed =
        ap (λ o. fit_row (fits (heads_of program) []) o args && all_formed (fits (heads_of program) [])
        (heads_of program) [] args) e
        ∙ ap (λ ps. all_fit (fits (heads_of program) []) ps args && true) option_over

    free : is_free (universe_of (heads_of program) [] (named at args)) ≡ true
    unfolding universe_of argument_universe argument_universes judged
    free =
        ap (λ o. is_free (of_row o (judged (argument_universes (heads_of program) [] args)))) e
        ∙ ap (λ (h : Head). is_free (of_declaration h.universe
        (judged (argument_universes (heads_of program) [] args))))
        head_is

    abbrev typed : List (Labelled Bytes) → Option (List Meaning)
    typed fields = option_map field_types (fields_under program s.d (type_parameters s.d.says) args fields)

    abbrev cases : PlainDeclaration → ℕ → Option (List Meaning)
    cases says tag = option_and_then typed (slice_get (cases_written says) tag)

    fields_are : (tag : ℕ) → fields_in program (named at args) tag
        ≡ cases (union_type union.at union.n (union.p ∷ []) universes.AnyType (union.a ∷ union.b ∷ [])) tag
    fields_are tag =
        ap (λ b. if b then defined_fields program args tag (definition_of program at) else None) formed
        ∙ ap (defined_fields program args tag) defined ∙ ap (λ says. cases says tag) union.is

    abbrev under : List Parameter → Option (List Typed) → Option (List Meaning)
    under ps kinds = option_map field_types (option_map (map (typed_under (with_arguments ps args))) kinds)

    one_field : typed (union.f ∷ []) ≡ Some (integer of ∷ [])
    one_field =
        ap (λ ps. option_map field_types (fields_under program s.d ps args (union.f ∷ []))) params_are
        ∙ ap (λ o. under (option_parameter ∷ [])
        (followed (option_map (λ t. record { name = union.f.name.name; of = t }) o) (Some [])))
        (plain_is (option_parameter ∷ []) (types_at program s.d.place s.d.part) (heads_of program) union.f.of
        (parameter its_name) union.of)

    pub option_is : IsOptionOf (types_of program) (named at args) (integer of)
    option_is = record {
      free = free;
      none_is = fields_are 0 ∙ ap typed union.first;
      some_is = fields_are 1 ∙ ap typed union.second ∙ one_field;
    }
