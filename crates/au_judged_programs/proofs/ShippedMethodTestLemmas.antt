-- What the shipped files say of the methods of their classes, at the types of the instances there: a test of
-- each instance, which all of them pass.
use Rattle.std.proofs.Common.{◌≡◌, ℕ, Bool, true, false, ◌&&◌, List, [], ◌∷◌, ◌++◌, Option, None, Some, refl}
use Rattle.std.proofs.Common.{sym, ap, ◌∙◌}
use Rattle.std.specs.Prelude.{codes, if◌then◌else◌, option_and_then, slice_get}
use Rattle.std.specs.List.{list_all}
use Rattle.std.specs.Option.{option_map, option_or}
use Rattle.std.specs.Str.{bytes_eq}
use Rattle.std.proofs.lemmas.Bool.{and_parts}
use Rattle.std.proofs.lemmas.Option.{none-some, same_Some}
use Rattle.std.proofs.lemmas.Slice.Eq.{bytes_eq-Decides}
use denote.Enum.Bare.{sameb}
use Rattle.au_base.specs.contracts.kinds.IntKind.{the_type as kind}
use Rattle.au_base.specs.declared.kinds.IntKind.{IntKind}
use Rattle.au_shipped.specs.declared.prims.ShippedCall.{ShippedCall}
use Rattle.au_shipped.specs.declared.prims.ShippedCall.TheVariants as prim
use Rattle.au_shipped.specs.Calls.{prim_of}
use Rattle.au_syntax.specs.declared.declarations.Universe.{Universe}
use Rattle.au_syntax.specs.declared.declarations.Universe.TheVariants as universes
use Rattle.au_syntax.specs.Modules.{Constrained, Header, InUniverse, class, instance}
use Rattle.au_syntax.specs.Plain.{Bytes, PlainDeclaration}
use Rattle.au_syntax.specs.Sizes.{joined}
use Rattle.au_syntax.specs.Types.{Labelled, WrittenType, named, no_types, types}
use Rattle.au_types.specs.declared.headings.Head.{Head}
use Rattle.au_types.specs.declared.parameters.Parameter.{Parameter}
use Rattle.au_types.specs.declared.spaces.Space.TheVariants.{Types}
use Rattle.au_types.specs.declared.types.DeclAt.{DeclAt}
use Rattle.au_types.specs.DeclaredNames.{names_in, numbered}
use Rattle.au_types.specs.Meant.{all_given, applied, meant, region_of}
use Rattle.au_types.specs.Senses.{Sense, a_class, a_region, a_span, a_type, built_in, declared, declared_sense}
use Rattle.au_types.specs.Senses.{parameter_sense}
use Rattle.au_types.specs.Senses.{sense_of}
use Rattle.au_types.specs.Tables as tables
use Rattle.au_types.specs.Types as whole
use Rattle.au_types.specs.Types.{Meaning}
use Rattle.au_types.specs.Universes.{universe_in}
use Rattle.au_type_texts.specs.Closing.{closed}
use Rattle.au_type_texts.specs.Types.{ClosedType, integer, text, truth}
use Rattle.au_modules.specs.Programs.{Entry}
use Rattle.au_names.specs.DeclaredTypes.{DeclaredType, type_declared}
use Rattle.au_judged_types.specs.Meanings.{parameter}
use Rattle.au_judged_bodies.specs.Leading.{at_type, kind_of}
use Rattle.au_judged_programs.proofs.BirthLemmas.{shipped}

-- ---- what is written by a name alone

-- the type parameter of each shipped class
abbrev pub its_name : Bytes
its_name = codes "T"

abbrev pub the_parameter : Parameter
the_parameter = record { name = its_name; universe = universes.Free }

-- what a name with this sense means, if it means a type without arguments
abbrev type_sensed : Option Sense → Option Meaning
type_sensed (Some (a_type t)) = Some t
type_sensed other = None

-- what a written type means where nothing is declared, if it is a name alone
abbrev pub plain_meant : List Parameter → WrittenType → Option Meaning
plain_meant params (named name no_types) = type_sensed (sense_of [] params [] [] name.name)
plain_meant params other = None

sensed_is : (sense : Sense) (t : Meaning) → type_sensed (Some sense) ≡ Some t → applied (Some sense) [] ≡ Some t
sensed_is (a_type u) t e = e
sensed_is a_span t e = absurd (none-some t e)
sensed_is (a_region r) t e = absurd (none-some t e)
sensed_is (declared at params) t e = absurd (none-some t e)
sensed_is (a_class at) t e = absurd (none-some t e)

-- it means this everywhere
pub plain_is : (params : List Parameter) (visible : List (Bytes × DeclAt)) (heads : List (DeclAt × Head))
    (t : WrittenType)
    (m : Meaning) → plain_meant params t ≡ Some m → meant [] params visible heads t ≡ Some m
unfolding meant all_given
plain_is params visible heads (named name no_types) m e =
    by (universe_in params name.name) (tables.find name.name built_in) e
  where
    by : (u : Option Universe) (b : Option Sense)
        → type_sensed (option_or (option_map (parameter_sense name.name) u) (option_or b None)) ≡ Some m
        → applied (option_or (option_map (parameter_sense name.name) u)
        (option_or b (option_map (declared_sense heads) (tables.find name.name visible)))) [] ≡ Some m
    by (Some u) b e = sensed_is (parameter_sense name.name u) m e
    by None (Some sense) e = sensed_is sense m e
    by None None e = absurd (none-some m e)
plain_is params visible heads other m e = absurd (none-some m e)

-- ---- the types of instances

abbrev is_span : Bytes → Bytes → Bytes → Bool
is_span name first second =
    bytes_eq name (codes "Span") && (bytes_eq first (codes "Nat8") && bytes_eq second (codes "Static"))

-- the closed type of an instance
abbrev pub head_closed : WrittenType → Option ClosedType
head_closed (named name (types (named first no_types) (types (named second no_types) no_types))) =
    if is_span name.name first.name second.name then Some text else None
head_closed t = option_and_then closed (plain_meant [] t)

module _ (visible : List (Bytes × DeclAt)) (heads : List (DeclAt × Head)) where
  abbrev span_meant : Bytes → Bytes → Bytes → Option Meaning
  span_meant name first second =
      applied (sense_of [] [] visible heads name)
      (record {
        as_type = applied (sense_of [] [] visible heads first) [];
        as_region = region_of (sense_of [] [] visible heads first);
      }
      ∷ record {
        as_type = applied (sense_of [] [] visible heads second) [];
        as_region = region_of (sense_of [] [] visible heads second);
      } ∷ [])

  span_is : (name first second : Bytes) → is_span name first second ≡ true → span_meant name first second ≡ Some
      whole.text
  span_is name first second e =
      let both = and_parts (bytes_eq name (codes "Span"))
      (bytes_eq first (codes "Nat8") && bytes_eq second (codes "Static")) e in
      let rest = and_parts (bytes_eq first (codes "Nat8")) (bytes_eq second (codes "Static")) both.1 in
      ap (λ n. span_meant n first second) ((bytes_eq-Decides name (codes "Span")).0 both.0)
      ∙ ap (λ n. span_meant (codes "Span") n second) ((bytes_eq-Decides first (codes "Nat8")).0 rest.0)
      ∙ ap (λ n. span_meant (codes "Span") (codes "Nat8") n) ((bytes_eq-Decides second (codes "Static")).0 rest.1)

  closed_so : (o : Option Meaning) (c : ClosedType) (m : Meaning) → option_and_then closed o ≡ Some c
      → ((u : Meaning) → o ≡ Some u → Some u ≡ Some m) → closed m ≡ Some c
  closed_so None c m e same = absurd (none-some c e)
  closed_so (Some u) c m e same = ap closed (sym (same_Some u m (same u refl))) ∙ e

  -- the type of an instance closes to it
  pub head_is : (t : WrittenType) (c : ClosedType) (m : Meaning) → head_closed t ≡ Some c
      → meant [] [] visible heads t ≡ Some m → closed m ≡ Some c
  unfolding meant all_given
  head_is (named name (types (named first no_types) (types (named second no_types) no_types))) c m e means =
      by (is_span name.name first.name second.name) refl e
    where
      by : (b : Bool) → is_span name.name first.name second.name ≡ b → (if b then Some text else None) ≡ Some c
          → closed m ≡ Some c
      by true is e =
          ap closed (sym (same_Some whole.text m
          (sym (span_is name.name first.name second.name is) ∙ means))) ∙ e
      by false is e = absurd (none-some c e)
  head_is t c m e means =
      closed_so (plain_meant [] t) c m e (λ u is. sym (plain_is [] visible heads t u is) ∙ means)

-- ---- methods

abbrev pub is_the_parameter : Option Meaning → Bool
is_the_parameter (Some (whole.parameter name)) = bytes_eq name its_name
is_the_parameter other = false

abbrev pub is_unit : Option Meaning → Bool
is_unit (Some whole.unit) = true
is_unit other = false

abbrev pub is_kind : IntKind → Option Meaning → Bool
is_kind of (Some (whole.integer other)) = sameb kind other of
is_kind of other = false

-- what is meant over the type parameter of a class
abbrev pub over_class : WrittenType → Option Meaning
over_class t = plain_meant (the_parameter ∷ []) t

-- the names of the parameters of a shipped method
abbrev pub names_taken : ShippedCall → List Bytes
names_taken (prim.Wrap op of) = codes "lhs" ∷ codes "rhs" ∷ []
names_taken call = codes "value" ∷ []

-- parameters have these names, and are all of the type of the class
abbrev pub takes_all : List Bytes → List (Labelled Bytes) → Bool
takes_all [] [] = true
takes_all (name ∷ names) (one ∷ rest) =
    bytes_eq one.name.name name && (is_the_parameter (over_class one.of) && takes_all names rest)
takes_all names parameters = false

-- a written type is `Option` of integers of a kind
abbrev pub is_option : IntKind → WrittenType → Bool
is_option of (named name (types one no_types)) = bytes_eq name.name (codes "Option") && is_kind of (over_class one)
is_option of other = false

-- the result of a shipped call at a closed type
abbrev pub gives : ClosedType → ShippedCall → WrittenType → Bool
gives truth prim.PrintBool result = is_unit (over_class result)
gives truth prim.PrintLnBool result = is_unit (over_class result)
gives text prim.PrintText result = is_unit (over_class result)
gives text prim.PrintLnText result = is_unit (over_class result)
gives (integer of) prim.PrintInt result = is_unit (over_class result)
gives (integer of) prim.PrintLnInt result = is_unit (over_class result)
gives (integer of) (prim.Wrap op other) result = sameb kind other of && is_the_parameter (over_class result)
gives (integer of) (prim.Convert to) result = is_option to result
gives t call result = false

-- the shipped call of a method at a closed type
abbrev pub fits : ClosedType → Header Bytes → ShippedCall → Bool
fits t h call = takes_all (names_taken call) h.parameters && gives t call h.result

abbrev pub fits_some : ClosedType → Header Bytes → Option ShippedCall → Bool
fits_some t h None = false
fits_some t h (Some call) = fits t h call

-- a method of a class of a module, at a closed type
abbrev pub method_fits : Bytes → ClosedType → Header Bytes → Bool
method_fits home t h = fits_some t h (option_map (at_type t) (prim_of home h.name.name (kind_of t)))

-- ---- instances

abbrev pub is_free : Universe → Bool
is_free universes.Free = true
is_free other = false

abbrev pub is_its_parameter : InUniverse Bytes → Bool
is_its_parameter p = bytes_eq p.name.name its_name && is_free p.universe

-- a declaration is a class of which each method fits at a closed type
abbrev pub class_fits : Bytes → Option ClosedType → Option PlainDeclaration → Bool
class_fits home (Some t) (Some (class at name p methods)) =
    is_its_parameter p && list_all (method_fits home t) methods
class_fits home t other = false

-- the number of what declares a type or a class of a name in a file
abbrev pub number_in : Entry → Bytes → Option ℕ
number_in e name = tables.find name (names_in Types (numbered 0 e.tree.declarations))

-- so is that of a number, if there is one
abbrev pub numbered_fits : Entry → Option ClosedType → Option ℕ → Bool
numbered_fits e t None = false
numbered_fits e t (Some number) = class_fits (joined e.tree.name) t (slice_get e.tree.declarations number)

abbrev pub is_empty : List (Constrained Bytes) → Bool
is_empty [] = true
is_empty other = false

-- the text of the type that a declaration of a module declares, if it declares one
abbrev pub has_text : Bytes → Bytes → Option DeclaredType → Bool
has_text wanted home None = false
has_text wanted home (Some one) = bytes_eq (home ++ 58 ∷ one.name) wanted

abbrev pub option_text : Bytes
option_text = codes "Austral.Pervasive:Option"

abbrev pub numbered_option : Entry → Option ℕ → Bool
numbered_option e None = false
numbered_option e (Some number) =
    has_text option_text (joined e.tree.name)
    (option_and_then type_declared (slice_get e.tree.declarations number))

-- a file declares `Option`
abbrev pub has_option : Entry → Bool
has_option e = numbered_option e (number_in e (codes "Option"))

-- an instance is of a class of its own file, whose methods fit at its type
abbrev pub is_good : Entry → PlainDeclaration → Bool
is_good e (instance at generics name t) =
    is_empty generics && (numbered_fits e (head_closed t) (number_in e name.name) && has_option e)
is_good e other = true

pub all_good : list_all (λ e. list_all (is_good e) e.tree.declarations) shipped ≡ true
unfolding numbered names_in
all_good = refl
