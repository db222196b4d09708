-- The tests of the code decide what the rule on interfaces and bodies says.
use Rattle.std.proofs.Common.{◌≡◌, Bool, true, false, List, [], ◌∷◌, Option, Some, None, refl}
use Rattle.std.proofs.Common.{ap, sym, ◌∙◌, subst, true≢false}
use Rattle.std.specs.Bool.{Decides}
use Rattle.std.proofs.lemmas.Option.{none-some, same_Some}
use Rattle.std.proofs.lemmas.Slice.Eq.{bytes_eq-Decides}
use Rattle.std.proofs.lemmas.Bool.Decides.{Decides-and, Decides-or}
use denote.Enum.Bare.{same_true, true_same}
use Rattle.au_syntax.specs.contracts.declarations.Universe.{the_type as universe_type}
use Rattle.au_syntax.specs.contracts.types.Access.{the_type as access_type}
use Rattle.au_syntax.specs.declared.declarations.Universe.{Universe}
use Rattle.au_syntax.specs.declared.types.Access.{Access}
use Rattle.au_syntax.specs.Modules.{
  InUniverse,
  Constrained,
  Header,
  constant,
  opaque_type,
  record_type,
  union_type,
  function,
  instance,
  constant_body,
  function_body,
  instance_body,
}
use Rattle.au_syntax.specs.Names.{Placed}
use Rattle.au_syntax.specs.Plain.{Bytes, PlainDeclaration}
use Rattle.au_syntax.specs.Types.{WrittenType, WrittenTypes, named, reference, no_types, types, Labelled}
use Rattle.au_types.specs.Tables.{find}
use Rattle.au_types.specs.declared.parameters.Parameter.{Parameter}
use Rattle.au_types.specs.declared.types.DeclAt.{DeclAt}
use Rattle.au_types.specs.Rows.{same_place}
use Rattle.au_types.specs.Types.{Meaning}
use Rattle.au_types.proofs.SameLemmas.{place_is, place_self, same_decides}
use Rattle.au_promises.specs.Agreeing.{
  all_agree,
  same_class,
  same_declaration,
  same_generic,
  same_labelled,
  same_meaning,
  same_name,
  same_parameter,
  same_signature,
  same_type,
  same_universe,
  scope_of,
  Sight,
}
use Rattle.au_promises.specs.Fulfilled.{
  Agrees,
  Defines,
  DefinesInstance,
  Each,
  OfGenerics,
  OfHeading,
  OfSignature,
  OfType,
  SameClass,
  SameGeneric,
  SameLabelled,
  SameParameter,
  SameSignature,
  SameType,
  SameWord,
  SameWording,
  SameWordings,
  SameWritten,
  SayTheSame,
  defined_type,
  promised_type,
}
use Rattle.au_promises.specs.Promises.{
  constant_defined,
  defines,
  function_defined,
  instance_defined,
  is_name,
  keeps,
  keeps_constant,
  keeps_function,
  keeps_instance,
  keeps_type,
  same_heading,
  type_defined,
}
use Rattle.au_promises.specs.Wording.{
  declaration_meant,
  neither,
  neither_means,
  same_access,
  same_sign,
  same_word,
  same_wording,
  same_wordings,
  same_written,
}
use Rattle.au_promises.proofs.AgreeingLemmas.{universes_same}
use Rattle.au_promises.proofs.WordingLemmas.{accesses_same}

-- ---- tests that fail

pub never_decides : {P : Type 0} → (P → ⊥) → Decides false P
never_decides never = (λ e. absurd (true≢false (sym e)), λ h. absurd (never h))

nothing_decides : Decides false ⊥
nothing_decides = never_decides (λ h. h)

module _ {A B : Type 0} (agree : A → B → Bool) (R : A → B → Type 0) (decides : (x : A) (y : B)
    → Decides (agree x y) (R x y)) where
  pub each_decides : (xs : List A) (ys : List B) → Decides (all_agree agree xs ys) (Each R xs ys)
  unfolding all_agree
  each_decides [] [] = (λ e. tt, λ h. refl)
  each_decides [] (y ∷ ys) = nothing_decides
  each_decides (x ∷ xs) [] = nothing_decides
  each_decides (x ∷ xs) (y ∷ ys) = Decides-and (agree x y) (all_agree agree xs ys)
      (decides x y) (each_decides xs ys)

-- ---- names, universes, kinds of references, types

declaration_decides : (name other : Bytes) (o p : Option DeclAt)
    → Decides (same_declaration name other o p) (SayTheSame name other o p)
declaration_decides name other (Some a) (Some b) = (
  λ e. (ap Some (place_is a b e), λ none. absurd (none-some a (sym none))),
  λ h. subst (λ place. same_place a place ≡ true) (same_Some a b h.0) (place_self a),
)
declaration_decides name other None None = (
  λ e. (refl, λ none. (bytes_eq-Decides name other).0 e),
  λ h. (bytes_eq-Decides name other).1 (h.1 refl),
)
declaration_decides name other (Some a) None = never_decides (λ h. none-some a (sym h.0))
declaration_decides name other None (Some b) = never_decides (λ h. none-some b h.0)

universe_decides : (a b : Universe) → Decides (same_universe a b) (a ≡ b)
universe_decides a b = (
  λ e. same_true universe_type tt a b (universes_same a b ∙ e),
  λ e. sym (universes_same a b)
      ∙ true_same universe_type a b e,
)

access_decides : (a b : Access) → Decides (same_access a b) (a ≡ b)
access_decides a b = (
  λ e. same_true access_type tt a b (accesses_same a b ∙ e),
  λ e. sym (accesses_same a b)
      ∙ true_same access_type a b e,
)

pub meaning_decides : (o p : Option Meaning) → Decides (same_meaning o p) (o ≡ p)
meaning_decides (Some a) (Some b) = (
  λ e. ap Some ((same_decides a b).0 e),
  λ e. (same_decides a b).1 (same_Some a b e),
)
meaning_decides None None = (λ e. refl, λ e. refl)
meaning_decides (Some a) None = never_decides (λ h. none-some a (sym h))
meaning_decides None (Some b) = never_decides (λ h. none-some b h)

neither_decides : (o p : Option Meaning) → Decides (neither o p) ((o ≡ None) × (p ≡ None))
neither_decides None None = (λ e. (refl, refl), λ h. refl)
neither_decides None (Some b) = never_decides (λ h. none-some b (sym h.1))
neither_decides (Some a) p = never_decides (λ h. none-some a (sym h.0))

name_decides : (name : Bytes) (o : Option Bytes) → Decides (is_name name o) (o ≡ Some name)
name_decides name None = never_decides (λ h. none-some name h)
name_decides name (Some other) = (
  λ e. ap Some (sym ((bytes_eq-Decides name other).0 e)),
  λ h.
      (bytes_eq-Decides name other).1 (sym (same_Some other name h)),
)

parameter_decides : (a b : InUniverse Bytes) → Decides (same_parameter a b) (SameParameter a b)
parameter_decides a b =
    Decides-and (same_name a.name b.name) (same_universe a.universe b.universe)
    (bytes_eq-Decides a.name.name b.name.name) (universe_decides a.universe b.universe)

heading_decides : (parameters others : List (InUniverse Bytes)) (universe its : Universe)
    → Decides (same_heading parameters universe others its) (Each SameParameter parameters others
    × (universe ≡ its))
heading_decides parameters others universe its =
    Decides-and (all_agree same_parameter parameters others) (same_universe universe its)
    (each_decides same_parameter SameParameter parameter_decides parameters others)
    (universe_decides universe its)

module _ (sight : Sight) where
  class_decides : (a b : Placed Bytes) → Decides (same_class sight a b) (SameClass sight a b)
  class_decides a b = declaration_decides a.name b.name (find a.name sight.interface) (find b.name sight.body)

  generic_decides : (a b : Constrained Bytes) → Decides (same_generic sight a b) (SameGeneric sight a b)
  generic_decides a b =
      Decides-and (same_parameter a.parameter b.parameter) (all_agree (same_class sight) a.classes b.classes)
      (parameter_decides a.parameter b.parameter) (each_decides (same_class sight)
      (SameClass sight) class_decides a.classes b.classes)

  generics_decide : (xs ys : List (Constrained Bytes))
      → Decides (all_agree (same_generic sight) xs ys) (Each (SameGeneric sight) xs ys)
  generics_decide = each_decides (same_generic sight) (SameGeneric sight) generic_decides

  module _ (scope other : List Parameter) where
    type_decides : (t u : WrittenType) → Decides (same_type sight scope t other u)
        (SameType sight scope other t u)
    type_decides t u = meaning_decides (promised_type sight scope other t) (defined_type sight scope other u)

    word_decides : (a b : Bytes) → Decides (same_word sight scope other a b) (SameWord sight scope other a b)
    word_decides a b = declaration_decides a b (declaration_meant scope sight.interface sight.rows a)
        (declaration_meant other sight.body sight.rows b)

    mutual
      wording_decides : (t u : WrittenType) → Decides (same_wording sight scope other t u)
          (SameWording sight scope other t u)
      wording_decides (named a args) (named b others) =
          Decides-and (same_word sight scope other a.name b.name)
          (same_wordings sight scope other args others)
          (word_decides a.name b.name) (wordings_decide args others)
      wording_decides (reference at kind t r) (reference by its u s) =
          let front = Decides-and (same_access kind its) (same_word sight scope other r.name s.name)
          (access_decides kind its) (word_decides r.name s.name) in
          let all = Decides-and (same_sign sight scope other kind r.name its s.name)
          (same_wording sight scope other t u) front (wording_decides t u) in
          (λ e. let parts = all.0 e in (parts.0.0, parts.0.1, parts.1), λ h. all.1 ((h.0, h.1), h.2))
      wording_decides (named a args) (reference by its u s) = nothing_decides
      wording_decides (reference at kind t r) (named b others) = nothing_decides

      wordings_decide : (ts us : WrittenTypes) → Decides (same_wordings sight scope other ts us)
          (SameWordings sight scope other ts us)
      wordings_decide no_types no_types = (λ e. tt, λ h. refl)
      wordings_decide no_types (types u us) = nothing_decides
      wordings_decide (types t ts) no_types = nothing_decides
      wordings_decide (types t ts) (types u us) =
          Decides-and (same_wording sight scope other t u) (same_wordings sight scope other ts us)
          (wording_decides t u) (wordings_decide ts us)

    written_decides : (t u : WrittenType) → Decides (same_written sight scope other t u)
        (SameWritten sight scope other t u)
    written_decides t u =
        Decides-or (same_wording sight scope other t u) (neither_means sight scope other t u)
        (wording_decides t u) (neither_decides (promised_type sight scope other t)
        (defined_type sight scope other u))

    labelled_decides : (a b : Labelled Bytes) → Decides (same_labelled sight scope other a b)
        (SameLabelled sight scope other a b)
    labelled_decides a b =
        Decides-and (same_name a.name b.name) (same_type sight scope a.of other b.of)
        (bytes_eq-Decides a.name.name b.name.name) (type_decides a.of b.of)

    signature_decides : (h k : Header Bytes) → Decides (same_signature sight scope h other k)
        (SameSignature sight scope other h k)
    signature_decides h k =
        Decides-and (all_agree (same_labelled sight scope other) h.parameters k.parameters)
        (same_type sight scope h.result other k.result)
        (each_decides (same_labelled sight scope other) (SameLabelled sight scope other)
        labelled_decides h.parameters k.parameters) (type_decides h.result k.result)

  -- ---- what defines a promise, and agrees with it

  instance_decides : (scope : List Parameter) (name : Placed Bytes) (t : WrittenType) (d : PlainDeclaration)
      → Decides (instance_defined sight scope name t d) (DefinesInstance sight scope name t d)
  instance_decides scope name t (instance_body at generics other u methods) =
      Decides-and (same_class sight name other) (same_written sight scope (scope_of generics) t u)
      (class_decides name other) (written_decides scope (scope_of generics) t u)
  instance_decides scope name t d = nothing_decides

  pub defines_decides : (promise d : PlainDeclaration)
      → Decides (defines sight promise d) (Defines sight promise d)
  defines_decides (constant at name t) d = name_decides name.name (constant_defined d)
  defines_decides (opaque_type at name parameters universe) d = name_decides name.name (type_defined d)
  defines_decides (function at generics header) d = name_decides header.name.name (function_defined d)
  defines_decides (instance at generics name t) d = instance_decides (scope_of generics) name t d
  defines_decides promise d = nothing_decides

  constant_decides : (t : WrittenType) (d : PlainDeclaration)
      → Decides (keeps_constant sight t d) (OfType sight t d)
  constant_decides t (constant_body at name u value) = type_decides [] [] t u
  constant_decides t d = nothing_decides

  heading_of : (parameters : List (InUniverse Bytes)) (universe : Universe) (d : PlainDeclaration)
      → Decides (keeps_type parameters universe d) (OfHeading sight parameters universe d)
  heading_of parameters universe (record_type at name others its fields) =
      heading_decides parameters others universe its
  heading_of parameters universe (union_type at name others its cases) =
      heading_decides parameters others universe its
  heading_of parameters universe d = nothing_decides

  function_decides : (generics : List (Constrained Bytes)) (header : Header Bytes) (d : PlainDeclaration)
      → Decides (keeps_function sight generics header d) (OfSignature sight generics header d)
  function_decides generics header (function_body at others its body stop) =
      Decides-and (all_agree (same_generic sight) generics others)
      (same_signature sight (scope_of generics) header (scope_of others) its)
      (generics_decide generics others) (signature_decides (scope_of generics) (scope_of others) header its)
  function_decides generics header d = nothing_decides

  generics_of : (generics : List (Constrained Bytes)) (d : PlainDeclaration)
      → Decides (keeps_instance sight generics d) (OfGenerics sight generics d)
  generics_of generics (instance_body at others name t methods) = generics_decide generics others
  generics_of generics d = nothing_decides

  pub keeps_decides : (promise d : PlainDeclaration)
      → Decides (keeps sight promise d) (Agrees sight promise d)
  keeps_decides (constant at name t) d = constant_decides t d
  keeps_decides (opaque_type at name parameters universe) d = heading_of parameters universe d
  keeps_decides (function at generics header) d = function_decides generics header d
  keeps_decides (instance at generics name t) d = generics_of generics d
  keeps_decides promise d = nothing_decides
