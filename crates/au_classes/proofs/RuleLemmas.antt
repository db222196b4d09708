-- The test for methods decides the rule on them.
use Rattle.std.proofs.Common.{◌≡◌, ◌⊎◌, inl, inr, true, false, ◌&&◌, List, [], ◌∷◌, ◌++◌, find, Option}
use Rattle.std.proofs.Common.{None, Some, refl, sym, ap, ◌∙◌, subst, true≢false, append_assoc}
use Rattle.std.specs.Prelude.{◌||◌, Contains, not}
use Rattle.std.specs.Bool.{Decides}
use Rattle.std.specs.List.{list_all, list_any}
use Rattle.std.specs.Str.{bytes_eq}
use Rattle.std.proofs.lemmas.Bool.{and_parts, and_from, or_from, not-true, not_from_false}
use Rattle.std.proofs.lemmas.Slice.Eq.{bytes_eq-Decides}
use Rattle.std.proofs.lemmas.Bool.Decides.{Decides-and}
use Rattle.au_syntax.specs.Modules.{Header}
use Rattle.au_syntax.specs.Plain.{Bytes, PlainMethod}
use Rattle.au_syntax.specs.Types.{WrittenType, Labelled}
use Rattle.au_types.specs.Types.{Meaning}
use Rattle.au_names.proofs.AmongLemmas.{Among, among, contains, among-append_left, any_found, any_there}
use Rattle.au_promises.specs.Agreeing.{all_agree, same_name}
use Rattle.au_promises.proofs.DecidingLemmas.{meaning_decides, each_decides}
use Rattle.au_classes.specs.Methods.{AreMethods, SameLabelled, SameSignature, are_methods, doubled_from}
use Rattle.au_classes.specs.Methods.{has_signature, is_called, is_declared, is_defined, is_doubled, is_named}
use Rattle.au_classes.specs.Methods.{same_labelled, same_signature, same_type}
use Rattle.au_classes.proofs.ListLemmas.{all_pass, found_passes, none_passes, only_found}
use Rattle.au_classes.proofs.ListLemmas.{or_first, or_second, pass_all, pass_none}

-- ---- methods of one name

-- no method has the name of one before it
single : (before pre post : List PlainMethod) (m : PlainMethod) → doubled_from before (pre ++ m ∷ post)
    ≡ false → list_any (is_named m.header.name.name) (before ++ pre) ≡ false
single before [] post m h =
    ap (λ ms. list_any (is_named m.header.name.name) ms) (append_nil before)
    ∙ or_first (list_any (is_named m.header.name.name) before) (doubled_from (before ++ m ∷ []) post) h
  where
    append_nil : (ms : List PlainMethod) → ms ++ [] ≡ ms
    append_nil [] = refl
    append_nil (x ∷ xs) = ap (λ ys. x ∷ ys) (append_nil xs)
single before (x ∷ pre) post m h =
    ap (λ ms. list_any (is_named m.header.name.name) ms) (sym (append_assoc before (x ∷ []) pre))
    ∙ single (before ++ x ∷ []) pre post m
    (or_second (list_any (is_named x.header.name.name) before)
    (doubled_from (before ++ x ∷ []) (pre ++ m ∷ post)) h)

none_doubled : (before ms : List PlainMethod)
    → ((pre post : List PlainMethod) (m other : PlainMethod) → ms ≡ pre ++ m ∷ post →
    Among other (before ++ pre) → m.header.name.name ≡ other.header.name.name → ⊥)
    → doubled_from before ms ≡ false
none_doubled before [] once = refl
none_doubled before (m ∷ rest) once =
    or_from (list_any (is_named m.header.name.name) before) (doubled_from (before ++ m ∷ []) rest)
    (pass_none (is_named m.header.name.name) before
    (λ other one named. once [] rest m other refl (among-append_left before [] other one)
    ((bytes_eq-Decides m.header.name.name other.header.name.name).0 named)))
    (none_doubled (before ++ m ∷ []) rest (λ pre post n other split one.
    once (m ∷ pre) post n other (ap (λ xs. m ∷ xs) split)
    (subst (λ xs. Among other xs) (append_assoc before (m ∷ []) pre) one)))

-- ---- the rule

module _ (wanted given : WrittenType → Option Meaning) where
  labelled_decides : (a b : Labelled Bytes) → Decides (same_labelled wanted given a b) (SameLabelled wanted given a b)
  labelled_decides a b =
      Decides-and (same_name a.name b.name) (same_type wanted given a.of b.of)
      (bytes_eq-Decides a.name.name b.name.name) (meaning_decides (wanted a.of) (given b.of))

  signature_decides : (h k : Header Bytes) → Decides (same_signature wanted given h k) (SameSignature wanted given h k)
  signature_decides h k =
      Decides-and (all_agree (same_labelled wanted given) h.parameters k.parameters)
      (same_type wanted given h.result k.result)
      (each_decides (same_labelled wanted given) (SameLabelled wanted given) labelled_decides h.parameters
      k.parameters) (meaning_decides (wanted h.result) (given k.result))

  has_one : (h : Header Bytes) (found : Option PlainMethod) → has_signature wanted given h found ≡ true →
      (m : PlainMethod) × (found ≡ Some m) × SameSignature wanted given h m.header
  has_one h None e = absurd (true≢false (sym e))
  has_one h (Some m) e = (m, refl, (signature_decides h m.header).0 e)

  module _ (class : List (Header Bytes)) (methods : List PlainMethod) where
    are_from : are_methods wanted given class methods ≡ true → AreMethods wanted given class methods
    are_from e =
        let both = and_parts (not (is_doubled methods))
        (list_all (is_defined wanted given methods) class && list_all (is_declared class) methods) e in
        let others = and_parts (list_all (is_defined wanted given methods) class)
        (list_all (is_declared class) methods) both.1 in
        record {
          defined = λ h c.
              let one : (m : PlainMethod) × (find (is_named h.name.name) methods ≡ Some m)
              × SameSignature wanted given h m.header =
              has_one h (find (is_named h.name.name) methods)
              (all_pass (is_defined wanted given methods) class others.0 h (among class h c)) in
              let found : Among one.0 methods × (is_named h.name.name one.0 ≡ true) =
              found_passes (is_named h.name.name) methods one.0 one.1 in (
                one.0,
                contains methods one.0 found.0,
                (bytes_eq-Decides h.name.name one.0.header.name.name).0
                    found.1,
                one.2,
              );
          declared = λ m c.
              let one : (h : Header Bytes) × Among h class × (is_called m.header.name.name h ≡ true) =
              any_found (is_called m.header.name.name) class
              (all_pass (is_declared class) methods others.1 m (among methods m c)) in
              (one.0, contains class one.0 one.1, (bytes_eq-Decides m.header.name.name one.0.name.name).0 one.2);
          once = λ before after m other split c same.
              let single_one : list_any (is_named m.header.name.name) before ≡ false =
              single [] before after m (ap (doubled_from []) (sym split)
              ∙ not-true (is_doubled methods) both.0) in
              let isnt : is_named m.header.name.name other ≡ false = none_passes (is_named m.header.name.name)
              before single_one other (among before other c) in
              absurd (true≢false (sym ((bytes_eq-Decides m.header.name.name other.header.name.name).1 same) ∙ isnt));
        }

    are_to : AreMethods wanted given class methods → are_methods wanted given class methods ≡ true
    are_to are =
        and_from (not (is_doubled methods))
        (list_all (is_defined wanted given methods) class && list_all (is_declared class) methods)
        (not_from_false (is_doubled methods) (none_doubled [] methods
        (λ pre post m other split one same. are.once pre post m other split (contains pre other one) same)))
        (and_from (list_all (is_defined wanted given methods) class) (list_all (is_declared class) methods)
        (pass_all (is_defined wanted given methods) class
        (λ h one. defined_one h (are.defined h (contains class h one))))
        (pass_all (is_declared class) methods (λ m one.
        let its : (h : Header Bytes) × Contains class h × (m.header.name.name ≡ h.name.name) =
        are.declared m (contains methods m one) in
        any_there (is_called m.header.name.name) class its.0 (among class its.0 its.1)
        ((bytes_eq-Decides m.header.name.name its.0.name.name).1 its.2))))
      where
        defined_one : (h : Header Bytes) → (m : PlainMethod) × Contains methods m
            × (h.name.name ≡ m.header.name.name) × SameSignature wanted given h m.header →
            is_defined wanted given methods h ≡ true
        defined_one h one =
            let named : is_named h.name.name one.0 ≡ true =
            (bytes_eq-Decides h.name.name one.0.header.name.name).1 one.2 in
            ap (has_signature wanted given h)
            (only_found (is_named h.name.name) methods one.0 (among methods one.0 one.1) named
            (λ before after m other split later p q.
            are.once before after m other split (contains before other later)
            (sym ((bytes_eq-Decides h.name.name m.header.name.name).0 p)
            ∙ (bytes_eq-Decides h.name.name other.header.name.name).0 q)))
            ∙ (signature_decides h one.0.header).1 one.3

    pub methods_decide : Decides (are_methods wanted given class methods) (AreMethods wanted given class methods)
    methods_decide = (are_from, are_to)
