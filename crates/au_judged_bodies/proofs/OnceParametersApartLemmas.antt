-- Parameters that are new where they are declared are apart.
use Rattle.std.proofs.Common.{◌≡◌, ℕ, List, [], ◌∷◌, ◌++◌, map, Some}
use Rattle.std.proofs.Common.{sym, ap, ◌∙◌, subst, append_assoc}
use Rattle.std.specs.Prelude.{Bool, slice_get}
use Rattle.std.specs.List.{flat_map}
use Rattle.au_syntax.specs.declared.modules.Part.{Part}
use Rattle.au_syntax.specs.declared.modules.Part.TheVariants.{Interface, Body}
use Rattle.au_syntax.specs.Modules.{Constrained, Header, class, function, function_body}
use Rattle.au_syntax.specs.Plain.{Bytes, PlainDeclaration}
use Rattle.au_modules.specs.Programs.{ModuleParts}
use Rattle.au_names.specs.Meanings.{part_of}
use Rattle.au_names.specs.Owned.{declarations_in}
use Rattle.au_rules.specs.declared.marks.Kind.{Kind}
use Rattle.au_rules.specs.declared.marks.Kind.TheVariants.{Callables, Types, Values}
use Rattle.au_rules.specs.declared.marks.Mark.{Mark}
use Rattle.au_rules.specs.declared.marks.Mark.TheVariants.{Opens, Closes, Declares}
use Rattle.au_rules.specs.declared.marks.Role.{Role}
use Rattle.au_rules.specs.declared.marks.Role.TheVariants.{Definition, Promise, Whole}
use Rattle.au_rules.specs.Marks.{block_marks, declared, generic_mark, marks, method_marks, parameter_mark}
use Rattle.au_rules.specs.Once.{AllNamesAreOnce, AreNew, IsNew, text_of}
use Rattle.au_rules.specs.Outside.{outside}
use Rattle.au_safe_steps.specs.Orders.{AreApart}
use Rattle.au_judged_bodies.specs.OnceFieldsApart.{labels}
use Rattle.au_judged_bodies.specs.OnceParametersApart.{EachMethodIsApart, ParametersAreApart}
use Rattle.au_judged_bodies.proofs.LabelledApartLemmas.{in_text, label_mark, labels_apart, part_new}

module _ (foreign : Kind → Bytes → Bool) where
  -- ---- methods

  methods_apart : (before : List Mark) (methods : List (Header Bytes))
      → AreNew foreign before (flat_map method_marks methods)
      → EachMethodIsApart methods
  methods_apart before [] new = tt
  methods_apart before (h ∷ rest) new = (
    labels_apart Values foreign (before ++ Declares Whole Callables h.name.name h.name.at ∷ Opens
        ∷ []) h.parameters
        (part_new foreign before (Declares Whole Callables h.name.name h.name.at ∷ Opens ∷ [])
        (map (label_mark Values) h.parameters)
        (Closes ∷ flat_map method_marks rest) (subst (AreNew foreign before) opened_method new)),
    methods_apart (before ++ method_marks h) rest behind,
  )
    where
      opened_method : flat_map method_marks (h ∷ rest)
          ≡ (Declares Whole Callables h.name.name h.name.at ∷ Opens ∷ [])
          ++ (map (label_mark Values) h.parameters ++ (Closes ∷ flat_map method_marks rest))
      opened_method =
          ap (λ l. Declares Whole Callables h.name.name h.name.at ∷ Opens ∷ l)
          (append_assoc (map (label_mark Values) h.parameters) (Closes ∷ []) (flat_map method_marks rest))

      behind : AreNew foreign (before ++ method_marks h) (flat_map method_marks rest)
      behind first later role kind name at e =
          subst (λ l. IsNew foreign l role kind name) (sym (append_assoc before (method_marks h) first))
          (new (method_marks h ++ first) later role kind name at
          (ap (λ l. method_marks h ++ l) e
          ∙ sym (append_assoc (method_marks h) first (Declares role kind name at ∷ later))))

  -- ---- functions

  function_apart : (before : List Mark) (role : Role) (generics : List (Constrained Bytes)) (h : Header Bytes)
      (inside : List Mark)
      → AreNew foreign before (Opens ∷ ((map generic_mark generics
      ++ declared role Callables h.name ∷ map (label_mark Values) h.parameters) ++ inside))
      → AreApart (labels h.parameters)
  function_apart before role generics h inside new =
      labels_apart Values foreign (before ++ (Opens ∷ (map generic_mark generics
      ++ declared role Callables h.name ∷ []))) h.parameters
      (part_new foreign before (Opens ∷ (map generic_mark generics ++ declared role Callables h.name ∷ []))
      (map (label_mark Values) h.parameters) inside
      (subst (λ l. AreNew foreign before (Opens ∷ l)) split new))
    where
      split : (map generic_mark generics ++ declared role Callables h.name
          ∷ map (label_mark Values) h.parameters) ++ inside
          ≡ (map generic_mark generics ++ declared role Callables h.name ∷ [])
          ++ (map (label_mark Values) h.parameters ++ inside)
      split =
          append_assoc (map generic_mark generics) (declared role Callables h.name
          ∷ map (label_mark Values) h.parameters) inside
          ∙ sym (append_assoc (map generic_mark generics) (declared role Callables h.name ∷ [])
          (map (label_mark Values) h.parameters ++ inside))

  -- ---- declarations

  declaration_apart : (before : List Mark) (part : Part) (d : PlainDeclaration)
      → AreNew foreign before (marks part d)
      → ParametersAreApart d
  declaration_apart before part (function at generics h) new =
      function_apart before Promise generics h (Closes ∷ []) new
  declaration_apart before part (function_body at generics h block stop) new =
      function_apart before Definition generics h (block_marks block ++ Closes ∷ [])
      (subst (λ l. AreNew foreign before (Opens ∷ l))
      (append_assoc (map generic_mark generics ++ declared Definition Callables h.name
      ∷ map (label_mark Values) h.parameters)
      (block_marks block) (Closes ∷ [])) new)
  declaration_apart before part (class at name p methods) new =
      methods_apart (before ++ (declared Whole Types name ∷ Opens ∷ parameter_mark p ∷ [])) methods
      (part_new foreign before (declared Whole Types name ∷ Opens ∷ parameter_mark p ∷ [])
      (flat_map method_marks methods)
      (Closes ∷ []) new)
  declaration_apart before part other new = tt

  text_apart : (before : List Mark) (part : Part) (all : List PlainDeclaration) (i : ℕ) (d : PlainDeclaration)
      → AreNew foreign before (flat_map (marks part) all) → slice_get all i ≡ Some d → ParametersAreApart d
  text_apart before part all i d new there =
      let its = in_text (marks part) all i d there in
      declaration_apart (before ++ its.0) part d
      (part_new foreign before its.0 (marks part d) its.1 (subst (AreNew foreign before) its.2 new))

pub parameters_once : (program : List ModuleParts) → AllNamesAreOnce program
    → (place : ℕ) (m : ModuleParts) (part : Part)
    (i : ℕ) (d : PlainDeclaration) → slice_get program place ≡ Some m
    → slice_get (declarations_in (part_of part m)) i ≡ Some d → ParametersAreApart d
parameters_once program once place m Interface i d here there =
    text_apart (outside program place m Interface) [] Interface (declarations_in m.interface) i d
    (once place m here).interface there
parameters_once program once place m Body i d here there =
    text_apart (outside program place m Body) (text_of Interface m) Body (declarations_in m.body) i d
    (once place m here).body there
