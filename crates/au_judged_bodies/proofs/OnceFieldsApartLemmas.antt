-- Names that are new where they are declared are apart.
use Rattle.std.proofs.Common.{◌≡◌, ℕ, List, [], ◌∷◌, ◌++◌, map, Some}
use Rattle.std.proofs.Common.{sym, ap, ◌∙◌, subst, append_assoc}
use Rattle.au_base.proofs.ListLemmas.{Contains-first}
use Rattle.std.specs.Prelude.{Bool, Contains, slice_get}
use Rattle.std.specs.List.{flat_map}
use Rattle.std.proofs.lemmas.List.Elements.{Contains-append_left, Contains-append_right}
use Rattle.au_syntax.specs.declared.modules.Part.{Part}
use Rattle.au_syntax.specs.declared.modules.Part.TheVariants.{Interface, Body}
use Rattle.au_syntax.specs.Modules.{Variant, record_type, union_type}
use Rattle.au_syntax.specs.Plain.{Bytes, PlainDeclaration}
use Rattle.au_modules.specs.Programs.{ModuleParts}
use Rattle.au_names.specs.Meanings.{part_of}
use Rattle.au_names.specs.Owned.{declarations_in}
use Rattle.au_rules.specs.declared.marks.Kind.{Kind}
use Rattle.au_rules.specs.declared.marks.Kind.TheVariants.{Callables, Fields, Types}
use Rattle.au_rules.specs.declared.marks.Mark.{Mark}
use Rattle.au_rules.specs.declared.marks.Mark.TheVariants.{Opens, Closes, Declares}
use Rattle.au_rules.specs.declared.marks.Role.TheVariants.{Whole}
use Rattle.au_rules.specs.Marks.{case_marks, declared, marks, parameter_mark, type_role}
use Rattle.au_rules.specs.Once.{AllNamesAreOnce, AreNew, IsNew, text_of}
use Rattle.au_rules.specs.Outside.{outside}
use Rattle.au_safe_steps.specs.Orders.{AreApart, IsNone}
use Rattle.au_judged_bodies.specs.OnceFieldsApart.{EachCaseIsApart, IsApart, case_names}
use Rattle.au_judged_bodies.proofs.LabelledApartLemmas.{flat_append, in_text, label_mark, labels_apart}
use Rattle.au_judged_bodies.proofs.LabelledApartLemmas.{part_new}

module _ (foreign : Kind → Bytes → Bool) where
  -- ---- cases

  case_first : (v : Variant Bytes) (mid : List (Variant Bytes))
      → Contains (case_marks v ++ flat_map case_marks mid) (Declares Whole Callables v.name.name v.name.at)
  case_first v mid =
      Contains-append_left (case_marks v) (flat_map case_marks mid)
      (Declares Whole Callables v.name.name v.name.at)
      (Contains-first (Declares Whole Callables v.name.name v.name.at)
      (Opens ∷ (map (label_mark Fields) v.fields ++ Closes ∷ [])))

  case_other : (before : List Mark) (v x : Variant Bytes) (mid rest : List (Variant Bytes))
      → AreNew foreign before (flat_map case_marks (v ∷ (mid ++ x ∷ rest))) → v.name.name ≡ x.name.name → ⊥
  case_other before v x mid rest new same =
      new (case_marks v ++ flat_map case_marks mid)
      ((Opens ∷ (map (label_mark Fields) x.fields ++ Closes ∷ []))
      ++ flat_map case_marks rest) Whole Callables x.name.name
      x.name.at
      (ap (λ l. case_marks v ++ l) (flat_append case_marks mid (x ∷ rest))
      ∙ sym (append_assoc (case_marks v) (flat_map case_marks mid) (case_marks x
      ++ flat_map case_marks rest)))
      Whole (
        v.name.at,
        Contains-append_right before (case_marks v ++ flat_map case_marks mid)
            (Declares Whole Callables x.name.name v.name.at)
            (subst (λ name. Contains (case_marks v ++ flat_map case_marks mid)
            (Declares Whole Callables name v.name.at)) same (case_first v mid)),
      )

  case_none : (before : List Mark) (v : Variant Bytes) (mid rest : List (Variant Bytes))
      → AreNew foreign before (flat_map case_marks (v ∷ (mid ++ rest))) → IsNone v.name.name (case_names rest)
  case_none before v mid [] new = tt
  case_none before v mid (x ∷ rest) new = (
    case_other before v x mid rest new,
    case_none before v (mid ++ x ∷ []) rest
        (subst (λ l. AreNew foreign before (flat_map case_marks (v ∷ l)))
        (sym (append_assoc mid (x ∷ []) rest)) new),
  )

  all_behind : (before : List Mark) (v : Variant Bytes) (rest : List (Variant Bytes))
      → AreNew foreign before (flat_map case_marks (v ∷ rest))
      → AreNew foreign (before ++ case_marks v) (flat_map case_marks rest)
  all_behind before v rest new first behind role kind name at e =
      subst (λ l. IsNew foreign l role kind name) (sym (append_assoc before (case_marks v) first))
      (new (case_marks v ++ first) behind role kind name at
      (ap (λ l. case_marks v ++ l) e
      ∙ sym (append_assoc (case_marks v) first (Declares role kind name at ∷ behind))))

  cases_apart : (before : List Mark) (cases : List (Variant Bytes))
      → AreNew foreign before (flat_map case_marks cases)
      → AreApart (case_names cases) × EachCaseIsApart cases
  cases_apart before [] new = (tt, tt)
  cases_apart before (v ∷ rest) new =
      let more = cases_apart (before ++ case_marks v) rest (all_behind before v rest new) in (
        (case_none before v [] rest new, more.0),
        (
          labels_apart Fields foreign (before ++ Declares Whole Callables v.name.name v.name.at ∷ Opens
              ∷ []) v.fields
              (part_new foreign before (Declares Whole Callables v.name.name v.name.at ∷ Opens ∷ [])
              (map (label_mark Fields) v.fields)
              (Closes ∷ flat_map case_marks rest)
              (subst (AreNew foreign before) (opened_case v rest) new)),
          more.1,
        ),
      )
    where
      opened_case : (v : Variant Bytes) (rest : List (Variant Bytes))
          → flat_map case_marks (v ∷ rest)
          ≡ (Declares Whole Callables v.name.name v.name.at ∷ Opens ∷ [])
          ++ (map (label_mark Fields) v.fields ++ (Closes ∷ flat_map case_marks rest))
      opened_case v rest =
          ap (λ l. Declares Whole Callables v.name.name v.name.at ∷ Opens ∷ l)
          (append_assoc (map (label_mark Fields) v.fields) (Closes ∷ []) (flat_map case_marks rest))

  -- ---- declarations

  declaration_apart : (before : List Mark) (part : Part) (d : PlainDeclaration)
      → AreNew foreign before (marks part d)
      → IsApart d
  declaration_apart before part (record_type at name ps universe fields) new =
      labels_apart Fields foreign
      (before ++ (declared (type_role part) Types name ∷ declared Whole Callables name ∷ Opens
      ∷ map parameter_mark ps))
      fields
      (part_new foreign before
      (declared (type_role part) Types name ∷ declared Whole Callables name ∷ Opens ∷ map parameter_mark ps)
      (map (label_mark Fields) fields) (Closes ∷ [])
      (subst (λ l. AreNew foreign before
      (declared (type_role part) Types name ∷ declared Whole Callables name ∷ Opens ∷ l))
      (append_assoc (map parameter_mark ps) (map (label_mark Fields) fields) (Closes ∷ [])) new))
  declaration_apart before part (union_type at name ps universe cases) new =
      cases_apart (before ++ (declared (type_role part) Types name ∷ Opens ∷ map parameter_mark ps)) cases
      (part_new foreign before (declared (type_role part) Types name ∷ Opens ∷ map parameter_mark ps)
      (flat_map case_marks cases) (Closes ∷ [])
      (subst (λ l. AreNew foreign before (declared (type_role part) Types name ∷ Opens ∷ l))
      (append_assoc (map parameter_mark ps) (flat_map case_marks cases) (Closes ∷ [])) new))
  declaration_apart before part other new = tt

  text_apart : (before : List Mark) (part : Part) (all : List PlainDeclaration) (i : ℕ) (d : PlainDeclaration)
      → AreNew foreign before (flat_map (marks part) all) → slice_get all i ≡ Some d → IsApart d
  text_apart before part all i d new there =
      let its = in_text (marks part) all i d there in
      declaration_apart (before ++ its.0) part d
      (part_new foreign before its.0 (marks part d) its.1 (subst (AreNew foreign before) its.2 new))

pub fields_once : (program : List ModuleParts) → AllNamesAreOnce program
    → (place : ℕ) (m : ModuleParts) (part : Part)
    (i : ℕ) (d : PlainDeclaration) → slice_get program place ≡ Some m
    → slice_get (declarations_in (part_of part m)) i ≡ Some d → IsApart d
fields_once program once place m Interface i d here there =
    text_apart (outside program place m Interface) [] Interface (declarations_in m.interface) i d
    (once place m here).interface there
fields_once program once place m Body i d here there =
    text_apart (outside program place m Body) (text_of Interface m) Body (declarations_in m.body) i d
    (once place m here).body there
