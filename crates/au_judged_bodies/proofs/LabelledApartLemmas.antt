-- What has labels of one kind, which are new where they are declared, has no label twice.
use Rattle.std.proofs.Common.{◌≡◌, ℕ, zero, suc, ◌≤◌, List, [], ◌∷◌, ◌++◌, map, Some, refl}
use Rattle.std.proofs.Common.{sym, ap, ◌∙◌, subst, arith, append_assoc}
use Rattle.std.specs.Prelude.{Bool, slice_get}
use Rattle.std.specs.List.{flat_map}
use Rattle.std.proofs.lemmas.Option.{none-some, same_Some}
use Rattle.au_syntax.specs.Plain.{Bytes}
use Rattle.au_syntax.specs.Types.{Labelled}
use Rattle.au_rules.specs.declared.marks.Kind.{Kind}
use Rattle.au_rules.specs.declared.marks.Mark.{Mark}
use Rattle.au_rules.specs.declared.marks.Mark.TheVariants.{Opens, Declares}
use Rattle.au_rules.specs.declared.marks.Role.TheVariants.{Local}
use Rattle.au_rules.specs.Once.{AreNew, IsNew, closed, opened}
use Rattle.au_safe_steps.specs.Orders.{AreApart, IsNone}
use Rattle.au_judged_bodies.specs.OnceFieldsApart.{labels}

-- ---- lists

map_append : {A B : Type 0} (f : A → B) (xs ys : List A) → map f (xs ++ ys) ≡ map f xs ++ map f ys
map_append f [] ys = refl
map_append f (x ∷ xs) ys = ap (λ l. f x ∷ l) (map_append f xs ys)

pub flat_append : {A B : Type 0} (f : A → List B) (xs ys : List A)
    → flat_map f (xs ++ ys) ≡ flat_map f xs ++ flat_map f ys
flat_append f [] ys = refl
flat_append f (x ∷ xs) ys =
    ap (λ l. f x ++ l) (flat_append f xs ys) ∙ sym (append_assoc (f x) (flat_map f xs) (flat_map f ys))

-- where the marks of one item stand in those of all
pub in_text : {A : Type 0} (f : A → List Mark) (all : List A) (i : ℕ) (d : A) → slice_get all i ≡ Some d
    → (before : List Mark) × (behind : List Mark) × (flat_map f all ≡ before ++ (f d ++ behind))
in_text f [] i d e = absurd (none-some d e)
in_text {A} f (x ∷ rest) zero d e =
    ([], flat_map f rest, ap (λ (y : A). f y ++ flat_map f rest) (same_Some x d e))
in_text f (x ∷ rest) (suc i) d e =
    let its = in_text f rest i d e in
    (f x ++ its.0, its.1, ap (λ l. f x ++ l) its.2 ∙ sym (append_assoc (f x) its.0 (f d ++ its.1)))

-- ---- labels of one kind among marks

abbrev first_mark : List Mark → Mark
first_mark [] = Opens
first_mark (m ∷ rest) = m

abbrev rest_marks : List Mark → List Mark
rest_marks [] = []
rest_marks (m ∷ rest) = rest

nil≢cons : (m : Mark) (ms : List Mark) → [] ≡ m ∷ ms → ⊥
nil≢cons m ms e = absurd cc

module _ (foreign : Kind → Bytes → Bool) where
  -- marks among others are new behind what stands before them
  pub part_new : (before front ms behind : List Mark) → AreNew foreign before (front ++ (ms ++ behind))
      → AreNew foreign (before ++ front) ms
  part_new before front ms behind new first rest role kind name at e =
      subst (λ l. IsNew foreign l role kind name) (sym (append_assoc before front first))
      (new (front ++ first) (rest ++ behind) role kind name at
      (ap (λ l. front ++ (l ++ behind)) e
      ∙ ap (λ l. front ++ l) (append_assoc first (Declares role kind name at ∷ rest) behind)
      ∙ sym (append_assoc front first (Declares role kind name at ∷ (rest ++ behind)))))

  rest_new : (before : List Mark) (m : Mark) (ms : List Mark) → AreNew foreign before (m ∷ ms)
      → AreNew foreign (before ++ m ∷ []) ms
  rest_new before m ms new first rest role kind name at e =
      subst (λ l. IsNew foreign l role kind name) (sym (append_assoc before (m ∷ []) first))
      (new (m ∷ first) rest role kind name at (ap (λ l. m ∷ l) e))

module _ (kind : Kind) where
  -- the mark of a label
  abbrev pub label_mark : Labelled Bytes → Mark
  label_mark one = Declares Local kind one.name.name one.name.at

  -- no block ends among labels
  none_closes : (fields : List (Labelled Bytes)) (first rest : List Mark)
      → map label_mark fields ≡ first ++ rest
      → closed first ≡ 0
  none_closes fields [] rest e = refl
  none_closes [] (m ∷ first) rest e =
      absurd (nil≢cons m (first ++ rest) e)
  none_closes (f ∷ fields) (m ∷ first) rest e =
      subst (λ x. closed (x ∷ first) ≡ 0) (ap first_mark e) (none_closes fields first rest (ap rest_marks e))

  module _ (foreign : Kind → Bytes → Bool) where
    label_other : (before : List Mark) (f x : Labelled Bytes) (mid rest : List (Labelled Bytes))
        → AreNew foreign before (map label_mark (f ∷ (mid ++ x ∷ rest))) → f.name.name ≡ x.name.name → ⊥
    label_other before f x mid rest new same =
        (new (label_mark f ∷ map label_mark mid) (map label_mark rest) Local kind x.name.name x.name.at
        (ap (λ l. label_mark f ∷ l) (map_append label_mark mid (x ∷ rest)))).2 (
          before,
          map label_mark mid,
          f.name.at,
          ap (λ name. before ++ Declares Local kind name f.name.at ∷ map label_mark mid) same,
          λ first behind e. stays first behind e,
        )
      where
        stays : (first behind : List Mark) → map label_mark mid ≡ first ++ behind
            → closed first ≤ opened first
        stays first behind e = omega (arith, none_closes mid first behind e)

    label_none : (before : List Mark) (f : Labelled Bytes) (mid rest : List (Labelled Bytes))
        → AreNew foreign before (map label_mark (f ∷ (mid ++ rest))) → IsNone f.name.name (labels rest)
    label_none before f mid [] new = tt
    label_none before f mid (x ∷ rest) new = (
      label_other before f x mid rest new,
      label_none before f (mid ++ x ∷ []) rest
          (subst (λ l. AreNew foreign before (map label_mark (f ∷ l)))
          (sym (append_assoc mid (x ∷ []) rest)) new),
    )

    pub labels_apart : (before : List Mark) (fields : List (Labelled Bytes))
        → AreNew foreign before (map label_mark fields) → AreApart (labels fields)
    labels_apart before [] new = tt
    labels_apart before (f ∷ rest) new = (
      label_none before f [] rest new,
      labels_apart (before ++ label_mark f ∷ []) rest (rest_new foreign before (label_mark f)
          (map label_mark rest) new),
    )
