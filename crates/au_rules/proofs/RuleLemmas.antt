-- The first double of each declaration is none exactly where the rule holds.
use Rattle.std.proofs.Common.{◌≡◌, ◌↔◌, ◌⊎◌, inl, inr, ℕ, zero, suc, Bool, true, false, ◌||◌, cond, List, []}
use Rattle.std.proofs.Common.{◌∷◌, ◌++◌, reverse, map, Option, None, Some, refl, sym, ap, ◌∙◌, subst}
use Rattle.std.proofs.Common.{append_assoc}
use Rattle.std.specs.Prelude.{slice_get}
use Rattle.std.specs.List.{flat_map}
use Rattle.std.specs.Option.{option_map, option_or}
use Rattle.std.proofs.lemmas.List.{append-nil, reverse-append}
use Rattle.std.proofs.lemmas.Bool.{or_cases, or_left, or_right}
use Rattle.au_base.specs.declared.places.Pos.{Pos}
use Rattle.au_base.proofs.OptionLemmas.{or_both}
use Rattle.au_syntax.specs.declared.modules.Part.{Part}
use Rattle.au_syntax.specs.declared.modules.Part.TheVariants.{Interface, Body}
use Rattle.au_syntax.specs.Plain.{Bytes, PlainDeclaration}
use Rattle.au_types.specs.declared.types.DeclAt.{DeclAt}
use Rattle.au_modules.specs.Programs.{ModuleParts}
use Rattle.au_names.specs.Meanings.{part_of}
use Rattle.au_names.specs.Owned.{declarations_in}
use Rattle.au_rules.specs.declared.doubles.Double.{Double}
use Rattle.au_rules.specs.declared.marks.Kind.{Kind}
use Rattle.au_rules.specs.declared.marks.Mark.{Mark}
use Rattle.au_rules.specs.declared.marks.Mark.TheVariants.{Opens, Closes, Declares}
use Rattle.au_rules.specs.declared.marks.Role.{Role}
use Rattle.au_rules.specs.declared.marks.Role.TheVariants.{Local, Whole, Promise, Definition}
use Rattle.au_rules.specs.Doubles.{marks_behind, behind_all, double_of, doubles_behind, doubles_of}
use Rattle.au_rules.specs.Doubles.{first_again, first_double, is_declared, is_name_again, is_open, is_top}
use Rattle.au_rules.specs.Doubles.{numbered_double, stands}
use Rattle.au_rules.specs.Marks.{marks}
use Rattle.au_rules.specs.Once.{AllNamesAreOnce, AreNew, IsDue, IsNew, IsUnknown, NamesAreOnce, text_of}
use Rattle.au_rules.specs.Outside.{outside}
use Rattle.au_rules.proofs.OnceLemmas.{at_top_top, declared_stands, not_so, open_from, open_to}
use Rattle.au_rules.proofs.OnceLemmas.{so_not, stands_declared, top_at_top, unknown_from}
use Rattle.au_rules.proofs.OnceLemmas.{unknown_to}

module _ (foreign : Kind → Bytes → Bool) where
  -- ---- one name

  module _ (before : List Mark) (kind : Kind) (name : Bytes) where
    local_again : Bool
    local_again = foreign kind name || (is_top before kind name || is_open kind name zero before)

    local_new : local_again ≡ false → IsNew foreign (reverse before) Local kind name
    unfolding local_again
    local_new e = (
      λ one. so_not local_again e (or_left (foreign kind name) _ one),
      λ one. so_not local_again e (or_right (foreign kind name) _
          (or_left (is_top before kind name) _ (at_top_top before kind name one))),
      λ one. so_not local_again e (or_right (foreign kind name) _
          (or_right (is_top before kind name) _ (open_from kind name before one))),
    )

    new_local : IsNew foreign (reverse before) Local kind name → local_again ≡ false
    unfolding local_again
    new_local h = not_so local_again (λ e. by (or_cases (foreign kind name) (is_top before kind name
        || is_open kind name zero before) e))
      where
        inner : (is_top before kind name ≡ true) ⊎ (is_open kind name zero before ≡ true) → ⊥
        inner (inl one) = h.1 (top_at_top before kind name one)
        inner (inr one) = h.2 (open_to kind name before one)

        by : (foreign kind name ≡ true) ⊎ ((is_top before kind name || is_open kind name zero before) ≡ true)
            → ⊥
        by (inl one) = h.0 one
        by (inr more) = inner (or_cases (is_top before kind name) (is_open kind name zero before) more)

    definition_again : Bool
    definition_again = cond (stands before Promise kind name) (stands before Definition kind name)
        (is_declared before kind name)

    definition_new : definition_again ≡ false → IsNew foreign (reverse before) Definition kind name
    unfolding definition_again
    definition_new e = by (stands before Promise kind name) refl
      where
        by : (b : Bool) → stands before Promise kind name ≡ b → IsUnknown (reverse before) kind name
            ⊎ IsDue (reverse before) kind name
        by true p =
            let none : stands before Definition kind name
            ≡ false = sym (ap (λ c. cond c (stands before Definition kind name)
            (is_declared before kind name)) p) ∙ e in
            inr (
              stands_declared Promise kind name before p,
              λ h. so_not (stands before Definition kind name)
                  none (declared_stands Definition kind name before h),
            )
        by false p =
            let none : is_declared before kind name
            ≡ false = sym (ap (λ c. cond c (stands before Definition kind name)
            (is_declared before kind name)) p) ∙ e in
            inl (unknown_from before kind name none)

    new_definition : IsNew foreign (reverse before) Definition kind name → definition_again ≡ false
    unfolding definition_again
    new_definition (inl h) =
        let promise : stands before Promise kind name
        ≡ false = not_so (stands before Promise kind name)
        (λ e. h Promise (stands_declared Promise kind name before e)) in
        ap (λ c. cond c (stands before Definition kind name) (is_declared before kind name)) promise
        ∙ unknown_to before kind name h
    new_definition (inr h) =
        ap (λ c. cond c (stands before Definition kind name) (is_declared before kind name))
        (declared_stands Promise kind name before h.0)
        ∙ not_so (stands before Definition kind name)
        (λ e. h.1 (stands_declared Definition kind name before e))

    name_new : (role : Role) → is_name_again foreign before role kind name ≡ false
        → IsNew foreign (reverse before) role kind name
    unfolding local_again definition_again
    name_new Local e = local_new e
    name_new Whole e = unknown_from before kind name e
    name_new Promise e = unknown_from before kind name e
    name_new Definition e = definition_new e

    new_name : (role : Role) → IsNew foreign (reverse before) role kind name
        → is_name_again foreign before role kind name ≡ false
    unfolding local_again definition_again
    new_name Local h = new_local h
    new_name Whole h = unknown_to before kind name h
    new_name Promise h = unknown_to before kind name h
    new_name Definition h = new_definition h

  -- ---- marks

  -- the first of marks, and the others
  new_rest : (before : List Mark) (m : Mark) (rest : List Mark) → AreNew foreign before (m ∷ rest)
      → AreNew foreign (before ++ m ∷ []) rest
  new_rest before m rest h = λ first more role kind name at e.
      subst (λ l. IsNew foreign l role kind name) (sym (append_assoc before (m ∷ []) first))
      (h (m ∷ first) more role kind name at (ap (λ l. m ∷ l) e))

  new_first : (before : List Mark) (role : Role) (kind : Kind) (name : Bytes) (at : Pos) (rest : List Mark)
      → AreNew foreign before (Declares role kind name at ∷ rest) → IsNew foreign before role kind name
  new_first before role kind name at rest h = subst (λ l. IsNew foreign l role kind name) (append-nil before)
      (h [] rest role kind name at refl)

  -- the first of marks is new, if it declares a name
  abbrev FirstIsNew : List Mark → Mark → Type 0
  FirstIsNew before Opens = Unit {0}
  FirstIsNew before Closes = Unit {0}
  FirstIsNew before (Declares role kind name at) = IsNew foreign before role kind name

  new_all : (before : List Mark) (m : Mark) (rest : List Mark) → FirstIsNew before m
      → AreNew foreign (before ++ m ∷ []) rest → AreNew foreign before (m ∷ rest)
  new_all before m rest one h = λ first more role kind name at e. by first more role kind name at e
    where
      by : (first more : List Mark) (role : Role) (kind : Kind) (name : Bytes) (at : Pos) → m ∷ rest ≡ first
          ++ Declares role kind name at ∷ more → IsNew foreign (before ++ first) role kind name
      by [] more role kind name at e =
          let same : m ≡ Declares role kind name at = cc in
          subst (λ l. IsNew foreign l role kind name) (sym (append-nil before))
          (subst (FirstIsNew before) same one)
      by (x ∷ xs) more role kind name at e =
          let same : m ≡ x = cc in
          let tail : rest ≡ xs ++ Declares role kind name at ∷ more = cc in
          subst (λ l. IsNew foreign l role kind name) (append_assoc before (m ∷ []) xs
          ∙ ap (λ y. before ++ y ∷ xs) same) (h xs more role kind name at tail)

  new_none : (before : List Mark) → AreNew foreign before []
  new_none before = λ first rest role kind name at e. absurd (by first rest (Declares role kind name at) e)
    where
      by : (first rest : List Mark) (m : Mark) → [] ≡ first ++ m ∷ rest → ⊥
      by [] rest m e = cc
      by (x ∷ xs) rest m e = cc

  -- marks and more marks
  new_left : (before new more : List Mark) → AreNew foreign before (new ++ more) → AreNew foreign before new
  new_left before new more h = λ first rest role kind name at e.
      h first (rest ++ more) role kind name at (ap (λ l. l ++ more) e
      ∙ append_assoc first (Declares role kind name at ∷ rest) more)

  new_right : (before new more : List Mark) → AreNew foreign before (new ++ more)
      → AreNew foreign (before ++ new) more
  new_right before new more h = λ first rest role kind name at e.
      subst (λ l. IsNew foreign l role kind name) (sym (append_assoc before new first))
      (h (new ++ first) rest role kind name at (ap (λ l. new ++ l) e
      ∙ sym (append_assoc new first (Declares role kind name at ∷ rest))))

  first_new : (before : List Mark) (m : Mark) (rest : List Mark) → AreNew foreign before (m ∷ rest)
      → FirstIsNew before m
  first_new before Opens rest h = tt
  first_new before Closes rest h = tt
  first_new before (Declares role kind name at) rest h = new_first before role kind name at rest h

  new_both : (before new more : List Mark) → AreNew foreign before new → AreNew foreign (before ++ new) more
      → AreNew foreign before (new ++ more)
  new_both before [] more h k = subst (λ l. AreNew foreign l more) (append-nil before) k
  new_both before (m ∷ rest) more h k =
      new_all before m (rest ++ more) (first_new before m rest h)
      (new_both (before ++ m ∷ []) rest more (new_rest before m rest h)
      (subst (λ l. AreNew foreign l more) (sym (append_assoc before (m ∷ []) rest)) k))

  -- ---- the first double of marks

  -- what is behind marks, in the order of the text
  pub behind_text : (before marks : List Mark) → reverse (marks_behind before marks) ≡ reverse before ++ marks
  behind_text before [] = sym (append-nil (reverse before))
  behind_text before (m ∷ rest) =
      behind_text (m ∷ before) rest ∙ ap (λ l. l ++ rest) (reverse-append (m ∷ []) before)
      ∙ append_assoc (reverse before) (m ∷ []) rest

  none_of : {A : Type 0} (c : Bool) (x : A) → cond c (Some x) None ≡ None → c ≡ false
  none_of true x e = absurd cc
  none_of false x e = refl

  mark_new : (before : List Mark) (m : Mark) → double_of foreign before m ≡ None
      → FirstIsNew (reverse before) m
  mark_new before Opens e = tt
  mark_new before Closes e = tt
  mark_new before (Declares role kind name at) e = name_new before kind name role
      (none_of (is_name_again foreign before role kind name) (record { name = name; at = at }) e)

  new_mark : (before : List Mark) (m : Mark) → FirstIsNew (reverse before) m → double_of foreign before m
      ≡ None
  new_mark before Opens h = refl
  new_mark before Closes h = refl
  new_mark before (Declares role kind name at) h = ap
      (λ c. cond c (Some (record { name = name; at = at })) None) (new_name before kind name role h)

  marks_new : (before marks : List Mark) → first_again foreign before marks ≡ None
      → AreNew foreign (reverse before) marks
  unfolding first_again
  marks_new before [] e = new_none (reverse before)
  marks_new before (m ∷ rest) e =
      let parts = or_both (double_of foreign before m) (first_again foreign (m ∷ before) rest) e in
      new_all (reverse before) m rest (mark_new before m parts.0)
      (subst (λ l. AreNew foreign l rest) (reverse-append (m ∷ []) before)
      (marks_new (m ∷ before) rest parts.1))

  new_marks : (before marks : List Mark) → AreNew foreign (reverse before) marks
      → first_again foreign before marks ≡ None
  unfolding first_again
  new_marks before [] h = refl
  new_marks before (m ∷ rest) h =
      ap (λ o. option_or o (first_again foreign (m ∷ before) rest))
      (new_mark before m (first_new (reverse before) m rest h))
      ∙ new_marks (m ∷ before) rest (subst (λ l. AreNew foreign l rest) (sym (reverse-append (m ∷ []) before))
      (new_rest (reverse before) m rest h))

  -- ---- declarations

  -- none of the declarations has a double
  abbrev pub NoDoubles : List (Option Double) → Type 0
  NoDoubles found = (k : ℕ) → numbered_double k (Some found) ≡ None

  pub none_more : (o : Option Double) (found : List (Option Double)) → o ≡ None → NoDoubles found
      → NoDoubles (o ∷ found)
  none_more o found e h zero = rw e refl
  none_more o found e h (suc k) = h k

  first_none : (o : Option Double) (found : List (Option Double)) → NoDoubles (o ∷ found) → o ≡ None
  first_none None found h = refl
  first_none (Some d) found h = h zero

  rest_none : (o : Option Double) (found : List (Option Double)) → NoDoubles (o ∷ found) → NoDoubles found
  rest_none o found h = λ k. h (suc k)

  pub none_left : (found more : List (Option Double)) → NoDoubles (found ++ more) → NoDoubles found
  none_left [] more h = λ k. refl
  none_left (o ∷ found) more h = none_more o found (first_none o (found ++ more) h)
      (none_left found more (rest_none o (found ++ more) h))

  pub none_right : (found more : List (Option Double)) → NoDoubles (found ++ more) → NoDoubles more
  none_right [] more h = h
  none_right (o ∷ found) more h = none_right found more (rest_none o (found ++ more) h)

  pub none_both : (found more : List (Option Double)) → NoDoubles found → NoDoubles more
      → NoDoubles (found ++ more)
  none_both [] more h k = k
  none_both (o ∷ found) more h k = none_more o (found
      ++ more) (first_none o found h) (none_both found more (rest_none o found h) k)

  module _ (part : Part) where
    pub all_new : (before : List Mark) (ds : List PlainDeclaration)
        → NoDoubles (doubles_behind foreign before (map (marks part) ds))
        → AreNew foreign (reverse before) (flat_map (marks part) ds)
    unfolding doubles_behind
    all_new before [] h = new_none (reverse before)
    all_new before (d ∷ ds) h =
        let one = first_again foreign before (marks part d) in
        let more = doubles_behind foreign (marks_behind before (marks part d)) (map (marks part) ds) in
        new_both (reverse before) (marks part d) (flat_map (marks part) ds)
        (marks_new before (marks part d) (first_none one more h))
        (subst (λ l. AreNew foreign l (flat_map (marks part) ds)) (behind_text before (marks part d))
        (all_new (marks_behind before (marks part d)) ds (rest_none one more h)))

    pub new_each : (before : List Mark) (ds : List PlainDeclaration)
        → AreNew foreign (reverse before) (flat_map (marks part) ds)
        → NoDoubles (doubles_behind foreign before (map (marks part) ds))
    unfolding doubles_behind
    new_each before [] h = λ k. refl
    new_each before (d ∷ ds) h =
        none_more (first_again foreign before (marks part d))
        (doubles_behind foreign (marks_behind before (marks part d)) (map (marks part) ds))
        (new_marks before (marks part d) (new_left (reverse before) (marks part d) (flat_map (marks part) ds)
        h))
        (new_each (marks_behind before (marks part d)) ds
        (subst (λ l. AreNew foreign l (flat_map (marks part) ds)) (sym (behind_text before (marks part d)))
        (new_right (reverse before) (marks part d) (flat_map (marks part) ds) h)))

    pub all_text : (before : List Mark) (ds : List PlainDeclaration)
        → reverse (behind_all before (map (marks part) ds)) ≡ reverse before ++ flat_map (marks part) ds
    all_text before [] = sym (append-nil (reverse before))
    all_text before (d ∷ ds) =
        all_text (marks_behind before (marks part d)) ds
        ∙ ap (λ l. l ++ flat_map (marks part) ds) (behind_text before (marks part d))
        ∙ append_assoc (reverse before) (marks part d) (flat_map (marks part) ds)

-- ---- modules

module _ (program : List ModuleParts) (place : ℕ) (m : ModuleParts) where
  abbrev Inner : Kind → Bytes → Bool
  Inner = outside program place m Body

  abbrev Outer : Kind → Bytes → Bool
  Outer = outside program place m Interface

  -- the marks of the declarations of a part
  abbrev part_marks : Part → List (List Mark)
  part_marks part = map (marks part) (declarations_in (part_of part m))

  text_before : reverse (behind_all [] (part_marks Interface)) ≡ text_of Interface m
  text_before = all_text Outer Interface [] (declarations_in (part_of Interface m))

  once_from : ((k : ℕ) → numbered_double k (Some (doubles_of program place m)) ≡ None)
      → NamesAreOnce program place m
  once_from h =
      let first = doubles_behind Outer [] (part_marks Interface) in
      let second = doubles_behind Inner (behind_all [] (part_marks Interface)) (part_marks Body) in
      record {
        interface = all_new Outer Interface [] (declarations_in (part_of Interface m))
            (none_left Outer first second h);
        body = subst (λ l. AreNew Inner l (text_of Body m)) text_before
            (all_new Inner Body (behind_all [] (part_marks Interface)) (declarations_in (part_of Body m))
            (none_right Outer first second h));
      }

  once_to : NamesAreOnce program place m → (k : ℕ) → numbered_double k (Some (doubles_of program place m))
      ≡ None
  once_to h =
      let first = doubles_behind Outer [] (part_marks Interface) in
      let second = doubles_behind Inner (behind_all [] (part_marks Interface)) (part_marks Body) in
      none_both Outer first second (new_each Outer Interface [] (declarations_in (part_of Interface m))
      h.interface)
      (new_each Inner Body (behind_all [] (part_marks Interface)) (declarations_in (part_of Body m))
      (subst (λ l. AreNew Inner l (text_of Body m)) (sym text_before) h.body))

-- ---- programs

pub exact : (program : List ModuleParts) → ((at : DeclAt) → first_double program at ≡ None)
    ↔ AllNamesAreOnce program
exact program = (all, none)
  where
    all : ((at : DeclAt) → first_double program at ≡ None) → AllNamesAreOnce program
    all h place m here = once_from program place m (λ k.
        sym (ap (λ o. numbered_double k (option_map (doubles_of program place) o)) here)
        ∙ h (record { «module» = place; decl = k }))

    none : AllNamesAreOnce program → (at : DeclAt) → first_double program at ≡ None
    none h at = by (slice_get program at.«module») refl
      where
        by : (o : Option ModuleParts) → slice_get program at.«module» ≡ o
            → numbered_double at.decl (option_map (doubles_of program at.«module»)
            (slice_get program at.«module»)) ≡ None
        by None e = ap (λ o. numbered_double at.decl (option_map (doubles_of program at.«module») o)) e
        by (Some m) e =
            ap (λ o. numbered_double at.decl (option_map (doubles_of program at.«module») o)) e
            ∙ once_to program at.«module» m (h at.«module» m e) at.decl
