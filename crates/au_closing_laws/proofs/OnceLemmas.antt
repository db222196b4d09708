-- What the rule on names that are declared again says of two declarations of one type in a module, and of
-- the type parameters of one.
use Rattle.std.proofs.Common.{◌≡◌, ◌⊎◌, inl, inr, ℕ, zero, suc, ◌+◌, ◌<◌, Bool, true, false, true≢false}
use Rattle.std.proofs.Common.{List, [], ◌∷◌, ◌++◌, map, Option, None, Some, refl, sym, ap, ◌∙◌, subst}
use Rattle.std.proofs.Common.{append_assoc, cond, arith}
use Rattle.std.specs.Prelude.{slice_get}
use Rattle.std.specs.List.{flat_map}
use Rattle.std.specs.Str.{bytes_eq}
use Rattle.std.proofs.lemmas.Grind.{flat_map-append}
use Rattle.std.proofs.lemmas.Option.{none-some, same_Some}
use Rattle.std.proofs.lemmas.Slice.Eq.{bytes_eq-Decides}
use Rattle.std.proofs.lemmas.List.{map-append}
use Rattle.au_base.specs.declared.places.Pos.{Pos}
use Rattle.au_syntax.specs.declared.declarations.Universe.{Universe}
use Rattle.au_syntax.specs.declared.modules.Part.{Part}
use Rattle.au_syntax.specs.declared.modules.Part.TheVariants.{Interface, Body}
use Rattle.au_syntax.specs.Modules.{InUniverse, opaque_type, record_type, union_type}
use Rattle.au_syntax.specs.Modules.{class}
use Rattle.au_syntax.specs.Plain.{Bytes, PlainDeclaration}
use Rattle.au_types.specs.DeclaredNames.{type_names}
use Rattle.au_types.specs.Universes.{universe_in}
use Rattle.au_judged_types.specs.Meanings.{parameter}
use Rattle.au_modules.specs.Programs.{ModuleParts}
use Rattle.au_names.specs.DeclaredTypes.{DeclaredType, a_type, type_declared}
use Rattle.au_names.specs.Owned.{declarations_in}
use Rattle.au_names.specs.Standing.{Standing, body_standing, module_standing, standing_from}
use Rattle.au_names.proofs.AmongLemmas.{Among, among, among-append, contains}
use Rattle.au_rules.specs.declared.marks.Kind.{Kind}
use Rattle.au_rules.specs.declared.marks.Kind.TheVariants.{Types, Callables, Fields}
use Rattle.au_rules.specs.declared.marks.Mark.{Mark}
use Rattle.au_rules.specs.declared.marks.Mark.TheVariants.{Opens, Closes, Declares}
use Rattle.au_rules.specs.declared.marks.Role.{Role}
use Rattle.au_rules.specs.declared.marks.Role.TheVariants.{Local, Whole, Promise, Definition}
use Rattle.au_rules.specs.Marks.{case_marks, enclosed, labelled_mark, marks, method_marks, parameter_mark, type_role}
use Rattle.au_rules.specs.Once.{AreNew, IsDue, IsNew, IsUnknown, NamesAreOnce, StaysOpen, closed}
use Rattle.au_rules.specs.Once.{text_of}
use Rattle.au_rules.specs.Outside.{outside}

-- ---- lists

-- a list that is cut before an item lies in one of two
cut : {A : Type 0} (xs ys : List A) (x : A) (first rest : List A) → xs ++ ys ≡ first ++ x ∷ rest
    → ((r : List A) × (xs ≡ first ++ x ∷ r)) ⊎ ((f : List A) × (first ≡ xs ++ f) × (ys ≡ f ++ x ∷ rest))
cut [] ys x first rest e = inr (first, refl, e)
cut (z ∷ xs) ys x [] rest e =
    let head : z ≡ x = cc in
    inl (xs, ap (λ y. y ∷ xs) head)
cut {A} (z ∷ xs) ys x (y ∷ first) rest e =
    let head : z ≡ y = cc in
    let tail : xs ++ ys ≡ first ++ x ∷ rest = cc in
    by head (cut xs ys x first rest tail)
  where
    by : z ≡ y → ((r : List A) × (xs ≡ first ++ x ∷ r)) ⊎ ((f : List A) × (first ≡ xs ++ f) × (ys ≡ f ++ x ∷ rest))
        → ((r : List A) × (z ∷ xs ≡ y ∷ (first ++ x ∷ r)))
        ⊎ ((f : List A) × (y ∷ first ≡ z ∷ (xs ++ f)) × (ys ≡ f ++ x ∷ rest))
    by head (inl h) = inl (h.0, ap (λ w. w ∷ xs) head ∙ ap (λ l. y ∷ l) h.1)
    by head (inr h) = inr (h.0, ap (λ w. w ∷ first) (sym head) ∙ ap (λ l. z ∷ l) h.1, h.2)

-- an item of a list stands behind some and before others
split_at : {A : Type 0} (xs : List A) (x : A) → Among x xs → (f g : List A) × (xs ≡ f ++ x ∷ g)
split_at [] x m = absurd m
split_at (y ∷ xs) x (inl here) = ([], xs, ap (λ w. w ∷ xs) here)
split_at (y ∷ xs) x (inr later) = let its = split_at xs x later in (y ∷ its.0, its.1, ap (λ l. y ∷ l) its.2)

among_middle : {A : Type 0} (xs : List A) (x : A) (ys : List A) → Among x (xs ++ x ∷ ys)
among_middle [] x ys = inl refl
among_middle (y ∷ xs) x ys = inr (among_middle xs x ys)

module _ {A B : Type 0} (f : A → List B) where
  -- what one item of a list has, and what two have, among what all have
  one_split : (xs : List A) (j : ℕ) (y : A) → slice_get xs j ≡ Some y → (b c : List B)
      × (flat_map f xs ≡ b ++ (f y ++ c))
  one_split [] j y e = absurd (none-some y e)
  one_split (x ∷ xs) zero y e = ([], flat_map f xs, ap (λ z. f z ++ flat_map f xs) (same_Some x y e))
  one_split (x ∷ xs) (suc j) y e =
      let its = one_split xs j y e in
      (f x ++ its.0, its.1, ap (λ l. f x ++ l) its.2 ∙ sym (append_assoc (f x) its.0 (f y ++ its.1)))

  two_split : (xs : List A) (i j : ℕ) (z y : A) → i < j → slice_get xs i ≡ Some z → slice_get xs j ≡ Some y →
      (a b c : List B) × (flat_map f xs ≡ a ++ (f z ++ (b ++ (f y ++ c))))
  two_split [] i j z y h e k = absurd (none-some y k)
  two_split (x ∷ xs) i zero z y h e k = absurd (omega (arith, h))
  two_split (x ∷ xs) zero (suc j) z y h e k =
      let its = one_split xs j y k in
      ([], its.0, its.1, ap (λ w. f w ++ flat_map f xs) (same_Some x z e) ∙ ap (λ l. f z ++ l) its.2)
  two_split (x ∷ xs) (suc i) (suc j) z y h e k =
      let before : i < j = omega (arith, h) in
      let its = two_split xs i j z y before e k in (
        f x ++ its.0,
        its.1,
        its.2,
        ap (λ l. f x ++ l) its.3
            ∙ sym (append_assoc (f x) its.0 (f z ++ (its.1 ++ (f y ++ its.2)))),
      )

-- ---- the text of a module

abbrev pub nothing : Kind → Bytes → Bool
nothing kind name = false

weaker : (foreign : Kind → Bytes → Bool) (before : List Mark) (role : Role) (kind : Kind) (name : Bytes) →
    IsNew foreign before role kind name → IsNew nothing before role kind name
weaker foreign before Local kind name new = ((λ e. true≢false (sym e)), new.1, new.2)
weaker foreign before Whole kind name new = new
weaker foreign before Promise kind name new = new
weaker foreign before Definition kind name new = new

both_new : (outer inner : Kind → Bytes → Bool) (xs ys : List Mark) → AreNew outer [] xs → AreNew inner xs ys →
    AreNew nothing [] (xs ++ ys)
both_new outer inner xs ys one two first rest role kind name at e =
    by (cut xs ys (Declares role kind name at) first rest e)
  where
    by : ((r : List Mark) × (xs ≡ first ++ Declares role kind name at ∷ r))
        ⊎ ((f : List Mark) × (first ≡ xs ++ f) × (ys ≡ f ++ Declares role kind name at ∷ rest)) →
        IsNew nothing first role kind name
    by (inl h) = weaker outer first role kind name (one first h.0 role kind name at h.1)
    by (inr h) = weaker inner first role kind name
        (subst (λ l. IsNew inner l role kind name) (sym h.1) (two h.0 rest role kind name at h.2))

-- what a declaration says where it stands
abbrev pub said : Standing → List Mark
said s = marks s.part s.says

part_said : (place first : ℕ) (part : Part) (ds : List PlainDeclaration) →
    flat_map said (standing_from place part first ds) ≡ flat_map (marks part) ds
unfolding standing_from
part_said place first part [] = refl
part_said place first part (d ∷ ds) = ap (λ l. marks part d ++ l) (part_said place (first + 1) part ds)

-- No name of a module is declared again, in the order of the numbers of its declarations.
pub module_new : (program : List ModuleParts) (place : ℕ) (m : ModuleParts) → NamesAreOnce program place m →
    AreNew nothing [] (flat_map said (module_standing place m))
module_new program place m once =
    subst (AreNew nothing [])
    (sym (flat_map-append said (standing_from place Interface 0 (declarations_in m.interface)) (body_standing place m)
    ∙ ap (λ l. l ++ flat_map said (body_standing place m)) (part_said place 0 Interface (declarations_in m.interface))
    ∙ ap (λ l. text_of Interface m ++ l) (part_said place 0 Body (declarations_in m.body))))
    (both_new (outside program place m Interface) (outside program place m Body) (text_of Interface m)
    (text_of Body m) once.interface once.body)

-- ---- how a declaration declares its type

abbrev pub role_of : Part → PlainDeclaration → Role
role_of part (opaque_type at name ps u) = Promise
role_of part (record_type at name ps u fields) = type_role part
role_of part (union_type at name ps u cases) = type_role part
role_of part other = Whole

abbrev pub IsTop : Role → Type 0
IsTop Local = ⊥
IsTop role = Unit {0}

top_role : (part : Part) (says : PlainDeclaration) → IsTop (role_of part says)
top_role Interface (record_type at name ps u fields) = tt
top_role Body (record_type at name ps u fields) = tt
top_role Interface (union_type at name ps u cases) = tt
top_role Body (union_type at name ps u cases) = tt
top_role part other = tt

-- its mark is the first of the declaration's
marked : (part : Part) (says : PlainDeclaration) (name : Bytes) → Among name (type_names says) → (pos : Pos)
    × (more : List Mark) × (marks part says ≡ Declares (role_of part says) Types name pos ∷ more)
marked part (opaque_type at n ps u) name (inl is) = (
  n.at,
  enclosed (map parameter_mark ps),
  ap (λ x. Declares Promise Types x n.at ∷ enclosed (map parameter_mark ps)) is,
)
marked part (record_type at n ps u fields) name (inl is) =
    let more : List Mark = Declares Whole Callables n.name n.at ∷ enclosed
    (map parameter_mark ps ++ map (labelled_mark Fields) fields) in
    (n.at, more, ap (λ x. Declares (type_role part) Types x n.at ∷ more) is)
marked part (union_type at n ps u cases) name (inl is) =
    let more : List Mark = enclosed (map parameter_mark ps ++ flat_map case_marks cases) in
    (n.at, more, ap (λ x. Declares (type_role part) Types x n.at ∷ more) is)
marked part (class at n p methods) name (inl is) =
    let more : List Mark = enclosed (parameter_mark p ∷ flat_map method_marks methods) in
    (n.at, more, ap (λ x. Declares Whole Types x n.at ∷ more) is)
marked part (opaque_type at n ps u) name (inr later) = absurd later
marked part (record_type at n ps u fields) name (inr later) = absurd later
marked part (union_type at n ps u cases) name (inr later) = absurd later
marked part (class at n p methods) name (inr later) = absurd later
marked part other name m = absurd m

-- ---- two marks of one name

module _ (all : List Mark) (new : AreNew nothing [] all) (kind : Kind) (name : Bytes) where
  abbrev of : Role → Pos → Mark
  of role at = Declares role kind name at

  second : (a mid c : List Mark) (r s : Role) (p q : Pos) → all ≡ a ++ of r p ∷ (mid ++ of s q ∷ c) →
      IsNew nothing (a ++ of r p ∷ mid) s kind name
  second a mid c r s p q e = new (a ++ of r p ∷ mid) c s kind name q
      (e ∙ sym (append_assoc a (of r p ∷ mid) (of s q ∷ c)))

  here : (a mid : List Mark) (r : Role) (p : Pos) → IsUnknown (a ++ of r p ∷ mid) kind name → ⊥
  here a mid r p unknown = unknown r (p, contains (a ++ of r p ∷ mid) (of r p) (among_middle a (of r p) mid))

  -- the later one defines what the earlier one promises
  two_marks : (a mid c : List Mark) (r s : Role) (p q : Pos) → all ≡ a ++ of r p ∷ (mid ++ of s q ∷ c) →
      IsTop r → IsTop s → (r ≡ Promise) × (s ≡ Definition)
  two_marks a mid c r Local p q e t u = absurd u
  two_marks a mid c r Whole p q e t u = absurd (here a mid r p (second a mid c r Whole p q e))
  two_marks a mid c r Promise p q e t u = absurd (here a mid r p (second a mid c r Promise p q e))
  two_marks a mid c Local Definition p q e t u = absurd t
  two_marks a mid c Promise Definition p q e t u = (refl, refl)
  two_marks a mid c Definition Definition p q e t u = absurd (on (second a mid c Definition Definition p q e))
    where
      on : IsUnknown (a ++ of Definition p ∷ mid) kind name ⊎ IsDue (a ++ of Definition p ∷ mid) kind name → ⊥
      on (inl unknown) = here a mid Definition p unknown
      on (inr due) = due.1 (
        p,
        contains (a ++ of Definition p ∷ mid) (of Definition p)
            (among_middle a (of Definition p) mid),
      )
  two_marks a mid c Whole Definition p q e t u = absurd (on (second a mid c Whole Definition p q e))
    where
      promised : (at : Pos) → Among (of Promise at) a ⊎ Among (of Promise at) (of Whole p ∷ mid) → ⊥
      promised at (inl before) = new a (mid ++ of Definition q ∷ c) Whole kind name p e Promise
          (at, contains a (of Promise at) before)
      promised at (inr (inl is)) = absurd cc
      promised at (inr (inr behind)) =
          let its = split_at mid (of Promise at) behind in
          here a its.0 Whole p
          (new (a ++ of Whole p ∷ its.0) (its.1 ++ of Definition q ∷ c) Promise kind name at
          (e ∙ ap (λ l. a ++ of Whole p ∷ (l ++ of Definition q ∷ c)) its.2
          ∙ ap (λ l. a ++ of Whole p ∷ l) (append_assoc its.0 (of Promise at ∷ its.1) (of Definition q ∷ c))
          ∙ sym (append_assoc a (of Whole p ∷ its.0) (of Promise at ∷ (its.1 ++ of Definition q ∷ c)))))

      on : IsUnknown (a ++ of Whole p ∷ mid) kind name ⊎ IsDue (a ++ of Whole p ∷ mid) kind name → ⊥
      on (inl unknown) = here a mid Whole p unknown
      on (inr due) =
          promised due.0.0 (among-append a (of Whole p ∷ mid) (of Promise due.0.0)
          (among (a ++ of Whole p ∷ mid) (of Promise due.0.0) due.0.1))

-- Of two declarations of one name in a module, the first promises it and the second defines it.
pub two_declared : (all : List Standing) → AreNew nothing [] (flat_map said all) →
    (i j : ℕ) (d e : Standing) (kind : Kind) (name : Bytes) (r s : Role) (p q : Pos) → i < j
    → slice_get all i ≡ Some d → slice_get all j ≡ Some e
    → Among (Declares r kind name p) (said d) → Among (Declares s kind name q) (said e) → IsTop r → IsTop s
    → (r ≡ Promise) × (s ≡ Definition)
two_declared all new i j d e kind name r s p q before one two m n t u =
    let its = two_split said all i j d e before one two in
    let first = split_at (said d) (Declares r kind name p) m in
    let later = split_at (said e) (Declares s kind name q) n in
    let mine = Declares r kind name p in
    let other = Declares s kind name q in
    two_marks (flat_map said all) new kind name (its.0 ++ first.0) (first.1 ++ (its.1 ++ later.0)) (later.1 ++ its.2) r s p q
    (its.3 ∙ ap (λ l. its.0 ++ (l ++ (its.1 ++ (said e ++ its.2)))) first.2
    ∙ ap (λ l. its.0 ++ ((first.0 ++ mine ∷ first.1) ++ (its.1 ++ (l ++ its.2)))) later.2
    ∙ ap (λ l. its.0 ++ l) (append_assoc first.0 (mine ∷ first.1) (its.1 ++ ((later.0 ++ other ∷ later.1) ++ its.2)))
    ∙ sym (append_assoc its.0 first.0 (mine ∷ (first.1 ++ (its.1 ++ ((later.0 ++ other ∷ later.1) ++ its.2)))))
    ∙ ap (λ l. (its.0 ++ first.0) ++ mine ∷ (first.1 ++ (its.1 ++ l))) (append_assoc later.0 (other ∷ later.1) its.2)
    ∙ ap (λ l. (its.0 ++ first.0) ++ mine ∷ (first.1 ++ l)) (sym (append_assoc its.1 later.0 (other ∷ (later.1 ++ its.2))))
    ∙ ap (λ l. (its.0 ++ first.0) ++ mine ∷ l)
    (sym (append_assoc first.1 (its.1 ++ later.0) (other ∷ (later.1 ++ its.2))))) t u

-- So it is of two declarations of one type.
pub two_types : (all : List Standing) → AreNew nothing [] (flat_map said all) →
    (i j : ℕ) (d e : Standing) (name : Bytes) → i < j → slice_get all i ≡ Some d → slice_get all j ≡ Some e
    → Among name (type_names d.says) → Among name (type_names e.says) → (role_of d.part d.says ≡ Promise)
    × (role_of e.part e.says ≡ Definition)
two_types all new i j d e name before one two m n =
    let first = marked d.part d.says name m in
    let later = marked e.part e.says name n in
    two_declared all new i j d e Types name (role_of d.part d.says) (role_of e.part e.says) first.0 later.0 before one two
    (subst (Among (Declares (role_of d.part d.says) Types name first.0)) (sym first.2) (inl refl))
    (subst (Among (Declares (role_of e.part e.says) Types name later.0)) (sym later.2) (inl refl))
    (top_role d.part d.says) (top_role e.part e.says)

-- ---- type parameters

no_close : (ps : List (InUniverse Bytes)) (first rest : List Mark) → map parameter_mark ps ≡ first ++ rest →
    closed first ≡ 0
no_close ps [] rest e = refl
no_close [] (x ∷ first) rest e = absurd cc
no_close (p ∷ ps) (x ∷ first) rest e =
    let head : parameter_mark p ≡ x = cc in
    let tail : map parameter_mark ps ≡ first ++ rest = cc in
    subst (λ y. closed (y ∷ first) ≡ 0) head (no_close ps first rest tail)

found_before : (ps : List (InUniverse Bytes)) (name : Bytes) (u : Universe) →
    universe_in (map parameter ps) name ≡ Some u
    → (before : List (InUniverse Bytes)) × (p : InUniverse Bytes) × (behind : List (InUniverse Bytes))
    × (ps ≡ before ++ p ∷ behind) × (p.name.name ≡ name)
found_before [] name u e = absurd (none-some u e)
found_before (p ∷ ps) name u e = by (bytes_eq p.name.name name) refl e (found_before ps name u)
  where
    by : (b : Bool) → bytes_eq p.name.name name ≡ b →
        cond b (Some p.universe) (universe_in (map parameter ps) name) ≡ Some u
        → (universe_in (map parameter ps) name ≡ Some u
        → (before : List (InUniverse Bytes)) × (q : InUniverse Bytes) × (behind : List (InUniverse Bytes))
        × (ps ≡ before ++ q ∷ behind) × (q.name.name ≡ name))
        → (before : List (InUniverse Bytes)) × (q : InUniverse Bytes) × (behind : List (InUniverse Bytes))
        × (p ∷ ps ≡ before ++ q ∷ behind) × (q.name.name ≡ name)
    by true same e later = ([], p, ps, refl, (bytes_eq-Decides p.name.name name).0 same)
    by false same e later = let its = later e in (p ∷ its.0, its.1, its.2, ap (λ l. p ∷ l) its.3, its.4)

-- Each type parameter of some that stand in one block has a name that none before it has.
abbrev pub AreApart : List (InUniverse Bytes) → Type 0
AreApart ps = (qs : List (InUniverse Bytes)) (q : InUniverse Bytes) (rest : List (InUniverse Bytes)) → ps ≡ qs
    ++ q ∷ rest → universe_in (map parameter qs) q.name.name ≡ None

marks_apart : (all a c : List Mark) (ps : List (InUniverse Bytes)) → AreNew nothing [] all → all ≡ a
    ++ (map parameter_mark ps ++ c) → AreApart ps
marks_apart all a c ps new e qs q rest is = by (universe_in (map parameter qs) q.name.name) refl
  where
    at_q : all ≡ (a ++ map parameter_mark qs) ++ parameter_mark q ∷ (map parameter_mark rest ++ c)
    at_q =
        e ∙ ap (λ l. a ++ (map parameter_mark l ++ c)) is
        ∙ ap (λ l. a ++ (l ++ c)) (map-append parameter_mark qs (q ∷ rest))
        ∙ ap (λ l. a ++ l) (append_assoc (map parameter_mark qs) (parameter_mark q ∷ map parameter_mark rest) c)
        ∙ sym (append_assoc a (map parameter_mark qs) (parameter_mark q ∷ (map parameter_mark rest ++ c)))

    stays : (ms : List (InUniverse Bytes)) → StaysOpen (map parameter_mark ms)
    stays ms first more k = let none = no_close ms first more k in omega (arith, none)

    by : (o : Option Universe) → universe_in (map parameter qs) q.name.name ≡ o → o ≡ None
    by None found = refl
    by (Some u) found =
        let its = found_before qs q.name.name u found in
        let before = its.0 in
        let p = its.1 in
        let behind = its.2 in
        absurd ((new (a ++ map parameter_mark qs) (map parameter_mark rest ++ c) Local Types q.name.name
        q.name.at at_q).2 (
          a ++ map parameter_mark before,
          map parameter_mark behind,
          p.name.at,
          ap (λ l. a ++ map parameter_mark l) its.3
              ∙ ap (λ l. a ++ l) (map-append parameter_mark before (p ∷ behind))
              ∙ sym (append_assoc a (map parameter_mark before) (parameter_mark p ∷ map parameter_mark behind))
              ∙ ap (λ n. (a ++ map parameter_mark before) ++ Declares Local Types n p.name.at ∷ map
              parameter_mark behind) its.4,
          stays behind,
        ))

-- where the marks of a type's parameters stand among those of its declaration
parameters_marked : (part : Part) (says : PlainDeclaration) (one : DeclaredType) → type_declared says
    ≡ Some one → (a c : List Mark) × (marks part says ≡ a ++ (map parameter_mark one.parameters ++ c))
parameters_marked part (opaque_type at n ps u) one e = (
  Declares Promise Types n.name n.at ∷ Opens ∷ [],
  Closes ∷ [],
  ap (λ (x : DeclaredType). Declares Promise Types n.name
      n.at ∷ Opens ∷ (map parameter_mark x.parameters ++ Closes ∷ []))
      (same_Some (a_type true n.name ps u) one e),
)
parameters_marked part (record_type at n ps u fields) one e = (
  Declares (type_role part) Types n.name n.at ∷ Declares Whole Callables n.name n.at ∷ Opens ∷ [],
  map (labelled_mark Fields) fields ++ Closes ∷ [],
  ap (λ l. Declares (type_role part) Types n.name n.at ∷ Declares Whole Callables n.name n.at ∷ Opens ∷ l)
      (append_assoc (map parameter_mark ps) (map (labelled_mark Fields) fields) (Closes ∷ []))
      ∙ ap (λ (x : DeclaredType). Declares (type_role part) Types n.name n.at ∷ Declares Whole Callables
      n.name n.at ∷ Opens ∷ (map parameter_mark x.parameters
      ++ (map (labelled_mark Fields) fields ++ Closes ∷ [])))
      (same_Some (a_type false n.name ps u) one e),
)
parameters_marked part (union_type at n ps u cases) one e = (
  Declares (type_role part) Types n.name n.at ∷ Opens ∷ [],
  flat_map case_marks cases ++ Closes ∷ [],
  ap (λ l. Declares (type_role part) Types n.name n.at ∷ Opens ∷ l)
      (append_assoc (map parameter_mark ps) (flat_map case_marks cases) (Closes ∷ []))
      ∙ ap (λ (x : DeclaredType). Declares (type_role part) Types n.name
      n.at ∷ Opens ∷ (map parameter_mark x.parameters ++ (flat_map case_marks cases ++ Closes ∷ [])))
      (same_Some (a_type false n.name ps u) one e),
)
parameters_marked part other one e = absurd (none-some one e)

-- No two type parameters of a type that is declared in a module have one name.
pub parameters_apart : (all : List Standing) → AreNew nothing [] (flat_map said all) →
    (i : ℕ) (d : Standing) (one : DeclaredType) → slice_get all i ≡ Some d → type_declared d.says ≡ Some one →
    AreApart one.parameters
parameters_apart all new i d one there declared =
    let its = one_split said all i d there in
    let inner = parameters_marked d.part d.says one declared in
    marks_apart (flat_map said all) (its.0 ++ inner.0) (inner.1 ++ its.1) one.parameters new
    (its.2 ∙ ap (λ l. its.0 ++ (l ++ its.1)) inner.2
    ∙ ap (λ l. its.0 ++ l) (append_assoc inner.0 (map parameter_mark one.parameters ++ inner.1) its.1
    ∙ ap (λ l. inner.0 ++ l) (append_assoc (map parameter_mark one.parameters) inner.1 its.1))
    ∙ sym (append_assoc its.0 inner.0 (map parameter_mark one.parameters ++ (inner.1 ++ its.1))))
