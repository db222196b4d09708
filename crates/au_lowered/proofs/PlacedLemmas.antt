-- The code that a program is lowered to has its functions.
use Rattle.std.proofs.Common.{◌≡◌, ⊎_elim, true≢false, ℕ, zero, suc, ◌+◌, Bool, true, false, not, cond, List}
use Rattle.std.proofs.Common.{[], ◌∷◌, ◌++◌, length, map, Option, Some, None, refl, sym, ap, subst, ◌∙◌}
use Rattle.std.proofs.Common.{arith, slice_get, lt-ltb}
use Rattle.std.specs.Prelude.{option_map}
use Rattle.std.specs.List.{position_or_len}
use Rattle.std.specs.Str.{bytes_eq}
use Rattle.std.proofs.lemmas.List.{length-map}
use Rattle.std.proofs.lemmas.Option.{slice_get-map, slice_get_within, get_or_from_slice_get}
use Rattle.std.proofs.lemmas.Slice.Eq.{bytes_eq-Decides}
use Rattle.std.proofs.lemmas.Bool.{or_cases, or_left, or_right}
use Rattle.au_type_texts.specs.Same.{same}
use Rattle.au_type_texts.specs.Types.{ClosedType}
use Rattle.au_type_texts.proofs.SameLemmas.{same_is, same_self}
use Rattle.au_graphs.specs.Reached.{has, Has, adds, TellsSame}
use Rattle.au_graphs.proofs.HasLemmas.{has_front, has_back, adds_takes}
use Rattle.au_low.specs.declared.code.LowType.{LowType}
use Rattle.au_low.specs.declared.instructions.Instr.{Instr}
use Rattle.au_low.specs.Instructions.{instructions}
use Rattle.au_lowered.specs.Drafts.{Draft, plain, pushes_text, makes_case, ships_birth}
use Rattle.au_lowered.specs.Laws.{LabelsBefore, EachBefore, labels_in}
use Rattle.au_lowered.specs.Laws as laws
use Rattle.au_lowered.specs.Programs as programs
use Rattle.au_lowered.specs.Programs.{body_of, bodies, texts_named, types_named, entry_types}
use Rattle.au_lowered.specs.Programs.{texts_in, types_in, text_number, type_number, function_code, lowered}
use Rattle.au_lowered.proofs.ReturnLemmas.{bodies_keep_labels}
use Rattle.au_meaning.specs.Views.{Function}
use Rattle.au_syntax.specs.Plain.{Bytes}
use Rattle.au_lowered.specs.Premises.{Placed, EachIn, numbered}
use Rattle.au_lowered.specs.FollowPrograms.{HasProgram, coding, GoodFunction, GoodProgram}

-- ---- what stands in a list

-- a test that holds of an element and of those that are the same
module _ {A : Type 0} (same_as : A → A → Bool) (tells : TellsSame same_as) where
  same_back : (x y : A) → same_as x y ≡ true → same_as y x ≡ true
  same_back x y t = let is = tells.agrees x y t in subst (λ z. same_as z x ≡ true) is (tells.itself x)

  -- an element stands at its place
  at_place : (xs : List A) (x : A) → Has same_as xs x → slice_get xs (position_or_len (λ one. same_as one x)
      xs) ≡ Some x
  at_place [] x h = absurd (grind arith)
  at_place (y ∷ ys) x h = by_test (same_as y x) refl (at_place ys x) h
    where
      by_test : (b : Bool) → same_as y x ≡ b
          → (Has same_as ys x → slice_get ys (position_or_len (λ one. same_as one x) ys) ≡ Some x)
          → Has same_as (y ∷ ys) x
          → slice_get (y ∷ ys) (position_or_len (λ one. same_as one x) (y ∷ ys)) ≡ Some x
      by_test true e ih h =
          ap (λ b. slice_get (y ∷ ys) (cond (not b) (1 + position_or_len (λ one. same_as one x) ys) 0)) e
          ∙ ap (λ z. Some z) (tells.agrees y x e)
      by_test false e ih h =
          let n = position_or_len (λ one. same_as one x) ys in
          let more : 1 + n ≡ suc n = omega arith in
          let later : Has same_as ys x = ⊎_elim (λ t. absurd (true≢false (sym (same_back x y t)
          ∙ e))) (λ k. k) (or_cases (same_as x y) (has same_as ys x) h) in
          ap (λ b. slice_get (y ∷ ys) (cond (not b) (1 + n) 0)) e ∙ ap (λ k. slice_get (y ∷ ys) k) more
          ∙ ih later

  -- an element that was added
  added_at : (xs : List A) (x : A) → Has same_as xs x → slice_get (adds same_as [] xs) (position_or_len (λ
      one. same_as one x) (adds same_as [] xs)) ≡ Some x
  added_at xs x h = at_place (adds same_as [] xs) x (adds_takes same_as tells [] xs x h)

bytes_tell : TellsSame bytes_eq
bytes_tell = record {
  agrees = λ x y e. (bytes_eq-Decides x y).0 e;
  itself = λ x. (bytes_eq-Decides x x).1
      refl;
}

types_tell : TellsSame same
types_tell = record { agrees = λ x y e. same_is x y e; itself = λ x. same_self x }

-- ---- what is named

has_text : (drafts : List Draft) (p : ℕ) (text : Bytes) → slice_get drafts p ≡ Some (pushes_text text)
    → Has bytes_eq (texts_named drafts) text
has_text [] p text e = absurd (grind arith)
has_text (pushes_text t ∷ rest) zero text e =
    let is : pushes_text t ≡ pushes_text text = cc in
    let same : t ≡ text = cc in
    or_left (bytes_eq text t) (has bytes_eq (texts_named rest) text) ((bytes_eq-Decides text t).1 (sym
    same))
has_text (plain i ∷ rest) zero text e = absurd (grind arith)
has_text (makes_case of tag order home ∷ rest) zero text e = absurd (grind arith)
has_text (ships_birth call of order ∷ rest) zero text e = absurd (grind arith)
has_text (pushes_text t ∷ rest) (suc p) text e = or_right (bytes_eq text t) (has bytes_eq (texts_named rest)
    text) (has_text rest p text e)
has_text (plain i ∷ rest) (suc p) text e = has_text rest p text e
has_text (makes_case of tag order home ∷ rest) (suc p) text e = has_text rest p text e
has_text (ships_birth call of order ∷ rest) (suc p) text e = has_text rest p text e

-- the type that an instruction names
abbrev pub names_type : Draft → Option ClosedType
names_type (plain i) = None
names_type (pushes_text text) = None
names_type (makes_case of tag order home) = Some of
names_type (ships_birth call of order) = Some of

has_type : (drafts : List Draft) (p : ℕ) (draft : Draft) (of : ClosedType) → slice_get drafts p ≡ Some draft
    → names_type draft ≡ Some of → Has same (types_named drafts) of
has_type [] p draft of e n = absurd (grind arith)
has_type (first ∷ rest) zero draft of e n =
    let is : first ≡ draft = cc in
    here first (ap (λ d. names_type d) is ∙ n)
  where
    here : (d : Draft) → names_type d ≡ Some of → Has same (types_named (d ∷ rest)) of
    here (plain i) k = absurd (grind arith)
    here (pushes_text text) k = absurd (grind arith)
    here (makes_case t tag order home) k = let is : t ≡ of = cc in or_left (same of t) (has same
        (types_named rest) of) (subst (λ x. same x t ≡ true) is (same_self t))
    here (ships_birth call t order) k = let is : t ≡ of = cc in or_left (same of t) (has same (types_named
        rest) of) (subst (λ x. same x t ≡ true) is (same_self t))
has_type (plain i ∷ rest) (suc p) draft of e n = has_type rest p draft of e n
has_type (pushes_text text ∷ rest) (suc p) draft of e n = has_type rest p draft of e n
has_type (makes_case t tag order home ∷ rest) (suc p) draft of e n = or_right (same of t) (has same
    (types_named rest) of) (has_type rest p draft of e n)
has_type (ships_birth call t order ∷ rest) (suc p) draft of e n = or_right (same of t) (has same
    (types_named rest) of) (has_type rest p draft of e n)

pub texts_both : (xs ys : List Draft) → texts_named (xs ++ ys) ≡ texts_named xs ++ texts_named ys
texts_both [] ys = refl
texts_both (plain i ∷ rest) ys = texts_both rest ys
texts_both (pushes_text t ∷ rest) ys = ap (λ all. t ∷ all) (texts_both rest ys)
texts_both (makes_case of tag order home ∷ rest) ys = texts_both rest ys
texts_both (ships_birth call of order ∷ rest) ys = texts_both rest ys

pub types_both : (xs ys : List Draft) → types_named (xs ++ ys) ≡ types_named xs ++ types_named ys
types_both [] ys = refl
types_both (plain i ∷ rest) ys = types_both rest ys
types_both (pushes_text t ∷ rest) ys = types_both rest ys
types_both (makes_case of tag order home ∷ rest) ys = ap (λ all. of ∷ all) (types_both rest ys)
types_both (ships_birth call of order ∷ rest) ys = ap (λ all. of ∷ all) (types_both rest ys)

-- ---- labels

each_in : (labels : List ℕ) (many count : ℕ) → many ≡ count → EachBefore 1 many labels → EachIn count labels
each_in [] many count e h = tt
each_in (label ∷ rest) many count e h = (
  lt-ltb label count (omega (arith, h.0, e)),
  each_in rest many count
      e h.1,
)

labels_at : (drafts : List Draft) (p many : ℕ) (i : Instr) → slice_get drafts p ≡ Some (plain i)
    → LabelsBefore 1 many drafts → EachBefore 1 many (labels_in i)
labels_at [] p many i e h = absurd (grind arith)
labels_at (draft ∷ rest) zero many i e h =
    let is : draft ≡ plain i = cc in
    subst (λ d. EachBefore 1 many (laws.labels_of d)) is h.0
labels_at (draft ∷ rest) (suc p) many i e h = labels_at rest p many i e h.1

module _ {T C : Type 0} where
  -- what a function names is named in all functions
  text_of_all : (functions : List (Function ℕ T C)) (i : ℕ) (f : Function ℕ T C) (text : Bytes)
      → slice_get functions i ≡ Some f
      → Has bytes_eq (texts_named (body_of f)) text → Has bytes_eq (texts_named (bodies functions)) text
  text_of_all [] i f text e h = absurd (grind arith)
  text_of_all (g ∷ rest) zero f text e h =
      let is : g ≡ f = cc in
      subst (λ all. Has bytes_eq all text) (sym (texts_both (body_of g) (bodies rest)))
      (has_front bytes_eq (texts_named (body_of g)) (texts_named (bodies rest)) text (subst (λ x. Has
      bytes_eq (texts_named (body_of x)) text) (sym is) h))
  text_of_all (g ∷ rest) (suc i) f text e h =
      subst (λ all. Has bytes_eq all text) (sym (texts_both (body_of g) (bodies rest)))
      (has_back bytes_eq (texts_named (body_of g)) (texts_named (bodies rest)) text (text_of_all rest i f
      text e h))

  type_of_all : (functions : List (Function ℕ T C)) (i : ℕ) (f : Function ℕ T C) (of : ClosedType)
      → slice_get functions i ≡ Some f
      → Has same (types_named (body_of f)) of → Has same (types_named (bodies functions)) of
  type_of_all [] i f of e h = absurd (grind arith)
  type_of_all (g ∷ rest) zero f of e h =
      let is : g ≡ f = cc in
      subst (λ all. Has same all of) (sym (types_both (body_of g) (bodies rest)))
      (has_front same (types_named (body_of g)) (types_named (bodies rest)) of (subst (λ x. Has same
      (types_named (body_of x)) of) (sym is) h))
  type_of_all (g ∷ rest) (suc i) f of e h =
      subst (λ all. Has same all of) (sym (types_both (body_of g) (bodies rest)))
      (has_back same (types_named (body_of g)) (types_named (bodies rest)) of (type_of_all rest i f of e h))

  module _ (told : ClosedType → LowType) (functions : List (Function ℕ T C)) where
    numbered_same : (slot : ℕ → ℕ) (draft : Draft) → programs.numbered (texts_in functions) (types_in functions) draft
        ≡ numbered (coding told functions slot) draft
    numbered_same slot (plain i) = refl
    numbered_same slot (pushes_text text) = refl
    numbered_same slot (makes_case of tag order home) = refl
    numbered_same slot (ships_birth call of order) = refl

    function_there : (i : ℕ) (f : Function ℕ T C) → slice_get functions i ≡ Some f
        → slice_get (lowered told functions).functions i
        ≡ Some (function_code (texts_in functions) (types_in functions) f)
    function_there i f e =
        slice_get-map (function_code (texts_in functions) (types_in functions)) functions i
        ∙ ap (λ o. option_map (function_code (texts_in functions) (types_in functions)) o) e

    code_is : (i : ℕ) (f : Function ℕ T C) → slice_get functions i ≡ Some f
        → instructions (slice_get (lowered told functions).functions i)
        ≡ map (programs.numbered (texts_in functions) (types_in functions)) (body_of f)
    code_is i f e = ap (λ o. instructions o) (function_there i f e)

    type_there : (of : ClosedType) → Has same (types_named (bodies functions)) of
        → slice_get (lowered told functions).types (type_number (types_in functions) of) ≡ Some (told of)
    type_there of h =
        let all = entry_types functions ++ types_named (bodies functions) in
        let there = added_at same types_tell all of (has_back same (entry_types functions) (types_named
        (bodies functions)) of h) in
        slice_get-map told (types_in functions) (type_number (types_in functions) of)
        ∙ ap (λ o. option_map told o) there

    pub placed_in : (slot : ℕ → ℕ) (i : ℕ) (f : Function ℕ T C) → slice_get functions i ≡ Some f
        → GoodFunction told functions slot f
        → Placed (coding told functions slot) i (λ p. slice_get (body_of f) p)
    placed_in slot i f e good = record {
      has = λ p draft h.
          ap (λ all. slice_get all p) (code_is i f e)
          ∙ slice_get-map (programs.numbered (texts_in functions) (types_in functions)) (body_of f) p
          ∙ ap (λ o. option_map (programs.numbered (texts_in functions) (types_in functions)) o) h
          ∙ ap (λ x. Some x) (numbered_same slot draft);
      labels = λ p x h.
          let many : length (body_of f) ≡ length (instructions (slice_get (lowered told functions).functions
          i)) =
          sym (length-map (body_of f) (programs.numbered (texts_in functions) (types_in functions)))
          ∙ ap (λ all. length all) (sym (code_is i f e)) in
          each_in (labels_in x) (length (body_of f)) (length (instructions (slice_get (lowered told
          functions).functions i))) many
          (labels_at (body_of f) p (length (body_of f)) x h (bodies_keep_labels f good.returns good.tidy));
      texts = λ p text h.
          let named = text_of_all functions i f text e (has_text (body_of f) p text h) in
          let there = added_at bytes_eq bytes_tell (texts_named (bodies functions)) text named in (
            get_or_from_slice_get (texts_in functions) (text_number (texts_in functions) text) text []
                there,
            lt-ltb (text_number (texts_in functions) text) (length (texts_in functions)) (slice_get_within
                (texts_in functions) (text_number (texts_in functions) text) text there),
          );
      types = λ p of tag order home h. (
        told of,
        type_there of (type_of_all functions i f of e (has_type (body_of f) p (makes_case of tag
            order home) of h refl)),
      );
      births = λ p call of order h.
          let there = type_there of (type_of_all functions i f of e (has_type (body_of f) p (ships_birth
          call of order) of h refl)) in
          lt-ltb (type_number (types_in functions) of) (length (lowered told functions).types)
          (slice_get_within (lowered told functions).types (type_number (types_in functions) of) (told
          of) there);
    }

    -- a program has its functions in the code that it is lowered to
    pub has_program : (good : GoodProgram told functions) → HasProgram (coding told functions good.slot) (λ i.
        slice_get functions i)
    has_program good i f e = record {
      low_function = function_code (texts_in functions) (types_in functions) f;
      there = function_there i f e;
      params = refl;
      slots = refl;
      placed = placed_in good.slot i f e (good.each i f e);
      view = (good.each i f e).view;
      whole = (good.each i f e).whole;
      homes = (good.each i f e).homes;
    }
