-- Files are refused for nothing exactly where they are those of a program.
use Rattle.std.proofs.Common.{◌≡◌, ℕ, zero, suc, ◌<◌, Bool, true, false, not, ◌&&◌, ◌||◌, true≢false, List}
use Rattle.std.proofs.Common.{[], ◌∷◌, ◌++◌, map, take, Option, Some, None, refl, ap, sym, ◌∙◌, subst, arith}
use Rattle.std.proofs.Common.{find, append_assoc, append-nil}
use Rattle.std.specs.Prelude.{if◌then◌else◌, slice_get}
use Rattle.std.specs.List.{list_any}
use Rattle.std.specs.Option.{option_or, option_map}
use Rattle.std.specs.Str.{bytes_eq}
use Rattle.std.proofs.lemmas.Bool.{and_parts, or_parts, leb-false, lt-leb, not-false}
use Rattle.std.proofs.lemmas.Option.{none-some, same_Some, slice_get-map}
use Rattle.std.proofs.lemmas.Slice.Eq.{bytes_eq-Decides}
use Rattle.std.proofs.lemmas.Map.Keys.{any_passes_from_place}
use Rattle.au_base.proofs.OptionLemmas.{map_none, or_first, or_second, or_neither}
use Rattle.au_syntax.specs.declared.modules.Part.{Part}
use Rattle.au_syntax.specs.declared.modules.Part.TheVariants.{Interface, Body}
use Rattle.au_modules.specs.declared.faults.ModuleFault.TheVariants.{TwiceGiven, Unsafe, Limit}
use Rattle.au_modules.specs.declared.parts.Given.{Given}
use Rattle.au_modules.specs.Limits.{limit_in}
use Rattle.au_modules.specs.Programs.{Entry, first_shipped, is_shipped, given, pragma_fault, fault_in}
use Rattle.au_modules.specs.Programs.{first_fault, is_interface, is_same_part, clashes, is_again, first_again}
use Rattle.au_modules.specs.Programs.{is_body_of, lacks_body, body_fault, first_bodiless, refusal_of}
use Rattle.au_modules.specs.Accepted.{Stands, module_name, IsOwn, AreOfOne, IsProgram}

-- ---- tests along a list

fails : {A : Type 0} (b : Bool) (x : A) (o : Option A) → (if b then Some x else o) ≡ None → b ≡ false
fails true x o h = cc
fails false x o h = refl

fails_on : {A : Type 0} (b : Bool) (x : A) (o : Option A) → (if b then Some x else o) ≡ None → o ≡ None
fails_on true x o h = cc
fails_on false x o h = h

failed : {A : Type 0} (b : Bool) (x : A) (o : Option A) → b ≡ false → o ≡ None
    → (if b then Some x else o) ≡ None
failed b x o h k = ap (λ one. if one then Some x else o) h ∙ k

-- a test fails at each place of a list
abbrev FailsAt : {A : Type 0} → (A → Bool) → List A → Type 0
FailsAt {A} p xs = (i : ℕ) (x : A) → slice_get xs i ≡ Some x → p x ≡ false

none_found : {A : Type 0} (p : A → Bool) (xs : List A) → find p xs ≡ None → FailsAt p xs
none_found p [] h i x here = absurd (none-some x here)
none_found p (y ∷ ys) h zero x here = ap p (sym (same_Some y x here)) ∙ fails (p y) y (find p ys) h
none_found p (y ∷ ys) h (suc i) x here = none_found p ys (fails_on (p y) y (find p ys) h) i x here

none_passes : {A : Type 0} (p : A → Bool) (xs : List A) → FailsAt p xs → find p xs ≡ None
none_passes p [] h = refl
none_passes p (x ∷ xs) h = failed (p x) x (find p xs) (h 0 x refl) (none_passes p xs (λ i. h (suc i)))

none_any : {A : Type 0} (p : A → Bool) (xs : List A) → list_any p xs ≡ false → FailsAt p xs
none_any p [] h i x here = absurd (none-some x here)
none_any p (y ∷ ys) h zero x here = ap p (sym (same_Some y x here)) ∙ (or_parts (p y) (list_any p ys) h).0
none_any p (y ∷ ys) h (suc i) x here = none_any p ys (or_parts (p y) (list_any p ys) h).1 i x here

any_fails : {A : Type 0} (p : A → Bool) (xs : List A) → FailsAt p xs → list_any p xs ≡ false
any_fails p [] h = refl
any_fails p (x ∷ xs) h = ap (λ b. b || list_any p xs) (h 0 x refl) ∙ any_fails p xs (λ i. h (suc i))

-- a test passes at a place of a list
abbrev PassesAt : {A : Type 0} → (A → Bool) → List A → Type 0
PassesAt {A} p xs = (i : ℕ) × (x : A) × (slice_get xs i ≡ Some x) × (p x ≡ true)

some_any : {A : Type 0} (p : A → Bool) (xs : List A) → list_any p xs ≡ true → PassesAt p xs
some_any p [] h = absurd (true≢false (sym h))
some_any {A} p (y ∷ ys) h = by (p y) refl h (λ k. later (some_any p ys k))
  where
    later : PassesAt p ys → PassesAt p (y ∷ ys)
    later f = (suc f.0, f.1, f.2, f.3)

    by : (b : Bool) → p y ≡ b → (b || list_any p ys) ≡ true → (list_any p ys ≡ true → PassesAt p (y ∷ ys))
        → PassesAt p (y ∷ ys)
    by true test k on = (0, y, refl, test)
    by false test k on = on k

-- ---- what stands before a place

taken : {A : Type 0} (xs : List A) (k i : ℕ) → i < k → slice_get (take k xs) i ≡ slice_get xs i
taken xs zero i h = absurd (omega (arith, h))
taken [] (suc k) i h = refl
taken (x ∷ xs) (suc k) zero h = refl
taken (x ∷ xs) (suc k) (suc i) h = taken xs k i (omega (arith, h))

taken_within : {A : Type 0} (xs : List A) (k i : ℕ) (x : A) → slice_get (take k xs) i ≡ Some x → i < k
taken_within xs zero i x here = absurd (none-some x here)
taken_within [] (suc k) i x here = absurd (none-some x here)
taken_within (y ∷ xs) (suc k) zero x here = omega arith
taken_within (y ∷ xs) (suc k) (suc i) x here = omega (arith, taken_within xs k i x here)

-- ---- what files give

given_at : (files : List Entry) (i : ℕ) (e : Entry) → Stands files i e
    → slice_get (map given files) i ≡ Some (given e)
given_at files i e here = slice_get-map given files i ∙ ap (option_map given) here

given_from : (files : List Entry) (i : ℕ) (g : Given) → slice_get (map given files) i ≡ Some g
    → (e : Entry) × Stands files i e × (given e ≡ g)
given_from files i g h = by (slice_get files i) refl
  where
    by : (o : Option Entry) → slice_get files i ≡ o → (e : Entry) × Stands files i e × (given e ≡ g)
    by None k = absurd (none-some g (sym (slice_get-map given files i ∙ ap (option_map given) k) ∙ h))
    by (Some e) k =
        (e, k, same_Some (given e) g (sym (slice_get-map given files i ∙ ap (option_map given) k) ∙ h))

own_is : (e : Entry) → IsOwn e → is_shipped e ≡ false
own_is e own = lt-leb first_shipped e.file own

is_own : (e : Entry) → is_shipped e ≡ false → IsOwn e
is_own e h = leb-false first_shipped e.file h

-- ---- the first round

first_from : (files : List Entry) → first_fault files ≡ None → (i : ℕ) (e : Entry) → Stands files i e
    → fault_in e ≡ None
first_from [] h i e here = absurd (none-some e here)
first_from (f ∷ files) h zero e here =
    ap fault_in (sym (same_Some f e here)) ∙ or_first (fault_in f) (first_fault files) h
first_from (f ∷ files) h (suc i) e here =
    first_from files (or_second (fault_in f) (first_fault files) h) i e here

first_to : (files : List Entry) → ((i : ℕ) (e : Entry) → Stands files i e → fault_in e ≡ None)
    → first_fault files ≡ None
first_to [] h = refl
first_to (e ∷ files) h =
    or_neither (fault_in e) (first_fault files) (h 0 e refl) (first_to files (λ i. h (suc i)))

limits_kept : (e : Entry) → fault_in e ≡ None → limit_in e.tree.declarations ≡ None
limits_kept e h =
    map_none Limit (limit_in e.tree.declarations)
    (or_second (pragma_fault (is_shipped e) e.tree.pragma)
    (option_map Limit (limit_in e.tree.declarations)) h)

safe_kept : (e : Entry) → fault_in e ≡ None → IsOwn e → e.tree.pragma ≡ None
safe_kept e h own =
    map_none Unsafe e.tree.pragma
    (ap (λ b. pragma_fault b e.tree.pragma) (sym (own_is e own))
    ∙ or_first (pragma_fault (is_shipped e) e.tree.pragma)
    (option_map Limit (limit_in e.tree.declarations)) h)

fault_free : (e : Entry) → limit_in e.tree.declarations ≡ None → (IsOwn e → e.tree.pragma ≡ None)
    → fault_in e ≡ None
fault_free e limits safe =
    or_neither (pragma_fault (is_shipped e) e.tree.pragma) (option_map Limit (limit_in e.tree.declarations))
    (by (is_shipped e) refl) (ap (option_map Limit) limits)
  where
    by : (b : Bool) → is_shipped e ≡ b → pragma_fault (is_shipped e) e.tree.pragma ≡ None
    by true k = ap (λ b. pragma_fault b e.tree.pragma) k
    by false k = ap (λ b. pragma_fault b e.tree.pragma) k ∙ ap (option_map Unsafe) (safe (is_own e k))

-- ---- the second round

-- none of the files behind these gives what one before it gave
abbrev Once : List Given → List Given → Type 0
Once before rest =
    (i : ℕ) (g : Given) → slice_get rest i ≡ Some g → is_again (before ++ take i rest) g ≡ false

once_from : (before rest : List Given) → first_again before rest ≡ None → Once before rest
once_from before [] h i g k = cc
once_from before (x ∷ rest) h zero g k =
    let here : is_again before x
    ≡ false = fails (is_again before x) (TwiceGiven x.name) (first_again (before ++ x ∷ []) rest) h in
    let same : x ≡ g = same_Some x g k in
    let front : before ++ [] ≡ before = append-nil before in
    ap (λ b. is_again b g) front ∙ ap (is_again before) (sym same) ∙ here
once_from before (x ∷ rest) h (suc i) g k =
    let others : is_again ((before ++ x ∷ []) ++ take i rest) g
    ≡ false = once_from (before ++ x ∷ []) rest
    (fails_on (is_again before x) (TwiceGiven x.name) (first_again (before ++ x ∷ []) rest) h) i g k in
    ap (λ b. is_again b g) (sym (append_assoc before (x ∷ []) (take i rest))) ∙ others

once_to : (before rest : List Given) → Once before rest → first_again before rest ≡ None
once_to before [] h = refl
once_to before (x ∷ rest) h =
    let here : is_again before x ≡ false = ap (λ b. is_again b x) (sym (append-nil before)) ∙ h 0 x refl in
    let others : Once (before ++ x ∷ []) rest = λ i g k. ap (λ b. is_again b g)
    (append_assoc before (x ∷ []) (take i rest)) ∙ h (suc i) g k in
    failed (is_again before x) (TwiceGiven x.name) (first_again (before ++ x ∷ []) rest) here
    (once_to (before ++ x ∷ []) rest others)

-- a part is the same as itself alone
same_self : (p : Part) → is_same_part p p ≡ true
same_self Interface = refl
same_self Body = refl

other_part : (p q : Part) → ¬ (q ≡ p) → is_same_part p q ≡ false
other_part Interface Interface n = absurd (n refl)
other_part Interface Body n = refl
other_part Body Interface n = refl
other_part Body Body n = absurd (n refl)

-- files of modules of one name don't clash exactly where both are the user's and give different parts
apart : (e f : Entry) → clashes (given f) (given e) ≡ false → AreOfOne e f
    → IsOwn e × ¬ (e.tree.part ≡ f.tree.part)
apart e f free one =
    let named : bytes_eq (module_name f) (module_name e)
    ≡ true = (bytes_eq-Decides (module_name f) (module_name e)).1 (sym one) in
    let rest : (is_shipped e || is_same_part f.tree.part e.tree.part)
    ≡ false = ap (λ b. b && (is_shipped e || is_same_part f.tree.part e.tree.part)) (sym named) ∙ free in
    let both = or_parts (is_shipped e) (is_same_part f.tree.part e.tree.part) rest in (
      is_own e both.0,
      λ same. true≢false
          (sym (same_self f.tree.part) ∙ ap (is_same_part f.tree.part) (sym same) ∙ both.1),
    )

free_of : (e f : Entry) → (AreOfOne e f → IsOwn e × ¬ (e.tree.part ≡ f.tree.part))
    → clashes (given f) (given e) ≡ false
free_of e f rule = by (bytes_eq (module_name f) (module_name e)) refl
  where
    by : (b : Bool) → bytes_eq (module_name f) (module_name e) ≡ b → clashes (given f) (given e) ≡ false
    by false k = ap (λ b. b && (is_shipped e || is_same_part f.tree.part e.tree.part)) k
    by true k =
        let both = rule (sym ((bytes_eq-Decides (module_name f) (module_name e)).0 k)) in
        ap (λ b. b && (is_shipped e || is_same_part f.tree.part e.tree.part)) k
        ∙ ap (λ b. b || is_same_part f.tree.part e.tree.part) (own_is e both.0)
        ∙ other_part f.tree.part e.tree.part both.1

module _ (files : List Entry) where
  all : List Given
  all = map given files

  -- the rule on what is given twice
  abbrev OnceSaid : Type 0
  OnceSaid =
      (i k : ℕ) (e f : Entry) → i < k → Stands files i e → Stands files k f → IsOwn f → AreOfOne e f
      → IsOwn e × ¬ (e.tree.part ≡ f.tree.part)

  once_said : Once [] all → OnceSaid
  unfolding all
  once_said once i k e f less at_e at_f own one =
      let none : list_any (clashes (given f)) (take k (map given files))
      ≡ false = ap (λ b. not b && list_any (clashes (given f)) (take k (map given files)))
      (sym (own_is f own)) ∙ once k (given f) (given_at files k f at_f) in
      apart e f (none_any (clashes (given f)) (take k (map given files)) none i (given e)
      (taken (map given files) k i less ∙ given_at files i e at_e)) one

  once_done : OnceSaid → Once [] all
  unfolding all
  once_done rule k g h =
      let found = given_from files k g h in
      subst (λ z. is_again (take k (map given files)) z ≡ false) found.2
      (by found.0 found.1 (is_shipped found.0) refl)
    where
      free : (f : Entry) → Stands files k f → IsOwn f → FailsAt (clashes (given f)) (take k (map given files))
      free f at_f own i x here =
          let less = taken_within (map given files) k i x here in
          let found = given_from files i x (sym (taken (map given files) k i less) ∙ here) in
          subst (λ z. clashes (given f) z ≡ false) found.2
          (free_of found.0 f (rule i k found.0 f less found.1 at_f own))

      by : (f : Entry) → Stands files k f → (b : Bool) → is_shipped f ≡ b
          → is_again (take k (map given files)) (given f) ≡ false
      by f at_f true s = ap (λ b. not b && list_any (clashes (given f)) (take k (map given files))) s
      by f at_f false s =
          ap (λ b. not b && list_any (clashes (given f)) (take k (map given files))) s
          ∙ any_fails (clashes (given f)) (take k (map given files)) (free f at_f (is_own f s))

  -- ---- the third round

  body_is : (p : Part) → not (is_interface p) ≡ true → p ≡ Body
  body_is Interface h = absurd (true≢false (sym h))
  body_is Body h = refl

  -- the body of the module of a file stands among the files
  abbrev HasBody : Entry → Type 0
  HasBody e = (k : ℕ) × (b : Entry) × Stands files k b × (b.tree.part ≡ Body) × AreOfOne e b

  -- the rule on bodies
  abbrev BodiesSaid : Type 0
  BodiesSaid = (i : ℕ) (e : Entry) → Stands files i e → IsOwn e → e.tree.part ≡ Interface → HasBody e

  has_body : (e : Entry) → list_any (is_body_of (module_name e)) all ≡ true → HasBody e
  unfolding all
  has_body e h =
      let found = some_any (is_body_of (module_name e)) (map given files) h in
      let file = given_from files found.0 found.1 found.2 in
      let tests : is_body_of (module_name e) (given file.0) ≡ true = ap (is_body_of (module_name e)) file.2
      ∙ found.3 in
      let both = and_parts (not (is_interface file.0.tree.part))
      (bytes_eq (module_name e) (module_name file.0)) tests in (
        found.0,
        file.0,
        file.1,
        body_is file.0.tree.part both.0,
        (bytes_eq-Decides (module_name e) (module_name file.0)).0 both.1,
      )

  body_there : (e : Entry) → HasBody e → list_any (is_body_of (module_name e)) all ≡ true
  unfolding all
  body_there e b =
      any_passes_from_place (is_body_of (module_name e)) (map given files) b.0 (given b.1)
      (given_at files b.0 b.1 b.2)
      (ap (λ p. not (is_interface p) && bytes_eq (module_name e) (module_name b.1)) b.3
      ∙ (bytes_eq-Decides (module_name e) (module_name b.1)).1 b.4)

  bodies_said : FailsAt (lacks_body all) all → BodiesSaid
  unfolding all
  bodies_said none i e here own interface =
      let test : lacks_body (map given files) (given e)
      ≡ false = none i (given e) (given_at files i e here) in
      let first : (is_interface e.tree.part && not (list_any (is_body_of (module_name e)) (map given files)))
      ≡ false =
      ap (λ b. not b && (is_interface e.tree.part
      && not (list_any (is_body_of (module_name e)) (map given files)))) (sym (own_is e own)) ∙ test in
      let second : not (list_any (is_body_of (module_name e)) (map given files)) ≡ false =
      ap (λ p. is_interface p && not (list_any (is_body_of (module_name e)) (map given files)))
      (sym interface) ∙ first in
      has_body e (not-false (list_any (is_body_of (module_name e)) (map given files)) second)

  bodies_done : BodiesSaid → FailsAt (lacks_body all) all
  unfolding all
  bodies_done rule i g h =
      let found = given_from files i g h in
      subst (λ z. lacks_body (map given files) z ≡ false) found.2
      (by found.0 found.1 (is_shipped found.0) refl)
    where
      inner : (e : Entry) → Stands files i e → IsOwn e → (p : Part) → e.tree.part ≡ p
          → (is_interface e.tree.part && not (list_any (is_body_of (module_name e)) (map given files)))
          ≡ false
      inner e here own Body k =
          ap (λ p. is_interface p && not (list_any (is_body_of (module_name e)) (map given files))) k
      inner e here own Interface k =
          ap (λ p. is_interface p && not (list_any (is_body_of (module_name e)) (map given files))) k
          ∙ ap not (body_there e (rule i e here own k))

      by : (e : Entry) → Stands files i e → (b : Bool) → is_shipped e ≡ b
          → lacks_body (map given files) (given e) ≡ false
      by e here true s =
          ap (λ b. not b && (is_interface e.tree.part
          && not (list_any (is_body_of (module_name e)) (map given files)))) s
      by e here false s =
          ap (λ b. not b && (is_interface e.tree.part
          && not (list_any (is_body_of (module_name e)) (map given files)))) s
          ∙ inner e here (is_own e s) e.tree.part refl

-- ---- all

pub program_from : (files : List Entry) → refusal_of files ≡ None → IsProgram files
unfolding all
program_from files h =
    let gives : List Given = map given files in
    let sound = first_from files
    (or_first (first_fault files) (option_or (first_again [] gives) (first_bodiless gives)) h) in
    let later : option_or (first_again [] gives) (first_bodiless gives)
    ≡ None = or_second (first_fault files) (option_or (first_again [] gives) (first_bodiless gives)) h in
    let none : find (lacks_body gives) gives
    ≡ None = map_none body_fault (find (lacks_body gives) gives)
    (or_second (first_again [] gives) (first_bodiless gives) later) in
    record {
      limits = λ i e here. limits_kept e (sound i e here);
      safe = λ i e here. safe_kept e (sound i e here);
      once =
          once_said files (once_from [] gives (or_first (first_again [] gives) (first_bodiless gives) later));
      bodies = bodies_said files (none_found (lacks_body gives) gives none);
    }

pub program_accepted : (files : List Entry) → IsProgram files → refusal_of files ≡ None
unfolding all
program_accepted files p =
    let gives : List Given = map given files in
    or_neither (first_fault files) (option_or (first_again [] gives) (first_bodiless gives))
    (first_to files (λ i e here. fault_free e (p.limits i e here) (p.safe i e here)))
    (or_neither (first_again [] gives) (first_bodiless gives) (once_to [] gives (once_done files p.once))
    (ap (option_map body_fault) (none_passes (lacks_body gives) gives (bodies_done files p.bodies))))
