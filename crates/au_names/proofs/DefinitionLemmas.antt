-- What defines a type has the type's name.
use Rattle.std.proofs.Common.{◌≡◌, ℕ, zero, suc, ◌+◌, Bool, true, false, cond, List, [], ◌∷◌, ◌++◌, length}
use Rattle.std.proofs.Common.{find, Option, None, Some, refl, sym, ap, ◌∙◌, subst, arith, zero-add}
use Rattle.std.specs.Prelude.{slice_get}
use Rattle.std.specs.Str.{bytes_eq}
use Rattle.std.proofs.lemmas.Option.{none-some, same_Some}
use Rattle.au_base.proofs.TextLemmas.{bytes_same}
use Rattle.au_syntax.specs.declared.modules.Part.{Part}
use Rattle.au_syntax.specs.declared.modules.Part.TheVariants.{Interface, Body}
use Rattle.au_syntax.specs.Modules.{opaque_type, record_type, union_type}
use Rattle.au_syntax.specs.Plain.{Bytes, PlainDeclaration}
use Rattle.au_types.specs.declared.spaces.Space.TheVariants.{Types}
use Rattle.au_types.specs.DeclaredNames.{given, names_in, numbered, type_names}
use Rattle.au_types.specs.Tables as tables
use Rattle.au_modules.specs.Programs.{ModuleParts}
use Rattle.au_names.specs.declared.targets.Target.{Target}
use Rattle.au_names.specs.Owned.{declarations_in, own, target, targets}
use Rattle.au_names.proofs.StandingLemmas.{stands}
use Rattle.au_names.proofs.WalkLemmas.{short}
use Rattle.au_names.specs.Standing.{Standing, body_at, body_standing, defined_by, definition_for}
use Rattle.au_names.specs.Standing.{definition_of, is_named, is_whole, module_standing, opaque_name}
use Rattle.au_names.specs.Standing.{standing_at, standing_from, standing_in, whole_name}

-- ---- what is found

-- what is found passes, and stands in the list
abbrev IsFound : {X : Type 0} → (X → Bool) → List X → X → Type 0
IsFound p xs x = (p x ≡ true) × ((k : ℕ) × (slice_get xs k ≡ Some x))

found_is : {X : Type 0} (p : X → Bool) (xs : List X) (x : X) → find p xs ≡ Some x → IsFound p xs x
found_is p [] x h = absurd (none-some x h)
found_is p (y ∷ xs) x h = by (p y) refl h (λ k. later (found_is p xs x k))
  where
    later : IsFound p xs x → IsFound p (y ∷ xs) x
    later f = (f.0, (suc f.1.0, f.1.1))

    by : (b : Bool) → p y ≡ b → cond b (Some y) (find p xs) ≡ Some x
        → (find p xs ≡ Some x → IsFound p (y ∷ xs) x) → IsFound p (y ∷ xs) x
    by true test k on = let same : y ≡ x = same_Some y x k in (ap p (sym same) ∙ test, (0, k))
    by false test k on = on k

-- ---- the names of one declaration

opaque_named : (d : PlainDeclaration) (name : Bytes) → opaque_name d ≡ Some name → type_names d ≡ name ∷ []
opaque_named (opaque_type at own_name parameters universe) name h =
    ap (λ n. n ∷ []) (same_Some own_name.name name h)
opaque_named other name h = absurd (none-some name h)

-- a name that is this one
pub named : (name : Bytes) (found : Option Bytes) → is_named name found ≡ true → found ≡ Some name
named name None h = cc
named name (Some other) h = ap (λ n. Some n) (sym (bytes_same name other h))

pub whole_named : (d : PlainDeclaration) (name : Bytes) → whole_name d ≡ Some name → type_names d ≡ name ∷ []
whole_named (record_type at own_name parameters universe fields) name h =
    ap (λ n. n ∷ []) (same_Some own_name.name name h)
whole_named (union_type at own_name parameters universe cases) name h =
    ap (λ n. n ∷ []) (same_Some own_name.name name h)
whole_named other name h = absurd (none-some name h)

-- ---- what a name means among the types of a module

-- it is the number of a declaration of that name
Numbers : ℕ → ℕ → List PlainDeclaration → Bytes → Target → Type 0
Numbers place first ds name meaning =
    (k : ℕ) × (d : PlainDeclaration) × (meaning ≡ target place name (first + k)) × (slice_get ds k ≡ Some d) ×
    (type_names d ≡ name ∷ [])

numbers_on : (place first : ℕ) (d : PlainDeclaration) (ds : List PlainDeclaration) (name : Bytes)
    (meaning : Target)
    → Numbers place (first + 1) ds name meaning → Numbers place first (d ∷ ds) name meaning
unfolding Numbers
numbers_on place first d ds name meaning n =
    let same : first + 1 + n.0 ≡ first + suc n.0 = omega arith in
    (suc n.0, n.1, n.2 ∙ ap (target place name) same, n.3, n.4)

numbers_here : (place first : ℕ) (d : PlainDeclaration) (ds : List PlainDeclaration) (name : Bytes)
    (meaning : Target)
    → meaning ≡ target place name first → type_names d ≡ name ∷ [] → Numbers place first (d ∷ ds) name meaning
unfolding Numbers
numbers_here place first d ds name meaning is names =
    let same : first ≡ first + 0 = omega arith in
    (0, d, is ∙ ap (target place name) same, refl, names)

type_numbers : (place first : ℕ) (ds : List PlainDeclaration) (name : Bytes) (meaning : Target)
    → tables.find name (targets place (names_in Types (numbered first ds))) ≡ Some meaning
    → Numbers place first ds name meaning
unfolding numbered names_in
type_numbers place first [] name meaning h = absurd (none-some meaning h)
type_numbers place first (d ∷ ds) name meaning h =
    by (type_names d) refl
    (λ k. numbers_on place first d ds name meaning (type_numbers place (first + 1) ds name meaning k)) h
  where
    one : (x : Bytes) (b : Bool) → bytes_eq name x ≡ b → type_names d ≡ x ∷ []
        → (tables.find name (targets place (names_in Types (numbered (first + 1) ds))) ≡ Some meaning
        → Numbers place first (d ∷ ds) name meaning)
        → cond b (Some (target place x first))
        (tables.find name (targets place (names_in Types (numbered (first + 1) ds))))
        ≡ Some meaning
        → Numbers place first (d ∷ ds) name meaning
    one x true test names on k =
        let same : x ≡ name = sym (bytes_same name x test) in
        numbers_here place first d ds name meaning
        (sym (same_Some (target place x first) meaning k) ∙ ap (λ n. target place n first) same)
        (names ∙ ap (λ n. n ∷ []) same)
    one x false test names on k = on k

    by : (names : List Bytes) → type_names d ≡ names
        → (tables.find name (targets place (names_in Types (numbered (first + 1) ds))) ≡ Some meaning
        → Numbers place first (d ∷ ds) name meaning)
        → tables.find name (targets place (given first names ++ names_in Types (numbered (first + 1) ds)))
        ≡ Some meaning
        → Numbers place first (d ∷ ds) name meaning
    by [] names on k = on k
    by (x ∷ []) names on k = one x (bytes_eq name x) refl names on k
    by (x ∷ y ∷ more) names on k = let few = short d in let many = ap length names in absurd (omega arith)

-- ---- where declarations stand

-- a declaration of the module at a place
abbrev IsAt : ℕ → PlainDeclaration → Standing → Type 0
IsAt place d s = (s.place ≡ place) × (s.says ≡ d)

-- what stands at an index is of that place, and says what is listed there
part_at : (place first : ℕ) (part : Part) (ds : List PlainDeclaration) (k : ℕ) (d : PlainDeclaration)
    → slice_get ds k ≡ Some d
    → (s : Standing) × (slice_get (standing_from place part first ds) k ≡ Some s) × IsAt place d s
unfolding standing_from
part_at place first part [] k d h = absurd (none-some d h)
part_at place first part (x ∷ ds) zero d h = (stands place part first x, refl, (refl, same_Some x d h))
part_at place first part (x ∷ ds) (suc k) d h = part_at place (first + 1) part ds k d h

both_at : (place first : ℕ) (part : Part) (ds es : List PlainDeclaration) (more : List Standing) (k : ℕ)
    (d : PlainDeclaration)
    → ((i : ℕ) → slice_get es i ≡ Some d → (s : Standing) × (slice_get more i ≡ Some s) × IsAt place d s)
    → slice_get (ds ++ es) k ≡ Some d
    → (s : Standing) × (slice_get (standing_from place part first ds ++ more) k ≡ Some s) × IsAt place d s
unfolding standing_from
both_at place first part [] es more k d rest h = rest k h
both_at place first part (x ∷ ds) es more zero d rest h =
    (stands place part first x, refl, (refl, same_Some x d h))
both_at place first part (x ∷ ds) es more (suc k) d rest h =
    both_at place (first + 1) part ds es more k d rest h

module_at : (place : ℕ) (m : ModuleParts) (k : ℕ) (d : PlainDeclaration)
    → slice_get (declarations_in m.interface ++ declarations_in m.body) k ≡ Some d
    → (s : Standing) × (slice_get (module_standing place m) k ≡ Some s) × IsAt place d s
module_at place m k d h =
    both_at place 0 Interface (declarations_in m.interface) (declarations_in m.body) (body_standing place m) k
    d
    (λ i e. part_at place 0 Body (declarations_in m.body) i d e) h

-- all that stands in a part is of its place
part_place : (place first : ℕ) (part : Part) (ds : List PlainDeclaration) (k : ℕ) (s : Standing)
    → slice_get (standing_from place part first ds) k ≡ Some s → s.place ≡ place
unfolding standing_from
part_place place first part [] k s h = absurd (none-some s h)
part_place place first part (x ∷ ds) zero s h =
    ap (λ (t : Standing). t.place) (sym (same_Some (stands place part first x) s h))
part_place place first part (x ∷ ds) (suc k) s h = part_place place (first + 1) part ds k s h

body_part : (place first : ℕ) (ds : List PlainDeclaration) (k : ℕ) (s : Standing)
    → slice_get (standing_from place Body first ds) k ≡ Some s → s.part ≡ Body
unfolding standing_from
body_part place first [] k s h = absurd (none-some s h)
body_part place first (x ∷ ds) zero s h =
    ap (λ (t : Standing). t.part) (sym (same_Some (stands place Body first x) s h))
body_part place first (x ∷ ds) (suc k) s h = body_part place (first + 1) ds k s h

body_place : (place : ℕ) (found : Option ModuleParts) (k : ℕ) (s : Standing)
    → slice_get (body_at place found) k ≡ Some s → s.place ≡ place
body_place place None k s h = absurd (none-some s h)
body_place place (Some m) k s h = part_place place 0 Body (declarations_in m.body) k s h

-- all that stands in a module is of its place
all_place : (place first : ℕ) (m : ModuleParts) (ds : List PlainDeclaration) (k : ℕ) (s : Standing)
    → slice_get (standing_from place Interface first ds ++ body_standing place m) k ≡ Some s → s.place ≡ place
unfolding standing_from
all_place place first m [] k s h = part_place place 0 Body (declarations_in m.body) k s h
all_place place first m (x ∷ ds) zero s h =
    ap (λ (t : Standing). t.place) (sym (same_Some (stands place Interface first x) s h))
all_place place first m (x ∷ ds) (suc k) s h = all_place place (first + 1) m ds k s h

pub module_place : (place : ℕ) (m : ModuleParts) (k : ℕ) (s : Standing)
    → slice_get (module_standing place m) k ≡ Some s → s.place ≡ place
module_place place m k s h = all_place place 0 m (declarations_in m.interface) k s h

-- what stands in an interface is listed there
pub interface_listed : (place first : ℕ) (m : ModuleParts) (ds : List PlainDeclaration) (k : ℕ) (s : Standing)
    → slice_get (standing_from place Interface first ds ++ body_standing place m) k ≡ Some s
    → s.part ≡ Interface → slice_get ds k ≡ Some s.says
unfolding standing_from
interface_listed place first m [] k s h is =
    let other : Interface ≡ Body = sym is ∙ body_part place 0 (declarations_in m.body) k s h in cc
interface_listed place first m (x ∷ ds) zero s h is =
    ap (λ (t : Standing). Some t.says) (same_Some (stands place Interface first x) s h)
interface_listed place first m (x ∷ ds) (suc k) s h is = interface_listed place (first + 1) m ds k s h is

-- what is found among declarations is found where they stand
pub standing_found : (place first : ℕ) (part : Part) (p : PlainDeclaration → Bool) (q : Standing → Bool)
    → ((s : Standing) → q s ≡ p s.says) → (ds : List PlainDeclaration) (d : PlainDeclaration)
    → find p ds ≡ Some d
    → (s : Standing) × (find q (standing_from place part first ds) ≡ Some s) × (s.says ≡ d)
unfolding standing_from
standing_found place first part p q same [] d h = absurd (none-some d h)
standing_found place first part p q same (x ∷ ds) d h =
    by (p x) refl (λ k. standing_found place (first + 1) part p q same ds d k) h
  where
    by : (b : Bool) → p x ≡ b
        → (find p ds ≡ Some d
        → (s : Standing) × (find q (standing_from place part (first + 1) ds) ≡ Some s) × (s.says ≡ d))
        → cond b (Some x) (find p ds) ≡ Some d
        → (s : Standing) ×
        (cond (q (stands place part first x)) (Some (stands place part first x))
        (find q (standing_from place part (first + 1) ds))
        ≡ Some s)
        × (s.says ≡ d)
    by true test on k = (
      stands place part first x,
      ap
          (λ c.
          cond c (Some (stands place part first x)) (find q (standing_from place part (first + 1) ds)))
          (same (stands place part first x) ∙ test),
      same_Some x d k,
    )
    by false test on k = let r = on k in (
      r.0,
      ap (λ c. cond c (Some (stands place part first x)) (find q (standing_from place part (first + 1) ds)))
          (same (stands place part first x) ∙ test)
          ∙ r.1,
      r.2,
    )

-- ---- definitions

-- a definition of a type of this name in the module at a place
abbrev IsOf : ℕ → Bytes → Standing → Type 0
IsOf place name d = (d.place ≡ place) × (type_names d.says ≡ name ∷ [])

defined_of : (place : ℕ) (name : Bytes) (body : List Standing) (s d : Standing)
    → ((k : ℕ) (t : Standing) → slice_get body k ≡ Some t → t.place ≡ place) → IsOf place name s
    → (opaque : Option Bytes) → opaque_name s.says ≡ opaque → defined_by body s opaque ≡ Some d
    → IsOf place name d
defined_of place name body s d there of None is h = subst (IsOf place name) (same_Some s d h) of
defined_of place name body s d there of (Some other) is h =
    let found = found_is (is_whole other) body d h in
    let same : other ∷ [] ≡ name ∷ [] = sym (opaque_named s.says other is) ∙ of.1 in
    (there found.1.0 d found.1.1, whole_named d.says other (named other (whole_name d.says) found.0) ∙ same)

pub definition_named : (program : List ModuleParts) (place : ℕ) (m : ModuleParts) (name : Bytes)
    (meaning : Target) (d : Standing)
    → slice_get program place ≡ Some m → tables.find name (own Types place m) ≡ Some meaning
    → definition_of program meaning.at ≡ Some d → IsOf place name d
unfolding Numbers
definition_named program place m name meaning d here means h =
    let n = type_numbers place 0 (declarations_in m.interface ++ declarations_in m.body) name meaning means in
    let s = module_at place m n.0 n.1 n.3 in
    let at : meaning ≡ target place name n.0 = n.2 ∙ ap (target place name) (zero-add n.0) in
    let stands : standing_at program meaning.at ≡ Some s.0 =
    ap (λ (t : Target). standing_at program t.at) at ∙ ap (standing_in place n.0) here ∙ s.1 in
    let of : IsOf place name s.0 = (s.2.0, ap type_names s.2.1 ∙ n.4) in
    defined_of place name (body_at s.0.place (slice_get program s.0.place)) s.0 d
    (λ k t e. body_place s.0.place (slice_get program s.0.place) k t e ∙ s.2.0)
    of (opaque_name s.0.says) refl (sym (ap (definition_for program) stands) ∙ h)
