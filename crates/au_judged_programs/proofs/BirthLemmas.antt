-- What has births is shipped: the texts of such types are of shipped modules, of which the user's have no
-- name.
use Rattle.std.proofs.Common.{◌≡◌, ◌⊎◌, inl, inr, ℕ, suc, ◌+◌, ◌<◌, ◌==◌, Bool, true, false, not, ◌&&◌, ◌||◌}
use Rattle.std.proofs.Common.{true≢false}
use Rattle.std.proofs.Common.{List, [], ◌∷◌, ◌++◌, length, map, find, Option, None, Some, refl, sym, ap, ◌∙◌}
use Rattle.std.proofs.Common.{subst, arith}
use Rattle.std.specs.Prelude.{codes, slice_get}
use Rattle.std.specs.List.{list_all, list_any}
use Rattle.std.specs.Str.{bytes_eq}
use Rattle.std.proofs.lemmas.Bool.{and_parts, eq-eqb, lt-leb}
use Rattle.std.proofs.lemmas.Option.{none-some, same_Some}
use Rattle.std.proofs.lemmas.Slice.Eq.{bytes_eq-Decides}
use Rattle.au_base.proofs.ListLemmas.{get_left, get_right}
use Rattle.au_syntax.specs.declared.declarations.Universe.{Universe}
use Rattle.au_syntax.specs.declared.declarations.Universe.TheVariants as universes
use Rattle.au_syntax.specs.declared.modules.Part.TheVariants.{Interface, Body}
use Rattle.au_syntax.specs.Modules.{constant, opaque_type, record_type, union_type, function}
use Rattle.au_syntax.specs.Modules.{class, instance, constant_body, function_body, instance_body}
use Rattle.au_syntax.specs.Plain.{Bytes, PlainDeclaration}
use Rattle.au_syntax.specs.Sizes.{joined}
use Rattle.au_types.specs.declared.headings.Head.{Head}
use Rattle.au_types.specs.declared.types.DeclAt.{DeclAt}
use Rattle.au_types.specs.Rows.{head_of}
use Rattle.au_shipped.specs.Shipped.{shipped_files}
use Rattle.au_modules.specs.Programs.{Entry, ModuleParts, first_shipped, is_interface, module_of}
use Rattle.au_modules.specs.Programs.{shipped_module}
use Rattle.au_names.specs.DeclaredTypes.{DeclaredType, type_declared}
use Rattle.au_names.specs.HeadsOf.{head_for, heads_of}
use Rattle.au_names.specs.Owned.{declarations_in}
use Rattle.au_names.specs.Standing.{Standing, body_at, defined_by, definition_for, definition_of, is_whole}
use Rattle.au_names.specs.Standing.{opaque_name}
use Rattle.au_names.specs.Standing.{standing_at, standing_from}
use Rattle.au_names.proofs.AmongLemmas.{Among, contains}
use Rattle.au_judged_bodies.specs.Trees.{NotedParts}
use Rattle.au_closing_laws.specs.Gathered.{entry_of}
use Rattle.au_closing_laws.proofs.DefinitionLemmas.{IsThere, stands_in}
use Rattle.au_closing_laws.proofs.GatheredLemmas.{all_among, among_get, module_is, ships}
use Rattle.au_sound_calls.specs.Sound.{AreTyped}
use Rattle.au_judged_bodies.specs.Tables.{BirthsAreShipped, box_text, buffer_text, is_of_births, root_text, terminal_text, types_of}
use Rattle.au_judged_bodies.proofs.FormLemmas.{all_declared, boxes_alone, buffers_alone, cases_alone, grants_alone}
use Rattle.au_judged_bodies.proofs.LawfulLemmas.{all_lawful}
use Rattle.au_judged_programs.specs.CheckedChecked.{IsChecked}
use Rattle.au_judged_programs.proofs.DefinitionLemmas.{definitions_fit}
use Rattle.au_judged_programs.proofs.RowLemmas.{IsHead, head_stands}

-- ---- texts

abbrev first_byte : List ℕ → ℕ
first_byte [] = 0
first_byte (b ∷ rest) = b

abbrev rest_bytes : List ℕ → List ℕ
rest_bytes [] = []
rest_bytes (b ∷ rest) = rest

abbrev pub is_plain : ℕ → Bool
is_plain b = not (b == 58)

plain_colon : (b : ℕ) → 58 ≡ b → is_plain b ≡ true → ⊥
plain_colon b is plain = true≢false (sym plain ∙ ap not (eq-eqb b 58 (sym is)))

-- a text with a colon has one
with_colon : (a b : Bytes) → list_all is_plain (a ++ 58 ∷ b) ≡ true → ⊥
with_colon [] b e = true≢false (sym (and_parts (is_plain 58) (list_all is_plain b) e).0)
with_colon (x ∷ a) b e = with_colon a b (and_parts (is_plain x) (list_all is_plain (a ++ 58 ∷ b)) e).1

-- what stands before the one colon of a text
pub before_colon : (a b p q : Bytes) → list_all is_plain p ≡ true → list_all is_plain q ≡ true
    → a ++ 58 ∷ b ≡ p ++ 58 ∷ q → a ≡ p
before_colon [] b [] q np nq e = refl
before_colon [] b (x ∷ p) q np nq e =
    absurd (plain_colon x (ap first_byte e) (and_parts (is_plain x) (list_all is_plain p) np).0)
before_colon (y ∷ a) b [] q np nq e =
    absurd (with_colon a b (ap (list_all is_plain) (ap rest_bytes e) ∙ nq))
before_colon (y ∷ a) b (x ∷ p) q np nq e =
    λ i. ap first_byte e i
    ∷ before_colon a b p q (and_parts (is_plain x) (list_all is_plain p) np).1 nq (ap rest_bytes e) i

-- ---- the shipped files

abbrev pub shipped : List Entry
shipped = map entry_of shipped_files

-- a declared type of a shipped file, if it has births, is opaque and Linear
abbrev is_linear : Universe → Bool
is_linear universes.Linear = true
is_linear other = false

abbrev is_fine_type : Bytes → Option DeclaredType → Bool
is_fine_type owner None = true
is_fine_type owner (Some one) = not (is_of_births (owner ++ 58 ∷ one.name)) || (one.opaque && is_linear one.universe)

abbrev is_fine : Entry → PlainDeclaration → Bool
is_fine e says = is_fine_type (joined e.tree.name) (type_declared says)

abbrev are_fine : Entry → Bool
are_fine e = list_all (is_fine e) e.tree.declarations

all_fine : list_all are_fine shipped ≡ true
all_fine = refl

abbrev pub has_name : Bytes → Entry → Bool
has_name name e = bytes_eq name (joined e.tree.name)

-- the file of a shipped module
found_any : {A : Type 0} (test : A → Bool) (xs : List A) → list_any test xs ≡ true
    → (i : ℕ) × (x : A) × (slice_get xs i ≡ Some x) × (test x ≡ true) × (i < length xs)
found_any test [] e = absurd (true≢false (sym e))
found_any {A} test (x ∷ xs) e = by (test x) refl e (found_any test xs)
  where
    by : (b : Bool) → test x ≡ b → b || list_any test xs ≡ true
        → (list_any test xs ≡ true
        → (i : ℕ) × (y : A) × (slice_get xs i ≡ Some y) × (test y ≡ true) × (i < length xs))
        → (i : ℕ) × (y : A) × (slice_get (x ∷ xs) i ≡ Some y) × (test y ≡ true) × (i < length (x ∷ xs))
    by true is e later = (0, x, refl, is, omega arith)
    by false is e later = let its = later e in (suc its.0, its.1, its.2, its.3, more its.0 its.4)
      where
        more : (i : ℕ) → i < length xs → suc i < suc (length xs)
        more i less = omega arith

among_index : {A : Type 0} (xs : List A) (x : A) → Among x xs → (i : ℕ) × (slice_get xs i ≡ Some x)
among_index [] x m = absurd m
among_index {A} (y ∷ ys) x (inl here) = (0, ap (λ (z : A). Some z) here)
among_index (y ∷ ys) x (inr later) = let its = among_index ys x later in (suc its.0, its.1)

-- a text of what has births is of a shipped module
abbrev pub IsOfShipped : Bytes → Type 0
IsOfShipped owner = list_any (has_name owner) shipped ≡ true

pub of_shipped : (owner name p q : Bytes) → list_all is_plain p ≡ true → list_all is_plain q ≡ true
    → list_any (has_name p) shipped ≡ true → owner ++ 58 ∷ name ≡ p ++ 58 ∷ q → IsOfShipped owner
of_shipped owner name p q np nq there e =
    subst (λ x. list_any (has_name x) shipped ≡ true) (sym (before_colon owner name p q np nq e)) there

births_owner : (owner name : Bytes) → is_of_births (owner ++ 58 ∷ name) ≡ true → IsOfShipped owner
births_owner owner name e =
    by (bytes_eq text box_text) (bytes_eq text buffer_text) (bytes_eq text terminal_text) (bytes_eq text root_text)
    refl refl refl refl e
  where
    text : Bytes
    text = owner ++ 58 ∷ name

    by : (a b c d : Bool) → bytes_eq (owner ++ 58 ∷ name) box_text ≡ a → bytes_eq (owner ++ 58 ∷ name) buffer_text ≡ b
        → bytes_eq (owner ++ 58 ∷ name) terminal_text ≡ c → bytes_eq (owner ++ 58 ∷ name) root_text ≡ d
        → (a || b || c || d) ≡ true → IsOfShipped owner
    by true b c d is its other last e =
        of_shipped owner name (codes "Standard.Box") (codes "Box") refl refl refl
        ((bytes_eq-Decides (owner ++ 58 ∷ name) box_text).0 is)
    by false true c d is its other last e =
        of_shipped owner name (codes "Standard.Buffer") (codes "Buffer") refl refl refl
        ((bytes_eq-Decides (owner ++ 58 ∷ name) buffer_text).0 its)
    by false false true d is its other last e =
        of_shipped owner name (codes "Standard.IO.Terminal") (codes "Terminal") refl refl refl
        ((bytes_eq-Decides (owner ++ 58 ∷ name) terminal_text).0 other)
    by false false false true is its other last e =
        of_shipped owner name (codes "Austral.Pervasive") (codes "RootCapability") refl refl refl
        ((bytes_eq-Decides (owner ++ 58 ∷ name) root_text).0 last)
    by false false false false is its other last e = absurd (true≢false (sym e))

-- ---- declared types

opaque_named : (says : PlainDeclaration) (one : DeclaredType) → type_declared says ≡ Some one → one.opaque ≡ true
    → (name : Bytes) × (opaque_name says ≡ Some name)
opaque_named (opaque_type at n ps u) one e is = (n.name, refl)
opaque_named (record_type at n ps u fields) one e is =
    absurd (true≢false (sym is ∙ ap (λ (x : DeclaredType). x.opaque) (sym (same_Some _ one e))))
opaque_named (union_type at n ps u cases) one e is =
    absurd (true≢false (sym is ∙ ap (λ (x : DeclaredType). x.opaque) (sym (same_Some _ one e))))
opaque_named (constant at n t) one e is = absurd (none-some one e)
opaque_named (function at gs h) one e is = absurd (none-some one e)
opaque_named (class at n p hs) one e is = absurd (none-some one e)
opaque_named (instance at gs n t) one e is = absurd (none-some one e)
opaque_named (constant_body at n t v) one e is = absurd (none-some one e)
opaque_named (function_body at gs h b stop) one e is = absurd (none-some one e)
opaque_named (instance_body at gs n t ms) one e is = absurd (none-some one e)

linear_is : (u : Universe) → is_linear u ≡ true → u ≡ universes.Linear
linear_is universes.Linear e = refl
linear_is universes.Free e = absurd (true≢false (sym e))
linear_is universes.AnyType e = absurd (true≢false (sym e))
linear_is universes.Region e = absurd (true≢false (sym e))

-- a type with births is opaque and Linear where it is fine
fine_births : (births good : Bool) → births ≡ true → not births || good ≡ true → good ≡ true
fine_births true good is e = e
fine_births false good is e = absurd (true≢false (sym is))

no_body : (place : ℕ) (d : Standing) (name : Bytes)
    → find (is_whole name) (standing_from place Body 0 []) ≡ None
unfolding standing_from
no_body place d name = refl

module _ (program : List ModuleParts) (noted : List NotedParts) (checked : IsChecked program noted) where
  abbrev pub own : List Entry
  own = checked.gathered.own

  -- a module of the user's has no name of a shipped one
  pub own_named : (e : Entry) → Among e own → IsOfShipped (joined e.tree.name) → ⊥
  own_named e among there =
      let f = found_any (has_name (joined e.tree.name)) shipped there in
      let at = contains own e among in
      let both = checked.files.once f.0 (length shipped + index e among) f.1 e (before f.0 (index e among) f.4)
      (get_left shipped own f.0 f.4 ∙ f.2) (get_right shipped own (index e among) ∙ indexed e among)
      (checked.gathered.parsed e at).own
      (sym ((bytes_eq-Decides (joined e.tree.name) (joined f.1.tree.name)).0 f.3)) in
      true≢false (sym (ships f.1 (among_get shipped f.0 f.1 f.2)) ∙ lt-leb first_shipped f.1.file both.0)
    where
      before : (i k : ℕ) → i < length shipped → i < length shipped + k
      before i k less = omega arith

      index : (x : Entry) → Among x own → ℕ
      index x m = (among_index own x m).0

      indexed : (x : Entry) (m : Among x own) → slice_get own (index x m) ≡ Some x
      indexed x m = (among_index own x m).1

  -- the declaration of a type with births
  record IsBorn (at : DeclAt) (head : Head) : Type 0 where
    d : Standing
    m : ModuleParts
    found : standing_at program at ≡ Some d
    here : slice_get program at.«module» ≡ Some m
    one : DeclaredType
    declared : type_declared d.says ≡ Some one
    is : head ≡ head_for m.name one
    bare : m.body ≡ None
    opaque : one.opaque ≡ true
    linear : one.universe ≡ universes.Linear

  in_shipped : (at : DeclAt) (head : Head) (d : Standing) (m : ModuleParts) → standing_at program at ≡ Some d
      → slice_get program at.«module» ≡ Some m → (e : Entry) → Among e shipped → m ≡ shipped_module e
      → (one : DeclaredType) → type_declared d.says ≡ Some one → head ≡ head_for m.name one
      → is_of_births head.text ≡ true → IsBorn at head
  in_shipped at head d m found here e among same one declared is births = record {
    d = d;
    m = m;
    found = found;
    here = here;
    one = one;
    declared = declared;
    is = is;
    bare = ap (λ (x : ModuleParts). x.body) same;
    opaque = good.0;
    linear = linear_is one.universe good.1;
  }
    where
      listed : (i : ℕ) → slice_get e.tree.declarations i ≡ Some d.says → is_fine e d.says ≡ true
      listed i there =
          all_among (is_fine e) d.says e.tree.declarations (all_among are_fine e shipped all_fine among)
          (among_get e.tree.declarations i d.says there)

      in_part : (n : ModuleParts) × (slice_get program at.«module» ≡ Some n)
          × (IsThere at.«module» Interface (declarations_in n.interface) d
          ⊎ IsThere at.«module» Body (declarations_in n.body) d) → is_fine e d.says ≡ true
      in_part (n, its, inl there) =
          listed d.index (sym (ap (λ (x : ModuleParts). slice_get (declarations_in x.interface) d.index)
          (same_Some n m (sym its ∙ here) ∙ same)) ∙ there.2)
      in_part (n, its, inr there) =
          absurd (none-some d.says (sym (ap (λ (x : ModuleParts). slice_get (declarations_in x.body) d.index)
          (same_Some n m (sym its ∙ here) ∙ same)) ∙ there.2))

      text_is : is_of_births (joined e.tree.name ++ 58 ∷ one.name) ≡ true
      text_is = ap (λ (x : ModuleParts). is_of_births (x.name ++ 58 ∷ one.name)) (sym same)
          ∙ ap (λ (h : Head). is_of_births h.text) (sym is) ∙ births

      good : (one.opaque ≡ true) × (is_linear one.universe ≡ true)
      good = and_parts one.opaque (is_linear one.universe)
          (fine_births (is_of_births (joined e.tree.name ++ 58 ∷ one.name)) (one.opaque && is_linear one.universe)
          text_is
          (sym (ap (is_fine_type (joined e.tree.name)) declared) ∙ in_part (stands_in program at d found)))

  born_at : (at : DeclAt) (head : Head) → head_of (heads_of program) at ≡ Some head → is_of_births head.text ≡ true
      → IsBorn at head
  born_at at head e births = by (head_stands program at head e)
    where
      on : (d : Standing) (m : ModuleParts) → standing_at program at ≡ Some d → slice_get program at.«module» ≡ Some m
          → (one : DeclaredType) → type_declared d.says ≡ Some one → head ≡ head_for m.name one
          → ((x : Entry) × Among x shipped × (m ≡ shipped_module x))
          ⊎ ((x : Entry) × Among x own × (is_interface x.tree.part ≡ false)
          × (m ≡ module_of (shipped ++ own) x)) → IsBorn at head
      on d m found here one declared is (inl (x, among, same)) =
          in_shipped at head d m found here x among same one declared is births
      on d m found here one declared is (inr (x, among, isnt, same)) =
          absurd (own_named x among (births_owner (joined x.tree.name) one.name
          (ap (λ (y : ModuleParts). is_of_births (y.name ++ 58 ∷ one.name)) (sym same)
          ∙ ap (λ (h : Head). is_of_births h.text) (sym is) ∙ births)))

      by : (d : Standing) × (m : ModuleParts) × (standing_at program at ≡ Some d)
          × (slice_get program at.«module» ≡ Some m) × IsHead m.name d.says head → IsBorn at head
      by (d, m, found, here, (one, declared, is)) =
          on d m found here one declared is (module_is program checked.gathered m at.«module» here)

  undefined : (at : DeclAt) (head : Head) → IsBorn at head → definition_of program at ≡ None
  undefined at head b =
      ap (definition_for program) b.found
      ∙ ap (λ n. defined_by (body_at n (slice_get program n)) b.d (opaque_name b.d.says))
      (placed (stands_in program at b.d b.found))
      ∙ ap (λ o. defined_by (body_at at.«module» o) b.d (opaque_name b.d.says)) b.here
      ∙ ap (λ o. defined_by (standing_from at.«module» Body 0 (declarations_in o)) b.d (opaque_name b.d.says)) b.bare
      ∙ ap (defined_by (standing_from at.«module» Body 0 []) b.d) opaque.1
      ∙ no_body at.«module» b.d opaque.0
    where
      opaque : (name : Bytes) × (opaque_name b.d.says ≡ Some name)
      opaque = opaque_named b.d.says b.one b.declared b.opaque

      placed : (n : ModuleParts) × (slice_get program at.«module» ≡ Some n)
          × (IsThere at.«module» Interface (declarations_in n.interface) b.d
          ⊎ IsThere at.«module» Body (declarations_in n.body) b.d) → b.d.place ≡ at.«module»
      placed (n, its, inl there) = there.0
      placed (n, its, inr there) = there.0

  pub births_shipped : BirthsAreShipped program
  births_shipped = record {
    linear = λ at head e births. let b = born_at at head e births in ap (λ (h : Head). h.universe) b.is ∙ b.linear;
    undefined = λ at head e births. undefined at head (born_at at head e births);
  }

  pub checked_typed : AreTyped (types_of program)
  checked_typed = record {
    forms = all_declared program;
    lawful = all_lawful program
        (definitions_fit program checked.gathered checked.named checked.kept checked.declared) births_shipped;
    boxes = boxes_alone program births_shipped;
    buffers = buffers_alone program births_shipped;
    cases = cases_alone program births_shipped;
    grants = grants_alone program births_shipped;
  }
