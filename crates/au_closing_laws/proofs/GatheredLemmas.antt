-- What holds of programs that are gathered of the shipped files and of parsed ones.
use Rattle.std.proofs.Common.{◌≡◌, ◌⊎◌, inl, inr, ℕ, zero, suc, Bool, true, false, not, ◌&&◌, true≢false}
use Rattle.std.proofs.Common.{List, [], ◌∷◌, ◌++◌, map, cond, find, Option, None, Some, refl, sym, ap, ◌∙◌}
use Rattle.std.proofs.Common.{subst}
use Rattle.std.specs.Prelude.{filter, slice_get, is_some}
use Rattle.std.specs.List.{list_all}
use Rattle.std.specs.Str.{bytes_eq}
use Rattle.std.proofs.lemmas.Bool.{and_parts, lt-leb, not-true}
use Rattle.std.proofs.lemmas.Option.{none-some, same_Some}
use Rattle.au_base.specs.declared.places.Pos.{Pos}
use Rattle.au_shipped.specs.declared.prims.ShippedCall.{ShippedCall}
use Rattle.au_shipped.specs.Calls.{prim_of}
use Rattle.au_shipped.specs.Shipped.{shipped_files}
use Rattle.au_syntax.specs.declared.modules.Part.{Part}
use Rattle.au_syntax.specs.declared.modules.Part.TheVariants.{Interface, Body}
use Rattle.au_syntax.specs.Forms.{formed_declaration, formed_import, formed_module, some}
use Rattle.au_syntax.specs.Modules.{Constrained, Header, function}
use Rattle.au_syntax.specs.Plain.{Bytes, PlainDeclaration}
use Rattle.au_syntax.specs.Sizes.{joined}
use Rattle.au_modules.specs.Programs.{Entry, ModuleParts, first_shipped, is_interface, is_interface_of}
use Rattle.au_modules.specs.Programs.{is_shipped, is_user_body, module_of, modules_of, shipped_module}
use Rattle.au_names.proofs.AmongLemmas.{Among, among-append, among-append_left, among-append_right, contains}
use Rattle.au_names.specs.Owned.{declarations_in}
use Rattle.au_closing_laws.specs.Gathered.{IsGathered, entry_of}
use Rattle.au_classes.proofs.ListLemmas.{found_passes}

-- ---- lists

pub among_map : {A B : Type 0} (f : A → B) (y : B) (xs : List A) → Among y (map f xs) → (x : A) × Among x xs × (y ≡ f x)
among_map f y [] m = absurd m
among_map f y (x ∷ xs) (inl here) = (x, inl refl, sym here)
among_map f y (x ∷ xs) (inr later) = let its = among_map f y xs later in (its.0, inr its.1, its.2)

pub among_filter : {A : Type 0} (t : A → Bool) (y : A) (xs : List A) → Among y (filter t xs) → Among y xs × (t y ≡ true)
among_filter t y [] m = absurd m
among_filter t y (x ∷ xs) m = by (t x) refl (among_filter t y xs) m
  where
    by : (b : Bool) → t x ≡ b → (Among y (filter t xs) → Among y xs × (t y ≡ true)) →
        Among y (cond b (x ∷ filter t xs) (filter t xs)) → Among y (x ∷ xs) × (t y ≡ true)
    by true e later (inl here) = (inl here, ap t (sym here) ∙ e)
    by true e later (inr m) = let its = later m in (inr its.0, its.1)
    by false e later m = let its = later m in (inr its.0, its.1)

pub among_get : {A : Type 0} (xs : List A) (i : ℕ) (x : A) → slice_get xs i ≡ Some x → Among x xs
among_get [] i x e = absurd (none-some x e)
among_get (y ∷ xs) zero x e = inl (same_Some y x e)
among_get (y ∷ xs) (suc i) x e = inr (among_get xs i x e)

pub all_among : {A : Type 0} (t : A → Bool) (x : A) (xs : List A) → list_all t xs ≡ true → Among x xs → t x ≡ true
all_among t x [] h m = absurd m
all_among t x (y ∷ xs) h (inl here) = ap t (sym here) ∙ (and_parts (t y) (list_all t xs) h).0
all_among t x (y ∷ xs) h (inr later) = all_among t x xs (and_parts (t y) (list_all t xs) h).1 later

-- ---- the shipped files

-- a function without a body is known as a shipped call
abbrev is_known : Bytes → PlainDeclaration → Bool
is_known home (function at generics h) = is_some (prim_of home h.name.name None)
is_known home other = true

-- what is asked of a shipped file
abbrev is_good : Entry → Bool
is_good e = is_shipped e && (is_interface e.tree.part
    && (formed_module e.tree && list_all (is_known (joined e.tree.name)) e.tree.declarations))

shipped_are_good : list_all is_good (map entry_of shipped_files) ≡ true
shipped_are_good = refl

-- each of them is one that is shipped
pub ships : (e : Entry) → Among e (map entry_of shipped_files) → is_shipped e ≡ true
ships e a =
    (and_parts (is_shipped e) (is_interface e.tree.part
    && (formed_module e.tree && list_all (is_known (joined e.tree.name)) e.tree.declarations))
    (all_among is_good e (map entry_of shipped_files) shipped_are_good a)).0

part_is : (p : Part) → is_interface p ≡ true → p ≡ Interface
part_is Interface e = refl
part_is Body e = cc

part_is_body : (p : Part) → is_interface p ≡ false → p ≡ Body
part_is_body Interface e = cc
part_is_body Body e = refl

declared_formed : (e : Entry) → formed_module e.tree ≡ true → list_all (formed_declaration e.tree.part)
    e.tree.declarations ≡ true
declared_formed e h =
    (and_parts (some e.tree.name && list_all formed_import e.tree.imports)
    (list_all (formed_declaration e.tree.part) e.tree.declarations) h).1

-- ---- the modules

module _ (program : List ModuleParts) (is : IsGathered program) where
  abbrev shipped : List Entry
  shipped = map entry_of shipped_files

  abbrev files : List Entry
  files = shipped ++ is.own

  pub own_isnt : (e : Entry) → Among e is.own → is_shipped e ≡ false
  own_isnt e m = lt-leb first_shipped e.file (is.parsed e (contains is.own e m)).own

  formed : (e : Entry) → Among e files → list_all (formed_declaration e.tree.part) e.tree.declarations ≡ true
  formed e m = by (among-append shipped is.own e m)
    where
      by : Among e shipped ⊎ Among e is.own → list_all (formed_declaration e.tree.part) e.tree.declarations ≡ true
      by (inl a) =
          let good = all_among is_good e shipped shipped_are_good a in
          let rest = (and_parts (is_shipped e)
          (is_interface e.tree.part && (formed_module e.tree && list_all (is_known (joined e.tree.name))
          e.tree.declarations)) good).1 in
          let last = (and_parts (is_interface e.tree.part)
          (formed_module e.tree && list_all (is_known (joined e.tree.name)) e.tree.declarations) rest).1 in
          declared_formed e (and_parts (formed_module e.tree)
          (list_all (is_known (joined e.tree.name)) e.tree.declarations) last).0
      by (inr b) = declared_formed e (is.parsed e (contains is.own e b)).formed

  -- a module is that of a shipped file, or that of a body of the user's
  pub module_is : (m : ModuleParts) (place : ℕ) → slice_get program place ≡ Some m
      → ((e : Entry) × Among e shipped × (m ≡ shipped_module e))
      ⊎ ((e : Entry) × Among e is.own × (is_interface e.tree.part ≡ false) × (m ≡ module_of files e))
  module_is m place e = by (among-append (map shipped_module (filter is_shipped files))
      (map (module_of files) (filter is_user_body files)) m there)
    where
      there : Among m (modules_of files)
      there = subst (Among m) is.gathered (among_get program place m e)

      either : (x : Entry) → is_shipped x ≡ true → Among x shipped ⊎ Among x is.own → Among x shipped
      either x ships (inl a) = a
      either x ships (inr b) = absurd (true≢false (sym ships ∙ own_isnt x b))

      other : (x : Entry) → is_shipped x ≡ false → Among x shipped ⊎ Among x is.own → Among x is.own
      other x isnt (inl a) = absurd (true≢false (sym (ships x a) ∙ isnt))
      other x isnt (inr b) = b

      by : Among m (map shipped_module (filter is_shipped files))
          ⊎ Among m (map (module_of files) (filter is_user_body files))
          → ((x : Entry) × Among x shipped × (m ≡ shipped_module x))
          ⊎ ((x : Entry) × Among x is.own × (is_interface x.tree.part ≡ false) × (m ≡ module_of files x))
      by (inl a) =
          let its = among_map shipped_module m (filter is_shipped files) a in
          let from = among_filter is_shipped its.0 files its.1 in
          inl (its.0, either its.0 from.1 (among-append shipped is.own its.0 from.0), its.2)
      by (inr b) =
          let its = among_map (module_of files) m (filter is_user_body files) b in
          let from = among_filter is_user_body its.0 files its.1 in
          let both = and_parts (not (is_shipped its.0)) (not (is_interface its.0.tree.part)) from.1 in
          inr (
            its.0,
            other its.0 (not-true (is_shipped its.0) both.0)
                (among-append shipped is.own its.0 from.0),
            not-true (is_interface its.0.tree.part) both.1,
            its.2,
          )

  -- ---- declarations are those of their parts

  in_formed : (e : Entry) (part : Part) → Among e files → e.tree.part ≡ part →
      (index : ℕ) (says : PlainDeclaration) → slice_get e.tree.declarations index ≡ Some says →
      formed_declaration part says ≡ true
  in_formed e part m of index says at =
      subst (λ p. formed_declaration p says ≡ true) of
      (all_among (formed_declaration e.tree.part) says e.tree.declarations (formed e m)
      (among_get e.tree.declarations index says at))

  pub interface_formed : (m : ModuleParts) (place : ℕ) → slice_get program place ≡ Some m →
      (index : ℕ) (says : PlainDeclaration) → slice_get (declarations_in m.interface) index ≡ Some says →
      formed_declaration Interface says ≡ true
  interface_formed m place e index says at = by (module_is m place e)
    where
      within : (name : Bytes) (o : Option Entry) → find (is_interface_of name) files ≡ o →
          slice_get (declarations_in o) index ≡ Some says → formed_declaration Interface says ≡ true
      within name None found at = absurd (none-some says at)
      within name (Some x) found at =
          let its = found_passes (is_interface_of name) files x found in
          in_formed x Interface its.0 (part_is x.tree.part
          (and_parts (is_interface x.tree.part) (bytes_eq name (joined x.tree.name)) its.1).0) index says at

      by : ((x : Entry) × Among x shipped × (m ≡ shipped_module x))
          ⊎ ((x : Entry) × Among x is.own × (is_interface x.tree.part ≡ false) × (m ≡ module_of files x)) →
          formed_declaration Interface says ≡ true
      by (inl (x, a, same)) =
          let good = (and_parts (is_shipped x)
          (is_interface x.tree.part && (formed_module x.tree && list_all (is_known (joined x.tree.name))
          x.tree.declarations)) (all_among is_good x shipped shipped_are_good a)).1 in
          in_formed x Interface (among-append_left shipped is.own x a)
          (part_is x.tree.part (and_parts (is_interface x.tree.part)
          (formed_module x.tree && list_all (is_known (joined x.tree.name)) x.tree.declarations) good).0)
          index says
          (sym (ap (λ (n : ModuleParts). slice_get (declarations_in n.interface) index) same) ∙ at)
      by (inr (x, b, isnt, same)) =
          within (joined x.tree.name) (find (is_interface_of (joined x.tree.name)) files) refl
          (sym (ap (λ (n : ModuleParts). slice_get (declarations_in n.interface) index) same) ∙ at)

  pub body_formed : (m : ModuleParts) (place : ℕ) → slice_get program place ≡ Some m →
      (index : ℕ) (says : PlainDeclaration) → slice_get (declarations_in m.body) index ≡ Some says →
      formed_declaration Body says ≡ true
  body_formed m place e index says at = by (module_is m place e)
    where
      by : ((x : Entry) × Among x shipped × (m ≡ shipped_module x))
          ⊎ ((x : Entry) × Among x is.own × (is_interface x.tree.part ≡ false) × (m ≡ module_of files x)) →
          formed_declaration Body says ≡ true
      by (inl (x, a, same)) = absurd
          (none-some says (sym (ap (λ (n : ModuleParts). slice_get (declarations_in n.body) index) same) ∙ at))
      by (inr (x, b, isnt, same)) =
          in_formed x Body (among-append_right shipped is.own x b) (part_is_body x.tree.part isnt) index says
          (sym (ap (λ (n : ModuleParts). slice_get (declarations_in n.body) index) same) ∙ at)

  -- ---- functions of modules without a body are shipped

  pub functions_are_shipped : (m : ModuleParts) (place : ℕ) → slice_get program place ≡ Some m →
      m.body ≡ None → (index : ℕ) (at : Pos) (generics : List (Constrained Bytes)) (h : Header Bytes)
      → slice_get (declarations_in m.interface) index ≡ Some (function at generics h) → (call : ShippedCall)
      × (prim_of m.name h.name.name None ≡ Some call)
  functions_are_shipped m place e none index at generics h there = by (module_is m place e)
    where
      known : (o : Option ShippedCall) → is_some o ≡ true → (call : ShippedCall) × (o ≡ Some call)
      known None k = cc
      known (Some call) k = (call, refl)

      by : ((x : Entry) × Among x shipped × (m ≡ shipped_module x))
          ⊎ ((x : Entry) × Among x is.own × (is_interface x.tree.part ≡ false) × (m ≡ module_of files x)) →
          (call : ShippedCall) × (prim_of m.name h.name.name None ≡ Some call)
      by (inl (x, a, same)) =
          let good = (and_parts (is_shipped x)
          (is_interface x.tree.part && (formed_module x.tree && list_all (is_known (joined x.tree.name))
          x.tree.declarations)) (all_among is_good x shipped shipped_are_good a)).1 in
          let rest = (and_parts (is_interface x.tree.part)
          (formed_module x.tree && list_all (is_known (joined x.tree.name)) x.tree.declarations) good).1 in
          let all = (and_parts (formed_module x.tree)
          (list_all (is_known (joined x.tree.name)) x.tree.declarations) rest).1 in
          let one = all_among (is_known (joined x.tree.name)) (function at generics h) x.tree.declarations all
          (among_get x.tree.declarations index (function at generics h)
          (sym (ap (λ (n : ModuleParts). slice_get (declarations_in n.interface) index) same) ∙ there)) in
          let its = known (prim_of (joined x.tree.name) h.name.name None) one in
          (its.0, ap (λ (n : ModuleParts). prim_of n.name h.name.name None) same ∙ its.1)
      by (inr (x, b, isnt, same)) = absurd (none-some x (sym none ∙ ap (λ (n : ModuleParts). n.body) same))
