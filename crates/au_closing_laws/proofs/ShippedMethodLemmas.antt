-- The classes of the instances of shipped modules are shipped, and so is each of their methods.
use Rattle.std.proofs.Common.{◌≡◌, ◌⊎◌, inl, inr, ℕ, zero, suc, ◌+◌, Bool, true, false, cond}
use Rattle.std.proofs.Common.{List, [], ◌∷◌, ◌++◌, length, map, Option, None, Some, refl, sym, ap}
use Rattle.std.proofs.Common.{◌∙◌, arith}
use Rattle.std.specs.Prelude.{Contains, is_some, slice_get}
use Rattle.std.specs.List.{list_all}
use Rattle.std.specs.Option.{option_map}
use Rattle.std.specs.Str.{bytes_eq}
use Rattle.std.proofs.lemmas.Option.{none-some, same_Some}
use Rattle.std.proofs.lemmas.List.{append-nil}
use Rattle.au_base.specs.declared.kinds.IntKind.{IntKind}
use Rattle.au_base.specs.declared.places.Pos.{Pos}
use Rattle.au_base.proofs.ListLemmas.{get_front, get_right}
use Rattle.au_base.proofs.OptionLemmas.{map_some}
use Rattle.au_shipped.specs.declared.prims.ShippedCall.{ShippedCall}
use Rattle.au_shipped.specs.Calls.{calls, prim_of}
use Rattle.au_shipped.specs.Shipped.{is_shipped as has_shipped, shipped_files}
use Rattle.au_shipped.proofs.CallLemmas.{called_in}
use Rattle.au_syntax.specs.declared.modules.Part.{Part}
use Rattle.au_syntax.specs.declared.modules.Part.TheVariants.{Interface, Body}
use Rattle.au_syntax.specs.Modules.{Constrained, Header, InUniverse, class, instance}
use Rattle.au_syntax.specs.Names.{Placed}
use Rattle.au_syntax.specs.Plain.{Bytes, PlainDeclaration}
use Rattle.au_syntax.specs.Sizes.{joined}
use Rattle.au_syntax.specs.Types.{WrittenType}
use Rattle.au_types.specs.declared.spaces.Space.TheVariants.{Types}
use Rattle.au_types.specs.DeclaredNames.{names_in, numbered}
use Rattle.au_types.specs.Tables as tables
use Rattle.au_types.proofs.TableLemmas.{find-firsts, find-front}
use Rattle.au_types.specs.declared.headings.Head.{Head}
use Rattle.au_types.specs.declared.types.DeclAt.{DeclAt}
use Rattle.au_types.specs.Rows.{head_of}
use Rattle.au_modules.specs.Programs.{Entry, ModuleParts, is_interface, module_of, shipped_module}
use Rattle.au_names.specs.declared.targets.Target.{Target}
use Rattle.au_names.specs.Importing.{imported}
use Rattle.au_names.specs.Meanings.{declared_by, imports_in, meanings, part_of, pervasive, seen}
use Rattle.au_names.specs.Owned.{declarations_in, own, targets}
use Rattle.au_names.specs.Standing.{Standing, body_standing, standing_at, standing_from, standing_in}
use Rattle.au_names.proofs.AmongLemmas.{Among, among}
use Rattle.au_names.proofs.StandingLemmas.{from_length}
use Rattle.au_names.proofs.DeclaredByLemmas.{find_declared}
use Rattle.au_types.specs.Senses.{declared_sense}
use Rattle.au_judged_types.specs.Meanings.{class_in, class_meant}
use Rattle.au_promises.specs.Agreeing.{visible}
use Rattle.au_classes.specs.Classes.{visible_at, visible_in}
use Rattle.au_closing_laws.specs.Gathered.{IsGathered, entry_of}
use Rattle.au_closing_laws.proofs.GatheredLemmas.{all_among, among_get, module_is}
use Rattle.au_closing_laws.proofs.SameLemmas.{class_found, declared_class}

-- ---- where declarations stand

pub standing_get : (place : ℕ) (part : Part) (first : ℕ) (ds : List PlainDeclaration) (k : ℕ)
    (says : PlainDeclaration) → slice_get ds k ≡ Some says
    → slice_get (standing_from place part first ds) k
    ≡ Some (record { place = place; part = part; index = first + k; says = says })
unfolding standing_from
standing_get place part first [] k says e = absurd (none-some says e)
standing_get place part first (d ∷ ds) zero says e =
    ap (λ x. Some (record { place = place; part = part; index = first; says = x })) (same_Some d says e)
    ∙ ap (λ n. Some (record { place = place; part = part; index = n; says = says })) (at_zero first)
  where
    at_zero : (n : ℕ) → n ≡ n + 0
    at_zero n = omega arith
standing_get place part first (d ∷ ds) (suc k) says e =
    standing_get place part (first + 1) ds k says e
    ∙ ap (λ n. Some (record { place = place; part = part; index = n; says = says })) (shifted first k)
  where
    shifted : (n k : ℕ) → (n + 1) + k ≡ n + suc k
    shifted n k = omega arith

-- a declaration of an interface stands at its index
pub stands_promised : (program : List ModuleParts) (at : DeclAt) (m : ModuleParts) (says : PlainDeclaration) →
    slice_get program at.«module» ≡ Some m
    → slice_get (declarations_in m.interface) at.decl ≡ Some says
    → standing_at program at ≡ Some (record { place = at.«module»; part = Interface; index = at.decl; says = says })
stands_promised program at m says is there =
    ap (standing_in at.«module» at.decl) is
    ∙ get_front (standing_from at.«module» Interface 0 (declarations_in m.interface))
    (body_standing at.«module» m) at.decl
    (record { place = at.«module»; part = Interface; index = 0 + at.decl; says = says })
    (standing_get at.«module» Interface 0 (declarations_in m.interface) at.decl says there)
    ∙ ap (λ n. Some (record { place = at.«module»; part = Interface; index = n; says = says })) (zero_before at.decl)
  where
    zero_before : (n : ℕ) → 0 + n ≡ n
    zero_before n = omega arith

-- one of a body behind those of the interface
pub stands_defined : (program : List ModuleParts) (at : DeclAt) (m : ModuleParts) (index : ℕ)
    (says : PlainDeclaration) → slice_get program at.«module» ≡ Some m
    → at.decl ≡ length (declarations_in m.interface) + index → slice_get (declarations_in m.body) index ≡ Some says
    → standing_at program at ≡ Some (record { place = at.«module»; part = Body; index = index; says = says })
stands_defined program at m index says is numbered there =
    ap (standing_in at.«module» at.decl) is
    ∙ ap (slice_get (standing_from at.«module» Interface 0 (declarations_in m.interface)
    ++ body_standing at.«module» m))
    (numbered ∙ ap (λ n. n + index) (sym (from_length at.«module» Interface 0 (declarations_in m.interface))))
    ∙ get_right (standing_from at.«module» Interface 0 (declarations_in m.interface))
    (body_standing at.«module» m) index
    ∙ standing_get at.«module» Body 0 (declarations_in m.body) index says there
    ∙ ap (λ n. Some (record { place = at.«module»; part = Body; index = n; says = says })) (zero_before index)
  where
    zero_before : (n : ℕ) → 0 + n ≡ n
    zero_before n = omega arith

-- ---- the shipped classes

-- the methods of a declaration are shipped calls of a module, if it is a class
abbrev class_known : Bytes → Option PlainDeclaration → Bool
class_known home (Some (class at n p hs)) = list_all (λ (h : Header Bytes). has_shipped home h.name.name) hs
class_known home other = false

-- so are those of the declaration of a number, if there is one
abbrev covers : Bytes → List PlainDeclaration → Option ℕ → Bool
covers home ds None = false
covers home ds (Some number) = class_known home (slice_get ds number)

-- an instance is of a class of its own file
abbrev is_covered : Entry → PlainDeclaration → Bool
is_covered e (instance at gs n t) = covers (joined e.tree.name) e.tree.declarations
    (tables.find n.name (names_in Types (numbered 0 e.tree.declarations)))
is_covered e other = true

shipped_are_covered : list_all (λ e. list_all (is_covered e) e.tree.declarations) (map entry_of shipped_files) ≡ true
unfolding numbered names_in
shipped_are_covered = refl

-- ---- names

find_target : (place : ℕ) (name : Bytes) (pairs : List (Bytes × ℕ)) →
    option_map (λ (t : Target). t.at) (tables.find name (targets place pairs))
    ≡ option_map (λ n. record { «module» = place; decl = n }) (tables.find name pairs)
find_target place name [] = refl
find_target place name (p ∷ ps) = by (bytes_eq name p.0) (find_target place name ps)
  where
    by : (b : Bool) → option_map (λ (t : Target). t.at) (tables.find name (targets place ps))
        ≡ option_map (λ n. record { «module» = place; decl = n }) (tables.find name ps)
        → option_map (λ (t : Target). t.at)
        (cond b (Some (record { at = record { «module» = place; decl = p.1 }; name = p.0 }))
        (tables.find name (targets place ps)))
        ≡ option_map (λ n. record { «module» = place; decl = n }) (cond b (Some p.1) (tables.find name ps))
    by true later = refl
    by false later = later

-- a shipped module sees what it declares itself
pub own_seen : (program : List ModuleParts) (place : ℕ) (m : ModuleParts) (x : Entry) → m ≡ shipped_module x
    → (part : Part) (name : Bytes) (number : ℕ)
    → tables.find name (names_in Types (numbered 0 x.tree.declarations)) ≡ Some number
    → tables.find name (declared_by (seen Types program place m part))
    ≡ Some (record { «module» = place; decl = number })
own_seen program place m x same part name number e =
    find_declared name (seen Types program place m part)
    ∙ ap (option_map (λ (y : Target). y.at))
    (find-firsts name (meanings Types program place m part)
    ∙ find-front name (own Types place m
    ++ imported Types program place (imports_in (part_of part m)))
    (pervasive Types program) own_found.0
    (find-front name (own Types place m)
    (imported Types program place (imports_in (part_of part m))) own_found.0
    own_found.1))
    ∙ ap Some own_found.2
  where
    own_is : own Types place m ≡ targets place (names_in Types (numbered 0 x.tree.declarations))
    own_is = ap (own Types place) same ∙ ap (λ ds. targets place (names_in Types (numbered 0 ds)))
        (append-nil x.tree.declarations)

    own_found : (target : Target) × (tables.find name (own Types place m) ≡ Some target)
        × (target.at ≡ record { «module» = place; decl = number })
    own_found = map_some (λ (y : Target). y.at) (tables.find name (own Types place m))
        (record { «module» = place; decl = number })
        (ap (λ xs. option_map (λ (y : Target). y.at) (tables.find name xs)) own_is
        ∙ find_target place name (names_in Types (numbered 0 x.tree.declarations))
        ∙ ap (option_map (λ j. record { «module» = place; decl = j })) e)

-- a declaration that is a class is the one that is seen
class_seen : (heads : List (DeclAt × Head)) (o : Option DeclAt) (at : DeclAt) → declared_class heads o
    ≡ Some at → o ≡ Some at
class_seen heads None at e = absurd (none-some at e)
class_seen heads (Some other) at e = by (head_of heads other) refl e
  where
    unheaded : head_of heads other ≡ None → class_in (Some (declared_sense heads other)) ≡ Some other
    unheaded is = rw is refl

    headed : (head : Head) → head_of heads other ≡ Some head → class_in (Some (declared_sense heads other)) ≡ None
    headed head is = rw is refl

    by : (o : Option Head) → head_of heads other ≡ o → class_in (Some (declared_sense heads other))
        ≡ Some at → Some other ≡ Some at
    by None is e = sym (unheaded is) ∙ e
    by (Some head) is e = absurd (none-some at (sym (headed head is) ∙ e))

-- a class that a shipped module declares itself is the one that its name means there
pub class_numbered : (program : List ModuleParts) (place : ℕ) (m : ModuleParts) → slice_get program place ≡ Some m
    → (x : Entry) → m ≡ shipped_module x
    → (names : List (Bytes × DeclAt)) → visible_at program place Interface ≡ Some names
    → (heads : List (DeclAt × Head)) (name : Bytes) (its_class : DeclAt) → class_meant [] names heads name ≡ Some its_class
    → (number : ℕ) → tables.find name (names_in Types (numbered 0 x.tree.declarations)) ≡ Some number
    → record { «module» = place; decl = number } ≡ its_class
class_numbered program place m there x same names sees heads name its_class means number e =
    same_Some (record { «module» = place; decl = number }) its_class
    (sym (ap (tables.find name) names_are ∙ own_seen program place m x same Interface name number e) ∙ seen_so)
  where
    -- what is seen under the name
    seen_so : tables.find name names ≡ Some its_class
    seen_so = class_seen heads (tables.find name names) its_class (class_found heads [] names name its_class means)

    names_are : names ≡ declared_by (seen Types program place m Interface)
    names_are = sym (same_Some (visible program place m Interface) names
        (sym (ap (visible_in program place Interface) there) ∙ sees))

-- ---- the methods

some_call : (o : Option ShippedCall) → is_some o ≡ true → (call : ShippedCall) × (o ≡ Some call)
some_call None k = cc
some_call (Some call) k = (call, refl)

-- a shipped name is that of a shipped call, of whichever kind of integers
call_there : (home name : Bytes) (of : Option IntKind) → has_shipped home name ≡ true → (call : ShippedCall)
    × (prim_of home name of ≡ Some call)
call_there home name of shipped = some_call (prim_of home name of) (called_in (calls of) home name ∙ shipped)

methods_known : (home : Bytes) (says : PlainDeclaration) → class_known home (Some says) ≡ true →
    (place : Pos) (n : Placed Bytes) (p : InUniverse Bytes) (methods : List (Header Bytes)) →
    says ≡ class place n p methods
    → (h : Header Bytes) → Contains methods h → has_shipped home h.name.name ≡ true
methods_known home says known place n p methods is h listed =
    all_among (λ (x : Header Bytes). has_shipped home x.name.name) h methods
    (sym (ap (λ x. class_known home (Some x)) is) ∙ known) (among methods h listed)

module _ (program : List ModuleParts) (is : IsGathered program) (place : ℕ) (m : ModuleParts)
    (there : slice_get program place ≡ Some m) (none : m.body ≡ None) where
  -- a class is declared by the module itself, which is that of a shipped file, and its methods are shipped
  abbrev IsOwnClass : DeclAt → Type 0
  IsOwnClass its_class =
      (x : Entry) × (m ≡ shipped_module x) × (number : ℕ)
      × (record { «module» = place; decl = number } ≡ its_class)
      × (class_known (joined x.tree.name) (slice_get x.tree.declarations number) ≡ true)

  -- so is the class of an instance in a module without a body
  own_class : (k : ℕ) (at : Pos) (generics : List (Constrained Bytes)) (name : Placed Bytes)
      (t : WrittenType) → slice_get (declarations_in m.interface) k ≡ Some (instance at generics name t)
      → (names : List (Bytes × DeclAt)) → visible_at program place Interface ≡ Some names →
      (heads : List (DeclAt × Head)) (its_class : DeclAt) → class_meant [] names heads name.name
      ≡ Some its_class → IsOwnClass its_class
  own_class k at generics name t stands names sees heads its_class means = by (module_is program is m place there)
    where
      by : ((x : Entry) × Among x (map entry_of shipped_files) × (m ≡ shipped_module x))
          ⊎ ((x : Entry) × Among x is.own × (is_interface x.tree.part ≡ false)
          × (m ≡ module_of (map entry_of shipped_files ++ is.own) x)) → IsOwnClass its_class
      by (inr (x, b, isnt, same)) = absurd (none-some x (sym none ∙ ap (λ (y : ModuleParts). y.body) same))
      by (inl (x, a, same)) =
          let covered = all_among (is_covered x) (instance at generics name t) x.tree.declarations
          (all_among (λ e. list_all (is_covered e) e.tree.declarations) x (map entry_of shipped_files)
          shipped_are_covered a)
          (among_get x.tree.declarations k (instance at generics name t)
          (sym (ap (λ (y : ModuleParts). slice_get (declarations_in y.interface) k) same) ∙ stands)) in
          numbered_so (tables.find name.name (names_in Types (numbered 0 x.tree.declarations))) refl covered
        where
          numbered_so : (o : Option ℕ) →
              tables.find name.name (names_in Types (numbered 0 x.tree.declarations)) ≡ o →
              covers (joined x.tree.name) x.tree.declarations o ≡ true → IsOwnClass its_class
          numbered_so None e known = cc
          numbered_so (Some number) e known = (
            x,
            same,
            number,
            class_numbered program place m there x same names sees heads name.name its_class means number e,
            known,
          )

  -- so it is of that module
  pub class_is_here : (k : ℕ) (at : Pos) (generics : List (Constrained Bytes)) (name : Placed Bytes)
      (t : WrittenType) → slice_get (declarations_in m.interface) k ≡ Some (instance at generics name t)
      → (names : List (Bytes × DeclAt)) → visible_at program place Interface ≡ Some names →
      (heads : List (DeclAt × Head)) (its_class : DeclAt) → class_meant [] names heads name.name
      ≡ Some its_class → its_class.«module» ≡ place
  class_is_here k at generics name t stands names sees heads its_class means =
      let its = own_class k at generics name t stands names sees heads its_class means in
      sym (ap (λ (c : DeclAt). c.«module») its.3)

  -- and each of its methods is a shipped call
  pub shipped_methods : (k : ℕ) (at : Pos) (generics : List (Constrained Bytes)) (name : Placed Bytes)
      (t : WrittenType) → slice_get (declarations_in m.interface) k ≡ Some (instance at generics name t)
      → (names : List (Bytes × DeclAt)) → visible_at program place Interface ≡ Some names →
      (heads : List (DeclAt × Head)) (its_class : DeclAt) → class_meant [] names heads name.name
      ≡ Some its_class
      → (d : Standing) → standing_at program its_class ≡ Some d →
      (p : Pos) (n : Placed Bytes) (param : InUniverse Bytes) (methods : List (Header Bytes)) →
      d.says ≡ class p n param methods
      → (h : Header Bytes) → Contains methods h → (of : Option IntKind) → (call : ShippedCall)
      × (prim_of m.name h.name.name of ≡ Some call)
  shipped_methods k at generics name t stands names sees heads its_class means d found p n param methods says
      h listed of =
      let its = own_class k at generics name t stands names sees heads its_class means in
      declared_so its.0 its.1 its.2 its.3 (slice_get its.0.tree.declarations its.2) refl its.4
    where
      declared_so : (x : Entry) → m ≡ shipped_module x → (number : ℕ) →
          record { «module» = place; decl = number } ≡ its_class → (o : Option PlainDeclaration) →
          slice_get x.tree.declarations number ≡ o → class_known (joined x.tree.name) o ≡ true
          → (call : ShippedCall) × (prim_of m.name h.name.name of ≡ Some call)
      declared_so x same number class_is None e known = cc
      declared_so x same number class_is (Some its) e known =
          let stands = stands_promised program (record { «module» = place; decl = number }) m its there
          (ap (λ (y : ModuleParts). slice_get (declarations_in y.interface) number) same ∙ e) in
          let one = same_Some (record { place = place; part = Interface; index = number; says = its }) d
          (sym stands ∙ ap (standing_at program) class_is ∙ found) in
          let call = call_there (joined x.tree.name) h.name.name of
          (methods_known (joined x.tree.name) its known p n param methods
          (ap (λ (s : Standing). s.says) one ∙ says) h listed) in
          (call.0, ap (λ (y : ModuleParts). prim_of y.name h.name.name of) same ∙ call.1)
