-- No method of an instance is a shipped call that gives birth: those are functions, of modules without instances.
use Rattle.std.proofs.Common.{◌≡◌, ◌⊎◌, inl, inr, ◌||◌, Bool, true, false, true≢false, not, cond, List, [], ◌∷◌, ◌++◌}
use Rattle.std.proofs.Common.{map, Option, None, Some, refl, sym, ap, ◌∙◌, subst}
use Rattle.std.specs.Prelude.{codes, slice_get, if◌then◌else◌}
use Rattle.std.specs.List.{list_all}
use Rattle.std.specs.Str.{bytes_eq}
use Rattle.std.proofs.lemmas.Bool.{and_parts}
use Rattle.std.proofs.lemmas.Option.{none-some, same_Some}
use Rattle.std.proofs.lemmas.Slice.Eq.{bytes_eq-Decides}
use Rattle.au_base.specs.declared.kinds.IntKind.{IntKind}
use Rattle.au_shipped.specs.declared.prims.ShippedCall.{ShippedCall}
use Rattle.au_shipped.specs.declared.prims.ShippedCall.TheVariants as prim
use Rattle.au_shipped.specs.Calls.{box_calls, buffer_calls, call_in, found, pervasive_calls, prim_of, terminal_calls}
use Rattle.au_shipped.specs.Shipped.{shipped_files}
use Rattle.au_syntax.specs.Modules.{instance}
use Rattle.au_syntax.specs.Plain.{Bytes, PlainDeclaration}
use Rattle.au_syntax.specs.Sizes.{joined}
use Rattle.au_types.specs.declared.types.DeclAt.{DeclAt}
use Rattle.au_type_texts.specs.Types.{ClosedType, truth}
use Rattle.au_modules.specs.Programs.{Entry, ModuleParts, is_interface, module_of, shipped_module}
use Rattle.au_names.specs.Owned.{declarations_in}
use Rattle.au_names.proofs.AmongLemmas.{Among}
use Rattle.au_instances.specs.Rows.{Row}
use Rattle.au_closing.specs.Leading.{at_type, kind_of, module_name}
use Rattle.au_closed_meanings.specs.Shipped.{born}
use Rattle.au_closing_laws.specs.Gathered.{IsGathered, entry_of}
use Rattle.au_closing_laws.proofs.FactLemmas.{name_there}
use Rattle.au_closing_laws.proofs.GatheredLemmas.{all_among, among_get, module_is}
use Rattle.au_closing_laws.proofs.TextLemmas.{IsDefined, IsPromised}
use Rattle.au_judged_programs.proofs.ShippedMethodFoundLemmas.{IsFound}
use Rattle.au_caps.specs.Calls.{gives_birth}

-- a shipped method that is a birth is one at each type
births_at : (t : ClosedType) (its : ShippedCall) (of u : ClosedType) → born (at_type t its) of ≡ Some u
    → gives_birth (Some its) ≡ true
births_at t prim.MakeBox of u e = refl
births_at t prim.MakeEmpty of u e = refl
births_at t prim.AcquireTerminal of u e = refl
births_at truth other of u e = absurd (none-some u e)
births_at t other of u e = absurd (none-some u e)

-- ---- the modules of births

abbrev bears_nothing : Bytes × ShippedCall → Bool
bears_nothing row = not (gives_birth (Some row.1))

found_bears : (table : List (Bytes × ShippedCall)) → list_all bears_nothing table ≡ true → (name : Bytes)
    (its : ShippedCall) → found table name ≡ Some its → gives_birth (Some its) ≡ true → ⊥
found_bears [] all name its e birth = absurd (none-some its e)
found_bears (row ∷ table) all name its e birth =
    let both = and_parts (bears_nothing row) (list_all bears_nothing table) all in
    by (bytes_eq row.0 name) e both.0 (found_bears table both.1 name its)
  where
    by : (b : Bool) → cond b (Some row.1) (found table name) ≡ Some its → bears_nothing row ≡ true
        → (found table name ≡ Some its → gives_birth (Some its) ≡ true → ⊥) → ⊥
    by true e here later =
        true≢false (sym here ∙ ap not (ap (λ (c : ShippedCall). gives_birth (Some c)) (same_Some row.1 its e) ∙ birth))
    by false e here later = later e birth

own_bears : (kind : Option IntKind) → list_all bears_nothing (pervasive_calls kind) ≡ true
own_bears None = refl
own_bears (Some kind) = refl

-- the modules of the calls that give birth
abbrev pub of_births : Bytes → Bool
of_births home =
    bytes_eq home (codes "Standard.Box")
    || (bytes_eq home (codes "Standard.Buffer") || bytes_eq home (codes "Standard.IO.Terminal"))

home_of_births : (home name : Bytes) (kind : Option IntKind) (its : ShippedCall) → prim_of home name kind ≡ Some its
    → gives_birth (Some its) ≡ true → of_births home ≡ true
home_of_births home name kind its e birth =
    by (bytes_eq (codes "Austral.Pervasive") home) (bytes_eq (codes "Standard.Box") home)
    (bytes_eq (codes "Standard.Buffer") home) (bytes_eq (codes "Standard.IO.Terminal") home) refl refl refl refl e
  where
    at : (other : Bytes) → bytes_eq other home ≡ true → of_births other ≡ true → of_births home ≡ true
    at other is known = subst (λ (h : Bytes). of_births h ≡ true) ((bytes_eq-Decides other home).0 is) known

    by : (a b c d : Bool) → bytes_eq (codes "Austral.Pervasive") home ≡ a → bytes_eq (codes "Standard.Box") home ≡ b
        → bytes_eq (codes "Standard.Buffer") home ≡ c → bytes_eq (codes "Standard.IO.Terminal") home ≡ d
        → call_in (if a then Some (pervasive_calls kind) else (if b then Some box_calls
        else (if c then Some buffer_calls else (if d then Some terminal_calls else None)))) name ≡ Some its
        → of_births home ≡ true
    by true b c d is other others last e = absurd (found_bears (pervasive_calls kind) (own_bears kind) name its e birth)
    by false true c d is other others last e = at (codes "Standard.Box") other refl
    by false false true d is other others last e = at (codes "Standard.Buffer") others refl
    by false false false true is other others last e = at (codes "Standard.IO.Terminal") last refl
    by false false false false is other others last e = absurd (none-some its e)

-- these have no instances
abbrev is_instance : PlainDeclaration → Bool
is_instance (instance at gs n t) = true
is_instance other = false

abbrev no_instance : PlainDeclaration → Bool
no_instance says = not (is_instance says)

abbrev without_instances : Entry → Bool
without_instances e = not (of_births (joined e.tree.name)) || list_all no_instance e.tree.declarations

none_there : list_all without_instances (map entry_of shipped_files) ≡ true
none_there = refl

-- ---- a row

module _ (program : List ModuleParts) (gathered : IsGathered program)
    (apart : (e : Entry) → Among e gathered.own → of_births (joined e.tree.name) ≡ true → ⊥) (at : DeclAt)
    (t : ClosedType) (row : Row) (f : IsFound program at t row) where
  home_is : module_name program row.instance.«module» ≡ f.m.name
  home_is =
      ap (λ (x : DeclAt). module_name program x.«module») f.says.number
      ∙ name_there program f.text.number.«module» f.m f.here

  no_home : of_births f.m.name ≡ true → ⊥
  no_home is = by (module_is program gathered f.m f.text.number.«module» f.here)
    where
      in_file : (e : Entry) → Among e (map entry_of shipped_files) → f.m ≡ shipped_module e
          → IsPromised program f.m f.text ⊎ IsDefined f.m f.text → ⊥
      in_file e among same (inl i) =
          let test = all_among without_instances e (map entry_of shipped_files) none_there among in
          let there = sym (ap (λ (x : ModuleParts). slice_get (declarations_in x.interface) f.text.number.decl) same)
          ∙ i.stands in
          true≢false (sym (all_among no_instance (instance i.at f.text.generics f.text.name f.text.of)
          e.tree.declarations (rest (of_births (joined e.tree.name))
          (sym (ap (λ (x : ModuleParts). of_births x.name) same) ∙ is) test)
          (among_get e.tree.declarations f.text.number.decl (instance i.at f.text.generics f.text.name f.text.of)
          there)))
        where
          rest : (b : Bool) → b ≡ true → (not b || list_all no_instance e.tree.declarations) ≡ true
              → list_all no_instance e.tree.declarations ≡ true
          rest true is e = e
          rest false is e = absurd (true≢false (sym is))
      in_file e among same (inr i) =
          absurd (none-some _ (sym (ap (λ (x : ModuleParts). slice_get (declarations_in x.body) i.index) same) ∙
          i.stands))

      by : ((e : Entry) × Among e (map entry_of shipped_files) × (f.m ≡ shipped_module e))
          ⊎ ((e : Entry) × Among e gathered.own × (is_interface e.tree.part ≡ false)
          × (f.m ≡ module_of (map entry_of shipped_files ++ gathered.own) e)) → ⊥
      by (inl (e, among, same)) = in_file e among same f.stands
      by (inr (e, among, isnt, same)) = apart e among (sym (ap (λ (x : ModuleParts). of_births x.name) same) ∙ is)

  -- no method of it is a birth
  pub no_birth : (name : Bytes) (its : ShippedCall) (of u : ClosedType)
      → prim_of (module_name program row.instance.«module») name (kind_of t) ≡ Some its
      → born (at_type t its) of ≡ Some u → ⊥
  no_birth name its of u e bears =
      no_home (home_of_births f.m.name name (kind_of t) its
      (ap (λ (home : Bytes). prim_of home name (kind_of t)) (sym home_is) ∙ e) (births_at t its of u bears))
