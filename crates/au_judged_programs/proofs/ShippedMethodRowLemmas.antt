-- The row of a shipped instance: its class is declared in the same shipped file, and each method of the class fits at
-- the closed type for which the row is found.
use Rattle.std.proofs.Common.{◌≡◌, ◌⊎◌, inl, inr, ℕ, Bool, true, false, ◌&&◌, true≢false, List, [], ◌∷◌, ◌++◌}
use Rattle.std.proofs.Common.{Option, None, Some, refl, sym, ap, ◌∙◌, subst}
use Rattle.std.specs.Prelude.{codes, if◌then◌else◌, slice_get}
use Rattle.std.specs.List.{list_all}
use Rattle.std.specs.Str.{bytes_eq}
use Rattle.std.proofs.lemmas.Bool.{and_parts}
use Rattle.std.proofs.lemmas.Option.{none-some, same_Some}
use Rattle.std.proofs.lemmas.Slice.Eq.{bytes_eq-Decides}
use Rattle.au_base.specs.declared.kinds.IntKind.{IntKind}
use Rattle.au_base.specs.declared.places.Pos.{Pos}
use Rattle.au_shipped.specs.declared.prims.ShippedCall.{ShippedCall}
use Rattle.au_shipped.specs.Calls.{box_calls, buffer_calls, call_in, pervasive_calls, prim_of, terminal_calls}
use Rattle.au_syntax.specs.declared.declarations.Universe.{Universe}
use Rattle.au_syntax.specs.declared.declarations.Universe.TheVariants as universes
use Rattle.au_syntax.specs.declared.modules.Part.{Part}
use Rattle.au_syntax.specs.declared.modules.Part.TheVariants.{Interface}
use Rattle.au_syntax.specs.Modules.{Constrained, Header, InUniverse, class, instance, instance_body}
use Rattle.au_syntax.specs.Names.{Placed}
use Rattle.au_syntax.specs.Plain.{Bytes, PlainDeclaration}
use Rattle.au_syntax.specs.Sizes.{joined}
use Rattle.au_types.specs.declared.headings.Head.{Head}
use Rattle.au_types.specs.declared.types.DeclAt.{DeclAt}
use Rattle.au_types.specs.Meant.{meant}
use Rattle.au_type_texts.specs.Types.{ClosedType}
use Rattle.au_modules.specs.Programs.{Entry, ModuleParts, is_interface, module_of, shipped_module}
use Rattle.au_names.specs.HeadsOf.{heads_of}
use Rattle.au_names.specs.Owned.{declarations_in}
use Rattle.au_names.specs.Standing.{standing_at}
use Rattle.au_names.proofs.AmongLemmas.{Among}
use Rattle.au_judged_types.specs.Agreement.{found as found_meant}
use Rattle.au_judged_types.specs.Bounds.{Bounded, parameters}
use Rattle.au_judged_types.specs.Judging.{judged}
use Rattle.au_judged_types.specs.Meanings.{generics_meant, parameter}
use Rattle.au_judged_types.proofs.AgreementLemmas.{found_means, judged_is_meant}
use Rattle.au_classes.specs.Classes.{visible_at}
use Rattle.au_judged_bodies.specs.Leading.{module_name}
use Rattle.au_judged_bodies.specs.Trees.{NotedParts}
use Rattle.au_instances.specs.Rows.{Row}
use Rattle.au_closing_laws.specs.Targets.{bounds_in}
use Rattle.au_closing_laws.proofs.FactLemmas.{name_there}
use Rattle.au_judged_programs.proofs.ShippedMethodFoundLemmas.{IsFound}
use Rattle.au_closing_laws.proofs.GatheredLemmas.{all_among, among_get, module_is}
use Rattle.au_closing_laws.proofs.ShippedMethodLemmas.{class_numbered, stands_promised}
use Rattle.au_closing_laws.proofs.TextLemmas.{IsDefined, IsPromised}
use Rattle.au_judged_programs.specs.CheckedChecked.{IsChecked}
use Rattle.au_judged_programs.proofs.BirthLemmas.{IsOfShipped, own, own_named, shipped}
use Rattle.au_judged_programs.proofs.ShippedMethodTestLemmas.{all_good, class_fits, has_option, head_closed}
use Rattle.au_judged_programs.proofs.ShippedMethodTestLemmas.{head_is, is_empty}
use Rattle.au_judged_programs.proofs.ShippedMethodTestLemmas.{is_free, is_good, is_its_parameter, its_name}
use Rattle.au_judged_programs.proofs.ShippedMethodTestLemmas.{method_fits, number_in}
use Rattle.au_judged_programs.proofs.ShippedMethodTestLemmas.{numbered_fits, the_parameter}

-- ---- modules with shipped calls

-- what has calls is a shipped module
pub home_shipped : (home name : Bytes) (of : Option IntKind) (call : ShippedCall) → prim_of home name of ≡ Some call
    → IsOfShipped home
home_shipped home name of call e =
    by (bytes_eq (codes "Austral.Pervasive") home) (bytes_eq (codes "Standard.Box") home)
    (bytes_eq (codes "Standard.Buffer") home) (bytes_eq (codes "Standard.IO.Terminal") home) refl refl refl refl e
  where
    at : (other : Bytes) → bytes_eq other home ≡ true → IsOfShipped other → IsOfShipped home
    at other is known = subst IsOfShipped ((bytes_eq-Decides other home).0 is) known

    by : (a b c d : Bool) → bytes_eq (codes "Austral.Pervasive") home ≡ a → bytes_eq (codes "Standard.Box") home ≡ b
        → bytes_eq (codes "Standard.Buffer") home ≡ c → bytes_eq (codes "Standard.IO.Terminal") home ≡ d
        → call_in (if a then Some (pervasive_calls of) else (if b then Some box_calls
        else (if c then Some buffer_calls else (if d then Some terminal_calls else None)))) name ≡ Some call
        → IsOfShipped home
    by true b c d is other others last e = at (codes "Austral.Pervasive") is refl
    by false true c d is other others last e = at (codes "Standard.Box") other refl
    by false false true d is other others last e = at (codes "Standard.Buffer") others refl
    by false false false true is other others last e = at (codes "Standard.IO.Terminal") last refl
    by false false false false is other others last e = absurd (none-some call e)

-- ---- what the tests say

empty_is : (generics : List (Constrained Bytes)) → is_empty generics ≡ true → generics ≡ []
empty_is [] e = refl
empty_is (g ∷ generics) e = absurd (true≢false (sym e))

free_is : (u : Universe) → is_free u ≡ true → u ≡ universes.Free
free_is universes.Free e = refl
free_is other e = absurd cc

parameter_is : (p : InUniverse Bytes) → is_its_parameter p ≡ true → parameter p ≡ the_parameter
parameter_is p e =
    let both = and_parts (bytes_eq p.name.name its_name) (is_free p.universe) e in
    λ i. record { name = (bytes_eq-Decides p.name.name its_name).0 both.0 i; universe = free_is p.universe both.1 i }

-- ---- the row

-- A class is declared in the interface of a shipped module of a name, and each of its methods fits at a closed type.
pub record IsShippedClass (program : List ModuleParts) (home : Bytes) (t : ClosedType) (at : DeclAt) : Type 0 where
  pub entry : Entry
  pub m : ModuleParts
  pub same : m ≡ shipped_module entry
  pub named : home ≡ m.name
  pub place : ℕ
  pub here : slice_get program place ≡ Some m
  pub number : ℕ
  pub numbered : record { «module» = place; decl = number } ≡ at
  pub pos : Pos
  pub name : Placed Bytes
  pub p : InUniverse Bytes
  pub methods : List (Header Bytes)
  pub there : standing_at program at
      ≡ Some (record { place = place; part = Interface; index = number; says = class pos name p methods })
  pub over : parameter p ≡ the_parameter
  pub fit : list_all (method_fits m.name t) methods ≡ true
  pub option : has_option entry ≡ true

module _ (program : List ModuleParts) (noted : List NotedParts) (checked : IsChecked program noted) (t : ClosedType)
    (at : DeclAt) (row : Row) (f : IsFound program at t row) where
  abbrev heads : List (DeclAt × Head)
  heads = heads_of program

  -- the name of the module of the instance
  pub home_is : module_name program row.instance.«module» ≡ f.m.name
  home_is =
      ap (λ (x : DeclAt). module_name program x.«module») f.says.number
      ∙ name_there program f.text.number.«module» f.m f.here

  module _ (x : Entry) (among : Among x shipped) (same : f.m ≡ shipped_module x)
      (promised : IsPromised program f.m f.text) where
    abbrev said : PlainDeclaration
    said = instance promised.at f.text.generics f.text.name f.text.of

    good : is_good x said ≡ true
    good =
        all_among (is_good x) said x.tree.declarations
        (all_among (λ e. list_all (is_good e) e.tree.declarations) x shipped all_good among)
        (among_get x.tree.declarations f.text.number.decl said
        (sym (ap (λ (y : ModuleParts). slice_get (declarations_in y.interface) f.text.number.decl) same)
        ∙ promised.stands))

    parts : (is_empty f.text.generics ≡ true)
        × ((numbered_fits x (head_closed f.text.of) (number_in x f.text.name.name) && has_option x) ≡ true)
    parts =
        and_parts (is_empty f.text.generics)
        (numbered_fits x (head_closed f.text.of) (number_in x f.text.name.name) && has_option x) good

    more : (numbered_fits x (head_closed f.text.of) (number_in x f.text.name.name) ≡ true) × (has_option x ≡ true)
    more = and_parts (numbered_fits x (head_closed f.text.of) (number_in x f.text.name.name)) (has_option x) parts.1

    bare : row.generics ≡ []
    bare =
        ap bounds_in
        (sym (sym (ap (generics_meant f.names heads) (empty_is f.text.generics parts.0)) ∙ f.says.generics))

    -- the type of the instance closes to that for which the row is found
    type_is : (c : ClosedType) → head_closed f.text.of ≡ Some c → c ≡ t
    type_is c closes =
        same_Some c t (sym (head_is f.names heads f.text.of c row.head closes means) ∙ f.closes bare)
      where
        judged_so : found_meant (judged [] [] f.names heads f.text.of) ≡ Some row.head
        judged_so =
            subst (λ (gs : List Bounded). found_meant (judged [] (parameters gs) f.names heads f.text.of) ≡ Some
            row.head)
            bare f.says.head

        means : meant [] [] f.names heads f.text.of ≡ Some row.head
        means =
            (judged_is_meant heads [] [] f.names f.text.of row.head
            (found_means (judged [] [] f.names heads f.text.of) row.head judged_so)).0

    class_is : IsShippedClass program (module_name program row.instance.«module») t at
    class_is = numbered_so (number_in x f.text.name.name) refl more.0
      where
        sees : visible_at program f.text.number.«module» Interface ≡ Some f.names
        sees =
            subst (λ (p : Part). visible_at program f.text.number.«module» p ≡ Some f.names) promised.part f.sees

        numbered_so : (o : Option ℕ) → number_in x f.text.name.name ≡ o → numbered_fits x (head_closed f.text.of) o
            ≡ true
            → IsShippedClass program (module_name program row.instance.«module») t at
        numbered_so None e known = absurd (true≢false (sym known))
        numbered_so (Some number) e known =
            declared_so (head_closed f.text.of) (slice_get x.tree.declarations number) refl refl known
          where
            its : DeclAt
            its = record { «module» = f.text.number.«module»; decl = number }

            its_class : its ≡ at
            its_class =
                class_numbered program f.text.number.«module» f.m f.here x same f.names sees heads f.text.name.name
                row.class
                f.says.class number e
                ∙ f.of_class

            declared_so : (o : Option ClosedType) (says : Option PlainDeclaration) → head_closed f.text.of ≡ o
                → slice_get x.tree.declarations number ≡ says → class_fits (joined x.tree.name) o says ≡ true
                → IsShippedClass program (module_name program row.instance.«module») t at
            declared_so (Some c) (Some (class pos name p methods)) closes there e =
                let both = and_parts (is_its_parameter p) (list_all (method_fits (joined x.tree.name) c) methods) e in
                record {
                  entry = x;
                  m = f.m;
                  same = same;
                  named = home_is;
                  place = f.text.number.«module»;
                  here = f.here;
                  number = number;
                  numbered = its_class;
                  pos = pos;
                  name = name;
                  p = p;
                  methods = methods;
                  there = ap (standing_at program) (sym its_class)
                      ∙ stands_promised program its f.m (class pos name p methods) f.here
                      (ap (λ (y : ModuleParts). slice_get (declarations_in y.interface) number) same ∙ there);
                  over = parameter_is p both.0;
                  fit = ap (λ (y : ModuleParts). list_all (method_fits y.name t) methods) same
                      ∙ ap (λ u. list_all (method_fits (joined x.tree.name) u) methods) (sym (type_is c closes)) ∙
                      both.1;
                  option = more.1;
                }
            declared_so o says closes there e = absurd cc

  -- A row whose module has a shipped call is of a shipped class.
  pub shipped_class : (declared : Bytes) (of : Option IntKind) (call : ShippedCall)
      → prim_of (module_name program row.instance.«module») declared of ≡ Some call → IsShippedClass program
      (module_name program row.instance.«module») t at
  shipped_class declared of call e = by (module_is program checked.gathered f.m f.text.number.«module» f.here)
    where
      in_home : IsOfShipped f.m.name
      in_home = home_shipped f.m.name declared of call (ap (λ n. prim_of n declared of) (sym home_is) ∙ e)

      on : (x : Entry) → Among x shipped → f.m ≡ shipped_module x
          → IsPromised program f.m f.text ⊎ IsDefined f.m f.text → IsShippedClass program
          (module_name program row.instance.«module») t at
      on x among same (inl promised) = class_is x among same promised
      on x among same (inr defined) =
          absurd (none-some (instance_body defined.at f.text.generics f.text.name f.text.of defined.written)
          (sym (ap (λ (y : ModuleParts). slice_get (declarations_in y.body) defined.index) same) ∙ defined.stands))

      by : ((x : Entry) × Among x shipped × (f.m ≡ shipped_module x))
          ⊎ ((x : Entry) × Among x (own program noted checked) × (is_interface x.tree.part ≡ false)
          × (f.m ≡ module_of (shipped ++ own program noted checked) x)) → IsShippedClass program
          (module_name program row.instance.«module») t at
      by (inl (x, among, same)) = on x among same f.stands
      by (inr (x, among, isnt, same)) =
          absurd (own_named program noted checked x among
          (subst IsOfShipped (ap (λ (y : ModuleParts). y.name) same) in_home))
