-- The types of an entry: `ExitCode` is a union of two cases without fields, and `RootCapability` has its home in
-- `Austral.Pervasive`.
use Rattle.std.proofs.Common.{◌≡◌, ◌⊎◌, inl, inr, ℕ, zero, suc, Bool, true, false, true≢false, not, ◌&&◌, ◌||◌, List, [], ◌∷◌, ◌++◌}
use Rattle.std.proofs.Common.{Option, None, Some, refl, sym, ap, ◌∙◌}
use Rattle.std.specs.Prelude.{codes, if◌then◌else◌, slice_get, option_and_then}
use Rattle.std.specs.List.{list_all, list_any}
use Rattle.std.specs.Option.{option_map}
use Rattle.std.specs.Str.{bytes_eq}
use Rattle.std.proofs.lemmas.Bool.{and_parts}
use Rattle.std.proofs.lemmas.Option.{none-some, same_Some}
use Rattle.std.proofs.lemmas.Slice.Eq.{bytes_eq-Decides}
use Rattle.au_base.specs.declared.places.Pos.{Pos}
use Rattle.au_syntax.specs.declared.declarations.Universe.TheVariants.{Free}
use Rattle.au_syntax.specs.declared.modules.Part.TheVariants.{Interface, Body}
use Rattle.au_syntax.specs.Modules.{Variant, union_type}
use Rattle.au_syntax.specs.Names.{Placed}
use Rattle.au_syntax.specs.Plain.{Bytes, PlainDeclaration}
use Rattle.au_syntax.specs.Sizes.{joined}
use Rattle.au_syntax.specs.Types.{Labelled}
use Rattle.au_types.specs.declared.headings.Head.{Head}
use Rattle.au_types.specs.declared.types.DeclAt.{DeclAt}
use Rattle.au_types.specs.Rows.{head_of}
use Rattle.au_types.specs.Types.{Meaning, named, no_arguments}
use Rattle.au_matching.specs.Forming.{fit_row, fits, is_formed}
use Rattle.au_matching.specs.Universes.{is_free, judged, of_row, universe_of}
use Rattle.au_type_texts.specs.Types as closed
use Rattle.au_modules.specs.Programs.{Entry, ModuleParts, is_interface, module_of, shipped_module}
use Rattle.au_names.specs.DeclaredTypes.{DeclaredType, a_type, type_declared}
use Rattle.au_names.specs.HeadsOf.{head_for, heads_of}
use Rattle.au_names.specs.Owned.{declarations_in}
use Rattle.au_names.specs.Standing.{Standing, body_at, defined_by, definition_for, definition_of, opaque_name, standing_at}
use Rattle.au_names.proofs.AmongLemmas.{Among}
use Rattle.au_promises.specs.Mentions.{type_parameters}
use Rattle.au_judged_bodies.specs.Insides.{fields_under}
use Rattle.au_judged_bodies.specs.Trees.{NotedParts}
use Rattle.au_judged_bodies.specs.Entries as entries
use Rattle.au_owners.specs.Owners.{module_name, owner_by, owner_declared, owner_of}
use Rattle.au_judged_bodies.specs.Tables.{cases_written, defined_fields, field_types, fields_in, is_well_formed, types_of}
use Rattle.au_closing_laws.proofs.DefinitionLemmas.{IsThere, stands_in}
use Rattle.au_closing_laws.proofs.GatheredLemmas.{all_among, among_get, module_is}
use Rattle.au_judged_programs.proofs.RowLemmas.{IsHead, head_stands}
use Rattle.au_judged_programs.specs.CheckedChecked.{IsChecked}
use Rattle.au_judged_programs.proofs.BirthLemmas.{before_colon, has_name, is_plain, of_shipped, own, own_named}
use Rattle.au_judged_programs.proofs.BirthLemmas.{shipped}
use Rattle.au_safe_steps.specs.Beginning.{IsExitOf}
use Rattle.au_sound_calls.specs.Sound.{IsHomeOf}

-- ---- texts of rows

called : (text : Bytes) (o : Option Head) → entries.has_text text o ≡ true
    → (head : Head) × (o ≡ Some head) × (bytes_eq head.text text ≡ true)
called text None e = absurd (true≢false (sym e))
called text (Some head) e = (head, refl, e)

pub type_named : (heads : List (DeclAt × Head)) (text : Bytes) (o : Option Meaning)
    → entries.is_type heads text o ≡ true
    → (at : DeclAt) × (head : Head) × (o ≡ Some (named at no_arguments)) × (head_of heads at ≡ Some head)
    × (bytes_eq head.text text ≡ true)
type_named heads text (Some (named at no_arguments)) e =
    let its = called text (head_of heads at) e in (at, its.0, refl, its.1, its.2)
type_named heads text other e = absurd cc

-- ---- the shape of `ExitCode`

abbrev bare : List (Labelled Bytes) → Bool
bare [] = true
bare (f ∷ fields) = false

bare_is : (fields : List (Labelled Bytes)) → bare fields ≡ true → fields ≡ []
bare_is [] e = refl
bare_is (f ∷ fields) e = absurd (true≢false (sym e))

abbrev is_exit_shape : PlainDeclaration → Bool
is_exit_shape (union_type at n [] Free (a ∷ b ∷ [])) = bare a.fields && bare b.fields
is_exit_shape other = false

record IsExitUnion (says : PlainDeclaration) : Type 0 where
  at : Pos
  n : Placed Bytes
  a : Variant Bytes
  b : Variant Bytes
  is : says ≡ union_type at n [] Free (a ∷ b ∷ [])
  first : a.fields ≡ []
  second : b.fields ≡ []

shape_is : (says : PlainDeclaration) → is_exit_shape says ≡ true → IsExitUnion says
shape_is (union_type at n [] Free (a ∷ b ∷ [])) e =
    let its = and_parts (bare a.fields) (bare b.fields) e in record {
      at = at;
      n = n;
      a = a;
      b = b;
      is = refl;
      first = bare_is a.fields its.0;
      second = bare_is b.fields its.1;
    }
shape_is other e = absurd cc

abbrev exit_text : Bytes
exit_text = codes "Austral.Pervasive:ExitCode"

abbrev is_fine_exit : Bytes → PlainDeclaration → Option DeclaredType → Bool
is_fine_exit owner says None = true
is_fine_exit owner says (Some one) = not (bytes_eq (owner ++ 58 ∷ one.name) exit_text) || is_exit_shape says

abbrev are_fine : Entry → Bool
are_fine e = list_all (λ says. is_fine_exit (joined e.tree.name) says (type_declared says)) e.tree.declarations

all_fine : list_all are_fine shipped ≡ true
all_fine = refl

pub fine_is : (b good : Bool) → b ≡ true → not b || good ≡ true → good ≡ true
fine_is true good is e = e
fine_is false good is e = absurd (true≢false (sym is))

module _ (program : List ModuleParts) (noted : List NotedParts) (checked : IsChecked program noted) where
  -- ---- the declaration of a shipped type

  pub record IsShippedType (at : DeclAt) (head : Head) (owner : Bytes) : Type 0 where
    pub d : Standing
    pub m : ModuleParts
    pub found : standing_at program at ≡ Some d
    pub placed : d.place ≡ at.«module»
    pub here : slice_get program at.«module» ≡ Some m
    pub name : m.name ≡ owner
    pub one : DeclaredType
    pub declared : type_declared d.says ≡ Some one
    pub is : head ≡ head_for m.name one
    pub entry : Entry
    pub among : Among entry shipped
    pub same : m ≡ shipped_module entry
    pub listed : Among d.says entry.tree.declarations

  in_shipped : (at : DeclAt) (head : Head) (owner name : Bytes) (d : Standing) (m : ModuleParts)
      → list_all is_plain owner ≡ true → list_all is_plain name ≡ true → standing_at program at ≡ Some d
      → slice_get program at.«module» ≡ Some m → (e : Entry) → Among e shipped → m ≡ shipped_module e
      → (one : DeclaredType) → type_declared d.says ≡ Some one → head ≡ head_for m.name one
      → head.text ≡ owner ++ 58 ∷ name → IsShippedType at head owner
  in_shipped at head owner name d m plain_owner plain_name found here e among same one declared is text = record {
    d = d;
    m = m;
    found = found;
    placed = its.0;
    here = here;
    name = before_colon m.name one.name owner name plain_owner plain_name (ap (λ (h : Head). h.text) (sym is) ∙ text);
    one = one;
    declared = declared;
    is = is;
    entry = e;
    among = among;
    same = same;
    listed = its.1;
  }
    where
      in_part : (n : ModuleParts) × (slice_get program at.«module» ≡ Some n)
          × (IsThere at.«module» Interface (declarations_in n.interface) d
          ⊎ IsThere at.«module» Body (declarations_in n.body) d)
          → (d.place ≡ at.«module») × Among d.says e.tree.declarations
      in_part (n, at_place, inl there) = (
        there.0,
        among_get e.tree.declarations d.index d.says
            (sym (ap (λ (x : ModuleParts). slice_get (declarations_in x.interface) d.index)
            (same_Some n m (sym at_place ∙ here) ∙ same)) ∙ there.2),
      )
      in_part (n, at_place, inr there) =
          absurd (none-some d.says (sym (ap (λ (x : ModuleParts). slice_get (declarations_in x.body) d.index)
          (same_Some n m (sym at_place ∙ here) ∙ same)) ∙ there.2))

      its : (d.place ≡ at.«module») × Among d.says e.tree.declarations
      its = in_part (stands_in program at d found)

  pub shipped_type : (at : DeclAt) (head : Head) (owner name : Bytes) → list_all is_plain owner ≡ true
      → list_all is_plain name ≡ true → list_any (has_name owner) shipped ≡ true
      → head_of (heads_of program) at ≡ Some head → head.text ≡ owner ++ 58 ∷ name → IsShippedType at head owner
  shipped_type at head owner name plain_owner plain_name known e text = by (head_stands program at head e)
    where
      on : (d : Standing) (m : ModuleParts) → standing_at program at ≡ Some d → slice_get program at.«module» ≡ Some m
          → (one : DeclaredType) → type_declared d.says ≡ Some one → head ≡ head_for m.name one
          → ((x : Entry) × Among x shipped × (m ≡ shipped_module x))
          ⊎ ((x : Entry) × Among x (own program noted checked) × (is_interface x.tree.part ≡ false)
          × (m ≡ module_of (shipped ++ own program noted checked) x)) → IsShippedType at head owner
      on d m found here one declared is (inl (x, among, same)) =
          in_shipped at head owner name d m plain_owner plain_name found here x among same one declared is text
      on d m found here one declared is (inr (x, among, isnt, same)) =
          absurd (own_named program noted checked x among (of_shipped (joined x.tree.name) one.name owner name
          plain_owner plain_name known
          (ap (λ (y : ModuleParts). y.name ++ 58 ∷ one.name) (sym same) ∙ ap (λ (h : Head). h.text) (sym is) ∙ text)))

      by : (d : Standing) × (m : ModuleParts) × (standing_at program at ≡ Some d)
          × (slice_get program at.«module» ≡ Some m) × IsHead m.name d.says head → IsShippedType at head owner
      by (d, m, found, here, (one, declared, is)) =
          on d m found here one declared is (module_is program checked.gathered m at.«module» here)

  -- ---- the root

  pub root_home : (at : DeclAt) (head : Head) → head_of (heads_of program) at ≡ Some head
      → bytes_eq head.text (codes "Austral.Pervasive:RootCapability") ≡ true
      → IsHomeOf (owner_of program) (closed.named at closed.no_types) (codes "Austral.Pervasive")
  root_home at head e text home is =
      by (opaque_name s.d.says) (sym (ap (owner_declared program) s.found) ∙ is)
    where
      s : IsShippedType at head (codes "Austral.Pervasive")
      s = shipped_type at head (codes "Austral.Pervasive") (codes "RootCapability") refl refl refl e
          ((bytes_eq-Decides head.text (codes "Austral.Pervasive:RootCapability")).0 text)

      by : (o : Option Bytes) → owner_by program s.d o ≡ Some home → codes "Austral.Pervasive" ≡ home
      by None e = absurd (none-some home e)
      by (Some its) e =
          sym s.name
          ∙ same_Some s.m.name home (sym (ap (λ n. module_name program n) s.placed
          ∙ ap (option_map (λ (x : ModuleParts). x.name)) s.here) ∙ e)

  -- ---- exits

  module _ (at : DeclAt) (head : Head) (e : head_of (heads_of program) at ≡ Some head)
      (text : bytes_eq head.text exit_text ≡ true) where
    s : IsShippedType at head (codes "Austral.Pervasive")
    s = shipped_type at head (codes "Austral.Pervasive") (codes "ExitCode") refl refl refl e
        ((bytes_eq-Decides head.text exit_text).0 text)

    union : IsExitUnion s.d.says
    union =
        shape_is s.d.says
        (fine_is (bytes_eq (joined s.entry.tree.name ++ 58 ∷ s.one.name) exit_text) (is_exit_shape s.d.says)
        (sym (ap (λ (x : ModuleParts). bytes_eq (x.name ++ 58 ∷ s.one.name) exit_text) s.same)
        ∙ sym (ap (λ (h : Head). bytes_eq h.text exit_text) s.is) ∙ text)
        (sym (ap (is_fine_exit (joined s.entry.tree.name) s.d.says) s.declared)
        ∙ all_among (λ says. is_fine_exit (joined s.entry.tree.name) says (type_declared says)) s.d.says
        s.entry.tree.declarations (all_among are_fine s.entry shipped all_fine s.among) s.listed))

    row : head_of (heads_of program) at ≡ Some (head_for s.m.name (a_type false union.n.name [] Free))
    row =
        e
        ∙ ap (λ (h : Head). Some h) s.is
        ∙ ap (λ (x : DeclaredType). Some (head_for s.m.name x))
        (same_Some s.one (a_type false union.n.name [] Free) (sym s.declared ∙ ap type_declared union.is))

    defined : definition_of program at ≡ Some s.d
    defined =
        ap (definition_for program) s.found
        ∙ ap (defined_by (body_at s.d.place (slice_get program s.d.place)) s.d) (ap opaque_name union.is)

    formed : is_well_formed program (named at no_arguments) ≡ true
    unfolding is_formed
    formed = ap (λ o. fit_row (fits (heads_of program) []) o no_arguments && true) row

    free : is_free (universe_of (heads_of program) [] (named at no_arguments)) ≡ true
    unfolding universe_of
    free = ap (λ o. is_free (of_row o (judged []))) row

    abbrev cases : PlainDeclaration → ℕ → Option (List Meaning)
    cases says tag =
        option_and_then (λ (fields : List (Labelled Bytes)).
        option_map field_types (fields_under program s.d (type_parameters s.d.says) no_arguments fields))
        (slice_get (cases_written says) tag)

    fields_are : (tag : ℕ) → fields_in program (named at no_arguments) tag
        ≡ cases (union_type union.at union.n [] Free (union.a ∷ union.b ∷ [])) tag
    fields_are tag =
        ap (λ b. if b then defined_fields program no_arguments tag (definition_of program at) else None) formed
        ∙ ap (defined_fields program no_arguments tag) defined ∙ ap (λ says. cases says tag) union.is

    abbrev typed : List (Labelled Bytes) → Option (List Meaning)
    typed fields = option_map field_types (fields_under program s.d (type_parameters s.d.says) no_arguments fields)

    pub exit_is : IsExitOf (types_of program) (named at no_arguments)
    exit_is = record {
      free = free;
      success = fields_are 0 ∙ ap typed union.first;
      failure = fields_are 1 ∙ ap typed union.second;
      only = λ tag of has. by tag of (sym (fields_are tag) ∙ has);
    }
      where
        by : (tag : ℕ) (of : List Meaning)
            → cases (union_type union.at union.n [] Free (union.a ∷ union.b ∷ [])) tag ≡ Some of
            → (tag ≡ 0) ⊎ (tag ≡ 1)
        by zero of has = inl refl
        by (suc zero) of has = inr refl
        by (suc (suc k)) of has = absurd (none-some of has)
