-- The methods that are run by the row of an instance are those of an instance of its class, for its constructor.
use Rattle.std.proofs.Common.{◌≡◌, ◌⊎◌, inl, inr, ℕ, true, true≢false, List, [], find, Option, None, Some}
use Rattle.std.proofs.Common.{refl, sym, ap, ◌∙◌, subst}
use Rattle.std.specs.Prelude.{slice_get}
use Rattle.std.specs.Option.{option_and_then}
use Rattle.std.proofs.lemmas.Bool.{and_parts}
use Rattle.std.proofs.lemmas.Option.{none-some, same_Some}
use Rattle.au_syntax.specs.declared.modules.Part.{Part}
use Rattle.au_syntax.specs.declared.modules.Part.TheVariants.{Interface, Body}
use Rattle.au_syntax.specs.Modules.{Constrained, constant, opaque_type, record_type, union_type, function}
use Rattle.au_syntax.specs.Modules.{class, instance, constant_body, function_body, instance_body}
use Rattle.au_syntax.specs.Names.{Placed}
use Rattle.au_syntax.specs.Plain.{Bytes, PlainDeclaration}
use Rattle.au_syntax.specs.Types.{WrittenType}
use Rattle.au_types.specs.declared.headings.Head.{Head}
use Rattle.au_types.specs.declared.parameters.Parameter.{Parameter}
use Rattle.au_types.specs.declared.spaces.Space.TheVariants.{Types}
use Rattle.au_types.specs.declared.types.DeclAt.{DeclAt}
use Rattle.au_types.specs.Meant.{meant}
use Rattle.au_types.specs.Senses.{sense_of}
use Rattle.au_types.specs.Tables as tables
use Rattle.au_types.specs.Types.{Meaning}
use Rattle.au_type_texts.specs.Types.{ClosedType}
use Rattle.au_modules.specs.Programs.{Entry, ModuleParts}
use Rattle.au_names.specs.HeadsOf.{heads_of}
use Rattle.au_names.specs.Meanings.{declared_by}
use Rattle.au_names.specs.Owned.{declarations_in}
use Rattle.au_names.specs.Standing.{Standing, standing_at}
use Rattle.au_promises.specs.Agreeing.{Sight, same_class, same_declaration, scope_of, sight_of, visible}
use Rattle.au_promises.specs.Fulfilled.{AllFulfil, Each, OfGenerics, SameGeneric}
use Rattle.au_promises.specs.Promises.{defines, instance_defined}
use Rattle.au_promises.specs.Wording.{same_written}
use Rattle.au_promises.proofs.DecidingLemmas.{keeps_decides}
use Rattle.au_promises.proofs.FulfilledLemmas.{kept_passes}
use Rattle.au_judged_types.specs.Agreement.{found}
use Rattle.au_judged_types.specs.Bounds.{parameters}
use Rattle.au_judged_types.specs.Judging.{judged}
use Rattle.au_judged_types.specs.Meanings.{written_params}
use Rattle.au_judged_types.specs.Reasons.{Outcome, fails, means}
use Rattle.au_judged_types.proofs.AgreementLemmas.{judged_is_meant}
use Rattle.au_judged_types.proofs.MeaningLemmas.{params_written}
use Rattle.au_formed.specs.Good.{IsWellMade}
use Rattle.au_rules.specs.Good.{AllDeclarationsAreGood}
use Rattle.au_instances.specs.declared.constructors.Constructor.{Constructor}
use Rattle.au_instances.specs.ClosedInstances.{closed_row, parts_in}
use Rattle.au_instances.specs.Constructors.{closed_constructor, constructor_of}
use Rattle.au_instances.specs.Rows.{Row}
use Rattle.au_instances.specs.Tables.{row_with}
use Rattle.au_instances.proofs.ClosedLemmas.{closed_row_is, if_gives_gave}
use Rattle.au_instances.proofs.TableLemmas.{row_gave}
use Rattle.au_classes.specs.Classes.{visible_in}
use Rattle.au_classes.specs.Rows.{rows_of}
use Rattle.au_classes.proofs.ListLemmas.{found_passes}
use Rattle.au_typing.specs.Trees.{NotedDeclaration, NotedParts, erase_declaration, erase_program}
use Rattle.au_typing.specs.Written.{seen_in, types_at}
use Rattle.au_closing.specs.Bodies.{body_in, body_standing}
use Rattle.au_closing_laws.proofs.DefinitionLemmas.{listed_at}
use Rattle.au_closing_laws.proofs.GenericsLemmas.{made_there}
use Rattle.au_closing_laws.proofs.SameLemmas.{class_found, declared_class, same_params}
use Rattle.au_closing_laws.proofs.ShippedMethodLemmas.{stands_defined, stands_promised}
use Rattle.au_closing_laws.proofs.TextLemmas.{IsDefined, IsPromised}
use Rattle.au_judged_programs.proofs.ShippedMethodFoundLemmas.{IsFound}
use Rattle.au_caps_lists.specs.Bodies.{Bodied, Home, sense_in}
use Rattle.au_caps.specs.Making.{class_named, class_of, constructor_for, constructor_written}
use Rattle.au_caps_laws.proofs.DefinedLemmas.{IsDefinedBy, defined_by, placed_there}
use Rattle.au_caps_laws.proofs.HomeLemmas.{HomeIs, MeansSome, constructor_meant, header_named, home_there, home_written}
use Rattle.au_caps_laws.proofs.HomeLemmas.{means_some, same_declared, written_constructor}
use Rattle.au_caps_laws.proofs.RunForLemmas.{IsRunAt}

found_means : (o : Outcome Meaning) (t : Meaning) → found o ≡ Some t → o ≡ means t
found_means (means u) t e = ap means (same_Some u t e)
found_means (fails why) t e = absurd (none-some t e)

-- what defines a promised instance is an instance of its class and type
record IsInstance (sight : Sight) (scope : List Parameter) (name : Placed Bytes) (t : WrittenType)
    (e : PlainDeclaration)
    : Type 0 where
  pub gs : List (Constrained Bytes)
  pub n : Placed Bytes
  pub u : WrittenType
  pub home : home_written e ≡ Some (gs, (n, u))
  pub one_class : same_class sight name n ≡ true
  pub one_type : same_written sight scope (scope_of gs) t u ≡ true
  pub generics : (others : List (Constrained Bytes)) → OfGenerics sight others e → Each (SameGeneric sight) others gs

is_instance : (sight : Sight) (scope : List Parameter) (name : Placed Bytes) (t : WrittenType) (e : PlainDeclaration)
    → instance_defined sight scope name t e ≡ true → IsInstance sight scope name t e
is_instance sight scope name t (instance_body at gs n u ms) e =
    let both = and_parts (same_class sight name n) (same_written sight scope (scope_of gs) t u) e in
    record {
      gs = gs;
      n = n;
      u = u;
      home = refl;
      one_class = both.0;
      one_type = both.1;
      generics = λ others agrees. agrees;
    }
is_instance sight scope name t (constant at n u) e = absurd (true≢false (sym e))
is_instance sight scope name t (opaque_type at n ps u) e = absurd (true≢false (sym e))
is_instance sight scope name t (record_type at n ps u fields) e = absurd (true≢false (sym e))
is_instance sight scope name t (union_type at n ps u cases) e = absurd (true≢false (sym e))
is_instance sight scope name t (function at gs h) e = absurd (true≢false (sym e))
is_instance sight scope name t (class at n p hs) e = absurd (true≢false (sym e))
is_instance sight scope name t (instance at gs n u) e = absurd (true≢false (sym e))
is_instance sight scope name t (constant_body at n u v) e = absurd (true≢false (sym e))
is_instance sight scope name t (function_body at gs h block stop) e = absurd (true≢false (sym e))

-- the name of a class that is found means a declaration
class_there : (heads : List (DeclAt × Head)) (o : Option DeclAt) (at : DeclAt) → declared_class heads o ≡ Some at
    → (y : DeclAt) × (o ≡ Some y)
class_there heads None at e = absurd (none-some at e)
class_there heads (Some y) at e = (y, refl)

module _ (program : List ModuleParts) (place : ℕ) (m : ModuleParts) (here : slice_get program place ≡ Some m) where
  types_seen : (part : Part) → types_at program place part ≡ visible program place m part
  types_seen part = ap (λ o. declared_by (seen_in Types program place part o)) here

  names_seen : (part : Part) (names : List (Bytes × DeclAt))
      → visible_in program place part (slice_get program place) ≡ Some names → names ≡ visible program place m part
  names_seen part names e =
      same_Some names (visible program place m part) (sym e ∙ ap (visible_in program place part) here)

module _ (program : List ModuleParts) (noted : List NotedParts) (erased : erase_program noted ≡ program)
    (good : AllDeclarationsAreGood program) (promises : AllFulfil program) (at : DeclAt) (t : ClosedType) (row : Row)
    (f : IsFound program at t row) (name : Bytes) (b : Bodied)
    (run : IsRunAt program noted (record { at = row.instance; name = name }) b) where
  abbrev heads : List (DeclAt × Head)
  heads = heads_of program

  abbrev place : ℕ
  place = f.text.number.«module»

  abbrev d : Standing
  d = run.declared

  abbrev x : NotedDeclaration
  x = run.noted_as

  its : IsDefinedBy program noted erased d x
  its = defined_by program noted erased (record { at = row.instance; name = name }) d run.found x run.defines

  placed_so : d.place ≡ place
  placed_so =
      placed_there program noted erased (record { at = row.instance; name = name }) d run.found
      ∙ ap (λ (y : DeclAt). y.«module») f.says.number

  one_module : its.m ≡ f.m
  one_module = same_Some its.m f.m (sym its.here ∙ ap (slice_get program) placed_so ∙ f.here)

  -- what the definition of the instance says of its class and its type
  record Says : Type 0 where
    pub gs : List (Constrained Bytes)
    pub n : Placed Bytes
    pub u : WrittenType
    pub home : home_written (erase_declaration x) ≡ Some (gs, (n, u))
    pub class : declared_class heads (tables.find n.name (visible program place f.m Body)) ≡ Some row.class
    pub constructor : (one : Constructor) → constructor_of row.head ≡ Some one → (m : Meaning)
        → meant [] (written_params gs) (visible program place f.m Body) heads u ≡ Some m
        → constructor_written (sense_of [] (written_params gs) (visible program place f.m Body) heads) u ≡ Some one

  -- the class and the type that the row has, as they are written
  class_so : (part : Part) → f.text.part ≡ part
      → declared_class heads (tables.find f.text.name.name (visible program place f.m part)) ≡ Some row.class
  class_so part is =
      subst (λ (names : List (Bytes × DeclAt)). declared_class heads (tables.find f.text.name.name names) ≡ Some
      row.class)
      (names_seen program place f.m f.here f.text.part f.names f.sees ∙ ap (visible program place f.m) is)
      (class_found heads [] f.names f.text.name.name row.class f.says.class)

  type_so : (part : Part) → f.text.part ≡ part
      → meant [] (written_params f.text.generics) (visible program place f.m part) heads f.text.of ≡ Some row.head
  type_so part is =
      subst (λ (names : List (Bytes × DeclAt)). meant [] (written_params f.text.generics) names heads f.text.of
      ≡ Some row.head)
      (names_seen program place f.m f.here f.text.part f.names f.sees ∙ ap (visible program place f.m) is)
      (subst (λ (ps : List Parameter). meant [] ps f.names heads f.text.of ≡ Some row.head)
      (params_written f.names heads f.text.generics row.generics f.says.generics)
      (judged_is_meant heads (parameters row.generics) [] f.names f.text.of row.head
      (found_means (judged [] (parameters row.generics) f.names heads f.text.of) row.head f.says.head)).0)

  -- ---- an instance of the body

  of_defined : IsDefined f.m f.text → Says
  of_defined i = record {
    gs = f.text.generics;
    n = f.text.name;
    u = f.text.of;
    home = ap home_written (defined_says its.is);
    class = class_so Body i.part;
    constructor = λ one is m means. constructor_meant (written_params f.text.generics) (visible program place f.m Body)
        heads f.text.of row.head (type_so Body i.part) one is;
  }
    where
      said : PlainDeclaration
      said = instance_body i.at f.text.generics f.text.name f.text.of i.written

      there : Standing
      there = record { place = place; part = Body; index = i.index; says = said }

      same : d ≡ there
      same =
          same_Some d there
          (sym run.found ∙ ap (standing_at program) f.says.number
          ∙ stands_defined program f.text.number f.m i.index said f.here i.numbered i.stands)

      defined_says : ((d.part ≡ Body) × (d.says ≡ erase_declaration x))
          ⊎ ((d.part ≡ Interface)
          × (find (defines (sight_of program d.place its.m) d.says) (declarations_in its.m.body)
          ≡ Some (erase_declaration x)))
          → erase_declaration x ≡ said
      defined_says (inl (part, is)) = sym is ∙ ap (λ (y : Standing). y.says) same
      defined_says (inr (part, is)) =
          let both : Interface ≡ Body = sym part ∙ ap (λ (y : Standing). y.part) same in absurd cc

  -- ---- one that is promised

  of_promised : IsPromised program f.m f.text → Says
  of_promised i = by its.is
    where
      said : PlainDeclaration
      said = instance i.at f.text.generics f.text.name f.text.of

      there : Standing
      there = record { place = place; part = Interface; index = f.text.number.decl; says = said }

      same : d ≡ there
      same =
          same_Some d there
          (sym run.found ∙ ap (standing_at program) f.says.number
          ∙ stands_promised program f.text.number f.m said f.here i.stands)

      sight : Sight
      sight = sight_of program place f.m

      is_kept : find (defines sight said) (declarations_in f.m.body) ≡ Some (erase_declaration x)
          → OfGenerics sight f.text.generics (erase_declaration x)
      is_kept first = of_parts f.m.interface refl f.m.body refl
        where
          of_parts : (interface : Option Entry) → f.m.interface ≡ interface → (body : Option Entry) → f.m.body ≡ body
              → OfGenerics sight f.text.generics (erase_declaration x)
          of_parts None none body of_body =
              absurd (none-some said (sym (ap (λ o. slice_get (declarations_in o) f.text.number.decl) none) ∙ i.stands))
          of_parts (Some interface) of_interface None none =
              absurd (none-some (erase_declaration x)
              (sym (ap (λ o. find (defines sight said) (declarations_in o)) none) ∙ first))
          of_parts (Some interface) of_interface (Some entry) of_body =
              let kept = promises place f.m interface entry f.here of_interface of_body said f.text.name.name
              (listed_at interface.tree.declarations f.text.number.decl said
              (sym (ap (λ o. slice_get (declarations_in o) f.text.number.decl) of_interface) ∙ i.stands)) refl in
              let passes = kept_passes sight said entry.tree.declarations kept in
              let one = same_Some passes.0 (erase_declaration x)
              (sym passes.1 ∙ sym (ap (λ o. find (defines sight said) (declarations_in o)) of_body) ∙ first) in
              subst (OfGenerics sight f.text.generics) one ((keeps_decides sight said passes.0).0 passes.2)

      says : find (defines sight said) (declarations_in f.m.body) ≡ Some (erase_declaration x) → Says
      says first = record {
        gs = one.gs;
        n = one.n;
        u = one.u;
        home = one.home;
        class = ap (declared_class heads)
            (same_declared f.text.name.name one.n.name there_class.0 (tables.find one.n.name sight.body)
            (sym (ap (λ o. same_declaration f.text.name.name one.n.name o (tables.find one.n.name sight.body))
            there_class.1) ∙ one.one_class)
            ∙ sym there_class.1)
            ∙ promised_class;
        constructor = λ c is m type_means.
            subst (λ (ps : List Parameter). constructor_written (sense_of [] ps sight.body heads) one.u ≡ Some c) params
            (written_constructor sight (written_params f.text.generics) f.text.of one.u m row.head c
            (subst (λ (ps : List Parameter). same_written sight (written_params f.text.generics) ps f.text.of one.u
            ≡ true)
            (sym params) one.one_type)
            (type_so Interface i.part) is
            (subst (λ (ps : List Parameter). meant [] ps sight.body heads one.u ≡ Some m) (sym params) type_means));
      }
        where
          one : IsInstance sight (scope_of f.text.generics) f.text.name f.text.of (erase_declaration x)
          one =
              is_instance sight (scope_of f.text.generics) f.text.name f.text.of (erase_declaration x)
              (found_passes (defines sight said) (declarations_in f.m.body) (erase_declaration x) first).1

          params : written_params f.text.generics ≡ written_params one.gs
          params = same_params sight f.text.generics one.gs (one.generics f.text.generics (is_kept first))

          promised_class : declared_class heads (tables.find f.text.name.name sight.interface) ≡ Some row.class
          promised_class = class_so Interface i.part

          there_class : (y : DeclAt) × (tables.find f.text.name.name sight.interface ≡ Some y)
          there_class = class_there heads (tables.find f.text.name.name sight.interface) row.class promised_class

      by : ((d.part ≡ Body) × (d.says ≡ erase_declaration x))
          ⊎ ((d.part ≡ Interface)
          × (find (defines (sight_of program d.place its.m) d.says) (declarations_in its.m.body)
          ≡ Some (erase_declaration x))) → Says
      by (inl (part, is)) =
          let both : Body ≡ Interface = sym part ∙ ap (λ (y : Standing). y.part) same in absurd cc
      by (inr (part, first)) =
          says (sym (λ j. find (defines (sight_of program (placed_so j) (one_module j)) (same j).says)
          (declarations_in (one_module j).body)) ∙ first)

  -- ---- both

  says_all : Says
  says_all = by f.stands
    where
      by : IsPromised program f.m f.text ⊎ IsDefined f.m f.text → Says
      by (inl i) = of_promised i
      by (inr i) = of_defined i

  home_is : HomeIs d.place says_all.gs says_all.n says_all.u b
  home_is = home_there d.place x b run.among says_all.gs says_all.n says_all.u says_all.home

  some_meant : MeansSome (visible program place f.m Body) heads says_all.gs says_all.n says_all.u
  some_meant =
      means_some (visible program place f.m Body) heads says_all.gs says_all.n says_all.u (erase_declaration x)
      says_all.home
      (subst (λ (names : List (Bytes × DeclAt)). IsWellMade names heads (erase_declaration x))
      (ap (λ n. types_at program n Body) placed_so ∙ types_seen program place f.m f.here Body)
      (made_there program good d.place its.m its.index (erase_declaration x) its.here its.there))

  -- what names mean there
  sense_so : sense_in program b ≡ sense_of [] (written_params says_all.gs) (visible program place f.m Body) heads
  sense_so =
      ap (λ gs. sense_of [] (written_params gs) (types_at program b.place Body) heads) home_is.generics
      ∙ ap (λ names. sense_of [] (written_params says_all.gs) names heads)
      (ap (λ n. types_at program n Body) (home_is.place_is ∙ placed_so) ∙ types_seen program place f.m f.here Body)

  class_is : some_meant.its_class ≡ at
  class_is =
      same_Some some_meant.its_class at
      (sym (class_found heads (written_params says_all.gs) (visible program place f.m Body) says_all.n.name
      some_meant.its_class some_meant.class_means)
      ∙ says_all.class ∙ ap (λ (y : DeclAt). Some y) f.of_class)

  pub run_class : class_of program b ≡ Some at
  run_class =
      ap (option_and_then (λ (home : Home). class_named (sense_in program b) home.class)) home_is.home
      ∙ ap (λ sense. class_named sense says_all.n.name) sense_so
      ∙ some_meant.class_means ∙ ap (λ (y : DeclAt). Some y) class_is

  pub run_named : b.header.name.name ≡ name
  run_named =
      header_named d.place name x b
      (sym (ap (body_standing program noted name) run.found
      ∙ ap (option_and_then (body_in d.place name)) run.defines) ∙ run.run.runs)
      says_all.gs says_all.n says_all.u says_all.home

  pub run_constructor : (one : Constructor) → constructor_of row.head ≡ Some one → constructor_for program b ≡ Some one
  run_constructor one is =
      ap (option_and_then (λ (home : Home). constructor_written (sense_in program b) home.of)) home_is.home
      ∙ ap (λ sense. constructor_written sense says_all.u) sense_so
      ∙ says_all.constructor one is some_meant.its_type some_meant.type_means

-- the head of the row that is found at a closed type has the constructor of the type
pub row_constructor : (program : List ModuleParts) (at : DeclAt) (t : ClosedType) (row : Row)
    → closed_row (rows_of program) (heads_of program) t at ≡ Some row → (one : Constructor)
    → closed_constructor t ≡ Some one → constructor_of row.head ≡ Some one
row_constructor program at t row e one is =
    (row_gave (rows_of program) at one row
    (sym (ap (row_with (rows_of program) at) is)
    ∙ (if_gives_gave (rows_of program) (heads_of program) t (parts_in (rows_of program) (heads_of program) t)
    (row_with (rows_of program) at (closed_constructor t)) row
    (sym (closed_row_is (rows_of program) (heads_of program) t at) ∙ e)).0)).2
