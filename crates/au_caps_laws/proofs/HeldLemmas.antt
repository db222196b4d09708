-- What names hold while an accepted program runs is listed.
use Rattle.std.proofs.Common.{◌≡◌, List, [], Some, Ok, refl, ap, subst}
use Rattle.std.specs.Option.{option_map}
use Rattle.std.proofs.lemmas.Option.{same_Some}
use Rattle.au_base.specs.declared.kinds.IntKind.{IntKind}
use Rattle.au_syntax.specs.declared.expressions.BorrowMode.{BorrowMode}
use Rattle.au_syntax.specs.declared.expressions.BorrowMode.TheVariants as mode
use Rattle.au_syntax.specs.declared.modules.Part.TheVariants.{Body}
use Rattle.au_syntax.specs.Plain.{Bytes}
use Rattle.au_syntax.specs.Types.{WrittenType}
use Rattle.au_types.specs.declared.parameters.Parameter.{Parameter}
use Rattle.au_types.specs.declared.types.Region.{Region}
use Rattle.au_types.specs.Meant.{meant}
use Rattle.au_types.specs.Types.{Meaning, integer, reads, writes}
use Rattle.au_matching.specs.Bindings.{Bindings}
use Rattle.au_judged_types.specs.Bounds.{Bounded, parameters}
use Rattle.au_type_texts.specs.Closing.{closed}
use Rattle.au_type_texts.specs.Given.{Given, closed_under}
use Rattle.au_type_texts.specs.Types as closed_types
use Rattle.au_running_types.specs.Running.{region_running, running}
use Rattle.au_modules.specs.Programs.{ModuleParts}
use Rattle.au_names.specs.HeadsOf.{heads_of}
use Rattle.au_names.proofs.AmongLemmas.{among}
use Rattle.au_typing.specs.Bodies.{outer_scope}
use Rattle.au_typing.specs.Lookups.{written_type}
use Rattle.au_typing.specs.Notes.{type_of}
use Rattle.au_typing.specs.Outsides.{outside_of}
use Rattle.au_typing.specs.Parts.{borrow_type, lent}
use Rattle.au_typing.specs.Scopes.{Outside, Scope}
use Rattle.au_typing.specs.Trees.{NotedParts}
use Rattle.au_typing.specs.Written.{types_at}
use Rattle.au_closing.specs.Bodies.{BodyOf}
use Rattle.au_owners.specs.Owners.{owner_of}
use Rattle.au_accepted.specs.Programs.{program_modules}
use Rattle.au_judged_bodies.specs.Covering.{Covers, MayHold}
use Rattle.au_judged_bodies.specs.Held.{IsPermitted}
use Rattle.au_judged_bodies.specs.Keys.{Key}
use Rattle.au_judged_bodies.specs.KnownTypes.Known.{IsKnown}
use Rattle.au_judged_bodies.proofs.NotedLemmas.{written_known}
use Rattle.au_judged_bodies.proofs.PieceLemmas.{behind_write}
use Rattle.au_judged_bodies.proofs.StandingTypesStandLemmas.{known_closes}
use Rattle.au_judged_programs.specs.CheckedChecked.{IsChecked}
use Rattle.au_judged_programs.specs.Judged.{AreCovered, anything}
use Rattle.au_judged_programs.specs.RoundProgramsBodies.{AreGoodHere}
use Rattle.au_judged_programs.specs.RunningBodiesBodies.{generics_of}
use Rattle.au_judged_programs.proofs.EntryLemmas.{entries_held}
use Rattle.au_judged_programs.proofs.FitLemmas.{accepted_checked}
use Rattle.au_judged_programs.proofs.FoundLemmas.{found_entry}
use Rattle.au_judged_programs.proofs.RunLemmas.{calls_held, runs_held}
use Rattle.au_judged_programs.proofs.RunningBodiesBodyLemmas.{meant_so, params_alike}
use Rattle.au_judged_programs.proofs.SoundEntriesCallLemmas.{any_calls}
use Rattle.au_closed_meanings.specs.Numbers.{first_name}
use Rattle.au_caps_lists.specs.Bodies.{Bodied}
use Rattle.au_caps_lists.specs.Holding.{Holds}
use Rattle.au_caps_laws.specs.Births.{IsRunFor, run_as}
use Rattle.au_caps_laws.specs.Held.{AcceptedCallsAreHeld, AcceptedEntriesAreListed, AcceptedRunsAreListed}
use Rattle.au_caps_laws.specs.Held.{EachCallIsListed, EntriesAreListed, IsListed, RunsAreListed, permits}
use Rattle.au_caps_laws.specs.Reach.{ClosedReaches, IsReachedOrGiven, declared_in, meant_among}
use Rattle.au_caps_laws.proofs.ReachLemmas.{parameters_held, variables_held}
use Rattle.au_caps_laws.proofs.RunForLemmas.{run_there}

module _ (program : List ModuleParts) (noted : List NotedParts) where
  -- ---- what is permitted is what is listed

  listed_for : (key : Key program noted) (t : Meaning) → IsPermitted (permits program noted) key t → IsListed program
      noted key t
  listed_for key t (one, way, type) =
      subst (IsListed program noted key) type (subst (λ k. IsListed program noted k one.type) way one.listed)

  permitted_for : (key : Key program noted) (t : Meaning) → IsListed program noted key t → IsPermitted
      (permits program noted) key t
  permitted_for key t its = (record { way = key; type = t; listed = its }, refl, refl)

  -- ---- integers and references

  module _ (key : Key program noted) where
    integer_listed : (b : Bodied) → IsRunFor program noted key.one.of b → (kind : IntKind)
        → IsListed program noted key (integer kind)
    unfolding declared_in
    integer_listed b runs kind = record {
      body = b;
      runs = runs;
      bounded = (closed_types.integer kind, refl, λ h (a, there, its). absurd (among [] a there));
    }

    reads_listed : (t : Meaning) (region : Region) → IsListed program noted key t
        → IsListed program noted key (reads t region)
    unfolding declared_in
    reads_listed t region its = record {
      body = its.body;
      runs = its.runs;
      bounded = (
        closed_types.reads its.bounded.0,
        ap (option_map closed_types.reads) its.bounded.1,
        λ h reaches. its.bounded.2 h reaches,
      );
    }

    writes_listed : (t : Meaning) (region : Region) → IsListed program noted key t
        → IsListed program noted key (writes t region)
    unfolding declared_in
    writes_listed t region its = record {
      body = its.body;
      runs = its.runs;
      bounded = (
        closed_types.writes its.bounded.0,
        ap (option_map closed_types.writes) its.bounded.1,
        λ h reaches. its.bounded.2 h reaches,
      );
    }

    -- whichever region a reference is into
    region_listed : (t : Meaning) (region other : Region) → IsListed program noted key (writes t region)
        → IsListed program noted key (writes t other)
    region_listed t region other its = record {
      body = its.body;
      runs = its.runs;
      bounded = its.bounded;
    }

    lent_listed : (m : BorrowMode) (region : Bytes) (t of : Meaning) → lent m t ≡ Some of → (s : Bindings)
        → IsListed program noted key (running s 0 t)
        → IsListed program noted key (running s 0 (borrow_type m region of))
    lent_listed mode.Read region t of e s its =
        reads_listed (running s 0 of) _
        (subst (λ u. IsListed program noted key (running s 0 u)) (same_Some t of e) its)
    lent_listed mode.Write region t of e s its =
        writes_listed (running s 0 of) _
        (subst (λ u. IsListed program noted key (running s 0 u)) (same_Some t of e) its)
    lent_listed mode.Reborrow region t of e s its =
        let (from, is) = behind_write t of e in
        region_listed (running s 0 of) (region_running s 0 from) _
        (subst (λ u. IsListed program noted key (running s 0 u)) is its)

  -- ---- a body

  module _ (key : Key program noted) (b : Bodied) (runs : IsRunFor program noted key.one.of b) where
    abbrev given : Given
    given = key.one.given

    abbrev outside : Outside
    outside = outside_of program b.place Body

    abbrev generics : List Bounded
    generics = generics_of program noted (run_as b) given

    -- in each scope of the body a written type closes to what it closes to under what is given
    closes_so : (sc : Scope) → sc.outside ≡ outside → sc.generics ≡ generics → (w : WrittenType) (t : Meaning)
        → written_type sc w ≡ Ok t → (s : Bindings) → AreGoodHere program noted b.place generics given s
        → closed (running s 0 t) ≡ Some (closed_under given t)
    closes_so sc same over w t is s good =
        known_closes (heads_of program) (parameters generics) sc.regions given s 0 t good.0
        (subst (λ (gs : List Bounded). IsKnown (heads_of program) (parameters gs) sc.regions t) over
        (subst (λ (o : Outside). IsKnown o.heads (parameters sc.generics) sc.regions t) same
        (written_known sc w t is).0))

    -- and means the same there
    means_so : (sc : Scope) → sc.outside ≡ outside → sc.generics ≡ generics → (w : WrittenType) (t : Meaning)
        → written_type sc w ≡ Ok t → meant_among program b given sc.regions w ≡ Some t
    means_so sc same over w t is =
        subst (λ (ps : List Parameter). meant sc.regions ps (types_at program b.place Body) (heads_of program) w
        ≡ Some t) (params_alike program b.place b.generics given)
        (subst (λ (gs : List Bounded). meant sc.regions (parameters gs) (types_at program b.place Body)
        (heads_of program) w ≡ Some t) over
        (subst (λ (o : Outside). meant sc.regions (parameters sc.generics) o.visible o.heads w ≡ Some t) same
        (meant_so sc w t is)))

    type_listed : (s : Bindings) (t : Meaning) → closed (running s 0 t) ≡ Some (closed_under given t)
        → ((h : Bytes) → ClosedReaches program (closed_under given t) h
        → IsReachedOrGiven program given (Holds program b) h)
        → IsListed program noted key (running s 0 t)
    type_listed s t closes held = record {
      body = b;
      runs = runs;
      bounded = (closed_under given t, closes, held);
    }

    body_covered : Covers (MayHold (permits program noted) key (AreGoodHere program noted b.place generics given))
        (IsPermitted (anything (Key program noted)) key) outside generics b.header.parameters b.block
    body_covered = record {
      integers = λ kind s good. permitted_for key (integer kind) (integer_listed key b runs kind);
      references = λ m region t of e held s good.
          permitted_for key (running s 0 (borrow_type m region of))
          (lent_listed key m region t of e s (listed_for key (running s 0 t) (held s good)));
      given = λ p there t is s good.
          permitted_for key (running s 0 t)
          (type_listed s t (closes_so (outer_scope outside generics) refl refl p.of t is s good)
          (parameters_held program b given p there t
          (means_so (outer_scope outside generics) refl refl p.of t is)));
      written = λ w there sc same over t is s good.
          permitted_for key (running s 0 t)
          (type_listed s t (closes_so sc same over w t is s good)
          (variables_held program b given w there sc.regions t (means_so sc same over w t is)));
      handed = λ e there. ((key, type_of e), refl, refl);
    }

  all_covered : AreCovered program noted (anything (Key program noted)) (permits program noted)
  all_covered key =
      let its = run_there program noted key.one.of key.body key.there in
      subst (λ (body : BodyOf). Covers
      (MayHold (permits program noted) key
      (AreGoodHere program noted body.place (generics_of program noted body key.one.given) key.one.given))
      (IsPermitted (anything (Key program noted)) key) (outside_of program body.place Body)
      (generics_of program noted body key.one.given) body.header.parameters body.block)
      its.2 (body_covered key its.0 its.1.run)

  -- ---- runs

  pub runs_listed : IsChecked program noted → RunsAreListed program noted
  runs_listed checked first key entry input ticks =
      runs_held program noted (owner_of program) (permits program noted) checked (any_calls program noted checked)
      all_covered first key entry input ticks

  pub each_call_listed : IsChecked program noted → EachCallIsListed program noted
  each_call_listed checked first =
      calls_held program noted (owner_of program) (permits program noted) checked (any_calls program noted checked)
      all_covered first

  pub entries_listed : IsChecked program noted → EntriesAreListed program noted
  entries_listed checked owner name target root found input ticks =
      entries_held program noted (permits program noted) checked all_covered target
      (found_entry program noted checked owner name target root found) (first_name program noted) input ticks

pub accepted_runs_listed : AcceptedRunsAreListed
accepted_runs_listed files names all read a =
    runs_listed (program_modules read) a.noted (accepted_checked files names all read a)

pub accepted_calls_held : AcceptedCallsAreHeld
accepted_calls_held files names all read a =
    each_call_listed (program_modules read) a.noted (accepted_checked files names all read a)

pub accepted_entries_listed : AcceptedEntriesAreListed
accepted_entries_listed files names all read a =
    entries_listed (program_modules read) a.noted (accepted_checked files names all read a)
