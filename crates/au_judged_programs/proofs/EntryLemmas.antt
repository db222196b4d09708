-- Runs from a function that has the form of an entry.
use Rattle.std.proofs.Common.{◌≡◌, ℕ, Bool, true, false, true≢false, List, [], ◌∷◌, map, Option, None, Some, refl, sym, ap}
use Rattle.std.proofs.Common.{◌∙◌, subst}
use Rattle.std.specs.Prelude.{codes, if◌then◌else◌}
use Rattle.std.specs.Option.{option_map}
use Rattle.std.proofs.lemmas.Option.{none-some}
use Rattle.au_syntax.specs.declared.declarations.Universe.TheVariants.{Region}
use Rattle.au_syntax.specs.declared.modules.Part.TheVariants.{Body}
use Rattle.au_syntax.specs.Modules.{Constrained, Header}
use Rattle.au_syntax.specs.Plain.{Bytes}
use Rattle.au_syntax.specs.Types.{Labelled, WrittenType}
use Rattle.au_types.specs.declared.headings.Head.{Head}
use Rattle.au_types.specs.declared.types.DeclAt.{DeclAt}
use Rattle.au_types.specs.Meant.{meant}
use Rattle.au_types.specs.Types.{Meaning, named, no_arguments, of_type}
use Rattle.au_types.specs.Universes.{universe_in}
use Rattle.au_judged_types.specs.Meanings.{written_params}
use Rattle.au_type_texts.specs.Given.{closed_or_unit, closed_under}
use Rattle.au_running_types.specs.Running.{running}
use Rattle.au_modules.specs.Programs.{ModuleParts}
use Rattle.au_names.specs.declared.targets.Target.{Target}
use Rattle.au_names.specs.HeadsOf.{heads_of}
use Rattle.au_judged_bodies.specs.Trees.{NotedParts}
use Rattle.au_judged_bodies.specs.Written.{types_at}
use Rattle.au_judged_bodies.specs.ClosedTrees.Parts.{field_under}
use Rattle.au_judged_bodies.specs.Bodies.{BodyOf}
use Rattle.au_judged_bodies.specs.Entries.{form_of, is_exit, is_root, root_in}
use Rattle.au_judged_bodies.specs.Instances.{Instance}
use Rattle.au_meaning.specs.Meanings.{parameters_of}
use Rattle.au_judged_bodies.specs.Generic.{field_seen, function_under, generic_functions}
use Rattle.au_judged_bodies.specs.Held.{Permits}
use Rattle.au_judged_bodies.specs.StandingTypesStanding.{StandsFor}
use Rattle.au_owners.specs.Owners.{owner_of}
use Rattle.au_judged_programs.specs.CheckedChecked.{IsChecked}
use Rattle.au_judged_bodies.specs.Frames.{TypesAreUsable}
use Rattle.au_judged_bodies.specs.Keys.{Key, meant_in_body, meant_or_unit, ways, written_running}
use Rattle.au_judged_bodies.specs.Tables.{has_text, root_text, types_of}
use Rattle.au_safe_steps.specs.Beginning.{IsExitOf}
use Rattle.au_sound_calls.specs.Sound.{IsHomeOf}
use Rattle.au_sound.specs.Runs.{IsEntry, TakesRoot}
use Rattle.au_judged_programs.proofs.RunLemmas.{runs_held, runs_well_seen}
use Rattle.au_judged_programs.proofs.SoundEntriesCallLemmas.{any_calls}
use Rattle.au_judged_programs.specs.Entries.{EntriesHoldWell, EntriesRunWell, IsEntryHere}
use Rattle.au_judged_programs.proofs.TypeLemmas.{exit_is, root_home, type_named}

none_stand : (heads : List (DeclAt × Head)) → StandsFor heads [] [] []
none_stand heads = record {
  formed = λ name universe e. absurd (none-some universe e);
  closes = λ name is. absurd (true≢false (sym is));
}

module _ (names : List (Bytes × DeclAt)) (heads : List (DeclAt × Head)) (h : Header Bytes) (root : Bool) where
  record HasForm (generics : List (Constrained Bytes)) : Type 0 where
    none : generics ≡ []
    gives : is_exit names heads h.result ≡ true
    takes : root_in names heads h.parameters ≡ Some root

  form_is : (generics : List (Constrained Bytes)) → form_of names heads generics h ≡ Some root → HasForm generics
  form_is [] e = by (is_exit names heads h.result) refl e
    where
      by : (b : Bool) → is_exit names heads h.result ≡ b
          → (if b then root_in names heads h.parameters else None) ≡ Some root → HasForm []
      by true is e = record { none = refl; gives = is; takes = e }
      by false is e = absurd (none-some root e)
  form_is (g ∷ generics) e = absurd (none-some root e)

module _ (program : List ModuleParts) (noted : List NotedParts) (checked : IsChecked program noted)
    (target : Target) (entry : IsEntryHere program noted target) where
  abbrev body : BodyOf
  body = entry.body

  abbrev names : List (Bytes × DeclAt)
  names = types_at program body.place Body

  has : HasForm names (heads_of program) body.header entry.root body.generics
  has = form_is names (heads_of program) body.header entry.root body.generics entry.form

  -- the one way in which it is called
  abbrev key : Key program noted
  key = record {
    one = record { of = target; given = [] };
    body = body;
    there = entry.there;
    s = [];
    stands = subst (λ (gs : List (Constrained Bytes)). StandsFor (heads_of program) (written_params gs) [] [])
        (sym has.none) (none_stand (heads_of program));
    holds = λ name class value c e. absurd (none-some (of_type value) e);
    tokens = [];
    regions = λ active are name is.
        absurd (none-some Region
        (subst (λ (gs : List (Constrained Bytes)). universe_in (written_params gs) name ≡ Some Region) has.none is));
    within = λ active are. subst (λ (gs : List (Constrained Bytes)). TypesAreUsable active (written_params gs) [])
        (sym has.none) (λ name is. absurd (true≢false (sym is)));
  }

  meant_so : (t : WrittenType) (o : Option Meaning) → meant [] [] names (heads_of program) t ≡ o
      → meant_in_body program body t ≡ o
  meant_so t o is =
      ap (λ (gs : List (Constrained Bytes)). meant [] (written_params gs) names (heads_of program) t) has.none ∙ is

  runs_so : (t : WrittenType) (at : DeclAt) → meant [] [] names (heads_of program) t ≡ Some (named at no_arguments)
      → written_running program body [] t ≡ named at no_arguments
  runs_so t at is =
      ap (λ o. running [] 0 (meant_or_unit o)) (meant_so t (Some (named at no_arguments)) is)

  abbrev Takes : List (Labelled Bytes) → Type 0
  Takes ps =
      TakesRoot (types_of program) (owner_of program)
      (map (λ (p : Labelled Bytes). written_running program body [] p.of) ps)
      (map field_seen (map (field_under names (heads_of program) (written_params body.generics) []) ps))

  takes_root : (ps : List (Labelled Bytes)) → root_in names (heads_of program) ps ≡ Some entry.root → Takes ps
  takes_root [] e = tt
  takes_root (p ∷ []) e = by (is_root names (heads_of program) p.of) refl e
    where
      by : (b : Bool) → is_root names (heads_of program) p.of ≡ b → (if b then Some true else None) ≡ Some entry.root
          → Takes (p ∷ [])
      by false is e = absurd (none-some entry.root e)
      by true is e =
          let its = type_named (heads_of program) (codes "Austral.Pervasive:RootCapability")
          (meant [] [] names (heads_of program) p.of) is in
          let root : (types_of program).is_root (named its.0 no_arguments) ≡ true = ap (has_text root_text) its.3 ∙
          its.4 in (
            subst (λ t. (types_of program).is_root t ≡ true) (sym (runs_so p.of its.0 its.2)) root,
            subst (λ c. IsHomeOf (owner_of program) c (codes "Austral.Pervasive"))
                (sym (ap (λ o. closed_or_unit (option_map (closed_under []) o))
                (meant_so p.of (Some (named its.0 no_arguments)) its.2)))
                (root_home program noted checked its.0 its.1 its.3 its.4),
          )
  takes_root (p ∷ q ∷ ps) e = absurd (none-some entry.root e)

  gives_exit : IsExitOf (types_of program) (written_running program body [] body.header.result)
  gives_exit =
      let its = type_named (heads_of program) (codes "Austral.Pervasive:ExitCode")
      (meant [] [] names (heads_of program) body.header.result) has.gives in
      subst (IsExitOf (types_of program)) (sym (runs_so body.header.result its.0 its.2))
      (exit_is program noted checked its.0 its.1 its.3 its.4)

  is_entry : (first : Instance → ℕ)
      → IsEntry (types_of program) (owner_of program) (ways program noted) (generic_functions program noted first) key
  is_entry first = record {
    takes = subst (TakesRoot (types_of program) (owner_of program) ((ways program noted).parameters key))
        (sym (ap (λ o. parameters_of (option_map (function_under program noted (first key.one) []) o)) entry.there))
        (takes_root body.header.parameters has.takes);
    gives = gives_exit;
    open_none = refl;
  }

-- A function of the form of an entry is called in a way that is an entry, whichever numbers the first names of
-- functions have.
pub entry_way : (program : List ModuleParts) (noted : List NotedParts) → IsChecked program noted → (target : Target)
    → IsEntryHere program noted target → (first : Instance → ℕ)
    → (way : Key program noted) × (way.one ≡ record { of = target; given = [] })
    × IsEntry (types_of program) (owner_of program) (ways program noted) (generic_functions program noted first) way
entry_way program noted checked target entry first =
    (key program noted checked target entry, refl, is_entry program noted checked target entry first)

pub entries_well : (program : List ModuleParts) (noted : List NotedParts) → EntriesRunWell program noted
entries_well program noted checked target entry first input ticks =
    let calls = any_calls program noted checked in
    runs_well_seen program noted (owner_of program) checked calls first (key program noted checked target entry)
    (is_entry program noted checked target entry first) input ticks

pub entries_held : (program : List ModuleParts) (noted : List NotedParts) {W : Type 0}
    (permits : Permits (Key program noted) W) → EntriesHoldWell program noted permits
entries_held program noted permits checked covered target entry first input ticks =
    let calls = any_calls program noted checked in (
      key program noted checked target entry,
      refl,
      runs_held program noted (owner_of program) permits checked calls covered first
          (key program noted checked target entry) (is_entry program noted checked target entry first) input ticks,
    )
