-- Accepted programs are checked; in checked ones declarations fit, and names are apart.
use Rattle.std.proofs.Common.{◌≡◌, ◌⊎◌, inl, inr, ℕ, true, List, []}
use Rattle.std.proofs.Common.{◌∷◌, ◌++◌, map, Option, None, Some, refl, sym, ap, ◌∙◌, subst, append_assoc}
use Rattle.std.specs.Prelude.{is_some, slice_get, unwrap_or}
use Rattle.std.proofs.lemmas.Bool.{and_from}
use Rattle.std.proofs.lemmas.Option.{none-some, same_Some}
use Rattle.au_base.specs.Outside.{Files}
use Rattle.au_syntax.specs.declared.declarations.Universe.{Universe}
use Rattle.au_syntax.specs.declared.declarations.Universe.TheVariants as universes
use Rattle.au_syntax.specs.declared.modules.Part.TheVariants.{Interface, Body}
use Rattle.au_syntax.specs.Modules.{InUniverse}
use Rattle.au_syntax.specs.Plain.{Bytes}
use Rattle.au_types.specs.declared.headings.Head.{Head}
use Rattle.au_types.specs.declared.parameters.Parameter.{Parameter}
use Rattle.au_types.specs.declared.types.DeclAt.{DeclAt}
use Rattle.au_types.specs.Rows.{head_of}
use Rattle.au_types.specs.Types.{Meaning, named}
use Rattle.au_types.specs.Universes.{universe_in}
use Rattle.au_matching.specs.Forming.{IsWellFormed, all_fit, all_formed, argument_formed, fit_row, fits}
use Rattle.au_matching.specs.Forming.{is_formed}
use Rattle.au_matching.specs.Substituted.{EachNameOf, EachNameOfAll}
use Rattle.au_matching.specs.Universes.{is_free, is_linear, of_parameter, universe_of}
use Rattle.au_matching.specs.declared.universes.TypeUniverse.TheVariants.{AnyUniverse}
use Rattle.au_judged_types.specs.Meanings.{parameter}
use Rattle.au_running_types.specs.Running.{are_lasting, argument_lasting}
use Rattle.au_written_types.specs.Written.{IsRegionName, IsTypeName}
use Rattle.au_modules.specs.Programs.{ModuleParts}
use Rattle.au_names.specs.DeclaredTypes.{DeclaredType, type_declared}
use Rattle.au_names.specs.HeadsOf.{heads_of}
use Rattle.au_names.specs.Owned.{declarations_in}
use Rattle.au_names.specs.Standing.{Standing, body_at, defined_by, definition_for, definition_of, is_whole}
use Rattle.au_names.specs.Standing.{opaque_name}
use Rattle.au_names.specs.Standing.{standing_at, whole_name}
use Rattle.au_imports.specs.Good.{IsGood}
use Rattle.au_judged_bodies.specs.Called.{as_argument, as_arguments, type_itself}
use Rattle.au_judged_bodies.specs.Trees.{NotedParts}
use Rattle.au_closing_laws.specs.Accepted.{AreAcceptedAs}
use Rattle.au_closing_laws.specs.Programs.{program_modules}
use Rattle.au_closing_laws.specs.Trees.{ReadFile}
use Rattle.au_closing_laws.proofs.AcceptedLemmas.{accepted_whole}
use Rattle.au_closing_laws.proofs.DefinitionLemmas.{IsThere, stands_in}
use Rattle.au_closing_laws.proofs.FactLemmas.{parts_hold}
use Rattle.au_closing_laws.proofs.OnceLemmas.{AreApart}
use Rattle.au_closing_laws.proofs.OwnTypeLemmas.{own_types_are, universe_at}
use Rattle.au_judged_bodies.specs.KnownTypes.Known.{IsDeclared}
use Rattle.au_known_programs.specs.Programs.{DeclarationsFit}
use Rattle.au_judged_bodies.specs.OnceFieldsApart.{IsApart}
use Rattle.au_judged_bodies.proofs.OnceFieldsApartLemmas.{fields_once}
use Rattle.au_judged_programs.specs.CheckedChecked.{IsChecked}
use Rattle.au_judged_programs.proofs.DefinitionLemmas.{found_passes, in_part, standing_made}

-- ---- accepted programs

pub accepted_checked : (files : Files) (names all : List (List ℕ)) (reads : List ReadFile)
    (a : AreAcceptedAs files names all reads) → IsChecked (program_modules reads) a.noted
accepted_checked files names all reads a =
    let whole = accepted_whole files names all reads a in
    record {
      gathered = whole.0;
      files = whole.1;
      named = a.named;
      kept = a.kept;
      declared = a.declared;
      instances = a.instances;
      derives = a.derives;
      lives = a.lives;
    }

-- ---- a type over its own type parameters

module _ (heads : List (DeclAt × Head)) (ps : List (InUniverse Bytes)) (apart : AreApart ps) where
  abbrev params : List Parameter
  params = map parameter ps

  abbrev Is : Bytes → Universe → Type 0
  Is name u = universe_in params name ≡ Some u

  fits_itself : (name : Bytes) (u : Universe) → Is name u
      → fits heads params u (as_argument (record { name = name; universe = u })) ≡ true
  unfolding universe_of
  fits_itself name universes.Free e = ap (λ o. is_free (unwrap_or (of_parameter o) AnyUniverse)) e
  fits_itself name universes.Linear e = ap (λ o. is_linear (unwrap_or (of_parameter o) AnyUniverse)) e
  fits_itself name universes.AnyType e = refl
  fits_itself name universes.Region e = refl

  formed_itself : (name : Bytes) (u : Universe) → Is name u
      → argument_formed (fits heads params) heads params (as_argument (record { name = name; universe = u })) ≡ true
  unfolding argument_formed is_formed
  formed_itself name universes.Free e = ap (λ o. is_some (of_parameter o)) e
  formed_itself name universes.Linear e = ap (λ o. is_some (of_parameter o)) e
  formed_itself name universes.AnyType e = ap (λ o. is_some (of_parameter o)) e
  formed_itself name universes.Region e = refl

  lasts_itself : (name : Bytes) (u : Universe)
      → argument_lasting (as_argument (record { name = name; universe = u })) ≡ true
  lasts_itself name universes.Free = refl
  lasts_itself name universes.Linear = refl
  lasts_itself name universes.AnyType = refl
  lasts_itself name universes.Region = refl

  named_itself : (name : Bytes) (u : Universe) → Is name u
      → EachNameOf (IsTypeName params) (IsRegionName [] params) (as_argument (record { name = name; universe = u }))
  named_itself name universes.Free e = ap (λ o. is_some (of_parameter o)) e
  named_itself name universes.Linear e = ap (λ o. is_some (of_parameter o)) e
  named_itself name universes.AnyType e = ap (λ o. is_some (of_parameter o)) e
  named_itself name universes.Region e = inr e

  universe_here : (qs : List (InUniverse Bytes)) (q : InUniverse Bytes) (rest : List (InUniverse Bytes))
      → ps ≡ qs ++ q ∷ rest → Is q.name.name q.universe
  universe_here qs q rest e =
      ap (λ l. universe_in (map parameter l) q.name.name) e ∙ universe_at qs q rest (apart qs q rest e)

  next : (qs : List (InUniverse Bytes)) (q : InUniverse Bytes) (rest : List (InUniverse Bytes)) → ps ≡ qs ++ q ∷ rest
      → ps ≡ (qs ++ q ∷ []) ++ rest
  next qs q rest e = e ∙ sym (append_assoc qs (q ∷ []) rest)

  all_fit_themselves : (qs rest : List (InUniverse Bytes)) → ps ≡ qs ++ rest
      → all_fit (fits heads params) (map parameter rest) (as_arguments (map parameter rest)) ≡ true
  all_fit_themselves qs [] e = refl
  all_fit_themselves qs (q ∷ rest) e =
      and_from (fits heads params q.universe (as_argument (parameter q)))
      (all_fit (fits heads params) (map parameter rest) (as_arguments (map parameter rest)))
      (fits_itself q.name.name q.universe (universe_here qs q rest e))
      (all_fit_themselves (qs ++ q ∷ []) rest (next qs q rest e))

  all_formed_themselves : (qs rest : List (InUniverse Bytes)) → ps ≡ qs ++ rest
      → all_formed (fits heads params) heads params (as_arguments (map parameter rest)) ≡ true
  unfolding all_formed
  all_formed_themselves qs [] e = refl
  all_formed_themselves qs (q ∷ rest) e =
      and_from (argument_formed (fits heads params) heads params (as_argument (parameter q)))
      (all_formed (fits heads params) heads params (as_arguments (map parameter rest)))
      (formed_itself q.name.name q.universe (universe_here qs q rest e))
      (all_formed_themselves (qs ++ q ∷ []) rest (next qs q rest e))

  all_last : (rest : List (InUniverse Bytes)) → are_lasting (as_arguments (map parameter rest)) ≡ true
  all_last [] = refl
  all_last (q ∷ rest) =
      and_from (argument_lasting (as_argument (parameter q))) (are_lasting (as_arguments (map parameter rest)))
      (lasts_itself q.name.name q.universe) (all_last rest)

  all_named : (qs rest : List (InUniverse Bytes)) → ps ≡ qs ++ rest
      → EachNameOfAll (IsTypeName params) (IsRegionName [] params) (as_arguments (map parameter rest))
  all_named qs [] e = tt
  all_named qs (q ∷ rest) e = (
    named_itself q.name.name q.universe (universe_here qs q rest e),
    all_named (qs ++ q ∷ []) rest (next qs q rest e),
  )

  itself_formed : (at : DeclAt) (head : Head) → head_of heads at ≡ Some head → head.params ≡ map parameter ps
      → IsWellFormed heads params (named at (as_arguments params))
  unfolding is_formed
  itself_formed at head has same =
      and_from (fit_row (fits heads params) (head_of heads at) (as_arguments params))
      (all_formed (fits heads params) heads params (as_arguments params))
      (ap (λ o. fit_row (fits heads params) o (as_arguments params)) has
      ∙ ap (λ qs. all_fit (fits heads params) qs (as_arguments params)) same ∙ all_fit_themselves [] ps refl)
      (all_formed_themselves [] ps refl)

  itself_declared : (at : DeclAt) (head : Head) → head_of heads at ≡ Some head → head.params ≡ map parameter ps
      → IsDeclared heads params (named at (as_arguments params))
  itself_declared at head has same = (
    itself_formed at head has same,
    record { lasting = all_last ps; names = all_named [] ps refl },
  )

-- ---- checked programs

module _ (program : List ModuleParts) (noted : List NotedParts) (checked : IsChecked program noted) where
  good : IsGood program
  good = record { names = checked.named; promises = checked.kept }

  own : (at : DeclAt) (d : Standing) (name : Bytes) (one : DeclaredType) (t : Meaning)
      → standing_at program at ≡ Some d → whole_name d.says ≡ Some name → type_declared d.says ≡ Some one
      → type_itself program d.place name (map parameter one.parameters) ≡ Some t
      → IsDeclared (heads_of program) (map parameter one.parameters) t
  own at d name one t found whole declared itself =
      let its = own_types_are program (parts_hold program checked.gathered) good checked.declared.once at d name one
      t found
      whole declared itself in
      subst (IsDeclared (heads_of program) (map parameter one.parameters)) its.is
      (itself_declared (heads_of program) one.parameters its.apart its.at its.head its.has its.same)

  pub declarations_fit : DeclarationsFit program
  declarations_fit = record {
    made = λ at d found. standing_made program checked.declared at d found;
    own = λ at d name one t found whole declared itself. own at d name one t found whole declared itself;
  }

  -- ---- names that are apart

  in_module : (d : Standing) (at : ℕ)
      → (m : ModuleParts) × (slice_get program at ≡ Some m)
      × (IsThere at Interface (declarations_in m.interface) d ⊎ IsThere at Body (declarations_in m.body) d)
      → IsApart d.says
  in_module d at (m, here, inl its) =
      fields_once program checked.declared.once at m Interface d.index d.says here its.2
  in_module d at (m, here, inr its) =
      fields_once program checked.declared.once at m Body d.index d.says here its.2

  in_body : (place : ℕ) (o : Option ModuleParts) → slice_get program place ≡ o → (k : ℕ) (d : Standing)
      → slice_get (body_at place o) k ≡ Some d → IsApart d.says
  in_body place None here k d e = absurd (none-some d e)
  in_body place (Some m) here k d e =
      let its = in_part program checked.declared place 0 (declarations_in m.body) k d e in
      fields_once program checked.declared.once place m Body k d.says here its.2

  defines_apart : (s d : Standing) (o : Option Bytes) → IsApart s.says
      → defined_by (body_at s.place (slice_get program s.place)) s o ≡ Some d → IsApart d.says
  defines_apart s d None apart e = subst (λ (x : Standing). IsApart x.says) (same_Some s d e) apart
  defines_apart s d (Some name) apart e =
      let its = found_passes (is_whole name) (body_at s.place (slice_get program s.place)) d e in
      in_body s.place (slice_get program s.place) refl its.1.0 d its.1.1

  pub definitions_apart : (at : DeclAt) (d : Standing) → definition_of program at ≡ Some d → IsApart d.says
  definitions_apart at d e = by (standing_at program at) refl e
    where
      by : (o : Option Standing) → standing_at program at ≡ o → definition_for program o ≡ Some d → IsApart d.says
      by None found e = absurd (none-some d e)
      by (Some s) found e =
          defines_apart s d (opaque_name s.says) (in_module s at.«module» (stands_in program at s found)) e
