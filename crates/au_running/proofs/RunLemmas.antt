-- Runs of the code of a closed program show what the program means that it is made of.
use Rattle.std.proofs.Common.{◌≡◌, ℕ, suc, List, [], ◌∷◌, map, Some, refl, sym, ap, subst, ◌∙◌}
use Rattle.std.specs.Prelude.{slice_get}
use Rattle.au_syntax.specs.Plain.{Bytes}
use Rattle.au_modules.specs.Programs.{ModuleParts}
use Rattle.au_typing.specs.Trees.{NotedParts}
use Rattle.au_closed_trees.specs.ClosedNotes.{Callee, ClosedNote}
use Rattle.au_running.proofs.OnceLemmas.{closed_fields_are_once, closed_parameters_are_once}
use Rattle.au_lowering.specs.Programs.{ClosedProgram, Closes, plain_instance}
use Rattle.au_closed_meanings.specs.Kept.{SaysWhatIs}
use Rattle.au_closed_meanings.specs.Listed.{counts_by}
use Rattle.au_closed_meanings.specs.Numbers.{first_name, numbers_of}
use Rattle.au_closed_meanings.proofs.InRowLemmas.{numbered_alike}
use Rattle.au_closed_meanings.proofs.KeptLemmas.{meaning_kept}
use Rattle.au_closed_meanings.proofs.NumberLemmas.{first_names_apart}
use Rattle.au_closed_meanings.proofs.ListedCountLemmas.{listed_count}
use Rattle.au_low.specs.declared.code.Code.{Code}
use Rattle.au_lowered.specs.Programs.{lowered}
use Rattle.au_lowering.specs.Closed.{body_seen, code_of, row_seen, told_in}
use Rattle.au_meaning.specs.Meanings.{begun, call_at, first_world, mean, parameters_of, seen}
use Rattle.au_meaning.specs.Views.{Field, Function}
use Rattle.au_meaning.specs.Worlds.{Outcome, stuck}
use Rattle.au_lowered.specs.FollowPrograms.{EntryTakes}
use Rattle.au_lowered.specs.HomeLists.{HomesShared}
use Rattle.au_running.specs.Asked.{FieldsAreOnce, ParametersAreOnce}
use Rattle.au_running.specs.Followed.{AreFollowed, EntryBegins}
use Rattle.au_running.specs.Suits.{guarded_functions}
use Rattle.au_running.proofs.CodeLemmas.{lowered_same}
use Rattle.au_running.proofs.GoodLemmas.{guarded_good}
use Rattle.au_running.proofs.OrderLemmas.{in_order}
use Rattle.au_running.proofs.MeaningLemmas.{means_same}
use Rattle.au_running.specs.Meant.{means}
use Rattle.au_running.specs.Runs.{IsRunnable, LoweredProgramsRun, RefinesOn, Refines}
use Rattle.au_running.proofs.EndLemmas.{good_shows}
use Rattle.au_running.proofs.FollowedLemmas.{all_of, names_same, round_in, rows_follow}
use Rattle.au_running.proofs.NumberingLemmas.{code_same}
use Rattle.au_running.proofs.RowLemmas.{lists_types, made_rows, rows_say_so, types_of}
use Rattle.au_running.proofs.DerivedLemmas.{body_typed}
use Rattle.au_running.proofs.SharedLemmas.{homes_shared}

-- where a run isn't stuck, the entry has one parameter or none
entry_begins : (functions : List (Function ℕ ClosedNote (Callee ℕ))) (input : List ℕ) (ticks : ℕ)
    → ((mean (λ i. slice_get functions i) 0 input ticks).ending ≡ stuck → ⊥)
    → (f : Function ℕ ClosedNote (Callee ℕ)) → slice_get functions 0 ≡ Some f → EntryTakes f.parameters
entry_begins functions input ticks claim f there = by f.parameters refl
  where
    by : (params : List Field) → f.parameters ≡ params → EntryTakes f.parameters
    by [] is = subst EntryTakes (sym is) tt
    by (p ∷ []) is = subst EntryTakes (sym is) tt
    by (p ∷ q ∷ more) is =
        absurd (claim (ap (λ (params : List Field). (seen ticks (begun params
        (call_at (λ i. slice_get functions i) (suc ticks) 0) (first_world input) ticks)).ending)
        (ap parameters_of there ∙ is)))

module _ (program : List ModuleParts) (noted : List NotedParts) (owner name : Bytes) (c : ClosedProgram)
    (closes : Closes program noted owner name c) (runnable : IsRunnable program noted)
    (once : ParametersAreOnce c.functions) (fields : FieldsAreOnce program) where
  says_what_is : SaysWhatIs (counts_by (types_of c.types)) program c.functions (round_in c)
  says_what_is =
      let says = rows_say_so program c.functions c.types closes.types in
      record {
        parameters = λ home number. names_same c.functions number;
        homes = λ home. refl;
        tags = λ home of k name. says.tags of k name;
        fields = λ home of k tag. says.fields of k tag;
        linear = λ home of k has. says.linear of k has;
      }

  -- the numbers of the first names of its functions
  abbrev pub numbers : ℕ → ℕ
  numbers = numbers_of program noted closes.functions.instances

  -- the program means what its closed functions mean
  pub means_so : (input : List ℕ) (ticks : ℕ)
      → means program noted closes.entry input ticks ≡ mean (λ i. slice_get (all_of numbers c) i) 0 input ticks
  means_so input ticks =
      meaning_kept program noted (plain_instance closes.entry) c.functions closes.functions
      (first_name program noted) numbers (numbered_alike program noted closes.functions.instances)
      (round_in c) (counts_by (types_of c.types)) says_what_is
      (listed_count program c.functions (types_of c.types)
      (lists_types program c.functions c.types closes.types)) input ticks
      ∙ sym (λ j. mean (λ i. in_order (round_in c) c.functions numbers i j) 0 input ticks)

  -- functions that share a number of a declaration have the same slots
  shared : HomesShared (guarded_functions (all_of numbers c))
  shared =
      homes_shared program noted (plain_instance closes.entry) c.functions closes.functions (round_in c)
      (counts_by (types_of c.types)) says_what_is
      (listed_count program c.functions (types_of c.types) (lists_types program c.functions c.types closes.types))
      (λ one body is. body_typed program noted runnable.derived one.of body is) (first_name program noted) numbers
      (numbered_alike program noted closes.functions.instances) (first_names_apart program noted)

  -- where that isn't stuck, code can follow them
  pub are_followed : (input : List ℕ) (ticks : ℕ)
      → ((means program noted closes.entry input ticks).ending ≡ stuck → ⊥)
      → AreFollowed (told_in c.types) (all_of numbers c)
  are_followed input ticks claim =
      let begins : EntryBegins (told_in c.types) (all_of numbers c) =
      entry_begins (all_of numbers c) input ticks
      (λ e. claim (ap (λ (o : Outcome). o.ending) (means_so input ticks) ∙ e)) in
      rows_follow program noted runnable.derived (plain_instance closes.entry) c
      closes.functions (types_of c.types) (made_rows program c.functions c.types closes.types)
      once fields numbers shared begins

  run_shown : Refines (code_of c) (means program noted closes.entry)
  run_shown input limit claim =
      let told = told_in c.types in
      let followed = are_followed input limit claim in
      let guards = guarded_functions (all_of numbers c) in
      let good = guarded_good ClosedNote (Callee ℕ) told (all_of numbers c) followed in
      let meant : (ticks : ℕ) → means program noted closes.entry input ticks
      ≡ mean (λ i. slice_get guards i) 0 input ticks =
      λ ticks. means_so input ticks ∙ sym (means_same (all_of numbers c) followed.suits input ticks) in
      let same : lowered told guards ≡ code_of c =
      lowered_same told (all_of numbers c) followed.suits
      ∙ sym (code_same (map body_seen c.functions) (map row_seen c.types) told c.functions (λ n. 0) numbers) in
      let shown = good_shows told guards good input limit
      (λ e. claim (ap (λ (o : Outcome). o.ending) (meant limit) ∙ e)) in
      subst (λ (m : ℕ → Outcome). RefinesOn (code_of c) m input limit) (λ i ticks. sym (meant ticks) i)
      (subst (λ (k : Code). RefinesOn k (λ ticks. mean (λ i. slice_get guards i) 0 input ticks) input limit)
      same shown)

-- every run of the code that a program is lowered to shows what the program means
pub runs_shown : LoweredProgramsRun
runs_shown program noted owner name c closes runnable =
    run_shown program noted owner name c closes runnable
    (closed_parameters_are_once program noted runnable.declared runnable.derived (plain_instance closes.entry)
    c.functions closes.functions)
    (closed_fields_are_once program runnable.declared)
