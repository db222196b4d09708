-- The events of every run of the code of a program are those of what the program means.
use Rattle.std.proofs.Common.{◌≡◌, ℕ, ◌/◌, true, List, map, refl, sym, ap, subst, ◌∙◌, arith}
use Rattle.std.specs.Prelude.{IsSomeAnd, slice_get}
use Rattle.std.proofs.lemmas.List.{map-append}
use Rattle.au_syntax.specs.Plain.{Bytes}
use Rattle.au_modules.specs.Programs.{ModuleParts}
use Rattle.au_typing.specs.Trees.{NotedParts}
use Rattle.au_type_texts.specs.Types.{ClosedType}
use Rattle.au_closed_trees.specs.ClosedNotes.{Callee, ClosedNote}
use Rattle.au_lowering.specs.Programs.{ClosedProgram, Closes, plain_instance}
use Rattle.au_effects.specs.Worlds.{Deed}
use Rattle.au_low.specs.Runs as low
use Rattle.au_low.specs.Runs.{low_run}
use Rattle.au_low.specs.declared.code.Code.{Code}
use Rattle.au_low.specs.declared.code.LowType.{LowType}
use Rattle.au_low.specs.declared.endings.Ending.{Ending}
use Rattle.au_low.specs.declared.endings.Ending.TheVariants as low_ending
use Rattle.au_lowered.specs.Agreeing.{event_numbered}
use Rattle.au_lowered.specs.FollowPrograms.{GoodProgram}
use Rattle.au_lowered.specs.Programs.{lowered, texts_in, types_in}
use Rattle.au_lowered.proofs.BetweenLemmas.{between}
use Rattle.au_lowered.proofs.EndLemmas.{has_ended}
use Rattle.au_lowering.specs.Closed.{body_seen, code_of, row_seen, told_in}
use Rattle.au_meaning.specs.Laws.{Begins}
use Rattle.au_meaning.specs.Meanings.{mean}
use Rattle.au_meaning.specs.Views.{Function}
use Rattle.au_meaning.specs.Worlds.{Outcome, stuck}
use Rattle.au_running.specs.Asked.{FieldsAreOnce, ParametersAreOnce}
use Rattle.au_running.specs.Lines.{deeds_told}
use Rattle.au_running.specs.Meant.{means}
use Rattle.au_running.specs.Runs.{IsRunnable, ran_by}
use Rattle.au_running.specs.Suits.{guarded_functions}
use Rattle.au_running.specs.Tells.{EventsShow, LoweredProgramsTell, TellsMeant, TellsOn, deeds_meant, type_words}
use Rattle.au_running.proofs.CodeLemmas.{lowered_same}
use Rattle.au_running.proofs.EndLemmas.{fewer, stuck_back}
use Rattle.au_running.proofs.FollowedLemmas.{all_of}
use Rattle.au_running.proofs.GoodLemmas.{guarded_good}
use Rattle.au_running.proofs.MeaningLemmas.{means_same}
use Rattle.au_running.proofs.NamedLemmas.{births_named}
use Rattle.au_running.proofs.NumberingLemmas.{code_same}
use Rattle.au_running.proofs.OnceLemmas.{closed_fields_are_once, closed_parameters_are_once}
use Rattle.au_running.proofs.RunLemmas.{are_followed, means_so, numbers}

-- a beginning of what is changed item by item
begins_map : {A B : Type 0} (f : A → B) (xs ys : List A) → Begins xs ys → Begins (map f xs) (map f ys)
begins_map f xs ys begins =
    (map f begins.0, ap (map f) begins.1 ∙ map-append f xs begins.0)

-- ---- of good programs

module _ {T C : Type 0} (told : ClosedType → LowType) (functions : List (Function ℕ T C))
    (good : GoodProgram told functions) (input : List ℕ) (limit : ℕ)
    (unstuck : (mean (λ i. slice_get functions i) 0 input limit).ending ≡ stuck → ⊥) where
  abbrev code : Code
  code = lowered told functions

  abbrev words : ClosedType → Bytes
  words of = (told of).text

  abbrev meant : ℕ → Outcome
  meant ticks = mean (λ i. slice_get functions i) 0 input ticks

  abbrev full : low.Outcome
  full = low_run true code input limit

  -- the events of the meaning as the machine tells them
  abbrev numbered : ℕ → List (Deed ℕ)
  numbered ticks = map (event_numbered (types_in functions)) (meant ticks).world.store.deeds

  -- of a run that has ended
  ended_tells : ((low_run true code input limit).ending ≡ low_ending.Steps → ⊥)
      → deeds_meant words (meant limit) ≡ deeds_told code full.events
  ended_tells ended =
      sym (births_named told functions good input limit unstuck)
      ∙ ap (deeds_told code) (sym (has_ended told functions good input limit unstuck ended).agrees.events)

  -- by how it ended
  told_by : (end : Ending) → full.ending ≡ end
      → IsSomeAnd (ran_by code end) (λ ran. EventsShow words ran meant limit (deeds_told code full.events))
  told_by (low_ending.Exit success) e = ended_tells (λ cut. not_steps (sym e ∙ cut))
    where
      not_steps : low_ending.Exit success ≡ low_ending.Steps → ⊥
      not_steps e = grind arith
  told_by (low_ending.Abort why) e = ended_tells (λ cut. not_steps (sym e ∙ cut))
    where
      not_steps : low_ending.Abort why ≡ low_ending.Steps → ⊥
      not_steps e = grind arith
  told_by low_ending.Steps e =
      let few = fewer told functions good input limit unstuck in
      let lies = between told functions good input limit few unstuck e in
      record {
        from = subst (λ xs. Begins xs (deeds_told code full.events))
            (births_named told functions good input (limit / 8) few)
            (begins_map _ (numbered (limit / 8)) full.events lies.events_from);
        to = subst (λ xs. Begins (deeds_told code full.events) xs)
            (births_named told functions good input limit unstuck)
            (begins_map _ full.events (numbered limit) lies.events_to);
      }
  told_by low_ending.Stuck e =
      let over = has_ended told functions good input limit unstuck (λ cut. not_steps (sym e ∙ cut)) in
      absurd (unstuck (stuck_back (texts_in functions) (meant limit).ending (sym over.agrees.ending ∙ e)))
    where
      not_steps : low_ending.Stuck ≡ low_ending.Steps → ⊥
      not_steps e = grind arith

-- the events of a run of the code of a good program are those that the program means, where that isn't stuck
good_tells : {T C : Type 0} (told : ClosedType → LowType) (functions : List (Function ℕ T C))
    → GoodProgram told functions → (input : List ℕ) (limit : ℕ)
    → ((mean (λ i. slice_get functions i) 0 input limit).ending ≡ stuck → ⊥)
    → TellsOn (λ of. (told of).text) (lowered told functions)
    (λ ticks. mean (λ i. slice_get functions i) 0 input ticks) input limit
good_tells told functions good input limit unstuck =
    told_by told functions good input limit unstuck (low_run true (lowered told functions) input limit).ending
    refl

-- ---- of closed programs

module _ (program : List ModuleParts) (noted : List NotedParts) (owner name : Bytes) (c : ClosedProgram)
    (closes : Closes program noted owner name c) (runnable : IsRunnable program noted)
    (once : ParametersAreOnce c.functions) (fields : FieldsAreOnce program) where
  run_tells : TellsMeant (type_words c.types) (code_of c) (means program noted closes.entry)
  run_tells input limit claim =
      let told = told_in c.types in
      let first = numbers program noted owner name c closes runnable once fields in
      let so = means_so program noted owner name c closes runnable once fields input in
      let followed = are_followed program noted owner name c closes runnable once fields input limit claim in
      let guards = guarded_functions (all_of first c) in
      let meant : (ticks : ℕ) → means program noted closes.entry input ticks
      ≡ mean (λ i. slice_get guards i) 0 input ticks =
      λ ticks. so ticks ∙ sym (means_same (all_of first c) followed.suits input ticks) in
      let same : lowered told guards ≡ code_of c =
      lowered_same told (all_of first c) followed.suits
      ∙ sym (code_same (map body_seen c.functions) (map row_seen c.types) told c.functions (λ n. 0) first) in
      let tells = good_tells told guards (guarded_good ClosedNote (Callee ℕ) told (all_of first c) followed) input limit
      (λ e. claim (ap (λ (o : Outcome). o.ending) (meant limit) ∙ e)) in
      subst (λ (m : ℕ → Outcome). TellsOn (type_words c.types) (code_of c) m input limit)
      (λ i ticks. sym (meant ticks) i)
      (subst (λ (k : Code). TellsOn (type_words c.types) k (λ ticks. mean (λ i. slice_get guards i) 0 input ticks)
      input limit) same tells)

-- the events of every run of the code that a program is lowered to are those that the program means
pub runs_tell : LoweredProgramsTell
runs_tell program noted owner name c closes runnable =
    run_tells program noted owner name c closes runnable
    (closed_parameters_are_once program noted runnable.declared runnable.derived (plain_instance closes.entry)
    c.functions closes.functions)
    (closed_fields_are_once program runnable.declared)
