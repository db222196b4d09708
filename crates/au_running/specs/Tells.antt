-- That the events of runs of a program's code are those of what the program means.
use Rattle.std.specs.Prelude.{◌≡◌, ℕ, ◌/◌, true, List, map, IsSomeAnd}
use Rattle.au_modules.specs.Programs.{ModuleParts}
use Rattle.au_typing.specs.Trees.{NotedParts}
use Rattle.au_type_texts.specs.Types.{ClosedType}
use Rattle.au_lowering.specs.Programs.{ClosedProgram, Closes, TypeRow}
use Rattle.au_effects.specs.Worlds.{Deed}
use Rattle.au_low.specs.declared.code.Code.{Code}
use Rattle.au_low.specs.Runs.{low_run}
use Rattle.au_lowered.specs.Maps.{deed_to}
use Rattle.au_lowering.specs.Closed.{code_of, told_in}
use Rattle.au_meaning.specs.Laws.{Begins}
use Rattle.au_meaning.specs.Worlds.{Outcome, stuck}
use Rattle.au_running.specs.Lines.{deeds_told}
use Rattle.au_running.specs.Meant.{means}
use Rattle.au_running.specs.Runs.{IsRunnable, ran_by}
use Rattle.au_running.specs.declared.ran.Ran.{Ran}
use Rattle.au_running.specs.declared.ran.Ran.TheVariants as ran
use Rattle.au_syntax.specs.Plain.{Bytes}

-- the text of a closed type, as its row says
abbrev pub type_words : List TypeRow → ClosedType → Bytes
type_words rows of = (told_in rows of).text

module _ (words : ClosedType → Bytes) where
  -- the events of a run of the meaning, with the texts of their types
  abbrev pub deeds_meant : Outcome → List (Deed Bytes)
  deeds_meant meant = map (deed_to words) meant.world.store.deeds

  -- The steps of a run were spent, of which there were so many: its events go on from those of its meaning in
  -- an eighth as many ticks, and those in as many ticks go on from them.
  pub record LieBetween (meant : ℕ → Outcome) (limit : ℕ) (events : List (Deed Bytes)) : Type 0 where
    pub from : Begins (deeds_meant (meant (limit / 8))) events
    pub to : Begins events (deeds_meant (meant limit))

  -- What the events of a run with so many steps show of the meaning, by what is answered of the run: where it
  -- has ended they are those of what is meant in as many ticks.
  abbrev pub EventsShow : Ran → (ℕ → Outcome) → ℕ → List (Deed Bytes) → Type 0
  EventsShow (ran.Exit success) meant limit events = deeds_meant (meant limit) ≡ events
  EventsShow (ran.Abort text) meant limit events = deeds_meant (meant limit) ≡ events
  EventsShow ran.Steps meant limit events = LieBetween meant limit events
  EventsShow other meant limit events = ⊥

  -- The events of a run of code show what is meant, on an input and with so many steps.
  abbrev pub TellsOn : Code → (ℕ → Outcome) → List ℕ → ℕ → Type 0
  TellsOn code meant input limit =
      IsSomeAnd (ran_by code (low_run true code input limit).ending) (λ ran. EventsShow ran meant limit
      (deeds_told code (low_run true code input limit).events))

  -- So do those of every run of it that isn't stuck within as many ticks as it has steps.
  abbrev pub TellsMeant : Code → (List ℕ → ℕ → Outcome) → Type 0
  TellsMeant code meant =
      (input : List ℕ) (limit : ℕ) → ((meant input limit).ending ≡ stuck → ⊥)
      → TellsOn code (meant input) input limit

-- The events of every run of the code that a program is lowered to show what the program means from its
-- entry.
abbrev pub LoweredProgramsTell : Type 0
LoweredProgramsTell =
    (program : List ModuleParts) (noted : List NotedParts) (owner name : Bytes) (c : ClosedProgram)
    → (closes : Closes program noted owner name c) → IsRunnable program noted
    → TellsMeant (type_words c.types) (code_of c) (means program noted closes.entry)
