-- What is answered of a run of code, by how it ended.
use Rattle.std.proofs.Common.{◌≡◌, inl, inr, ℕ, Bool, true, false, List, [], ◌++◌, Option, Some, refl, sym, ◌∙◌}
use Rattle.std.proofs.Common.{IfOk, IfSome, Result, Ok, Err, ap, subst}
use Rattle.std.proofs.Common.{true≢false}
use Rattle.au_base.specs.declared.faults.Memory.{Memory}
use Rattle.au_effects.specs.Worlds.{Deed}
use Rattle.au_low.specs.declared.code.Code.{Code}
use Rattle.au_low.specs.Runs.{low_run}
use Rattle.au_low.specs.declared.endings.Ending.TheVariants as ending
use Rattle.au_runs.specs.Calls as calls
use Rattle.au_runs.specs.Calls.{IsCut, Rose, Says}
use Rattle.au_runs.specs.declared.ends.End.{End}
use Rattle.au_runs.specs.declared.ends.End.TheVariants as end
use Rattle.au_running.specs.Came.{CodeEnds, IsNeverStuck, NeedsMemory, is_told, is_unstuck, ran_of}
use Rattle.au_running.specs.Lines.{told_lines}
use Rattle.au_running.specs.Runs.{kind_words}
use Rattle.au_running.specs.Ran.{is_read_fault, is_write_fault}
use Rattle.au_running.specs.declared.ran.Ran.{Ran}
use Rattle.au_running.specs.declared.ran.Ran.TheVariants as how
use Rattle.au_running.specs.declared.ran.Report.{Report}
use Rattle.au_running.proofs.FrontLemmas.{made_cut, waited_cut}
use Rattle.au_running.proofs.MutedLemmas.{cut_muted, made_muted, waited_muted}
use Rattle.au_syntax.specs.Plain.{Bytes}

-- a call of the source or of the sink failed exactly where this is answered
pub read_told : (code : Code) (ended : End) (ran : Ran) → ran_of code ended ≡ Some ran
    → calls.is_read_fault ended ≡ is_read_fault ran
read_told code (end.Exit success) ran is = let same : how.Exit success ≡ ran = cc in ap is_read_fault same
read_told code (end.Abort why) ran is = let same : how.Abort (kind_words code why) ≡ ran = cc in ap is_read_fault same
read_told code end.Steps ran is = let same : how.Steps ≡ ran = cc in ap is_read_fault same
read_told code end.Stuck ran is = absurd cc
read_told code end.ReadFault ran is = let same : how.ReadFault ≡ ran = cc in ap is_read_fault same
read_told code end.WriteFault ran is = let same : how.WriteFault ≡ ran = cc in ap is_read_fault same

pub write_told : (code : Code) (ended : End) (ran : Ran) → ran_of code ended ≡ Some ran
    → calls.is_write_fault ended ≡ is_write_fault ran
write_told code (end.Exit success) ran is = let same : how.Exit success ≡ ran = cc in ap is_write_fault same
write_told code (end.Abort why) ran is = let same : how.Abort (kind_words code why) ≡ ran = cc in ap is_write_fault same
write_told code end.Steps ran is = let same : how.Steps ≡ ran = cc in ap is_write_fault same
write_told code end.Stuck ran is = absurd cc
write_told code end.ReadFault ran is = let same : how.ReadFault ≡ ran = cc in ap is_write_fault same
write_told code end.WriteFault ran is = let same : how.WriteFault ≡ ran = cc in ap is_write_fault same

-- a run of code of which no more is told than that a front of what it writes was written
pub said_cut : (code : Code) (life : Bool) (ended : End) (limit : ℕ) (told left out out' : Option (List ℕ))
    (events : List (Deed ℕ)) → Says ended (low_run life code) limit told left out out' events
    → IsCut (low_run false code) limit told out out'
said_cut code life (end.Exit success) limit told left out out' events says =
    cut_muted life code limit told out out'
    (made_cut (ending.Exit success) (low_run life code) limit told left out out' events says)
said_cut code life (end.Abort why) limit told left out out' events says =
    cut_muted life code limit told out out'
    (made_cut (ending.Abort why) (low_run life code) limit told left out out' events says)
said_cut code life end.Steps limit told left out out' events says =
    cut_muted life code limit told out out'
    (made_cut ending.Steps (low_run life code) limit told left out out' events says)
said_cut code life end.Stuck limit told left out out' events says =
    cut_muted life code limit told out out'
    (made_cut ending.Stuck (low_run life code) limit told left out out' events says)
said_cut code life end.ReadFault limit told left out out' events says =
    waited_cut code limit told left out out' []
    (waited_muted life code limit told left out out' events says)
said_cut code life end.WriteFault limit told left out out' events says =
    cut_muted life code limit told out out' says

-- no call of the sink failed in a run that it takes memory to tell of
pub told_still : (life : Bool) (ended : End) (writes writes' : ℕ)
    → Rose (calls.is_write_fault ended) writes writes' → NeedsMemory life ended → writes' ≡ writes
told_still life (end.Exit success) writes writes' written needs = written
told_still life (end.Abort why) writes writes' written needs = written
told_still life end.Steps writes writes' written needs = written
told_still life end.Stuck writes writes' written needs = written
told_still life end.ReadFault writes writes' written needs = written
told_still life end.WriteFault writes writes' written (inl none) = absurd none
told_still life end.WriteFault writes writes' written (inr none) = absurd (true≢false (sym none))

-- nor one of the source, where its events aren't told
pub told_quiet : (life : Bool) (ended : End) (reads reads' : ℕ)
    → Rose (calls.is_read_fault ended) reads reads' → NeedsMemory life ended → life ≡ false
    → reads' ≡ reads
told_quiet life (end.Exit success) reads reads' read needs none = read
told_quiet life (end.Abort why) reads reads' read needs none = read
told_quiet life end.Steps reads reads' read needs none = read
told_quiet life end.Stuck reads reads' read needs none = read
told_quiet life end.ReadFault reads reads' read (inl other) none = absurd other
told_quiet life end.ReadFault reads reads' read (inr is) none = absurd (true≢false (sym is ∙ none))
told_quiet life end.WriteFault reads reads' read needs none = read

-- a call of the machine on code that is never stuck doesn't end so
pub said_unstuck : (code : Code) (life : Bool) (ended : End) (limit : ℕ) (told left out out' : Option (List ℕ))
    (events : List (Deed ℕ)) → IsNeverStuck code → Says ended (low_run life code) limit told left out out' events
    → is_unstuck ended ≡ true
said_unstuck code life (end.Exit success) limit told left out out' events never says = refl
said_unstuck code life (end.Abort why) limit told left out out' events never says = refl
said_unstuck code life end.Steps limit told left out out' events never says = refl
said_unstuck code life end.Stuck limit told left out out' events never says =
    let made = made_muted life code ending.Stuck limit told left out out' events says in
    absurd (never (made.taken ++ made.rest) limit made.ending)
said_unstuck code life end.ReadFault limit told left out out' events never says = refl
said_unstuck code life end.WriteFault limit told left out out' events never says = refl

-- what is answered and told of a run, by how the call of the machine ended
pub said_came : (code : Code) (life : Bool) (ended : End) (limit : ℕ) (told left out out' : Option (List ℕ))
    (events : List (Deed ℕ)) (lines : Bytes) → Says ended (low_run life code) limit told left out out' events
    → lines ≡ told_lines (is_told life ended) code events
    → IfSome (ran_of code ended) (λ ran. CodeEnds code life ran lines limit told left out out')
said_came code life (end.Exit success) limit told left out out' events lines says tells = record {
  ending = ending.Exit success;
  answer = refl;
  events = events;
  made = says;
  tells = tells;
}
said_came code life (end.Abort why) limit told left out out' events lines says tells =
    record { ending = ending.Abort why; answer = refl; events = events; made = says; tells = tells }
said_came code life end.Steps limit told left out out' events lines says tells =
    record { ending = ending.Steps; answer = refl; events = events; made = says; tells = tells }
said_came code life end.Stuck limit told left out out' events lines says tells = tt
said_came code life end.ReadFault limit told left out out' events lines says tells =
    record { events = events; waits = says; tells = tells }
said_came code life end.WriteFault limit told left out out' events lines says tells =
    cut_muted life code limit told out out' says

-- the same of a report
pub report_came : (r : Result Report Memory) (code : Code) (life : Bool) (ended : End) (limit : ℕ)
    (told left out out' : Option (List ℕ)) (events : List (Deed ℕ))
    → Says ended (low_run life code) limit told left out out' events
    → IfOk r (λ report. ran_of code ended ≡ Some report.ran)
    → IfOk r (λ report. report.events.items ≡ told_lines (is_told life ended) code events)
    → IfOk r (λ report. CodeEnds code life report.ran report.events.items limit told left out out')
report_came (Ok report) code life ended limit told left out out' events says ran lines =
    subst (λ (o : Option Ran). IfSome o (λ ran. CodeEnds code life ran report.events.items limit told left out
    out')) ran
    (said_came code life ended limit told left out out' events report.events.items says lines)
report_came (Err e) code life ended limit told left out out' events says ran lines = tt

-- a run of code of which no more is told than that a front of what it writes was written
pub came_cut : (code : Code) (life : Bool) (ran : Ran) (lines : Bytes) (limit : ℕ)
    (told left out out' : Option (List ℕ)) → CodeEnds code life ran lines limit told left out out'
    → IsCut (low_run false code) limit told out out'
came_cut code life how.ReadFault lines limit told left out out' came =
    waited_cut code limit told left out out' []
    (waited_muted life code limit told left out out' came.events came.waits)
came_cut code life how.WriteFault lines limit told left out out' came = came
came_cut code life other lines limit told left out out' came =
    made_cut came.ending (low_run false code) limit told left out out' []
    (made_muted life code came.ending limit told left out out' came.events came.made)
