-- A run of code whose events are kept is the one whose events aren't, but for the events.
use Rattle.std.proofs.Common.{◌≡◌, ℕ, Bool, true, false, List, [], Option, refl, sym, ap, subst, ◌∙◌}
use Rattle.au_effects.specs.Worlds.{Deed}
use Rattle.au_low.proofs.MutedRuns.{kept}
use Rattle.au_low.specs.Kept.{without_events}
use Rattle.au_low.specs.Runs.{low_run}
use Rattle.au_low.specs.declared.code.Code.{Code}
use Rattle.au_low.specs.declared.endings.Ending.{Ending}
use Rattle.au_runs.specs.Calls.{HasWaited, IsCut, IsMade, Runs}

-- whether its events are kept or not, without them it is the run whose events aren't kept
muted : (life : Bool) (code : Code) (input : List ℕ) (limit : ℕ)
    → low_run false code input limit ≡ without_events (low_run life code input limit)
muted true code input limit = kept code input limit
muted false code input limit = kept code input limit ∙ sym (ap without_events (kept code input limit))

-- runs without their events
abbrev mute : Runs → Runs
mute run input limit = without_events (run input limit)

all_muted : (life : Bool) (code : Code) → mute (low_run life code) ≡ low_run false code
all_muted life code = λ j input limit. sym (muted life code input limit) j

-- what was made, waits or was cut off was so without its events
pub made_muted : (life : Bool) (code : Code) (ends : Ending) (limit : ℕ) (told left out out' : Option (List ℕ))
    (events : List (Deed ℕ)) → IsMade ends (low_run life code) limit told left out out' events
    → IsMade ends (low_run false code) limit told left out out' []
made_muted life code ends limit told left out out' events made =
    subst (λ (run : Runs). IsMade ends run limit told left out out' []) (all_muted life code) (record {
      taken = made.taken;
      rest = made.rest;
      input = made.input;
      ending = made.ending;
      output = made.output;
      left_over = made.left_over;
      counted = made.counted;
      tells = refl;
    })

pub waited_muted : (life : Bool) (code : Code) (limit : ℕ) (told left out out' : Option (List ℕ))
    (events : List (Deed ℕ)) → HasWaited (low_run life code) limit told left out out' events
    → HasWaited (low_run false code) limit told left out out' []
waited_muted life code limit told left out out' events waited =
    subst (λ (run : Runs). HasWaited run limit told left out out' []) (all_muted life code) (record {
      taken = waited.taken;
      output = waited.output;
      made = waited.made;
      input = waited.input;
      written = waited.written;
      within = waited.within;
      so_far = λ rest. ap without_events (waited.so_far rest);
      next = waited.next;
    })

pub cut_muted : (life : Bool) (code : Code) (limit : ℕ) (told out out' : Option (List ℕ))
    → IsCut (low_run life code) limit told out out' → IsCut (low_run false code) limit told out out'
cut_muted life code limit told out out' cut =
    subst (λ (run : Runs). IsCut run limit told out out') (all_muted life code)
    (record { input = cut.input; given = cut.given; front = cut.front })
