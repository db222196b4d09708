-- Accepted programs are sound.
use Rattle.std.proofs.Common.{◌≡◌, ℕ, Bool, List, Option, subst}
use Rattle.au_base.specs.Outside.{Files}
use Rattle.au_syntax.specs.Plain.{Bytes}
use Rattle.au_type_texts.specs.Types.{ClosedType}
use Rattle.au_names.specs.declared.targets.Target.{Target}
use Rattle.au_meaning.specs.Worlds.{Outcome}
use Rattle.au_closed_meanings.specs.Numbers.{first_name}
use Rattle.au_closing_laws.specs.Accepted.{AreAcceptedAs}
use Rattle.au_closing_laws.specs.Programs.{program_modules}
use Rattle.au_closing_laws.specs.Trees.{ReadFile}
use Rattle.au_judged_bodies.specs.Entries.{begins, entry_of}
use Rattle.au_owners.specs.Owners.{owner_of}
use Rattle.au_sound.specs.Runs.{EndsWell, IsSeenWell}
use Rattle.au_judged_programs.specs.Sound.{RunIsSound, run_of}
use Rattle.au_judged_programs.proofs.EntryLemmas.{entries_well}
use Rattle.au_judged_programs.proofs.FitLemmas.{accepted_checked}
use Rattle.au_judged_programs.proofs.FoundLemmas.{found_entry}

-- a run that is seen well is sound
seen_sound : (owner : ClosedType → Option (List ℕ)) (seen : Outcome) → IsSeenWell owner seen → RunIsSound owner seen
seen_sound owner seen well = record {
  goes_on = λ is. subst (EndsWell seen.world) is well.ended;
  once = well.once;
  inside = well.inside;
  own = well.own;
  consumed = λ b is. (subst (EndsWell seen.world) is well.ended).0;
  closed = λ b is. (subst (EndsWell seen.world) is well.ended).1;
  exclusive = λ is. subst (EndsWell seen.world) is well.ended;
}

module _ (files : Files) (names all : List (List ℕ)) (reads : List ReadFile) (a : AreAcceptedAs files names all reads)
  where
    pub accepted_sound : (owner name : Bytes) (target : Target) (root : Bool)
        → entry_of (program_modules reads) owner name ≡ begins target root → (input : List ℕ) (ticks : ℕ)
        → RunIsSound (owner_of (program_modules reads)) (run_of (program_modules reads) a.noted target input ticks)
    accepted_sound owner name target root found input ticks =
        let checked = accepted_checked files names all reads a in
        seen_sound (owner_of (program_modules reads)) (run_of (program_modules reads) a.noted target input ticks)
        (entries_well (program_modules reads) a.noted checked target
        (found_entry (program_modules reads) a.noted checked owner name target root found)
        (first_name (program_modules reads) a.noted) input ticks)
