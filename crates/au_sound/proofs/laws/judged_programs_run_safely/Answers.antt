use Rattle.au_sound.proofs.CallLemmas.{calls_hold}
use Rattle.au_sound.proofs.MainLemmas.{runs_well}
use Rattle.au_sound.proofs.WireLemmas.{runs_are_safe}
use Rattle.au_sound.proofs.laws.judged_programs_run_safely.Goals as goal

pub returns-clause-runs : goal.returns-clause-runs
returns-clause-runs g c = λ types owner typed permits known calls functions.
    runs_well types owner permits (runs_are_safe types owner typed) known calls functions

pub returns-clause-calls : goal.returns-clause-calls
returns-clause-calls g c = λ types owner typed permits known calls functions all.
    calls_hold types owner permits (runs_are_safe types owner typed) known calls functions all
