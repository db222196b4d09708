-- Calls in the bodies of a checked program.
use Rattle.std.proofs.Common.{List, refl}
use Rattle.au_judged_types.specs.Bounds.{Bounded, parameters}
use Rattle.au_modules.specs.Programs.{ModuleParts}
use Rattle.au_judged_bodies.specs.Held.{IsPermitted, Permits}
use Rattle.au_judged_bodies.specs.Keys.{Key}
use Rattle.au_judged_bodies.specs.Known.{Calls}
use Rattle.au_judged_bodies.specs.Trees.{NotedParts}
use Rattle.au_owners.specs.Owners.{owner_of}
use Rattle.au_judged_programs.proofs.CallsRunCallLemmas.{all_run}
use Rattle.au_judged_programs.proofs.CheckedLemmas.{program_fits}
use Rattle.au_judged_programs.proofs.MethodLemmas.{methods_of_programs}
use Rattle.au_judged_programs.proofs.ShippedCallLemmas.{shipped_seen}
use Rattle.au_judged_programs.specs.CheckedChecked.{IsChecked}
use Rattle.au_judged_programs.specs.Judged.{CallsRunInBodies, anything, anywhere}
use Rattle.au_judged_programs.specs.RunningBodiesBodies.{generics_of}
use Rattle.au_judged_programs.specs.Entries.{CallsOfProgramsRun, OthersOfProgramsAreSeen}

-- calls of shipped functions and of methods
pub others_seen : (program : List ModuleParts) (noted : List NotedParts) → OthersOfProgramsAreSeen program noted
others_seen program noted checked key regions s z active runs holds =
    let generics : List Bounded = generics_of program noted key.body key.one.given in (
      shipped_seen program noted checked key.body.place (parameters generics) regions key.one.given s z active runs,
      methods_of_programs program noted checked key.body.place generics key.one.given regions s z active runs holds,
    )

-- all calls
pub calls_of_programs : (program : List ModuleParts) (noted : List NotedParts) {E H : Type 0}
    (calls : Calls (Key program noted) E) (handed : Permits (Key program noted) H)
    → CallsOfProgramsRun program noted calls handed
calls_of_programs program noted calls handed checked allowed key =
    all_run program noted key.body.place (generics_of program noted key.body key.one.given) key.one.given calls key
    (IsPermitted handed key) (program_fits program noted checked) (others_seen program noted checked key) (allowed key)

-- where all are allowed
pub any_calls : (program : List ModuleParts) (noted : List NotedParts) → IsChecked program noted
    → CallsRunInBodies program noted (anything (Key program noted)) (anywhere (Key program noted)) (owner_of program)
any_calls program noted checked =
    calls_of_programs program noted (anywhere (Key program noted)) (anything (Key program noted)) checked
    (λ key to handed. ((key, to), refl, refl))
