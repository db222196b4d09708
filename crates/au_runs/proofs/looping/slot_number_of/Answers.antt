use Rattle.std.proofs.Common.{ap, ◌∙◌, Option}
use Rattle.au_low.specs.Machines.{Low}
use Rattle.au_effects.specs.Parts.{along}
use Rattle.au_effects.specs.Numbers.{number_of}
use Rattle.au_runs.proofs.looping.slot_number_of.Goals as goal

pub returns-in-Some-clause-is : goal.returns-in-Some-clause-is
returns-in-Some-clause-is c =
    c.number_of.ensures.is ∙ ap (λ (found : Option Low). along found
    (number_of c.args.kind)) c.in-Some.ensures.is

pub returns-in-None-clause-is : goal.returns-in-None-clause-is
returns-in-None-clause-is c =
    ap (λ (found : Option Low). along found (number_of c.args.kind)) c.in-None.ensures.is
