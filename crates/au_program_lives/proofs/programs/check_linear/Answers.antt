use Rattle.std.proofs.Common.{sym, ◌∙◌}
use Rattle.au_modules.specs.Slots as slots
use Rattle.au_program_lives.proofs.GoodLemmas.{good_from}
use Rattle.au_program_lives.proofs.programs.check_linear.Goals as goal

pub returns-in-None-clause-good : goal.returns-in-None-clause-good
returns-in-None-clause-good c =
    good_from (slots.modules c.args.resolved.now) (sym c.in_ok-fault.ensures ∙ c.in-None.is)
