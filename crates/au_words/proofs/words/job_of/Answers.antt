-- The word is a command's, so that its job is read.
use Rattle.std.proofs.Common.{◌≡◌, Some, None, ap, ◌∙◌, sym, subst}
use Rattle.au_words.specs.Reading.{GivesTask, command_at, said_for}
use Rattle.au_words.specs.declared.jobs.Command.{Command}
use Rattle.au_words.proofs.JobLemmas.{command_again}
use Rattle.au_words.proofs.words.job_of.Goals as goal

pub returns-in-Some : goal.returns-in-Some
returns-in-Some c = λ asked what is shows.
    let known : Some asked ≡ Some c.in-Some.command = sym (command_again asked) ∙ ap command_at (sym is)
    ∙ sym c.command.ensures ∙ c.in-Some.is in
    let alike : c.in-Some.command ≡ asked = (let e = known in cc) in
    subst (λ (one : Command). GivesTask one c.job.result (said_for one what)) alike (c.job.ensures what shows)

pub returns-in-None : goal.returns-in-None
returns-in-None c = λ asked what is shows.
    let known : Some asked ≡ None = sym (command_again asked) ∙ ap command_at (sym is) ∙ sym c.command.ensures
    ∙ c.in-None.is in
    absurd (let e = known in cc)
