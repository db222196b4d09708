-- What words ask of the program of their files.
use Rattle.au_words.specs.Jobs.{Task}
use Rattle.au_words.specs.declared.jobs.Command.{Command}
use Rattle.au_words.specs.declared.jobs.Command.TheVariants as command
use Rattle.au_outcomes.specs.declared.outcomes.Aim.{Aim}
use Rattle.au_outcomes.specs.declared.outcomes.Aim.TheVariants as aims

-- what a command asks of the program of files
abbrev pub asked_by : Command → Aim
asked_by command.Run = aims.Run
asked_by command.Compile = aims.Compile
asked_by command.Explain = aims.Explain
asked_by command.Check = aims.Check
asked_by command.Format = aims.Format
asked_by command.Caps = aims.Caps

-- the same of what is asked for
abbrev pub asked_of : Task → Aim
asked_of task = asked_by task.command
