-- Each value is read, and the steps are the usual ones where none are given.
use Rattle.std.proofs.Common.{◌∙◌, ℕ, List, ap, map, option_map, sym}
use Rattle.std.specs.String.{string_bytes}
use Rattle.std.proofs.lemmas.List.{length-map}
use Rattle.au_words.specs.Jobs.{Said, Task, takes_files, task_said}
use Rattle.au_words.specs.declared.jobs.Command.{Command}
use Rattle.au_words.proofs.ValueLemmas.{all_said, given_of, said_again, said_of}
use Rattle.au_words.proofs.values.task.Goals as goal

-- the task of a command with what is said, with these steps
abbrev with_steps : Command → Said → ℕ → Task
with_steps command said steps = record (task_said command said) { steps = steps }

pub returns : goal.returns
returns c =
    let what = given_of (map (λ part. part.now) c.args.parts.now) (option_map (λ text. text.now) c.args.entry)
    (option_map (λ text. text.now) c.args.steps) c.args.life in
    let names : List (List ℕ) = map string_bytes c.in_ok-files.files.items in
    let said = said_of c.args.life names c.in_ok-entry.entry c.in_ok-steps.steps in (
      said,
      said_again c.args.command what said (all_said what names c.in_ok-entry.entry c.in_ok-steps.steps
          c.in_ok-files.ensures c.in_ok-entry.ensures c.in_ok-steps.ensures)
          (ap (takes_files c.args.command) (length-map c.in_ok-files.files.items string_bytes
          ∙ sym (c.len.ensures ∙ c.in_ok-files.files.ok.0))
          ∙ sym c.takes_files.ensures ∙ c.if-not-takes_files.false),
      ap (with_steps c.args.command said) c.unwrap_or.ensures,
    )
