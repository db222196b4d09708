-- What is found is what is given.
use Rattle.std.proofs.Common.{◌≡◌, ◌∙◌, None, Some, codes, map, option_map, subst}
use Rattle.clap.specs.Words.{found_of}
use Rattle.clap.proofs.WalkLemmas.{first_value-rows, raw_values-rows}
use Rattle.au_words.specs.Reading.{GivesTask, said_for}
use Rattle.au_words.proofs.ValueLemmas.{same_given}
use Rattle.au_words.proofs.values.job.Goals as goal

pub returns-in_default : goal.returns-in_default
returns-in_default c = λ what shows.
    let none : None ≡ Some what.parts = c.in_default.ensures ∙ raw_values-rows (found_of c.args.found.now)
    (codes "part") ∙ shows.parts in
    absurd (cc)

pub returns : goal.returns
returns c = λ what shows.
    let found = found_of c.args.found.now in
    let same = same_given what
    (map (λ part. part.now) c.in-Some.parts.now) (option_map (λ text. text.now) c.get_str-entry.result)
    (option_map (λ text. text.now) c.get_str-steps.result) c.has_life.result _
    (c.in-Some.ensures ∙ raw_values-rows found (codes "part") ∙ shows.parts)
    (c.get_str-entry.ensures ∙ first_value-rows found (codes "entry") ∙ shows.entry)
    (c.get_str-steps.ensures ∙ first_value-rows found (codes "steps") ∙ shows.steps)
    c.has_life.ensures shows.life in
    subst (λ g. GivesTask c.args.command c.task.result (said_for c.args.command g)) same c.task.ensures
