-- What is found in words is the word of a command, and what those behind it give.
use Rattle.std.proofs.Common.{rules, ◌≡◌, List, ℕ, Some, None, map, option_map, ap, ◌∙◌}
use Rattle.std.specs.String.{string_bytes}
use Rattle.clap.specs.Words.{found_of, rows_of, subcommand_of}
use Rattle.au_words.specs.Given.{program}
use Rattle.au_words.specs.Jobs.{command_word}
use Rattle.au_words.specs.Reading.{IsFound}
use Rattle.au_words.proofs.JobLemmas.{all_utf8, found_so, job_asked, matched, name_of_rows, no_job_asked, unmatched}
use Rattle.au_words.proofs.words.read_words.Goals as goal

pub returns-in_err-found-clause-no_job : goal.returns-in_err-found-clause-no_job
returns-in_err-found-clause-no_job c = λ is. unmatched (map string_bytes c.args.words.now)
    (c.found_in.ensures.fails (search rules))

pub returns-in-Some-clause-job : goal.returns-in-Some-clause-job
returns-in-Some-clause-job c =
    let words : List (List ℕ) = map string_bytes c.args.words.now in
    let is : IsFound words (subcommand_of program words) = matched words (all_utf8 c.args.words.now)
    c.in_ok-found.ensures.passes in
    let so = found_so words is c.in_ok-found.found c.in-Some.word.now
    (rows_of (found_of c.in-Some.behind.now)) c.in_ok-found.ensures.rows c.in-Some.ensures.name
    c.in-Some.ensures.rows in
    job_asked words (subcommand_of program words) is c.job_of.result (c.job_of.ensures is.0 is.3 so.0 so.1)

pub returns-in-Some-clause-no_job : goal.returns-in-Some-clause-no_job
returns-in-Some-clause-no_job c =
    let words : List (List ℕ) = map string_bytes c.args.words.now in
    let is : IsFound words (subcommand_of program words) = matched words (all_utf8 c.args.words.now)
    c.in_ok-found.ensures.passes in
    let so = found_so words is c.in_ok-found.found c.in-Some.word.now
    (rows_of (found_of c.in-Some.behind.now)) c.in_ok-found.ensures.rows c.in-Some.ensures.name
    c.in-Some.ensures.rows in
    no_job_asked words (subcommand_of program words) is c.job_of.result (c.job_of.ensures is.0 is.3 so.0 so.1)

pub returns-clause-no_job : goal.returns-clause-no_job
returns-clause-no_job c =
    let words : List (List ℕ) = map string_bytes c.args.words.now in
    let is : IsFound words (subcommand_of program words) = matched words (all_utf8 c.args.words.now)
    c.in_ok-found.ensures.passes in
    let named : None ≡ Some (command_word is.0) = c.in-None.ensures.name ∙ name_of_rows c.in_ok-found.found
    ∙ ap (option_map (λ p. p.0)) (c.in_ok-found.ensures.rows ∙ is.6) in
    absurd (let e = named in cc)
