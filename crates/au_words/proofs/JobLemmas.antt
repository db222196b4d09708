-- The job that words ask for is the one that is read.
use Rattle.std.proofs.Common.{◌≡◌, ◌≢◌, ℕ, zero, suc, List, [], ◌∷◌, String, map, Option, Some, None, Result}
use Rattle.std.proofs.Common.{Ok, Err, IfOk, option_map, codes, ap, ◌∙◌, sym, refl, subst, arith, inl, inr}
use Rattle.std.specs.Global.{Global}
use Rattle.std.specs.List.{All}
use Rattle.std.specs.Str.{IsUtf8, bytes_eq}
use Rattle.std.specs.String.{string_bytes}
use Rattle.std.proofs.lemmas.Slice.Eq.{bytes_eq-Decides}
use Rattle.std.proofs.lemmas.Str.{IsUtf8-string_bytes}
use Rattle.clap.specs.Faults.{fault_of}
use Rattle.clap.specs.Matches.{subcommand_name_of}
use Rattle.clap.specs.Simple.{subcommand_of, subcommand_rows_of}
use Rattle.clap.specs.Walk.{Row}
use Rattle.clap.specs.declared.ArgMatches.{ArgMatches}
use Rattle.clap.specs.declared.ArgMatches.TheViews.{out-ArgMatches}
use Rattle.au_words.specs.Given.{AreGiven, Given, Shows, program}
use Rattle.au_base.proofs.BoolLemmas.{cond_cases}
use Rattle.au_words.specs.Jobs.{Said, Task, task_of, task_said, command_word, AreSaid, IsJob, IsNoJob}
use Rattle.au_words.specs.Reading.{GivesTask, IsFound, command_at, said_at, said_for}
use Rattle.au_words.specs.declared.jobs.Command.{Command}
use Rattle.au_words.specs.declared.jobs.Command.TheVariants.{Run, Compile, Explain, Check, Format, Caps}
use Rattle.au_words.specs.declared.jobs.Job.{Job}
use Rattle.au_words.specs.declared.jobs.WordsFault.{WordsFault}
use Rattle.au_words.specs.declared.jobs.WordsFault.TheVariants.{NoJob, Memory}
use Rattle.au_words.proofs.LeafLemmas.{leaf_complete, leaf_sound}
use Rattle.au_words.proofs.Leaves.{leaf_rows}
use Rattle.au_words.proofs.PieceLemmas.{given_said, said_given}
use Rattle.au_words.proofs.TopLemmas.{top_complete, top_rows, top_sound}
use Rattle.au_words.proofs.ValueLemmas.{said_again, said_to, same_given}

-- the words of a program are text
pub all_utf8 : (words : List (String Global)) → All IsUtf8 (map string_bytes words)
all_utf8 [] k d lt = absurd (omega arith)
all_utf8 (word ∷ words) zero d lt = IsUtf8-string_bytes word
all_utf8 (word ∷ words) (suc k) d lt = all_utf8 words k d (omega arith)

names_first : {X : Type 0} (name : X → List ℕ) (rows : X → List Row) (o : Option X) →
    option_map name o ≡ option_map (λ (p : List ℕ × List Row). p.0) (option_map (λ x. (name x, rows x)) o)
names_first name rows None = refl
names_first name rows (Some x) = refl

-- the name of the command that was found, by what was found of it
pub name_of_rows : (found : ArgMatches) → subcommand_name_of found ≡ option_map (λ p. p.0) (subcommand_rows_of found)
name_of_rows found = names_first _ _ (out-ArgMatches found).subcommand

-- a command by its word
pub command_found : (word : List ℕ) (command : Command) → command_at word ≡ Some command → word ≡ command_word command
unfolding command_at
command_found word command h =
    let Found : Command → Type 0 = λ c. word ≡ command_word c in
    elim (cond_cases (bytes_eq word (codes "run")) _ _ (Some command) h) [
      | inl w ↦ let same : Run ≡ command = (let e = w.1 in cc)
          in subst Found same ((bytes_eq-Decides word (codes "run")).0 w.0)
      | inr w ↦ elim (cond_cases (bytes_eq word (codes "compile")) _ _ (Some command) w.1) [
        | inl v ↦ let same : Compile ≡ command = (let e = v.1 in cc)
            in subst Found same ((bytes_eq-Decides word (codes "compile")).0 v.0)
        | inr v ↦ elim (cond_cases (bytes_eq word (codes "explain")) _ _ (Some command) v.1) [
          | inl u ↦ let same : Explain ≡ command = (let e = u.1 in cc)
              in subst Found same ((bytes_eq-Decides word (codes "explain")).0 u.0)
          | inr u ↦ elim (cond_cases (bytes_eq word (codes "check")) _ _ (Some command) u.1) [
            | inl t ↦ let same : Check ≡ command = (let e = t.1 in cc)
                in subst Found same ((bytes_eq-Decides word (codes "check")).0 t.0)
            | inr t ↦ elim (cond_cases (bytes_eq word (codes "format")) _ _ (Some command) t.1) [
              | inl s ↦ let same : Format ≡ command = (let e = s.1 in cc)
                  in subst Found same ((bytes_eq-Decides word (codes "format")).0 s.0)
              | inr s ↦ elim (cond_cases (bytes_eq word (codes "caps")) _ _ (Some command) s.1) [
                | inl r ↦ let same : Caps ≡ command = (let e = r.1 in cc)
                    in subst Found same ((bytes_eq-Decides word (codes "caps")).0 r.0)
                | inr r ↦ absurd (let e = r.1 in cc)
              ]
            ]
          ]
        ]
      ]
    ]

pub command_again : (command : Command) → command_at (command_word command) ≡ Some command
unfolding command_at
command_again Run = refl
command_again Compile = refl
command_again Explain = refl
command_again Check = refl
command_again Format = refl
command_again Caps = refl

same_command : (command other : Command) → command_word command ≡ command_word other → command ≡ other
same_command command other h =
    let known : Some command ≡ Some other = sym (command_again command) ∙ ap command_at h ∙ command_again other in
    let alike : command ≡ other = (let e = known in cc) in
    alike

-- words are one command's, with the same words behind it
same_words : (words rest rest' : List (List ℕ)) (command other : Command) →
    words ≡ command_word command ∷ rest → words ≡ command_word other ∷ rest' → (other ≡ command)
    × (rest' ≡ rest)
same_words words rest rest' command other spelled spelled' =
    let both : command_word other ∷ rest' ≡ command_word command ∷ rest = sym spelled' ∙ spelled in
    let first : command_word other ≡ command_word command = (let e = both in cc) in
    (same_command other command first, (let e = both in cc))

-- words give one thing
one_given : (command : Command) (words : List (List ℕ)) (what other : Given) → AreGiven command words what →
    AreGiven command words other → other ≡ what
one_given command words what other are are' =
    let shows = (leaf_complete command words what are).1 in
    let shows' = (leaf_complete command words other are').1 in
    same_given what other.parts other.entry other.steps other.life _ (sym shows'.parts ∙ shows.parts)
    (sym shows'.entry ∙ shows.entry) (sym shows'.steps ∙ shows.steps) shows'.life shows.life

-- a command and what is behind it, of words that are a job
pub given_by_job : (words rest : List (List ℕ)) (command : Command) (task : Task) →
    words ≡ command_word command ∷ rest → IsJob words task
    → (what : Given) × (said : Said) × AreGiven command rest what × (said_for command what ≡ Some said)
    × (task ≡ task_said command said)
given_by_job words rest command task spelled (other, rest', said, spelled', are, same) =
    let alike = same_words words rest rest' command other spelled spelled' in
    let here : AreSaid command rest said = subst (λ c. AreSaid c rest said) alike.0
    (subst (λ l. AreSaid other l said) alike.1 are) in
    let given = said_given command rest said here in
    (given.0, said, given.1, said_again command given.0 said given.2 here.counted, same ∙ ap (λ c. task_said c said) alike.0)

-- the command that was found, and what is given behind it
pub found_so : (words : List (List ℕ)) (is : IsFound words (subcommand_of program words)) (found : ArgMatches)
    (word : List ℕ) (rows : List Row)
    → subcommand_rows_of found ≡ subcommand_of program words → Some word ≡ subcommand_name_of found →
    Some rows ≡ option_map (λ p. p.1) (subcommand_rows_of found)
    → (word ≡ command_word is.0) × Shows rows is.3
found_so words is found word rows shown name behind =
    let both = shown ∙ is.6 in
    let named : Some word ≡ Some (command_word is.0) = name ∙ name_of_rows found ∙ ap (option_map (λ p. p.0)) both in
    let same : Some rows ≡ Some is.2 = behind ∙ ap (option_map (λ p. p.1)) both in
    let alike : is.2 ≡ rows = (let e = same in cc) in
    ((let e = named in cc), subst (λ (r : List Row). Shows r is.3) alike is.7)

-- words that the library takes are found
pub matched : (words : List (List ℕ)) → All IsUtf8 words → fault_of program words ≡ [] →
    IsFound words (subcommand_of program words)
matched words utf8 passes =
    let top = top_sound words passes in
    let rest_utf8 : All IsUtf8 top.1 = λ k d lt. subst (All IsUtf8) top.2 utf8 (suc k) d (omega arith) in
    let given = leaf_sound top.0 top.1 rest_utf8 top.3 in
    let shows = (leaf_complete top.0 top.1 given.0 given.1).1 in (
      top.0,
      top.1,
      leaf_rows top.0 top.1,
      given.0,
      top.2,
      given.1,
      ap (subcommand_of program) top.2
          ∙ top_rows top.0 top.1,
      shows,
    )

-- words that the library refuses are no job
pub unmatched : (words : List (List ℕ)) → fault_of program words ≢ [] → IsNoJob words
unmatched words fails task (command, rest, said, spelled, are, same) =
    let given = said_given command rest said are in
    let passes = top_complete command rest (leaf_complete command rest given.0 given.1).0 in
    fails (ap (fault_of program) spelled ∙ passes)

-- the job that is read is the one that is asked for
pub job_asked : (words : List (List ℕ)) (found : Option (List ℕ × List Row)) (is : IsFound words found)
    (result : Result Job WordsFault) → GivesTask is.0 result (said_for is.0 is.3)
    → IfOk result (λ job. IsJob words (task_of job))
job_asked words found is (Ok job) gives =
    let said = said_to is.0 (said_at is.3) gives.0 gives.1 in
    (is.0, is.1, gives.0, is.4, given_said is.0 is.1 is.3 gives.0 is.5 said.0 said.1, gives.2)
job_asked words found is (Err fault) gives = tt

-- words in which no job is read ask for none
pub no_job_asked : (words : List (List ℕ)) (found : Option (List ℕ × List Row)) (is : IsFound words found)
    (result : Result Job WordsFault) → GivesTask is.0 result (said_for is.0 is.3)
    → result ≡ Err NoJob → IsNoJob words
no_job_asked words found is (Ok job) gives none = absurd (let e = none in cc)
no_job_asked words found is (Err Memory) gives none = absurd (let e = none in cc)
no_job_asked words found is (Err NoJob) gives none = λ task asks.
    let given = given_by_job words is.1 is.0 task is.4 asks in
    let same = one_given is.0 is.1 is.3 given.0 is.5 given.2 in
    let both : Some given.1 ≡ None = sym given.3 ∙ ap (said_for is.0) same ∙ gives in
    cc

-- words ask for one job at most
pub one_job : (words : List (List ℕ)) (task other : Task) → IsJob words task → IsJob words other → task ≡ other
one_job words task other (command, rest, said, spelled, are, is) job =
    let given = said_given command rest said are in
    let given' = given_by_job words rest command other spelled job in
    let same = one_given command rest given.0 given'.0 given.1 given'.2 in
    let both : Some given'.1 ≡ Some said = sym given'.3 ∙ ap (said_for command) same
    ∙ said_again command given.0 said given.2 are.counted in
    let alike : given'.1 ≡ said = (let e = both in cc) in
    is ∙ (ap (task_said command) (sym alike) ∙ sym given'.4)
