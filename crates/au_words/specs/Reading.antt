-- What stands in the words of a command line, as functions of them: the file names of a part, an entry, and a
-- number of steps.
use Rattle.std.specs.Prelude.{◌≡◌, ℕ, ◌+◌, Bool, not, nat_eq, nat_le, ◌==◌, ◌&&◌, List, [], ◌∷◌, ◌++◌, length}
use Rattle.std.specs.Prelude.{map, take, drop, Option, Some, None, Result, Ok, Err, Vec, String}
use Rattle.std.specs.Prelude.{if◌then◌else◌, codes, option_and_then, option_map}
use Rattle.std.specs.List.{list_all, list_any, prefix_len, slice_split, starts_with}
use Rattle.std.specs.Global.{Global}
use Rattle.std.specs.Str.{bytes_eq}
use Rattle.std.specs.Str.Parse.{digits_value}
use Rattle.std.specs.String.{string_bytes}
use Rattle.au_base.specs.Limits.{most_name_bytes}
use Rattle.au_lexer.specs.Bytes.{is_digit}
use Rattle.clap.specs.Walk.{Row}
use Rattle.au_words.specs.Given.{AreGiven, Given, Shows}
use Rattle.au_words.specs.Jobs.{Said, command_word, task_of, task_said, takes_files}
use Rattle.au_words.specs.Jobs.{is_other, is_name, most_steps}
use Rattle.au_words.specs.declared.jobs.Command.{Command}
use Rattle.au_words.specs.declared.jobs.Command.TheVariants.{Run, Compile, Explain, Check, Format, Caps}
use Rattle.au_base.specs.declared.names.Entry.{Entry}
use Rattle.au_words.specs.declared.jobs.Job.{Job}
use Rattle.au_words.specs.declared.jobs.WordsFault.{WordsFault}
use Rattle.au_words.specs.declared.jobs.WordsFault.TheVariants.{NoJob, Memory}

-- What a function answers is this, or memory runs out.
abbrev pub Finds : {X : Type 0} → Result X WordsFault → Option X → Type 0
Finds (Ok value) found = found ≡ Some value
Finds (Err NoJob) found = found ≡ None
Finds (Err Memory) found = Unit {0}

-- The same where the value is file names, by their bytes.
abbrev pub FindsFiles : Result (Vec (String Global) Global) WordsFault → Option (List (List ℕ)) → Type 0
FindsFiles (Ok value) found = found ≡ Some (map string_bytes value.items)
FindsFiles (Err NoJob) found = found ≡ None
FindsFiles (Err Memory) found = Unit {0}

-- what stands between the signs in bytes
abbrev pub between : ℕ → List ℕ → List (List ℕ)
between sign bytes = slice_split (λ byte. byte == sign) bytes

-- whether a name has no byte
abbrev pub is_empty : List ℕ → Bool
is_empty name = length name == 0

-- the file names of a part: what stands between its commas, where something does
unfoldable pub part_at : List ℕ → Option (List (List ℕ))
part_at word = if list_any is_empty (between 44 word) then None else Some (between 44 word)

-- the file names of parts, in order
abbrev pub files_at : List (List ℕ) → Option (List (List ℕ))
files_at [] = Some []
files_at (word ∷ words) =
    option_and_then (λ names. option_map (λ others. names ++ others) (files_at words)) (part_at word)

-- how many bytes stand before the first colon
abbrev pub home_size : List ℕ → ℕ
home_size bytes = prefix_len (is_other 58) bytes

-- the bytes before the first colon
abbrev pub home_at : List ℕ → List ℕ
home_at bytes = take (home_size bytes) bytes

-- the bytes behind the first colon
abbrev pub function_at : List ℕ → List ℕ
function_at bytes = drop (home_size bytes + 1) bytes

-- whether bytes are a module's name of at most 64 bytes
abbrev pub is_home : List ℕ → Bool
is_home bytes = nat_le (length bytes) most_name_bytes && list_all is_name (between 46 bytes)

-- whether bytes are a name of at most 64 bytes
abbrev pub is_function : List ℕ → Bool
is_function bytes = nat_le (length bytes) most_name_bytes && is_name bytes

-- the entry that bytes spell
unfoldable pub entry_at : List ℕ → Option Entry
entry_at bytes =
    if home_size bytes == length bytes then None
    else (if is_home (home_at bytes) && is_function (function_at bytes) then
    Some (record { «module» = home_at bytes; function = function_at bytes })
    else None)

-- whether bytes are one to thirteen digits, the first of them no zero
abbrev pub are_digits : List ℕ → Bool
are_digits bytes =
    nat_le (length bytes) 13 && list_all is_digit bytes && not (starts_with nat_eq bytes (codes "0"))

-- the number of steps that bytes spell
unfoldable pub steps_at : List ℕ → Option ℕ
steps_at bytes =
    if are_digits bytes && nat_le 1 (digits_value 10 bytes) && nat_le (digits_value 10 bytes) most_steps then
    Some (digits_value 10 bytes)
    else None

-- what is read of a value that may be there: nothing where there is none
abbrev pub optional : {X : Type 0} → (List ℕ → Option X) → Option (List ℕ) → Option (Option X)
optional read None = Some None
optional read (Some bytes) = option_map (λ value. Some value) (read bytes)

-- what is said by what is given: nothing, where a part is no part or a value no value
unfoldable pub said_at : Given → Option Said
said_at what =
    option_and_then (λ names. option_and_then (λ value. option_map (λ count.
    record { files = names; entry = value; steps = count; life = what.life })
    (optional steps_at what.steps)) (optional entry_at what.entry)) (files_at what.parts)

-- what is said, if the command takes so many files
unfoldable pub counted_for : Command → Said → Option Said
counted_for command said = if takes_files command (length said.files) then Some said else None

-- what is said to a command by what is given
abbrev pub said_for : Command → Given → Option Said
said_for command what = option_and_then (counted_for command) (said_at what)

-- the command that a word is
unfoldable pub command_at : List ℕ → Option Command
command_at word =
    if bytes_eq word (codes "run") then Some Run
    else (if bytes_eq word (codes "compile") then Some Compile
    else (if bytes_eq word (codes "explain") then Some Explain
    else (if bytes_eq word (codes "check") then Some Check
    else (if bytes_eq word (codes "format") then Some Format
    else (if bytes_eq word (codes "caps") then Some Caps
    else None)))))

-- What is found in words: the word of a command, and what the words behind it give.
abbrev pub IsFound : List (List ℕ) → Option (List ℕ × List Row) → Type 0
IsFound words found =
    (command : Command) × (rest : List (List ℕ)) × (rows : List Row) × (what : Given)
    × (words ≡ command_word command ∷ rest) × AreGiven command rest what
    × (found ≡ Some (command_word command, rows)) × Shows rows what

-- What a function answers that reads what a command is given: its job, or that there is none.
abbrev pub GivesTask : Command → Result Job WordsFault → Option Said → Type 0
GivesTask command (Ok job) read = (said : Said) × (read ≡ Some said) × (task_of job ≡ task_said command said)
GivesTask command (Err NoJob) read = read ≡ None
GivesTask command (Err Memory) read = Unit {0}
