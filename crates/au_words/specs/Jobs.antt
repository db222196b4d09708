-- The jobs of a command line, and how words spell them.
--
-- Words are the command line without the program's name. The first word is the command: `run`, `compile`,
-- `explain`, `check`, `format` or `caps`. Behind it stand parts and options in any order: at least one
-- part, and each option at most once. `run` takes `--entry=M:f`, `--steps=N` and `--life`, `compile` takes
-- `--entry=M:f`, and the others take none. No option is abbreviated, and there is no other. `format` takes
-- one file name and no more.
--
-- The value of `--entry` and of `--steps` stands behind `=` in the same word, or is the next word, which
-- then doesn't begin with `-`. `--life` has no value. A part is one file name or more with single commas
-- between, none of them empty. A word that begins with `-` and has more bytes is no part. Behind a word
-- `--` all words are parts, whatever they begin with, and there may be none.
--
-- N is a number from 1 to 1,000,000,000,000 in decimal digits, with no zero before it and no sign.
-- Without the option the steps are 1,000,000,000. M is names with single dots between, of at most 64
-- bytes together, and f is a name of at most 64 bytes. A name is a letter and then letters, digits and
-- `_`, and no keyword.
use Rattle.std.specs.Prelude.{◌≡◌, ◌≢◌, ℕ, ◌≤◌, Bool, true, false, not, nat_eq, nat_lt, ◌==◌, ◌&&◌, ◌||◌, ◌⊎◌}
use Rattle.std.specs.Prelude.{IsTrue, IsFalse, List, [], ◌∷◌, ◌++◌, length, Option, option_to_list, unwrap_or}
use Rattle.std.specs.Prelude.{flat_map, map, codes, decimal}
use Rattle.std.specs.List.{list_all, starts_with}
use Rattle.std.specs.Str.{bytes_eq}
use Rattle.std.specs.String.{string_bytes}
use Rattle.au_base.specs.Limits.{most_name_bytes}
use Rattle.au_base.specs.declared.tokens.Keyword.{Keyword}
use Rattle.au_base.specs.Tokens.{keywords, keyword_spelling}
use Rattle.au_lexer.specs.Bytes.{is_letter, is_name_byte}
use Rattle.au_words.specs.declared.jobs.Command.{Command}
use Rattle.au_words.specs.declared.jobs.Command.TheVariants.{Run, Compile, Explain, Check, Format, Caps}
use Rattle.au_base.specs.declared.names.Entry.{Entry}
use Rattle.au_words.specs.declared.jobs.Job.{Job}

-- what is asked for: the command, the names of all files in order, the entry if one is given, how many
-- steps a run may take, and whether the lives of values are told
pub record Task : Type 0 where
  pub command : Command
  pub files : List (List ℕ)
  pub entry : Option Entry
  pub steps : ℕ
  pub life : Bool

-- what a job asks for
abbrev pub task_of : Job → Task
task_of job =
    record {
      command = job.command;
      files = map string_bytes job.files.items;
      entry = job.entry;
      steps =
          job.steps;
      life = job.life;
    }

-- the steps without the option
abbrev pub usual_steps : ℕ
usual_steps = 1000000000

-- the most steps
abbrev pub most_steps : ℕ
most_steps = 1000000000000

-- the word of a command
abbrev pub command_word : Command → List ℕ
command_word Run = codes "run"
command_word Compile = codes "compile"
command_word Explain = codes "explain"
command_word Check = codes "check"
command_word Format = codes "format"
command_word Caps = codes "caps"

-- whether a command takes `--entry`
abbrev pub takes_entry : Command → Bool
takes_entry Run = true
takes_entry Compile = true
takes_entry Explain = false
takes_entry Check = false
takes_entry Format = false
takes_entry Caps = false

-- whether a command takes `--steps` and `--life`
abbrev pub is_run : Command → Bool
is_run Run = true
is_run Compile = false
is_run Explain = false
is_run Check = false
is_run Format = false
is_run Caps = false

-- whether a command takes so many files: `format` takes one
abbrev pub takes_files : Command → ℕ → Bool
takes_files Run count = true
takes_files Compile count = true
takes_files Explain count = true
takes_files Check count = true
takes_files Format count = count == 1
takes_files Caps count = true

-- whether a byte is another than a sign
abbrev pub is_other : ℕ → ℕ → Bool
is_other sign byte = not (byte == sign)

-- names with single signs between
abbrev pub joined : ℕ → List (List ℕ) → List ℕ
joined sign [] = []
joined sign (name ∷ names) = name ++ flat_map (λ other. sign ∷ other) names

-- whether bytes can name a file: there are some, and none is a comma
abbrev pub is_file_name : List ℕ → Bool
is_file_name name = not (length name == 0) && list_all (is_other 44) name

-- a letter, and then letters, digits and `_`
abbrev pub is_spelled_as_name : List ℕ → Bool
is_spelled_as_name [] = false
is_spelled_as_name (first ∷ rest) = is_letter first && list_all is_name_byte rest

-- whether bytes are the spelling of one of these keywords
abbrev pub is_spelled_among : List Keyword → List ℕ → Bool
is_spelled_among [] bytes = false
is_spelled_among (keyword ∷ table) bytes =
    bytes_eq (keyword_spelling keyword) bytes || is_spelled_among table bytes

-- whether bytes are the spelling of a keyword
unfoldable pub is_keyword : List ℕ → Bool
is_keyword bytes = is_spelled_among keywords bytes

-- whether bytes are a name: spelled as one, and no keyword
abbrev pub is_name : List ℕ → Bool
is_name bytes = is_spelled_as_name bytes && not (is_keyword bytes)

-- The word is a part with these file names.
abbrev pub IsPart : List (List ℕ) → List ℕ → Type 0
IsPart names word = (names ≢ []) × IsTrue (list_all is_file_name names) × (word ≡ joined 44 names)

-- Bytes are the name of a module: names with single dots between.
abbrev pub IsModuleName : List ℕ → Type 0
IsModuleName bytes =
    (names : List (List ℕ)) × (names ≢ []) × IsTrue (list_all is_name names) × (bytes ≡ joined 46 names)

-- There can be such an entry.
abbrev pub IsEntry : Entry → Type 0
IsEntry entry =
    IsModuleName entry.«module» × (length entry.«module» ≤ most_name_bytes)
    × IsTrue (is_name entry.function) × (length entry.function ≤ most_name_bytes)

-- how an entry is spelled: the module's name, a colon, and the function's
abbrev pub entry_spelling : Entry → List ℕ
entry_spelling entry = entry.«module» ++ 58 ∷ entry.function

-- There can be so many steps.
abbrev pub AreSteps : ℕ → Type 0
AreSteps steps = (1 ≤ steps) × (steps ≤ most_steps)

-- whether a word begins with `-`
abbrev pub is_dashed : List ℕ → Bool
is_dashed word = starts_with nat_eq word (codes "-")

-- whether a word begins with `-` and has more bytes
abbrev pub is_marked : List ℕ → Bool
is_marked word = is_dashed word && nat_lt 1 (length word)

-- The words are an option and its value: one word with `=` between, or two, where the value doesn't
-- begin with `-`.
abbrev pub Gives : List ℕ → List ℕ → List (List ℕ) → Type 0
Gives option value words =
    (words ≡ (option ++ 61 ∷ value) ∷ [])
    ⊎ ((words ≡ option ∷ value ∷ []) × IsFalse (is_dashed value))

-- What words behind the command are: a part by its file names, an entry, steps, the option `--life`, or
-- the mark `--`, behind which all words are parts.
pub data Piece : Type 0 where
  part : List (List ℕ) → Piece
  entry : Entry → Piece
  steps : ℕ → Piece
  life : Piece
  mark : Piece

-- whether a piece is the mark
abbrev pub is_mark : Piece → Bool
is_mark (part names) = false
is_mark (entry value) = false
is_mark (steps value) = false
is_mark life = false
is_mark mark = true

-- The words are the piece, where no mark stands before.
abbrev pub Spells : Piece → List (List ℕ) → Type 0
Spells (part names) words =
    (word : List ℕ) × (words ≡ word ∷ []) × IsPart names word × IsFalse (is_marked word)
Spells (entry value) words = IsEntry value × Gives (codes "--entry") (entry_spelling value) words
Spells (steps value) words = AreSteps value × Gives (codes "--steps") (decimal value) words
Spells life words = words ≡ codes "--life" ∷ []
Spells mark words = words ≡ codes "--" ∷ []

-- The words are the piece, behind the mark: each word is a part.
abbrev pub SpellsBehind : Piece → List (List ℕ) → Type 0
SpellsBehind (part names) words = (word : List ℕ) × (words ≡ word ∷ []) × IsPart names word
SpellsBehind (entry value) words = ⊥
SpellsBehind (steps value) words = ⊥
SpellsBehind life words = ⊥
SpellsBehind mark words = ⊥

-- The words are the pieces, one behind another, with a mark before them or with none.
abbrev pub SpellsAll : Bool → List Piece → List (List ℕ) → Type 0
SpellsAll marked [] words = words ≡ []
SpellsAll true (piece ∷ pieces) words =
    (front : List (List ℕ)) × (rest : List (List ℕ)) × (words ≡ front ++ rest)
    × SpellsBehind piece front × SpellsAll true pieces rest
SpellsAll false (piece ∷ pieces) words =
    (front : List (List ℕ)) × (rest : List (List ℕ)) × (words ≡ front ++ rest)
    × Spells piece front × SpellsAll (is_mark piece) pieces rest

-- whether a command takes a piece
abbrev pub takes : Command → Piece → Bool
takes command (part names) = true
takes command (entry value) = takes_entry command
takes command (steps value) = is_run command
takes command life = is_run command
takes command mark = true

-- the file names of a piece
abbrev pub files_of : Piece → List (List ℕ)
files_of (part names) = names
files_of (entry value) = []
files_of (steps value) = []
files_of life = []
files_of mark = []

-- the entry of a piece
abbrev pub entries_of : Piece → List Entry
entries_of (part names) = []
entries_of (entry value) = value ∷ []
entries_of (steps value) = []
entries_of life = []
entries_of mark = []

-- the steps of a piece
abbrev pub steps_of : Piece → List ℕ
steps_of (part names) = []
steps_of (entry value) = []
steps_of (steps value) = value ∷ []
steps_of life = []
steps_of mark = []

-- once if the piece is `--life`
abbrev pub lives_of : Piece → List Bool
lives_of (part names) = []
lives_of (entry value) = []
lives_of (steps value) = []
lives_of life = true ∷ []
lives_of mark = []

-- once if the option is given
abbrev pub given : Bool → List Bool
given true = true ∷ []
given false = []

-- what pieces say: the names of all files in order, and each option that is given
pub record Said : Type 0 where
  pub files : List (List ℕ)
  pub entry : Option Entry
  pub steps : Option ℕ
  pub life : Bool

-- The pieces say this. The list of an option on the left has at most one element, so that no option is
-- given twice.
abbrev pub Says : List Piece → Said → Type 0
Says pieces said =
    (said.files ≡ flat_map files_of pieces)
    × (option_to_list said.entry ≡ flat_map entries_of pieces)
    × (option_to_list said.steps ≡ flat_map steps_of pieces)
    × (given said.life ≡ flat_map lives_of pieces)

-- what a command and what is said behind it ask for
abbrev pub task_said : Command → Said → Task
task_said command said =
    record {
      command = command;
      files = said.files;
      entry = said.entry;
      steps =
          unwrap_or said.steps usual_steps;
      life = said.life;
    }

-- The words behind a command say this: they are pieces that the command takes, a part among them, and it
-- takes so many files.
pub record AreSaid (command : Command) (words : List (List ℕ)) (said : Said) : Type 0 where
  pub pieces : List Piece
  pub spelled : SpellsAll false pieces words
  pub taken : IsTrue (list_all (takes command) pieces)
  pub says : Says pieces said
  pub some : said.files ≢ []
  pub counted : IsTrue (takes_files command (length said.files))

-- The words ask for this.
abbrev pub IsJob : List (List ℕ) → Task → Type 0
IsJob words task =
    (command : Command) × (rest : List (List ℕ)) × (said : Said)
    × (words ≡ command_word command ∷ rest) × AreSaid command rest said × (task ≡ task_said command said)

-- The words ask for nothing.
abbrev pub IsNoJob : List (List ℕ) → Type 0
IsNoJob words = (task : Task) → IsJob words task → ⊥
