-- What words behind a command give before the values in them are read, and the command line as the
-- library that reads it is told it.
--
-- The library says which words are options, values and parts. What a part, an entry and a number of
-- steps are is read from what it gives.
use Rattle.std.specs.Prelude.{◌≡◌, ◌≢◌, ◌⊎◌, ◌↔◌, ℕ, Bool, true, false, IsTrue, IsFalse, List, [], ◌∷◌, ◌++◌}
use Rattle.std.specs.Prelude.{map, Option, Some, option_to_list, flat_map, codes}
use Rattle.std.specs.List.{list_all}
use Rattle.clap.specs.Simple.{App, Shape, new_rule, new_shape}
use Rattle.clap.specs.Walk.{Row, Rule, first_of, all_of, one_of}
use Rattle.clap.specs.declared.builder.action.ArgAction.TheVariants.{Append, Set, SetTrue}
use Rattle.au_words.specs.Jobs.{command_word, is_marked, is_run, takes_entry, given}
use Rattle.au_words.specs.declared.jobs.Command.{Command}
use Rattle.au_words.specs.declared.jobs.Command.TheVariants.{Run, Compile, Explain, Check, Format, Caps}

-- What words behind the command are, by their texts: a part, the value of `--entry` or of `--steps`,
-- the option `--life`, or the mark `--`.
pub data Use : Type 0 where
  part : List ℕ → Use
  entry : List ℕ → Use
  steps : List ℕ → Use
  life : Use
  mark : Use

-- whether a use is the mark
abbrev pub is_mark : Use → Bool
is_mark (part word) = false
is_mark (entry value) = false
is_mark (steps value) = false
is_mark life = false
is_mark mark = true

-- The words are an option and its value: one word with `=` between, or two, where the value isn't an
-- option itself.
abbrev pub Offers : List ℕ → List ℕ → List (List ℕ) → Type 0
Offers option value words =
    (words ≡ (option ++ 61 ∷ value) ∷ [])
    ⊎ ((words ≡ option ∷ value ∷ []) × IsFalse (is_marked value))

-- The words are the use, where no mark stands before.
abbrev pub Writes : Use → List (List ℕ) → Type 0
Writes (part word) words = (words ≡ word ∷ []) × IsFalse (is_marked word)
Writes (entry value) words = Offers (codes "--entry") value words
Writes (steps value) words = Offers (codes "--steps") value words
Writes life words = words ≡ codes "--life" ∷ []
Writes mark words = words ≡ codes "--" ∷ []

-- The words are the use, behind the mark: each word is a part.
abbrev pub WritesBehind : Use → List (List ℕ) → Type 0
WritesBehind (part word) words = words ≡ word ∷ []
WritesBehind (entry value) words = ⊥
WritesBehind (steps value) words = ⊥
WritesBehind life words = ⊥
WritesBehind mark words = ⊥

-- The words are the uses, one behind another, with a mark before them or with none.
abbrev pub WritesAll : Bool → List Use → List (List ℕ) → Type 0
WritesAll marked [] words = words ≡ []
WritesAll true (one ∷ uses) words =
    (front : List (List ℕ)) × (rest : List (List ℕ)) × (words ≡ front ++ rest)
    × WritesBehind one front × WritesAll true uses rest
WritesAll false (one ∷ uses) words =
    (front : List (List ℕ)) × (rest : List (List ℕ)) × (words ≡ front ++ rest)
    × Writes one front × WritesAll (is_mark one) uses rest

-- whether a command takes a use
abbrev pub takes : Command → Use → Bool
takes command (part word) = true
takes command (entry value) = takes_entry command
takes command (steps value) = is_run command
takes command life = is_run command
takes command mark = true

-- the part of a use
abbrev pub parts_of : Use → List (List ℕ)
parts_of (part word) = word ∷ []
parts_of (entry value) = []
parts_of (steps value) = []
parts_of life = []
parts_of mark = []

-- the value of `--entry` of a use
abbrev pub entries_of : Use → List (List ℕ)
entries_of (part word) = []
entries_of (entry value) = value ∷ []
entries_of (steps value) = []
entries_of life = []
entries_of mark = []

-- the value of `--steps` of a use
abbrev pub steps_of : Use → List (List ℕ)
steps_of (part word) = []
steps_of (entry value) = []
steps_of (steps value) = value ∷ []
steps_of life = []
steps_of mark = []

-- once if the use is `--life`
abbrev pub lives_of : Use → List Bool
lives_of (part word) = []
lives_of (entry value) = []
lives_of (steps value) = []
lives_of life = true ∷ []
lives_of mark = []

-- what words give: the parts in order, and each option that is given
pub record Given : Type 0 where
  pub parts : List (List ℕ)
  pub entry : Option (List ℕ)
  pub steps : Option (List ℕ)
  pub life : Bool

-- The words behind a command give this: they are uses that the command takes, each option once at most
-- and a part among them.
pub record AreGiven (command : Command) (words : List (List ℕ)) (what : Given) : Type 0 where
  pub uses : List Use
  pub written : WritesAll false uses words
  pub taken : IsTrue (list_all (takes command) uses)
  pub parts : what.parts ≡ flat_map parts_of uses
  pub entry : option_to_list what.entry ≡ flat_map entries_of uses
  pub steps : option_to_list what.steps ≡ flat_map steps_of uses
  pub life : given what.life ≡ flat_map lives_of uses
  pub some : what.parts ≢ []

-- ---- the command line, as the library is told it

-- the parts
abbrev pub part_argument : Rule
part_argument = record (new_rule (codes "part")) { action = Some Append; required = true }

-- the option `--entry`
abbrev pub entry_argument : Rule
entry_argument = record (new_rule (codes "entry")) { long = Some (codes "entry"); action = Some Set }

-- the option `--steps`
abbrev pub steps_argument : Rule
steps_argument = record (new_rule (codes "steps")) { long = Some (codes "steps"); action = Some Set }

-- the option `--life`
abbrev pub life_argument : Rule
life_argument = record (new_rule (codes "life")) { long = Some (codes "life"); action = Some SetTrue }

-- the parts, and the options that a command takes
abbrev pub arguments : Command → List Rule
arguments Run = part_argument ∷ entry_argument ∷ steps_argument ∷ life_argument ∷ []
arguments Compile = part_argument ∷ entry_argument ∷ []
arguments Explain = part_argument ∷ []
arguments Check = part_argument ∷ []
arguments Format = part_argument ∷ []
arguments Caps = part_argument ∷ []

-- a command
abbrev pub subcommand : Command → Shape
subcommand command = record (new_shape (command_word command)) { rules = arguments command }

-- what stands before the commands: no name of the program, and no help
abbrev pub program_top : Shape
program_top = record (new_shape (codes "austral")) {
  is_leaf = false;
  no_binary_name = true;
  disable_help_flag = true;
  disable_help_subcommand = true;
  subcommand_required = true;
}

-- the command line
abbrev pub program : App
program = record {
  top = program_top;
  subs = map subcommand (Run ∷ Compile ∷ Explain ∷ Check ∷ Format ∷ Caps ∷ []);
}

-- What the library found in words is what they give.
pub record Shows (rows : List Row) (what : Given) : Type 0 where
  pub parts : all_of (codes "part") rows ≡ Some what.parts
  pub entry : first_of (codes "entry") rows ≡ what.entry
  pub steps : first_of (codes "steps") rows ≡ what.steps
  pub life : (one_of (codes "life") rows ≡ Some (codes "true")) ↔ IsTrue what.life
