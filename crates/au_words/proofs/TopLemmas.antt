-- From the whole command line to the words behind a command.
use Rattle.std.proofs.Common.{length, ◌≡◌, ◌∙◌, ℕ, Bool, true, false, List, [], ◌∷◌, map, Option, Some, None}
use Rattle.std.proofs.Common.{ap, ap₂, refl, sym, subst, codes, inl, inr, ◌⊎◌}
use Rattle.std.specs.List.{fold, find}
use Rattle.std.specs.Option.{is_some, option_map, option_map_or}
use Rattle.std.specs.Str.{bytes_eq, chars}
use Rattle.std.specs.Prelude.{slice_get}
use Rattle.std.proofs.lemmas.Slice.Eq.{bytes_eq-Decides}
use Rattle.clap.specs.Faults.{bundle_fault, bundle_step_fault, check_fault, defaults_fault, entered_fault}
use Rattle.clap.specs.Faults.{fault_of, flag_word_fault, flags_fault, is_simple_and_free, other_fault}
use Rattle.clap.specs.Faults.{settle_fault, step_fault, turn_fault, walk_fault}
use Rattle.clap.specs.Kinds.{Kinds, or_else}
use Rattle.clap.specs.Lexer.{long_of, short_of}
use Rattle.clap.specs.Simple.{Shape, built, entered, is_simple, subcommand_of}
use Rattle.clap.specs.Walk.{Held, Names, Step, Walk, after_flag, answers_to, bundle_met, bundle_step}
use Rattle.clap.specs.Walk.{finished, idle, long_or_other, nothing_held, plain, settled, short_or_plain}
use Rattle.clap.specs.Walk.{short_word, subcommand_met, subcommand_or_other, walk, walk_from, walked}
use Rattle.clap.specs.declared.error.kind.ErrorKind.{ErrorKind}
use Rattle.clap.proofs.FaultLemmas.{stopped_fault}
use Rattle.clap.proofs.WalkLemmas.{walk_stopped}
use Rattle.au_words.specs.Given.{program, program_top}
use Rattle.au_base.proofs.BoolLemmas.{cond_cases}
use Rattle.au_words.specs.Jobs.{command_word}
use Rattle.au_words.specs.declared.jobs.Command.{Command}
use Rattle.au_words.specs.declared.jobs.Command.TheVariants.{Run, Compile, Explain, Check, Format, Caps}
use Rattle.au_words.proofs.Leaves.{leaf, leaf_fault, leaf_rows}
use Rattle.au_words.proofs.TurnLemmas.{next_passes, first_passes as first_none}

-- what stands before the commands, as the library builds it
abbrev top : Shape
top = record program_top { is_built = true }

-- the names of the commands
abbrev names : Names
names =
    (codes "run", []) ∷ (codes "compile", []) ∷ (codes "explain", []) ∷ (codes "check", []) ∷ (codes "format", []) ∷ (codes "caps", []) ∷ []

-- the library gives what it finds in words of this command line
pub program_simple : is_simple program ≡ true
program_simple = refl

-- the library gives the kinds of error of this command line
pub program_free : is_simple_and_free program ≡ true
program_free = refl

-- the commands, as the library builds them
pub built_subs : (built program).subs ≡ map leaf (Run ∷ Compile ∷ Explain ∷ Check ∷ Format ∷ Caps ∷ [])
built_subs = refl

-- ---- kinds

-- a list that has a kind is not empty
some_kind : (k : ErrorKind) (ks : Kinds) → k ∷ ks ≡ [] → ⊥
some_kind k ks h = cc

with_none : (a : Kinds) → or_else a [] ≡ a
with_none [] = refl
with_none (k ∷ ks) = refl

-- ---- where the walk ends

-- where the walk over the words stands before the first
abbrev start : Walk
start = walk_from nothing_held

-- where it stands once a command is met, with the words behind it
abbrev met : Command → List (List ℕ) → Walk
met command rest = record start { stopped = Some (command_word command, rest) }

-- the kinds of error behind the walk, by what is held and by the command that is met
abbrev end_by : Held → Option (List ℕ × List (List ℕ)) → Kinds
end_by held stop =
    or_else (entered_fault (built program) stop)
    (or_else (settle_fault [] false held)
    (or_else (defaults_fault (settled [] held).rows [])
    (check_fault top (finished [] held) (is_some (entered (built program) stop)))))

-- the same, by where the walk ends
abbrev end_fault : Walk → Kinds
end_fault end = end_by end.held end.stopped

-- the kinds of error are those of the walk, and then those behind it
whole : (words : List (List ℕ)) → fault_of program words ≡ or_else (walk_fault top names start words)
    (end_fault (walk [] names nothing_held words))
whole words = refl

-- with no command there is an error
end_alone : (end : Walk) → end.stopped ≡ None → end_fault end ≡ [] → ⊥
end_alone end alone none =
    some_kind _ _ (next_passes _ _ (next_passes _ _ (subst (λ stop. end_by end.held stop ≡ []) alone none)))

-- with a command the errors are those of the words behind it
end_met : (command : Command) (rest : List (List ℕ)) → end_fault (met command rest) ≡ leaf_fault command rest
unfolding defaults_fault
end_met Run rest = with_none (leaf_fault Run rest)
end_met Compile rest = with_none (leaf_fault Compile rest)
end_met Explain rest = with_none (leaf_fault Explain rest)
end_met Check rest = with_none (leaf_fault Check rest)
end_met Format rest = with_none (leaf_fault Format rest)
end_met Caps rest = with_none (leaf_fault Caps rest)

-- ---- words that begin with a command

-- at the command the walk stops
first_met : (command : Command) → walked [] names start (command_word command) ≡ met command []
unfolding walked
first_met Run = refl
first_met Compile = refl
first_met Explain = refl
first_met Check = refl
first_met Format = refl
first_met Caps = refl

-- the command itself is no error
first_passes : (command : Command) → turn_fault top names start (command_word command) ≡ []
first_passes Run = refl
first_passes Compile = refl
first_passes Explain = refl
first_passes Check = refl
first_passes Format = refl
first_passes Caps = refl

-- the words behind the command are left to it
walk_met : (command : Command) (rest : List (List ℕ)) →
    walk [] names nothing_held (command_word command ∷ rest) ≡ met command rest
walk_met command rest = ap (λ w. fold (walked [] names) w rest) (first_met command)
    ∙ sym (walk_stopped [] names start (command_word command) [] rest)

-- nor are the words behind it, on this level
walk_passes : (command : Command) (rest : List (List ℕ)) → walk_fault top names start (command_word command ∷ rest) ≡ []
unfolding walk_fault
walk_passes command rest =
    ap₂ or_else (first_passes command)
    (ap (λ w. walk_fault top names w rest) (first_met command)
    ∙ stopped_fault top names start (command_word command, []) rest)

-- the errors are those of the words behind the command
top_fault : (command : Command) (rest : List (List ℕ)) → fault_of program (command_word command ∷ rest)
    ≡ leaf_fault command rest
top_fault command rest = ap₂ (λ own end. or_else own (end_fault end)) (walk_passes command rest)
    (walk_met command rest) ∙ end_met command rest

-- words are taken where those behind the command are
pub top_complete : (command : Command) (rest : List (List ℕ)) → leaf_fault command rest ≡ [] →
    fault_of program (command_word command ∷ rest) ≡ []
top_complete command rest none = top_fault command rest ∙ none

-- the library enters the command
rows_met : (command : Command) (rest : List (List ℕ)) →
    entered (built program) (Some (command_word command, rest))
    ≡ Some (command_word command, leaf_rows command rest)
rows_met Run rest = refl
rows_met Compile rest = refl
rows_met Explain rest = refl
rows_met Check rest = refl
rows_met Format rest = refl
rows_met Caps rest = refl

-- what the library finds behind the command
pub top_rows : (command : Command) (rest : List (List ℕ)) →
    subcommand_of program (command_word command ∷ rest) ≡ Some (command_word command, leaf_rows command rest)
top_rows command rest = ap (λ (end : Walk). entered (built program) end.stopped) (walk_met command rest)
    ∙ rows_met command rest

-- ---- words that begin with another

-- which command a word is among some, if it is one
among : (commands : List Command) (word : List ℕ)
    → ((command : Command) × (word ≡ command_word command))
    ⊎ (find (answers_to word) (map (λ command. (command_word command, [])) commands) ≡ None)
among [] word = inr refl
among (command ∷ commands) word =
    elim (cond_cases (bytes_eq (command_word command) word) true false _ refl) [
      | inl w ↦ inl (command, sym ((bytes_eq-Decides (command_word command) word).0 w.0))
      | inr w ↦ elim (among commands word) [
        | inl one ↦ inl one
        | inr none ↦ inr (rw w.0 none)
      ]
    ]

-- which command a word is, if it is one
commanded : (word : List ℕ) → ((command : Command) × (word ≡ command_word command))
    ⊎ (subcommand_met names idle word ≡ None)
commanded word = elim (among (Run ∷ Compile ∷ Explain ∷ Check ∷ Format ∷ Caps ∷ []) word) [
  | inl w ↦ inl w
  | inr none ↦ inr (ap (option_map (λ s. s.0)) none)
]

-- the errors of a word, by its own and by the step that it is
abbrev turn_of : Kinds → Held × Step → Kinds
turn_of own step = or_else own (step_fault top 1 step.0 step.1)

-- a word of short flags, of which there is none
bundle_refused : (flags word : List ℕ) → turn_of (bundle_fault [] false flags nothing_held)
    (short_word [] idle word flags nothing_held) ≡ [] → ⊥
unfolding flags_fault bundle_met
bundle_refused [] word none = some_kind _ _ none
bundle_refused (byte ∷ flags) word none = go (slice_get (chars (byte ∷ flags)) 0) none
  where
    go : (first : Option ℕ)
        → turn_of (bundle_step_fault [] false first (byte ∷ flags) 0 nothing_held (flags_fault [] false (length flags)))
        (after_flag [] idle word (bundle_step [] first (byte ∷ flags) 0 plain nothing_held
        (bundle_met [] (length flags))).0
        (bundle_step [] first (byte ∷ flags) 0 plain nothing_held (bundle_met [] (length flags))).1) ≡ [] → ⊥
    go None h = some_kind _ _ h
    go (Some x) h = some_kind _ _ h

-- a word that is no long option, by its short flags
short_refused : (flags : Option (List ℕ)) (word : List ℕ)
    → turn_of (option_map_or (λ some. bundle_fault [] false some nothing_held) flags [])
    (short_or_plain [] idle word flags nothing_held) ≡ [] → ⊥
short_refused None word none = some_kind _ _ none
short_refused (Some flags) word none = bundle_refused flags word none

-- a word that isn't the mark, by the long option that it is
long_refused : (option : Option (List ℕ × Option (List ℕ))) (word : List ℕ)
    → turn_of (flag_word_fault [] false option word nothing_held)
    (long_or_other [] idle word option nothing_held) ≡ [] → ⊥
long_refused None word none = short_refused (short_of word) word none
long_refused (Some option) word none = some_kind _ _ none

-- the errors of the first word, by the command that it is
abbrev turn_at : Option (List ℕ) → List ℕ → Kinds
turn_at command word = turn_of (other_fault top command word nothing_held)
    (subcommand_or_other [] command idle 1 word nothing_held)

-- a first word that is no command and not the mark is refused
word_refused : (word : List ℕ) → subcommand_met names idle word ≡ None → bytes_eq word (codes "--") ≡ false →
    turn_fault top names start word ≡ [] → ⊥
word_refused word no_command no_mark none =
    let alone : turn_at None word ≡ [] = subst (λ command. turn_at command word ≡ []) no_command none in
    long_refused (long_of word) word (rw no_mark at alone)

-- where the walk stands behind the mark
abbrev behind : Walk
behind = record start { is_trailing = true }

-- behind the mark each word is refused
behind_mark : (words : List (List ℕ)) → walk_fault top names behind words ≡ [] → words ≡ []
unfolding walk_fault
behind_mark [] none = refl
behind_mark (word ∷ words) none = absurd (some_kind _ _ none)

-- words that begin with the mark are refused
mark_refused : (rest : List (List ℕ)) → fault_of program (codes "--" ∷ rest) ≡ [] → ⊥
unfolding walk_fault walked
mark_refused rest none =
    let alone = behind_mark rest (first_none _ _ none) in
    end_alone behind refl (next_passes (walk_fault top names start (codes "--" ∷ [])) _
    (subst (λ words. fault_of program (codes "--" ∷ words) ≡ []) alone none))

-- words that begin with no command are refused
others_refused : (word : List ℕ) (rest : List (List ℕ)) → subcommand_met names idle word ≡ None →
    fault_of program (word ∷ rest) ≡ [] → ⊥
unfolding walk_fault
others_refused word rest no_command none = go (bytes_eq word (codes "--")) refl
  where
    go : (b : Bool) → bytes_eq word (codes "--") ≡ b → ⊥
    go true is = mark_refused rest
        (subst (λ first. fault_of program (first ∷ rest) ≡ []) ((bytes_eq-Decides word (codes "--")).0 is) none)
    go false is = word_refused word no_command is (first_none _ _ (first_none _ _ none))

-- words that are taken begin with a command, and those behind it are taken
pub top_sound : (words : List (List ℕ)) → fault_of program words ≡ []
    → (command : Command) × (rest : List (List ℕ)) × (words ≡ command_word command ∷ rest)
    × (leaf_fault command rest ≡ [])
top_sound [] none = absurd (end_alone start refl (next_passes _ _ none))
top_sound (word ∷ rest) none = elim (commanded word) [
  | inl w ↦ (
    w.0,
    rest,
    ap (λ first. first ∷ rest) w.1,
    sym (top_fault w.0 rest)
        ∙ subst (λ first. fault_of program (first ∷ rest) ≡ []) w.1 none,
  )
  | inr no_command ↦ absurd (others_refused word rest no_command none)
]
