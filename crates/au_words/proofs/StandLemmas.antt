-- Where the library stands between two words, by what is given so far.
use Rattle.std.proofs.Common.{◌≡◌, true, false, List, [], ◌∷◌, Option, Some, None, ap, ◌∙◌, sym, refl, subst}
use Rattle.std.proofs.Common.{inl, inr, codes, arith}
use Rattle.std.specs.List.{All, fold}
use Rattle.std.specs.Str.{IsUtf8, bytes_eq}
use Rattle.std.proofs.lemmas.Bool.{cases_Bool}
use Rattle.clap.specs.Faults.{long_fault, settle_fault, turn_fault, use_fault, walk_fault}
use Rattle.clap.specs.Lexer.{long_of, name_and_value, short_of}
use Rattle.clap.specs.Walk.{Row, Rule, Text, Waiting, Walk, arg_by_id, arg_by_long, takes_values, used, walked}
use Rattle.au_words.specs.Given.{Given}
use Rattle.au_words.specs.Jobs.{is_run, takes_entry}
use Rattle.au_words.specs.declared.jobs.Command.{Command}
use Rattle.au_words.proofs.Leaves.{leaf, rules}
use Rattle.au_words.proofs.LookLemmas.{IsShort, looks, mark_word, some_flag}
use Rattle.au_words.proofs.RowLemmas.{Views, part_rule, entry_rule, steps_rule, life_rule, with_part}
use Rattle.au_words.proofs.RowLemmas.{with_entry, with_steps, with_life, views_part, views_entry, views_steps}
use Rattle.au_words.proofs.RowLemmas.{views_life, part_passes, entry_passes, steps_passes}
use Rattle.au_words.proofs.TurnLemmas.{behind_turn, both_pass, entry_option, first_passes, held, is_quiet}
use Rattle.au_words.proofs.TurnLemmas.{mark_walked, next_passes, option_turn, part_by_id, plain_turn}
use Rattle.au_words.proofs.TurnLemmas.{settled_here, settles, short_turn, state, steps_option}

-- The rows, once what is pending is settled, are those of what is given, and settling doesn't fail.
pub record Stands (command : Command) (rows : List Row) (pending : Option (Text × List Text))
    (what : Given) : Type 0 where
  pub settled : settles command rows pending ≡ []
  pub views : Views (settled_here command rows pending) what

-- nothing is pending
pub stands_done : (command : Command) (rows : List Row) (what : Given) → Views rows what → Stands command rows None what
stands_done command rows what v = record { settled = refl; views = v }

-- a use is pending that doesn't fail
stands_used : (command : Command) (rows : List Row) (id : Text) (value : Text) (rule : Rule) (what : Given) →
    arg_by_id (rules command) id ≡ Some rule
    → use_fault false rule (value ∷ []) rows ≡ [] → Views (used rule (value ∷ []) rows) what →
    Stands command rows (Some (id, value ∷ [])) what
stands_used command rows id value rule what found passes v = record {
  settled = rw found passes;
  views = subst (λ r. Views r what) (rw found refl) v;
}

module _ (command : Command) (rows : List Row) (pending : Option (Text × List Text)) (what : Given)
    (stands : Stands command rows pending what) where
  pub stands_part : (word : Text) → Stands command (settled_here command rows pending)
      (Some (codes "part", word ∷ [])) (with_part what word)
  stands_part word =
      stands_used command (settled_here command rows pending) (codes "part") word part_rule
      (with_part what word) (part_by_id command)
      (part_passes word (settled_here command rows pending))
      (views_part (settled_here command rows pending) what word stands.views)

  pub stands_entry : (value : Text) → takes_entry command ≡ true → what.entry ≡ None →
      Stands command (settled_here command rows pending) (Some (codes "entry", value ∷ []))
      (with_entry what value)
  stands_entry value taken free =
      stands_used command (settled_here command rows pending) (codes "entry") value entry_rule
      (with_entry what value) (entry_option command taken).by_id
      (entry_passes value (settled_here command rows pending) what stands.views free)
      (views_entry (settled_here command rows pending) what value stands.views free)

  pub stands_steps : (value : Text) → is_run command ≡ true → what.steps ≡ None →
      Stands command (settled_here command rows pending) (Some (codes "steps", value ∷ []))
      (with_steps what value)
  stands_steps value taken free =
      stands_used command (settled_here command rows pending) (codes "steps") value steps_rule
      (with_steps what value) (steps_option command taken).by_id
      (steps_passes value (settled_here command rows pending) what stands.views free)
      (views_steps (settled_here command rows pending) what value stands.views free)

  pub stands_life : what.life ≡ false → Stands command (used life_rule [] (settled_here command rows pending))
      None (with_life what)
  stands_life free = stands_done command (used life_rule [] (settled_here command rows pending))
      (with_life what) (views_life (settled_here command rows pending) what stands.views free)

-- ---- the words that are left

-- one word, and those behind it
pub word_passes : (command : Command) (at : Walk) (word : Text) (words : List Text) →
    walk_fault (leaf command) [] at (word ∷ words) ≡ [] → turn_fault (leaf command) [] at word ≡ []
unfolding walk_fault
word_passes command at word words h = first_passes (turn_fault (leaf command) [] at word) _ h

pub words_pass : (command : Command) (at next : Walk) (word : Text) (words : List Text) →
    walked (rules command) [] at word ≡ next → walk_fault (leaf command) [] at (word ∷ words) ≡ []
    → walk_fault (leaf command) [] next words ≡ []
unfolding walk_fault
words_pass command at next word words is h =
    ap (λ w. walk_fault (leaf command) [] w words) (sym is) ∙ next_passes (turn_fault (leaf command) [] at word) _ h

pub all_pass : (command : Command) (at next : Walk) (word : Text) (words : List Text) →
    walked (rules command) [] at word ≡ next → turn_fault (leaf command) [] at word ≡ []
    → walk_fault (leaf command) [] next words ≡ [] → walk_fault (leaf command) [] at (word ∷ words) ≡ []
unfolding walk_fault
all_pass command at next word words is turn rest =
    both_pass (turn_fault (leaf command) [] at word) _ turn (ap (λ w. walk_fault (leaf command) [] w words) is ∙ rest)

pub none_left : (command : Command) (at : Walk) → walk_fault (leaf command) [] at [] ≡ []
unfolding walk_fault
none_left command at = refl

-- an option that doesn't fail settles what is pending
pub long_settles : (command : Command) (rows : List Row) (pending : Option (Text × List Text))
    (found : Option Rule) (value : Option Text)
    → long_fault (rules command) false found value (held rows pending) ≡ [] → settles command rows pending ≡ []
long_settles command rows pending None value h = cc
long_settles command rows pending (Some rule) None h = elim (cases_Bool (takes_values rule)) [
  | inl e ↦ rw e at h
  | inr e ↦ first_passes (settles command rows pending) _ (rw e at h)
]
long_settles command rows pending (Some rule) (Some value) h = elim (cases_Bool (takes_values rule)) [
  | inl e ↦ first_passes (settles command rows pending) _ (rw e at h)
  | inr e ↦ absurd (let bad = rw e at h in cc)
]

-- where the words end, nothing that is pending fails
abbrev pub EndsWell : Command → Walk → List Text → Type 0
EndsWell command at words = settle_fault (rules command) false (fold (walked (rules command) []) at words).held ≡ []

pub ends_next : (command : Command) (at next : Walk) (word : Text) (words : List Text) →
    walked (rules command) [] at word ≡ next → EndsWell command at (word ∷ words) → EndsWell command next words
ends_next command at next word words is h = subst (λ w. EndsWell command w words) is h

-- what is pending when a word is read behind the mark doesn't fail, if the words behind it don't
pub behind_settles : (command : Command) (words : List Text) (rows : List Row)
    (pending : Option (Text × List Text)) (waiting : Waiting)
    → walk_fault (leaf command) [] (state rows pending waiting true) words ≡ [] →
    EndsWell command (state rows pending waiting true) words → settles command rows pending ≡ []
behind_settles command [] rows pending waiting walks ends = ends
behind_settles command (word ∷ words) rows pending waiting walks ends =
    sym (behind_turn command rows pending waiting word)
    ∙ word_passes command (state rows pending waiting true) word words walks

-- short flags fail
pub short_fails : (command : Command) (rows : List Row) (pending : Option (Text × List Text))
    (waiting : Waiting) (word : Text) (words : List Text) → IsShort word → IsUtf8 word
    → walk_fault (leaf command) [] (state rows pending waiting false) (word ∷ words) ≡ [] → ⊥
short_fails command rows pending waiting word words short utf8 walks =
    let at = short.2 in
    let flag = some_flag short.0 short.1 (subst IsUtf8 at utf8) in
    let no_mark : bytes_eq word mark_word ≡ false = ap (λ w. bytes_eq w mark_word) at ∙ rw short.3 refl in
    let no_long : long_of word ≡ None = ap long_of at ∙ rw short.3 refl in
    let flags : short_of word ≡ Some (short.0 ∷ short.1) = ap short_of at ∙ rw short.3 refl in
    short_turn command rows pending waiting word (short.0 ∷ short.1) flag.0 no_mark no_long flags
    (λ e. let f = e in cc) flag.1
    (word_passes command (state rows pending waiting false) word words walks)

-- an option that doesn't fail is one that the command takes
pub long_passes : (command : Command) (rows : List Row) (pending : Option (Text × List Text))
    (waiting : Waiting) (word name : Text) (value : Option Text) (words : List Text)
    → bytes_eq word mark_word ≡ false → long_of word ≡ Some (name, value) →
    walk_fault (leaf command) [] (state rows pending waiting false) (word ∷ words) ≡ []
    → long_fault (rules command) false (arg_by_long (rules command) name) value (held rows pending) ≡ []
long_passes command rows pending waiting word name value words no_mark long walks =
    first_passes (long_fault (rules command) false (arg_by_long (rules command) name) value (held rows pending)) _
    (sym (option_turn command rows pending waiting word name value no_mark long)
    ∙ word_passes command (state rows pending waiting false) word words walks)

-- what is pending doesn't fail, if the words behind it don't
pub later_settles : (command : Command) (words : List Text) (rows : List Row)
    (pending : Option (Text × List Text)) (waiting : Waiting) → is_quiet waiting ≡ true → All IsUtf8 words
    → walk_fault (leaf command) [] (state rows pending waiting false) words ≡ [] →
    EndsWell command (state rows pending waiting false) words → settles command rows pending ≡ []
later_settles command [] rows pending waiting quiet utf8 walks ends = ends
later_settles command (word ∷ words) rows pending waiting quiet utf8 walks ends = elim (looks word) [
  | inl is ↦
      let next : walked (rules command) [] (state rows pending waiting false) word ≡ state rows pending waiting true =
      ap (walked (rules command) [] (state rows pending waiting false)) is ∙ mark_walked command rows pending waiting in
      behind_settles command words rows pending waiting
      (words_pass command (state rows pending waiting false) (state rows pending waiting true) word words next walks)
      (ends_next command (state rows pending waiting false) (state rows pending waiting true) word words next ends)
  | inr other ↦ elim other [
    | inl is ↦
        let parts = name_and_value (is.0 ∷ is.1) in
        long_settles command rows pending (arg_by_long (rules command) parts.0) parts.1
        (long_passes command rows pending waiting word parts.0 parts.1 words
        (ap (λ w. bytes_eq w mark_word) is.2) (ap long_of is.2) walks)
    | inr left ↦ elim left [
      | inl is ↦ absurd (short_fails command rows pending waiting word words is (utf8 0 [] (omega arith)) walks)
      | inr plain ↦ sym (plain_turn command rows pending waiting word quiet plain)
          ∙ word_passes command (state rows pending waiting false) word words walks
    ]
  ]
]
