-- What the library makes of one word behind a command.
use Rattle.std.proofs.Common.{◌≡◌, ◌≢◌, ◌⊎◌, ℕ, ◌||◌, Bool, true, false, List, [], ◌∷◌, Option, Some, None}
use Rattle.std.proofs.Common.{ap, ◌∙◌, sym, refl, inl, inr, codes}
use Rattle.std.specs.Prelude.{slice_get}
use Rattle.std.specs.Str.{bytes_eq, chars}
use Rattle.std.proofs.lemmas.Slice.Eq.{bytes_eq-Decides}
use Rattle.clap.specs.Kinds.{Kinds, or_else}
use Rattle.clap.specs.Faults.{flags_fault, long_fault, positional_fault, react_fault, settle_fault}
use Rattle.clap.specs.Faults.{step_fault, turn_fault}
use Rattle.clap.specs.Lexer.{long_of, short_of}
use Rattle.clap.specs.Walk.{Held, Row, Rule, Text, Waiting, idle, option, positional, Walk, after_step}
use Rattle.clap.specs.Walk.{arg_by_id, arg_by_index, arg_by_long, arg_by_short, is_pending, long_word}
use Rattle.clap.specs.Walk.{most_values, settled, takes_values, to_positional, used, walked}
use Rattle.au_base.proofs.BoolLemmas.{cond_cases, first_holds}
use Rattle.au_words.specs.Jobs.{is_run, takes_entry}
use Rattle.au_words.specs.declared.jobs.Command.{Command}
use Rattle.au_words.specs.declared.jobs.Command.TheVariants.{Run, Compile, Explain, Check, Format, Caps}
use Rattle.au_words.proofs.Leaves.{leaf, rules}
use Rattle.au_words.proofs.LookLemmas.{IsPlainWord, mark_word}
use Rattle.au_words.proofs.RowLemmas.{part_rule, entry_rule, steps_rule, life_rule}

-- ---- the arguments of a command

pub part_by_index : (command : Command) → arg_by_index (rules command) 1 ≡ Some part_rule
part_by_index Run = refl
part_by_index Compile = refl
part_by_index Explain = refl
part_by_index Check = refl
part_by_index Format = refl
part_by_index Caps = refl

pub part_by_id : (command : Command) → arg_by_id (rules command) (codes "part") ≡ Some part_rule
part_by_id Run = refl
part_by_id Compile = refl
part_by_id Explain = refl
part_by_id Check = refl
part_by_id Format = refl
part_by_id Caps = refl

pub no_short : (command : Command) (flag : ℕ) → arg_by_short (rules command) flag ≡ None
no_short Run flag = refl
no_short Compile flag = refl
no_short Explain flag = refl
no_short Check flag = refl
no_short Format flag = refl
no_short Caps flag = refl

-- an option that a command takes, by its name
pub record IsOption (command : Command) (id : Text) (rule : Rule) : Type 0 where
  pub by_long : arg_by_long (rules command) id ≡ Some rule
  pub by_id : arg_by_id (rules command) id ≡ Some rule

pub entry_option : (command : Command) → takes_entry command ≡ true → IsOption command (codes "entry") entry_rule
entry_option Run h = record { by_long = refl; by_id = refl }
entry_option Compile h = record { by_long = refl; by_id = refl }
entry_option Explain h = cc
entry_option Check h = cc
entry_option Format h = cc
entry_option Caps h = cc

pub steps_option : (command : Command) → is_run command ≡ true → IsOption command (codes "steps") steps_rule
steps_option Run h = record { by_long = refl; by_id = refl }
steps_option Compile h = cc
steps_option Explain h = cc
steps_option Check h = cc
steps_option Format h = cc
steps_option Caps h = cc

pub life_option : (command : Command) → is_run command ≡ true → IsOption command (codes "life") life_rule
life_option Run h = record { by_long = refl; by_id = refl }
life_option Compile h = cc
life_option Explain h = cc
life_option Check h = cc
life_option Format h = cc
life_option Caps h = cc

-- The name is that of an option that the command takes.
abbrev pub Names : Command → Text → Type 0
Names command name =
    ((name ≡ codes "entry") × (takes_entry command ≡ true))
    ⊎ (((name ≡ codes "steps") × (is_run command ≡ true)) ⊎ ((name ≡ codes "life") × (is_run command ≡ true)))

named : (name text : Text) → (bytes_eq text name || false) ≡ true → name ≡ text
named name text h = sym ((bytes_eq-Decides text name).0 (first_holds (bytes_eq text name) h))

-- an option that is found is one that the command takes
pub long_found : (command : Command) (name : Text) (rule : Rule) → arg_by_long (rules command) name
    ≡ Some rule → Names command name
long_found Run name rule h = elim (cond_cases (bytes_eq (codes "entry") name || false) _ _ (Some rule) h) [
  | inl w ↦ inl (named name (codes "entry") w.0, refl)
  | inr w ↦ elim (cond_cases (bytes_eq (codes "steps") name || false) _ _ (Some rule) w.1) [
    | inl v ↦ inr (inl (named name (codes "steps") v.0, refl))
    | inr v ↦ elim (cond_cases (bytes_eq (codes "life") name || false) _ _ (Some rule) v.1) [
      | inl u ↦ inr (inr (named name (codes "life") u.0, refl))
      | inr u ↦ absurd (let e = u.1 in cc)
    ]
  ]
]
long_found Compile name rule h =
    elim (cond_cases (bytes_eq (codes "entry") name || false) _ _ (Some rule) h) [
      | inl w ↦ inl (named name (codes "entry") w.0, refl)
      | inr w ↦ absurd (let e = w.1 in cc)
    ]
long_found Explain name rule h = cc
long_found Check name rule h = cc
long_found Format name rule h = cc
long_found Caps name rule h = cc

-- ---- one word

-- what is held between two words
abbrev pub held : List Row → Option (Text × List Text) → Held
held rows pending = record { rows = rows; pending = pending; skip = 0 }

-- where the library stands between two words
abbrev pub state : List Row → Option (Text × List Text) → Waiting → Bool → Walk
state rows pending waiting marked =
    record { held = held rows pending; waiting = waiting; position = 1; is_trailing = marked; stopped = None }

-- whether no option waits for its value
abbrev pub is_quiet : Waiting → Bool
is_quiet idle = true
is_quiet (option id) = false
is_quiet positional = true

module _ (command : Command) (rows : List Row) (pending : Option (Text × List Text)) where
  -- the rows, once what is pending is settled
  abbrev pub settled_here : List Row
  settled_here = (settled (rules command) (held rows pending)).rows

  abbrev pub settles : Kinds
  settles = settle_fault (rules command) false (held rows pending)

  -- the mark
  pub mark_turn : (waiting : Waiting) → turn_fault (leaf command) [] (state rows pending waiting false) mark_word ≡ []
  mark_turn idle = refl
  mark_turn (option id) = refl
  mark_turn positional = refl

  pub mark_walked : (waiting : Waiting) → walked (rules command) [] (state rows pending waiting false)
      mark_word ≡ state rows pending waiting true
  unfolding walked
  mark_walked idle = refl
  mark_walked (option id) = refl
  mark_walked positional = refl

  positional_settles : positional_fault (rules command) false part_rule (held rows pending) ≡ settles
  positional_settles = so (is_pending part_rule pending) refl
    where
      so : (b : Bool) → is_pending part_rule pending ≡ b → positional_fault (rules command) false part_rule
          (held rows pending) ≡ settles
      so true e = rw e refl
      so false e = rw e refl

  -- a word behind the mark
  pub behind_turn : (waiting : Waiting) (word : Text) →
      turn_fault (leaf command) [] (state rows pending waiting true) word ≡ settles
  behind_turn waiting word = rw (part_by_index command) positional_settles

  -- a word goes to the parts, once what is pending is settled
  to_parts : (word : Text) (waiting : Waiting) (marked : Bool) →
      to_positional (rules command) (Some part_rule) word (state rows pending waiting marked)
      (held rows pending) ≡ state settled_here (Some (codes "part", word ∷ [])) positional marked
  to_parts word waiting marked = so (is_pending part_rule pending) marked refl
    where
      so : (b marked : Bool) → is_pending part_rule pending ≡ b →
          to_positional (rules command) (Some part_rule) word (state rows pending waiting marked)
          (held rows pending) ≡ state settled_here (Some (codes "part", word ∷ [])) positional marked
      so true true e = rw e refl
      so true false e = rw e refl
      so false true e = rw e refl
      so false false e = rw e refl

  pub behind_walked : (waiting : Waiting) (word : Text) →
      walked (rules command) [] (state rows pending waiting true) word ≡ state settled_here
      (Some (codes "part", word ∷ [])) positional true
  unfolding walked
  behind_walked waiting word = rw (part_by_index command) (to_parts word waiting true)

  -- a word that is no option, where none waits for its value
  pub plain_turn : (waiting : Waiting) (word : Text) → is_quiet waiting ≡ true → IsPlainWord word →
      turn_fault (leaf command) [] (state rows pending waiting false) word ≡ settles
  plain_turn idle word quiet plain = rw (plain.3, plain.1, plain.2, part_by_index command) positional_settles
  plain_turn (option id) word quiet plain = cc
  plain_turn positional word quiet plain = rw (plain.3, plain.1, plain.2, part_by_index command) positional_settles

  pub plain_walked : (waiting : Waiting) (word : Text) → is_quiet waiting ≡ true → IsPlainWord word
      → walked (rules command) [] (state rows pending waiting false) word ≡ state settled_here
      (Some (codes "part", word ∷ [])) positional false
  unfolding walked
  plain_walked idle word quiet plain = rw (plain.3, plain.1, plain.2, part_by_index command) (to_parts word idle false)
  plain_walked (option id) word quiet plain = cc
  plain_walked positional word quiet plain = rw (plain.3, plain.1, plain.2, part_by_index command)
      (to_parts word positional false)

  -- an option
  pub option_turn : (waiting : Waiting) (word name : Text) (value : Option Text) → bytes_eq word mark_word
      ≡ false → long_of word ≡ Some (name, value)
      → turn_fault (leaf command) [] (state rows pending waiting false) word
      ≡ or_else (long_fault (rules command) false (arg_by_long (rules command) name) value (held rows pending))
      (step_fault (leaf command) 1 (long_word (rules command) waiting word name value (held rows pending)).0
      (long_word (rules command) waiting word name value (held rows pending)).1)
  option_turn idle word name value no_mark long = rw (no_mark, long) refl
  option_turn (option id) word name value no_mark long = rw (no_mark, long) refl
  option_turn positional word name value no_mark long = rw (no_mark, long) refl

  pub option_walked : (waiting : Waiting) (word name : Text) (value : Option Text) → bytes_eq word mark_word
      ≡ false → long_of word ≡ Some (name, value)
      → walked (rules command) [] (state rows pending waiting false) word
      ≡ after_step (rules command) word (state rows pending waiting false)
      (long_word (rules command) waiting word name value (held rows pending)).0
      (long_word (rules command) waiting word name value (held rows pending)).1
  unfolding walked
  option_walked idle word name value no_mark long = rw (no_mark, long) refl
  option_walked (option id) word name value no_mark long = rw (no_mark, long) refl
  option_walked positional word name value no_mark long = rw (no_mark, long) refl

  -- flags are none that a command has
  pub short_turn : (waiting : Waiting) (word flags : Text) (flag : ℕ) → bytes_eq word mark_word ≡ false →
      long_of word ≡ None → short_of word ≡ Some flags → flags ≢ []
      → slice_get (chars flags) 0 ≡ Some flag →
      turn_fault (leaf command) [] (state rows pending waiting false) word ≡ [] → ⊥
  unfolding flags_fault
  short_turn waiting word [] flag no_mark long short some first passes = some refl
  short_turn idle word (one ∷ flags) flag no_mark long short some first passes =
      absurd (let e = rw (no_mark, long, short, first, no_short command flag) at passes in cc)
  short_turn (option id) word (one ∷ flags) flag no_mark long short some first passes =
      absurd (let e = rw (no_mark, long, short, first, no_short command flag) at passes in cc)
  short_turn positional word (one ∷ flags) flag no_mark long short some first passes =
      absurd (let e = rw (no_mark, long, short, first, no_short command flag) at passes in cc)

-- the first of two steps doesn't fail
pub first_passes : (a b : Kinds) → or_else a b ≡ [] → a ≡ []
first_passes [] b h = refl
first_passes (k ∷ ks) b h = cc

pub next_passes : (a b : Kinds) → or_else a b ≡ [] → b ≡ []
next_passes [] b h = h
next_passes (k ∷ ks) b h = cc

pub both_pass : (a b : Kinds) → a ≡ [] → b ≡ [] → or_else a b ≡ []
both_pass a b h k = ap (λ x. or_else x b) h ∙ k

module _ (command : Command) (rows : List Row) (pending : Option (Text × List Text)) (id : Text) (rule : Rule)
    (found : IsOption command id rule) (same : rule.id ≡ id) where
  -- the value of an option in its own word
  pub attached_turn : (waiting : Waiting) (word value : Text) → takes_values rule ≡ true →
      bytes_eq word mark_word ≡ false → long_of word ≡ Some (id, Some value)
      → turn_fault (leaf command) [] (state rows pending waiting false) word
      ≡ or_else (react_fault (rules command) false rule (value ∷ []) (held rows pending)) []
  attached_turn waiting word value takes no_mark long = option_turn command rows pending waiting word id
      (Some value) no_mark long ∙ rw (found.by_long, takes) refl

  pub attached_walked : (waiting : Waiting) (word value : Text) → takes_values rule ≡ true →
      bytes_eq word mark_word ≡ false → long_of word ≡ Some (id, Some value)
      → walked (rules command) [] (state rows pending waiting false) word
      ≡ state (used rule (value ∷ []) (settled_here command rows pending)) None idle false
  attached_walked waiting word value takes no_mark long = option_walked command rows pending waiting word id
      (Some value) no_mark long ∙ rw (found.by_long, takes) refl

  -- an option whose value is the next word
  pub apart_turn : (waiting : Waiting) (word : Text) → takes_values rule ≡ true → bytes_eq word mark_word
      ≡ false → long_of word ≡ Some (id, None)
      → turn_fault (leaf command) [] (state rows pending waiting false) word ≡ or_else (settles command rows pending) []
  apart_turn waiting word takes no_mark long = option_turn command rows pending waiting word id None no_mark
      long ∙ rw (found.by_long, takes) refl

  pub apart_walked : (waiting : Waiting) (word : Text) → takes_values rule ≡ true → bytes_eq word mark_word
      ≡ false → long_of word ≡ Some (id, None)
      → walked (rules command) [] (state rows pending waiting false) word
      ≡ state (settled_here command rows pending) (Some (id, [])) (option id) false
  apart_walked waiting word takes no_mark long = option_walked command rows pending waiting word id None
      no_mark long ∙ rw (found.by_long, takes, same) refl

  -- an option without a value
  pub flag_turn : (waiting : Waiting) (word : Text) → takes_values rule ≡ false → bytes_eq word mark_word
      ≡ false → long_of word ≡ Some (id, None)
      → turn_fault (leaf command) [] (state rows pending waiting false) word
      ≡ or_else (react_fault (rules command) false rule [] (held rows pending)) []
  flag_turn waiting word takes no_mark long = option_turn command rows pending waiting word id None no_mark
      long ∙ rw (found.by_long, takes) refl

  pub flag_walked : (waiting : Waiting) (word : Text) → takes_values rule ≡ false → bytes_eq word mark_word
      ≡ false → long_of word ≡ Some (id, None)
      → walked (rules command) [] (state rows pending waiting false) word
      ≡ state (used rule [] (settled_here command rows pending)) None idle false
  flag_walked waiting word takes no_mark long = option_walked command rows pending waiting word id None
      no_mark long ∙ rw (found.by_long, takes) refl

module _ (command : Command) (rows : List Row) (id : Text) (rule : Rule) (found : IsOption command id rule)
    (same : bytes_eq id rule.id ≡ true) (one : most_values rule ≡ 1) where
  -- the value of an option in the next word
  pub value_turn : (word : Text) → IsPlainWord word →
      turn_fault (leaf command) [] (state rows (Some (id, [])) (option id) false) word ≡ []
  value_turn word plain = rw (plain.3, plain.1, plain.2) refl

  pub value_walked : (word : Text) → IsPlainWord word →
      walked (rules command) [] (state rows (Some (id, [])) (option id) false) word
      ≡ state rows (Some (id, word ∷ [])) idle false
  unfolding walked
  value_walked word plain = rw (plain.3, plain.1, plain.2, found.by_id, same, one) refl
