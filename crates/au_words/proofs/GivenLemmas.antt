-- What words behind a command give is what the library takes.
use Rattle.std.proofs.Common.{◌≡◌, Bool, true, false, List, [], ◌∷◌, ◌++◌, Option, Some, None, option_to_list}
use Rattle.std.proofs.Common.{flat_map, ap, ◌∙◌, sym, refl, subst, inl, inr, append_assoc, append-nil, codes}
use Rattle.std.specs.List.{fold, list_all}
use Rattle.std.specs.Str.{bytes_eq}
use Rattle.std.proofs.lemmas.Bool.{and_parts}
use Rattle.clap.specs.Faults.{react_fault, turn_fault, use_fault, walk_fault}
use Rattle.clap.specs.Lexer.{long_of}
use Rattle.clap.specs.Walk.{Row, Rule, Text, Waiting, Walk, idle, option, positional, most_values}
use Rattle.clap.specs.Walk.{takes_values, used, walked}
use Rattle.au_words.specs.Given.{Given, Use, part, entry, steps, life, mark, Offers, WritesAll, takes}
use Rattle.au_words.specs.Given.{parts_of, entries_of, steps_of, lives_of}
use Rattle.au_words.specs.Jobs.{given, is_marked, is_run, takes_entry}
use Rattle.au_words.specs.declared.jobs.Command.{Command}
use Rattle.au_words.proofs.Leaves.{leaf, rules}
use Rattle.au_words.proofs.LookLemmas.{mark_word, unmarked_plain}
use Rattle.au_words.proofs.SpellingLemmas.{written, entry_word, steps_word, entry_alone, steps_alone, life_alone}
use Rattle.au_words.proofs.RowLemmas.{entry_rule, steps_rule, life_rule, with_part, with_entry, with_steps}
use Rattle.au_words.proofs.RowLemmas.{with_life, views_entry, views_steps, entry_passes, steps_passes}
use Rattle.au_words.proofs.RowLemmas.{life_passes}
use Rattle.au_words.proofs.StandLemmas.{Stands, stands_done, stands_part, stands_entry, stands_steps}
use Rattle.au_words.proofs.StandLemmas.{stands_life, all_pass, none_left}
use Rattle.au_words.proofs.TurnLemmas.{IsOption, apart_turn, apart_walked, attached_turn, attached_walked}
use Rattle.au_words.proofs.TurnLemmas.{behind_turn, behind_walked, both_pass, entry_option, flag_turn}
use Rattle.au_words.proofs.TurnLemmas.{flag_walked, held, is_quiet, life_option, mark_turn, mark_walked}
use Rattle.au_words.proofs.TurnLemmas.{plain_turn, plain_walked, settled_here, settles, state, steps_option}
use Rattle.au_words.proofs.TurnLemmas.{value_turn, value_walked}

-- Uses give this, behind what is given before them.
abbrev pub Extends : Given → List Use → Given → Type 0
Extends before uses after =
    (after.parts ≡ before.parts ++ flat_map parts_of uses)
    × (option_to_list after.entry ≡ option_to_list before.entry ++ flat_map entries_of uses)
    × (option_to_list after.steps ≡ option_to_list before.steps ++ flat_map steps_of uses)
    × (given after.life ≡ given before.life ++ flat_map lives_of uses)

to_list_is : {X : Type 0} (a b : Option X) → option_to_list a ≡ option_to_list b → a ≡ b
to_list_is None None h = refl
to_list_is None (Some y) h = cc
to_list_is (Some x) None h = cc
to_list_is (Some x) (Some y) h = cc

given_is : (a b : Bool) → given a ≡ given b → a ≡ b
given_is true true h = refl
given_is true false h = cc
given_is false true h = cc
given_is false false h = refl

none_before : {X : Type 0} (a b : Option X) (x : X) (xs : List X) → option_to_list b ≡ option_to_list a
    ++ x ∷ xs → a ≡ None
none_before None b x xs h = refl
none_before (Some y) None x xs h = cc
none_before (Some y) (Some z) x xs h = cc

false_before : (a b : Bool) (xs : List Bool) → given b ≡ given a ++ true ∷ xs → a ≡ false
false_before false b xs h = refl
false_before true true xs h = cc
false_before true false xs h = cc

abbrev given_of : List Text → Option Text → Option Text → Bool → Given
given_of words value count lives = record { parts = words; entry = value; steps = count; life = lives }

same_given : (a b : Given) → a.parts ≡ b.parts → a.entry ≡ b.entry → a.steps ≡ b.steps → a.life ≡ b.life → a ≡ b
same_given a b words value count lives =
    ap (λ x. given_of x a.entry a.steps a.life) words
    ∙ ap (λ x. given_of b.parts x a.steps a.life) value
    ∙ ap (λ x. given_of b.parts b.entry x a.life) count
    ∙ ap (λ x. given_of b.parts b.entry b.steps x) lives

extends_none : (before after : Given) → Extends before [] after → before ≡ after
extends_none before after says =
    same_given before after
    (sym (says.0 ∙ append-nil before.parts))
    (to_list_is before.entry after.entry (sym (says.1 ∙ append-nil (option_to_list before.entry))))
    (to_list_is before.steps after.steps (sym (says.2 ∙ append-nil (option_to_list before.steps))))
    (given_is before.life after.life (sym (says.3 ∙ append-nil (given before.life))))

pub none_extends : (what : Given) → Extends what [] what
none_extends what = (
  sym (append-nil what.parts),
  sym (append-nil (option_to_list what.entry)),
  sym (append-nil (option_to_list what.steps)),
  sym (append-nil (given what.life)),
)

-- ---- what is given is taken

-- The words that are left are taken, and the library stands behind them by what is given last.
abbrev pub Ends : Command → Walk → List Text → Given → Type 0
Ends command at words last =
    (walk_fault (leaf command) [] at words ≡ [])
    × (rows : List Row) × (pending : Option (Text × List Text)) × (waiting : Waiting) × (marked : Bool)
    × (fold (walked (rules command) []) at words ≡ state rows pending waiting marked) × Stands command rows pending last

-- one word more
ends_after : (command : Command) (at next : Walk) (word : Text) (words : List Text) (last : Given) →
    walked (rules command) [] at word ≡ next → turn_fault (leaf command) [] at word ≡ []
    → Ends command next words last → Ends command at (word ∷ words) last
ends_after command at next word words last is turn ends = (
  all_pass command at next word words is turn ends.0,
  ends.1,
  ends.2,
  ends.3,
  ends.4,
  ap (λ w. fold (walked (rules command) []) w words) is ∙ ends.5,
  ends.6,
)

module _ (command : Command) (rows : List Row) (pending : Option (Text × List Text)) (waiting : Waiting)
    (what : Given) (stands : Stands command rows pending what) (words : List Text) (last : Given) where
  here : Walk
  here = state rows pending waiting false

  ends_none : (marked : Bool) → what ≡ last → Ends command (state rows pending waiting marked) [] last
  ends_none marked same = (
    none_left command (state rows pending waiting marked),
    rows,
    pending,
    waiting,
    marked,
    refl,
    subst (Stands command rows pending) same stands,
  )

  ends_behind : (word : Text) → Ends command
      (state (settled_here command rows pending) (Some (codes "part", word ∷ [])) positional true) words last
      → Ends command (state rows pending waiting true) (word ∷ words) last
  ends_behind word ends =
      ends_after command (state rows pending waiting true) _ word words last
      (behind_walked command rows pending waiting word)
      (behind_turn command rows pending waiting word ∙ stands.settled) ends

  ends_mark : Ends command (state rows pending waiting true) words last →
      Ends command (state rows pending waiting false) (mark_word ∷ words) last
  ends_mark ends = ends_after command (state rows pending waiting false) _ mark_word words last
      (mark_walked command rows pending waiting) (mark_turn command rows pending waiting) ends

  ends_part : (word : Text) → is_quiet waiting ≡ true → is_marked word ≡ false
      → Ends command (state (settled_here command rows pending) (Some (codes "part", word ∷ [])) positional
      false) words last
      → Ends command (state rows pending waiting false) (word ∷ words) last
  ends_part word quiet plain ends =
      let looks_plain = unmarked_plain word plain in
      ends_after command (state rows pending waiting false) _ word words last
      (plain_walked command rows pending waiting word quiet looks_plain)
      (plain_turn command rows pending waiting word quiet looks_plain ∙ stands.settled) ends

  -- an option and its value, in one word
  ends_attached : (id : Text) (rule : Rule) (found : IsOption command id rule) → rule.id ≡ id →
      takes_values rule ≡ true → (word value : Text) → bytes_eq word mark_word ≡ false →
      long_of word ≡ Some (id, Some value)
      → use_fault false rule (value ∷ []) (settled_here command rows pending) ≡ []
      → Ends command (state (used rule (value ∷ []) (settled_here command rows pending)) None idle false) words last
      → Ends command (state rows pending waiting false) (word ∷ words) last
  ends_attached id rule found same takes word value no_mark long passes ends =
      ends_after command (state rows pending waiting false) _ word words last
      (attached_walked command rows pending id rule found same waiting word value takes no_mark long)
      (attached_turn command rows pending id rule found same waiting word value takes no_mark long
      ∙ both_pass (react_fault (rules command) false rule (value ∷ []) (held rows pending)) []
      (both_pass (settles command rows pending) _ stands.settled passes) refl) ends

  -- an option and its value, in two words
  ends_apart : (id : Text) (rule : Rule) (found : IsOption command id rule) → rule.id ≡ id →
      bytes_eq id rule.id ≡ true → takes_values rule ≡ true → most_values rule ≡ 1
      → (word value : Text) → bytes_eq word mark_word ≡ false → long_of word ≡ Some (id, None) → is_marked value ≡ false
      → Ends command (state (settled_here command rows pending) (Some (id, value ∷ [])) idle false) words last
      → Ends command (state rows pending waiting false) (word ∷ value ∷ words) last
  ends_apart id rule found same as_id takes one word value no_mark long plain ends =
      let looks_plain = unmarked_plain value plain in
      ends_after command (state rows pending waiting false) _ word (value ∷ words) last
      (apart_walked command rows pending id rule found same waiting word takes no_mark long)
      (apart_turn command rows pending id rule found same waiting word takes no_mark long
      ∙ both_pass (settles command rows pending) [] stands.settled refl)
      (ends_after command (state (settled_here command rows pending) (Some (id, [])) (option id) false) _
      value words last
      (value_walked command (settled_here command rows pending) id rule found as_id one value looks_plain)
      (value_turn command (settled_here command rows pending) id rule found as_id one value looks_plain) ends)

  ends_life : is_run command ≡ true → what.life ≡ false
      → Ends command (state (used life_rule [] (settled_here command rows pending)) None idle false) words last
      → Ends command (state rows pending waiting false) (codes "--life" ∷ words) last
  ends_life taken free ends =
      ends_after command (state rows pending waiting false) _ (codes "--life") words last
      (flag_walked command rows pending (codes "life") life_rule (life_option command taken) refl waiting
      (codes "--life") refl refl life_alone)
      (flag_turn command rows pending (codes "life") life_rule (life_option command taken) refl waiting
      (codes "--life") refl refl life_alone
      ∙ both_pass (react_fault (rules command) false life_rule [] (held rows pending)) []
      (both_pass (settles command rows pending) _ stands.settled
      (life_passes (settled_here command rows pending) what stands.views free)) refl) ends

-- the word of an option alone, and with a value
abbrev IsSpelled : Text → Text → Type 0
IsSpelled id value =
    (long_of (45 ∷ 45 ∷ id) ≡ Some (id, None)) × (long_of ((45 ∷ 45 ∷ id) ++ 61 ∷ value) ≡ Some (id, Some value))
    × (bytes_eq (45 ∷ 45 ∷ id) mark_word ≡ false) × (bytes_eq ((45 ∷ 45 ∷ id) ++ 61 ∷ value) mark_word ≡ false)

-- an option and its value in one word or in two
ends_valued : (command : Command) (rows : List Row) (pending : Option (Text × List Text)) (waiting : Waiting)
    (what : Given) → Stands command rows pending what
    → (id : Text) (rule : Rule) (found : IsOption command id rule) → rule.id ≡ id → bytes_eq id rule.id
    ≡ true → takes_values rule ≡ true → most_values rule ≡ 1
    → (value : Text) (front words : List Text) (last : Given) → IsSpelled id value →
    use_fault false rule (value ∷ []) (settled_here command rows pending) ≡ [] →
    Offers (45 ∷ 45 ∷ id) value front
    → Ends command (state (used rule (value ∷ []) (settled_here command rows pending)) None idle false) words last
    → Ends command (state (settled_here command rows pending) (Some (id, value ∷ [])) idle false) words last
    → Ends command (state rows pending waiting false) (front ++ words) last
ends_valued command rows pending waiting what stands id rule found same as_id takes_it most value front words
    last spelled passes offers one two =
    let Found : List Text → Type 0 = λ l. Ends command (state rows pending waiting false) (l ++ words) last in
    elim offers [
      | inl e ↦ subst Found (sym e) (ends_attached command rows pending waiting what stands words last id rule
          found same takes_it
          ((45 ∷ 45 ∷ id) ++ 61 ∷ value) value spelled.3 spelled.1 passes one)
      | inr w ↦ subst Found (sym w.0)
          (ends_apart command rows pending waiting what stands words last id rule found same as_id takes_it most
          (45 ∷ 45 ∷ id) value spelled.2 spelled.0 w.1 two)
    ]

-- what words give is taken
pub complete : (command : Command) (uses : List Use) (marked : Bool) (rows : List Row)
    (pending : Option (Text × List Text)) (waiting : Waiting) (what : Given) (words : List Text) (last : Given)
    → (marked ≡ false → is_quiet waiting ≡ true) → Stands command rows pending what →
    WritesAll marked uses words → list_all (takes command) uses ≡ true → Extends what uses last
    → Ends command (state rows pending waiting marked) words last
complete command [] true rows pending waiting what words last quiet stands written taken says =
    subst (λ l. Ends command (state rows pending waiting true) l last) (sym written)
    (ends_none command rows pending waiting what stands [] last true (extends_none what last says))
complete command [] false rows pending waiting what words last quiet stands written taken says =
    subst (λ l. Ends command (state rows pending waiting false) l last) (sym written)
    (ends_none command rows pending waiting what stands [] last false (extends_none what last says))
complete command (part word ∷ uses) true rows pending waiting what words last quiet stands written taken says =
    let at : words ≡ word ∷ written.1 = written.2 ∙ ap (λ f. f ++ written.1) written.3 in
    subst (λ l. Ends command (state rows pending waiting true) l last) (sym at)
    (ends_behind command rows pending waiting what stands written.1 last word
    (complete command uses true (settled_here command rows pending) (Some (codes "part", word ∷ []))
    positional (with_part what word) written.1 last (λ e. let f = e in cc)
    (stands_part command rows pending what stands word) written.4 taken
    (says.0 ∙ sym (append_assoc what.parts (word ∷ []) (flat_map parts_of uses)), says.1, says.2, says.3)))
complete command (entry value ∷ uses) true rows pending waiting what words last quiet stands written taken
    says = absurd written.3
complete command (steps value ∷ uses) true rows pending waiting what words last quiet stands written taken
    says = absurd written.3
complete command (life ∷ uses) true rows pending waiting what words last quiet stands written taken says =
    absurd written.3
complete command (mark ∷ uses) true rows pending waiting what words last quiet stands written taken says =
    absurd written.3
complete command (part word ∷ uses) false rows pending waiting what words last quiet stands written taken says =
    let at : words ≡ word ∷ written.1 = written.2 ∙ ap (λ f. f ++ written.1) written.3.0 in
    subst (λ l. Ends command (state rows pending waiting false) l last) (sym at)
    (ends_part command rows pending waiting what stands written.1 last word (quiet refl) written.3.1
    (complete command uses false (settled_here command rows pending) (Some (codes "part", word ∷ []))
    positional (with_part what word) written.1 last (λ e. refl)
    (stands_part command rows pending what stands word) written.4 taken
    (says.0 ∙ sym (append_assoc what.parts (word ∷ []) (flat_map parts_of uses)), says.1, says.2, says.3)))
complete command (entry value ∷ uses) false rows pending waiting what words last quiet stands written taken says =
    let none : what.entry ≡ None = none_before what.entry last.entry value (flat_map entries_of uses) says.1 in
    let parts = and_parts (takes_entry command) (list_all (takes command) uses) taken in
    let more : Extends (with_entry what value) uses last =
    (says.0, says.1 ∙ ap (λ o. option_to_list o ++ value ∷ flat_map entries_of uses) none, says.2, says.3)
    in
    subst (λ l. Ends command (state rows pending waiting false) l last) (sym written.2)
    (ends_valued command rows pending waiting what stands (codes "entry") entry_rule
    (entry_option command parts.0) refl refl refl refl value written.0 written.1 last
    (entry_alone, entry_word value, refl, refl)
    (entry_passes value (settled_here command rows pending) what stands.views none) written.3
    (complete command uses false (used entry_rule (value ∷ []) (settled_here command rows pending)) None idle
    (with_entry what value) written.1 last (λ e. refl)
    (stands_done command (used entry_rule (value ∷ []) (settled_here command rows pending))
    (with_entry what value) (views_entry (settled_here command rows pending) what value stands.views none))
    written.4 parts.1 more)
    (complete command uses false (settled_here command rows pending) (Some (codes "entry", value ∷ [])) idle
    (with_entry what value) written.1 last (λ e. refl)
    (stands_entry command rows pending what stands value parts.0 none) written.4 parts.1 more))
complete command (steps value ∷ uses) false rows pending waiting what words last quiet stands written taken says =
    let none : what.steps ≡ None = none_before what.steps last.steps value (flat_map steps_of uses) says.2 in
    let parts = and_parts (is_run command) (list_all (takes command) uses) taken in
    let more : Extends (with_steps what value) uses last =
    (says.0, says.1, says.2 ∙ ap (λ o. option_to_list o ++ value ∷ flat_map steps_of uses) none, says.3) in
    subst (λ l. Ends command (state rows pending waiting false) l last) (sym written.2)
    (ends_valued command rows pending waiting what stands (codes "steps") steps_rule
    (steps_option command parts.0) refl refl refl refl value written.0 written.1 last
    (steps_alone, steps_word value, refl, refl)
    (steps_passes value (settled_here command rows pending) what stands.views none) written.3
    (complete command uses false (used steps_rule (value ∷ []) (settled_here command rows pending)) None idle
    (with_steps what value) written.1 last (λ e. refl)
    (stands_done command (used steps_rule (value ∷ []) (settled_here command rows pending))
    (with_steps what value) (views_steps (settled_here command rows pending) what value stands.views none))
    written.4 parts.1 more)
    (complete command uses false (settled_here command rows pending) (Some (codes "steps", value ∷ [])) idle
    (with_steps what value) written.1 last (λ e. refl)
    (stands_steps command rows pending what stands value parts.0 none) written.4 parts.1 more))
complete command (life ∷ uses) false rows pending waiting what words last quiet stands written taken says =
    let none : what.life ≡ false = false_before what.life last.life (flat_map lives_of uses) says.3 in
    let parts = and_parts (is_run command) (list_all (takes command) uses) taken in
    let at : words ≡ codes "--life" ∷ written.1 = written.2 ∙ ap (λ f. f ++ written.1) written.3 in
    subst (λ l. Ends command (state rows pending waiting false) l last) (sym at)
    (ends_life command rows pending waiting what stands written.1 last parts.0 none
    (complete command uses false (used life_rule [] (settled_here command rows pending)) None idle
    (with_life what) written.1 last (λ e. refl)
    (stands_life command rows pending what stands none) written.4 parts.1
    (says.0, says.1, says.2, says.3 ∙ ap (λ b. given b ++ true ∷ flat_map lives_of uses) none)))
complete command (mark ∷ uses) false rows pending waiting what words last quiet stands written taken says =
    let at : words ≡ codes "--" ∷ written.1 = written.2 ∙ ap (λ f. f ++ written.1) written.3 in
    subst (λ l. Ends command (state rows pending waiting false) l last) (sym at)
    (ends_mark command rows pending waiting what stands written.1 last
    (complete command uses true rows pending waiting what written.1 last (λ e. let f = e in cc) stands
    written.4 taken says))
