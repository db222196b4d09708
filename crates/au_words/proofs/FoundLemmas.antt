-- What the library takes is what words give.
use Rattle.std.proofs.Common.{◌≡◌, ◌≢◌, ℕ, ◌≤◌, zero, suc, Bool, true, false, List, [], ◌∷◌, ◌++◌, length}
use Rattle.std.proofs.Common.{Option, Some, None, option_to_list, flat_map, ap, ◌∙◌, sym, refl, subst, inl}
use Rattle.std.proofs.Common.{inr, append_assoc, IsTrue, codes, arith}
use Rattle.std.specs.List.{All, list_all}
use Rattle.std.specs.Str.{IsUtf8, bytes_eq}
use Rattle.std.proofs.lemmas.Bool.{and_from}
use Rattle.clap.specs.Faults.{long_fault, react_fault, turn_fault, use_fault, walk_fault}
use Rattle.clap.specs.Lexer.{long_of, name_and_value}
use Rattle.clap.specs.Walk.{Row, Rule, Text, Waiting, idle, option, positional, arg_by_long, most_values}
use Rattle.clap.specs.Walk.{takes_values, used, walked}
use Rattle.au_words.specs.Given.{Given, Use, part, entry, steps, life, mark, Offers, WritesAll, takes}
use Rattle.au_words.specs.Given.{parts_of, entries_of, steps_of, lives_of}
use Rattle.au_words.specs.Jobs.{given, is_marked, is_run, takes_entry}
use Rattle.au_words.specs.declared.jobs.Command.{Command}
use Rattle.au_words.proofs.Leaves.{leaf, rules}
use Rattle.au_words.proofs.LookLemmas.{IsLong, IsPlainWord, looks, mark_word}
use Rattle.au_words.proofs.SpellingLemmas.{option_back, written}
use Rattle.au_words.proofs.RowLemmas.{entry_rule, steps_rule, life_rule, with_part, with_entry, with_steps}
use Rattle.au_words.proofs.RowLemmas.{with_life, views_entry, views_steps, entry_free, steps_free, life_free}
use Rattle.au_words.proofs.StandLemmas.{Stands, stands_done, stands_part, stands_entry, stands_steps}
use Rattle.au_words.proofs.StandLemmas.{stands_life, word_passes, words_pass, long_passes, long_settles}
use Rattle.au_words.proofs.StandLemmas.{short_fails, later_settles, behind_settles, EndsWell, ends_next}
use Rattle.au_words.proofs.TurnLemmas.{IsOption, Names, apart_walked, attached_turn, attached_walked}
use Rattle.au_words.proofs.TurnLemmas.{behind_walked, entry_option, first_passes, flag_turn, flag_walked}
use Rattle.au_words.proofs.TurnLemmas.{held, is_quiet, life_option, long_found, mark_walked, next_passes}
use Rattle.au_words.proofs.TurnLemmas.{plain_walked, settled_here, settles, state, steps_option, value_walked}
use Rattle.au_words.proofs.GivenLemmas.{Extends, none_extends}

-- Words behind what is given go on to something that is given last, behind a mark or not.
abbrev pub Goes : Command → Bool → Given → List Text → Type 0
Goes command marked what words =
    (last : Given) × (uses : List Use) × WritesAll marked uses words × IsTrue (list_all (takes command) uses)
    × Extends what uses last

goes_nowhere : (command : Command) (marked : Bool) (what : Given) → Goes command marked what []
goes_nowhere command true what = (what, [], refl, refl, none_extends what)
goes_nowhere command false what = (what, [], refl, refl, none_extends what)

module _ (command : Command) (what : Given) where
  goes_part : (word : Text) (words : List Text) → is_marked word ≡ false →
      Goes command false (with_part what word) words → Goes command false what (word ∷ words)
  goes_part word words plain (last, uses, written, taken, says) = (
    last,
    part word ∷ uses,
    (word ∷ [], words, refl, (refl, plain), written),
    taken,
    (says.0 ∙ append_assoc what.parts (word ∷ []) (flat_map parts_of uses), says.1, says.2, says.3),
  )

  goes_behind : (word : Text) (words : List Text) → Goes command true (with_part what word) words →
      Goes command true what (word ∷ words)
  goes_behind word words (last, uses, written, taken, says) = (
    last,
    part word ∷ uses,
    (word ∷ [], words, refl, refl, written),
    taken,
    (says.0 ∙ append_assoc what.parts (word ∷ []) (flat_map parts_of uses), says.1, says.2, says.3),
  )

  goes_entry : (value : Text) (front words : List Text) → Offers (codes "--entry") value front →
      takes_entry command ≡ true → what.entry ≡ None
      → Goes command false (with_entry what value) words → Goes command false what (front ++ words)
  goes_entry value front words offers takes_it free (last, uses, written, taken, says) = (
    last,
    entry value ∷ uses,
    (front, words, refl, offers, written),
    and_from (takes_entry command) _ takes_it taken,
    (says.0, says.1 ∙ sym (ap (λ o. option_to_list o ++ value ∷ flat_map entries_of uses) free), says.2, says.3),
  )

  goes_steps : (value : Text) (front words : List Text) → Offers (codes "--steps") value front →
      is_run command ≡ true → what.steps ≡ None
      → Goes command false (with_steps what value) words → Goes command false what (front ++ words)
  goes_steps value front words offers takes_it free (last, uses, written, taken, says) = (
    last,
    steps value ∷ uses,
    (front, words, refl, offers, written),
    and_from (is_run command) _ takes_it taken,
    (says.0, says.1, says.2 ∙ sym (ap (λ o. option_to_list o ++ value ∷ flat_map steps_of uses) free), says.3),
  )

  goes_life : (words : List Text) → is_run command ≡ true → what.life ≡ false →
      Goes command false (with_life what) words → Goes command false what (codes "--life" ∷ words)
  goes_life words takes_it free (last, uses, written, taken, says) = (
    last,
    life ∷ uses,
    (codes "--life" ∷ [], words, refl, refl, written),
    and_from (is_run command) _ takes_it taken,
    (says.0, says.1, says.2, says.3 ∙ sym (ap (λ b. given b ++ true ∷ flat_map lives_of uses) free)),
  )

  goes_mark : (words : List Text) → Goes command true what words → Goes command false what (mark_word ∷ words)
  goes_mark words (last, uses, written, taken, says) =
      (last, mark ∷ uses, (mark_word ∷ [], words, refl, refl, written), taken, says)

-- the words behind the first
utf8_rest : (word : Text) (words : List Text) → All IsUtf8 (word ∷ words) → All IsUtf8 words
utf8_rest word words all = λ k d lt. all (suc k) d (omega arith)

utf8_first : (word : Text) (words : List Text) → All IsUtf8 (word ∷ words) → IsUtf8 word
utf8_first word words all = all 0 [] (omega arith)

-- where the library stands in words that it takes to their end
pub record Going (command : Command) (rows : List Row) (pending : Option (Text × List Text))
    (waiting : Waiting) (marked : Bool) (words : List Text) : Type 0 where
  pub walks : walk_fault (leaf command) [] (state rows pending waiting marked) words ≡ []
  pub ends : EndsWell command (state rows pending waiting marked) words

-- one word on
going_next : (command : Command) (rows rows' : List Row) (pending pending' : Option (Text × List Text))
    (waiting waiting' : Waiting) (marked marked' : Bool) (word : Text) (words : List Text)
    → Going command rows pending waiting marked (word ∷ words) →
    walked (rules command) [] (state rows pending waiting marked) word ≡ state rows' pending' waiting'
    marked'
    → Going command rows' pending' waiting' marked' words
going_next command rows rows' pending pending' waiting waiting' marked marked' word words going is = record {
  walks = words_pass command (state rows pending waiting marked) (state rows' pending' waiting' marked') word
      words is going.walks;
  ends = ends_next command (state rows pending waiting marked) (state rows' pending' waiting' marked') word
      words is going.ends;
}

-- words behind the mark
pub found_behind : (command : Command) (words : List Text) (rows : List Row)
    (pending : Option (Text × List Text)) (waiting : Waiting) (what : Given) → Stands command rows pending what
    → Going command rows pending waiting true words → Goes command true what words
found_behind command [] rows pending waiting what stands going = goes_nowhere command true what
found_behind command (word ∷ words) rows pending waiting what stands going =
    goes_behind command what word words
    (found_behind command words (settled_here command rows pending) (Some (codes "part", word ∷ []))
    positional (with_part what word)
    (stands_part command rows pending what stands word)
    (going_next command rows (settled_here command rows pending) pending (Some (codes "part", word ∷ []))
    waiting positional true true word words going (behind_walked command rows pending waiting word)))

-- an option that waits for its value, at the end of the words
no_value_left : (command : Command) (id : Text) (rule : Rule) (found : IsOption command id rule)
    (rows : List Row) → use_fault false rule [] rows ≢ []
    → (words : List Text) → Going command rows (Some (id, [])) (option id) false words → All IsUtf8 words
    → (value : Text) × (rest : List Text) × (words ≡ value ∷ rest) × IsPlainWord value
no_value_left command id rule found rows fails [] going utf8 = let ends = going.ends
    in absurd (fails (rw found.by_id at ends))
no_value_left command id rule found rows fails (word ∷ words) going utf8 = elim (looks word) [
  | inl is ↦
      let next : walked (rules command) [] (state rows (Some (id, [])) (option id) false) word
      ≡ state rows (Some (id, [])) (option id) true =
      ap (walked (rules command) [] (state rows (Some (id, [])) (option id) false)) is
      ∙ mark_walked command rows (Some (id, [])) (option id) in
      let behind = going_next command rows rows (Some (id, [])) (Some (id, [])) (option id) (option id) false
      true word words going next in
      let settled = behind_settles command words rows (Some (id, [])) (option id) behind.walks behind.ends in
      absurd (fails (rw found.by_id at settled))
  | inr other ↦ elim other [
    | inl is ↦
        let parts = name_and_value (is.0 ∷ is.1) in
        let settled = long_settles command rows (Some (id, [])) (arg_by_long (rules command) parts.0) parts.1
        (long_passes command rows (Some (id, [])) (option id) word parts.0 parts.1 words
        (ap (λ w. bytes_eq w mark_word) is.2) (ap long_of is.2) going.walks) in
        absurd (fails (rw found.by_id at settled))
    | inr left ↦ elim left [
      | inl is ↦ absurd (short_fails command rows (Some (id, [])) (option id) word words is
          (utf8_first word words utf8) going.walks)
      | inr plain ↦ (word, words, refl, plain)
    ]
  ]
]

-- what waits for its value gets the next word, and this is its first use
valued : (command : Command) (id : Text) (rule : Rule) (found : IsOption command id rule) →
    bytes_eq id rule.id ≡ true → most_values rule ≡ 1 → (rows : List Row) (value : Text) (words : List Text)
    → IsPlainWord value → All IsUtf8 words → Going command rows (Some (id, [])) (option id) false (value ∷ words)
    → Going command rows (Some (id, value ∷ [])) idle false words × (use_fault false rule (value ∷ []) rows ≡ [])
valued command id rule found as_id one rows value words plain utf8 going =
    let next = going_next command rows rows (Some (id, [])) (Some (id, value ∷ [])) (option id) idle false
    false value words going (value_walked command rows id rule found as_id one value plain) in
    let settled = later_settles command words rows (Some (id, value ∷ [])) idle refl utf8 next.walks next.ends in
    (next, (rw found.by_id at settled))

-- the option of a word that begins with `--`, and goes on
option_of : (command : Command) (rows : List Row) (pending : Option (Text × List Text)) (waiting : Waiting)
    (word : Text) (words : List Text) → IsLong word → Going command rows pending waiting false (word ∷ words)
    → (name : Text) × (value : Option Text) × (bytes_eq word mark_word ≡ false)
    × (long_of word ≡ Some (name, value)) × (word ≡ 45 ∷ 45 ∷ written name value) × Names command name
    × (turn_fault (leaf command) [] (state rows pending waiting false) word ≡ [])
option_of command rows pending waiting word words is going =
    let parts = name_and_value (is.0 ∷ is.1) in
    let no_mark : bytes_eq word mark_word ≡ false = ap (λ w. bytes_eq w mark_word) is.2 in
    let long : long_of word ≡ Some (parts.0, parts.1) = ap long_of is.2 in
    let passes = long_passes command rows pending waiting word parts.0 parts.1 words no_mark long going.walks in (
      parts.0,
      parts.1,
      no_mark,
      long,
      is.2 ∙ option_back is.0 is.1 parts.0 parts.1 refl,
      names (arg_by_long (rules command) parts.0) refl passes,
      word_passes command (state rows pending waiting false) word words going.walks,
    )
  where
    names : (found : Option Rule) → arg_by_long (rules command) (name_and_value (is.0 ∷ is.1)).0 ≡ found
        → long_fault (rules command) false (arg_by_long (rules command) (name_and_value (is.0 ∷ is.1)).0)
        (name_and_value (is.0 ∷ is.1)).1 (held rows pending) ≡ [] →
        Names command (name_and_value (is.0 ∷ is.1)).0
    names None e passes = absurd (let bad = rw e at passes in cc)
    names (Some rule) e passes = long_found command (name_and_value (is.0 ∷ is.1)).0 rule e

-- What at most n words give is known.
abbrev Known : Command → ℕ → Type 0
Known command n =
    (words : List Text) (rows : List Row) (pending : Option (Text × List Text)) (waiting : Waiting)
    (what : Given) → length words ≤ n → is_quiet waiting ≡ true → All IsUtf8 words
    → Stands command rows pending what → Going command rows pending waiting false words → Goes command false what words

module _ (command : Command) (n : ℕ) (known : Known command n) (rows : List Row)
    (pending : Option (Text × List Text)) (waiting : Waiting) (what : Given)
    (stands : Stands command rows pending what)
    (word : Text) (words : List Text) (few : length words ≤ n) (utf8 : All IsUtf8 words)
    (going : Going command rows pending waiting false (word ∷ words))
    (no_mark : bytes_eq word mark_word ≡ false)
    (turn : turn_fault (leaf command) [] (state rows pending waiting false) word ≡ []) where
  -- the use of an option that doesn't fail
  use_passes : (id : Text) (rule : Rule) (found : IsOption command id rule) → rule.id ≡ id →
      takes_values rule ≡ true → (value : Text) → long_of word ≡ Some (id, Some value)
      → use_fault false rule (value ∷ []) (settled_here command rows pending) ≡ []
  use_passes id rule found same takes_it value long =
      next_passes (settles command rows pending) _
      (first_passes (react_fault (rules command) false rule (value ∷ []) (held rows pending)) []
      (sym (attached_turn command rows pending id rule found same waiting word value takes_it no_mark long) ∙ turn))

  -- an option with a value, where it is kept in `with_value` and nothing stands there
  module _ (id : Text) (rule : Rule) (with_value : Given → Text → Given) (IsFree : Type 0)
      (option_here : IsOption command id rule) (same : rule.id ≡ id) (as_id : bytes_eq id rule.id ≡ true)
      (takes_it : takes_values rule ≡ true) (one : most_values rule ≡ 1)
      (needs : use_fault false rule [] (settled_here command rows pending) ≢ [])
      (free : (value : Text) → use_fault false rule (value ∷ []) (settled_here command rows pending) ≡ [] → IsFree)
      (stands_kept : (value : Text) → IsFree →
      Stands command (used rule (value ∷ []) (settled_here command rows pending)) None
      (with_value what value))
      (stands_pending : (value : Text) → IsFree → Stands command (settled_here command rows pending)
      (Some (id, value ∷ [])) (with_value what value))
      (goes : (value : Text) (front rest : List Text) → Offers (45 ∷ 45 ∷ id) value front → IsFree →
      Goes command false (with_value what value) rest → Goes command false what (front ++ rest)) where
    found_valued : (value : Option Text) → long_of word ≡ Some (id, value) →
        word ≡ 45 ∷ 45 ∷ written id value → Goes command false what (word ∷ words)
    found_valued (Some value) long is =
        let here = settled_here command rows pending in
        let is_free = free value (use_passes id rule option_here same takes_it value long) in
        let next = going_next command rows (used rule (value ∷ []) here) pending None waiting idle false false
        word words going
        (attached_walked command rows pending id rule option_here same waiting word value takes_it no_mark long) in
        goes value (word ∷ []) words (inl (ap (λ l. l ∷ []) is)) is_free
        (known words (used rule (value ∷ []) here) None idle (with_value what value) few refl utf8
        (stands_kept value is_free) next)
    found_valued None long is =
        let here = settled_here command rows pending in
        let next = going_next command rows here pending (Some (id, [])) waiting (option id) false false word words going
        (apart_walked command rows pending id rule option_here same waiting word takes_it no_mark long) in
        let left = no_value_left command id rule option_here here needs words next utf8 in
        let rest_utf8 : All IsUtf8 left.1 = utf8_rest left.0 left.1 (subst (All IsUtf8) left.2 utf8) in
        let fewer : length left.1 ≤ n =
        (let same_length : length words ≡ suc (length left.1) = ap length left.2 in omega arith) in
        let got = valued command id rule option_here as_id one here left.0 left.1 left.3 rest_utf8
        (subst (Going command here (Some (id, [])) (option id) false) left.2 next) in
        let is_free = free left.0 got.1 in
        subst (λ l. Goes command false what (word ∷ l)) (sym left.2)
        (goes left.0 (word ∷ left.0 ∷ []) left.1 (inr (ap (λ w. w ∷ left.0 ∷ []) is, left.3.0)) is_free
        (known left.1 here (Some (id, left.0 ∷ [])) idle (with_value what left.0) fewer refl rest_utf8
        (stands_pending left.0 is_free) got.0))

  found_entry : takes_entry command ≡ true → (value : Option Text) →
      long_of word ≡ Some (codes "entry", value) → word ≡ 45 ∷ 45 ∷ written (codes "entry") value →
      Goes command false what (word ∷ words)
  found_entry taken =
      let here = settled_here command rows pending in
      found_valued (codes "entry") entry_rule with_entry (what.entry ≡ None) (entry_option command taken) refl
      refl refl refl (λ e. let f = e in cc)
      (λ value passes. entry_free value here what stands.views passes)
      (λ value free. stands_done command (used entry_rule (value ∷ []) here) (with_entry what value)
      (views_entry here what value stands.views free))
      (λ value free. stands_entry command rows pending what stands value taken free)
      (λ value front rest offers free. goes_entry command what value front rest offers taken free)

  found_steps : is_run command ≡ true → (value : Option Text) → long_of word ≡ Some (codes "steps", value) →
      word ≡ 45 ∷ 45 ∷ written (codes "steps") value → Goes command false what (word ∷ words)
  found_steps taken =
      let here = settled_here command rows pending in
      found_valued (codes "steps") steps_rule with_steps (what.steps ≡ None) (steps_option command taken) refl
      refl refl refl (λ e. let f = e in cc)
      (λ value passes. steps_free value here what stands.views passes)
      (λ value free. stands_done command (used steps_rule (value ∷ []) here) (with_steps what value)
      (views_steps here what value stands.views free))
      (λ value free. stands_steps command rows pending what stands value taken free)
      (λ value front rest offers free. goes_steps command what value front rest offers taken free)

  found_life : (value : Option Text) → long_of word ≡ Some (codes "life", value) →
      word ≡ 45 ∷ 45 ∷ written (codes "life") value → is_run command ≡ true →
      Goes command false what (word ∷ words)
  found_life (Some value) long is taken =
      let passes = long_passes command rows pending waiting word (codes "life") (Some value) words no_mark
      long going.walks in
      absurd (let bad = rw (life_option command taken).by_long at passes in cc)
  found_life None long is taken =
      let found = life_option command taken in
      let here = settled_here command rows pending in
      let passes : use_fault false life_rule [] here ≡ [] = next_passes (settles command rows pending) _
      (first_passes (react_fault (rules command) false life_rule [] (held rows pending)) []
      (sym (flag_turn command rows pending (codes "life") life_rule found refl waiting word refl no_mark long)
      ∙ turn)) in
      let free = life_free here what stands.views passes in
      let next = going_next command rows (used life_rule [] here) pending None waiting idle false false word words going
      (flag_walked command rows pending (codes "life") life_rule found refl waiting word refl no_mark long) in
      subst (λ w. Goes command false what (w ∷ words)) (sym is)
      (goes_life command what words taken free
      (known words (used life_rule [] here) None idle (with_life what) few refl utf8
      (stands_life command rows pending what stands free) next))

  -- a word that begins with `--`, and goes on
  found_option : IsLong word → Goes command false what (word ∷ words)
  found_option long_word =
      let o = option_of command rows pending waiting word words long_word going in
      elim o.5 [
        | inl e ↦ found_entry e.1 o.1 (o.3 ∙ ap (λ name. Some (name, o.1)) e.0)
            (o.4 ∙ ap (λ name. 45 ∷ 45 ∷ written name o.1) e.0)
        | inr other ↦ elim other [
          | inl e ↦ found_steps e.1 o.1 (o.3 ∙ ap (λ name. Some (name, o.1)) e.0)
              (o.4 ∙ ap (λ name. 45 ∷ 45 ∷ written name o.1) e.0)
          | inr e ↦ found_life o.1 (o.3 ∙ ap (λ name. Some (name, o.1)) e.0)
              (o.4 ∙ ap (λ name. 45 ∷ 45 ∷ written name o.1) e.0) e.1
        ]
      ]

-- what the library takes is what words give
pub found : (command : Command) (n : ℕ) → Known command n
found command n [] rows pending waiting what few quiet utf8 stands going = goes_nowhere command false what
found command zero (word ∷ words) rows pending waiting what few quiet utf8 stands going = absurd (omega arith)
found command (suc n) (word ∷ words) rows pending waiting what few quiet utf8 stands going = elim (looks word) [
  | inl is ↦
      let next : walked (rules command) [] (state rows pending waiting false) word ≡ state rows pending waiting true =
      ap (walked (rules command) [] (state rows pending waiting false)) is ∙ mark_walked command rows pending waiting in
      subst (λ w. Goes command false what (w ∷ words)) (sym is)
      (goes_mark command what words (found_behind command words rows pending waiting what stands
      (going_next command rows rows pending pending waiting waiting false true word words going next)))
  | inr other ↦ elim other [
    | inl is ↦ found_option command n (found command n) rows pending waiting what stands word words
        (omega arith) (utf8_rest word words utf8) going (ap (λ w. bytes_eq w mark_word) is.2)
        (word_passes command (state rows pending waiting false) word words going.walks) is
    | inr left ↦ elim left [
      | inl is ↦ absurd (short_fails command rows pending waiting word words is (utf8_first word words utf8)
          going.walks)
      | inr plain ↦
          goes_part command what word words plain.0
          (found command n words (settled_here command rows pending) (Some (codes "part", word ∷ []))
          positional (with_part what word) (omega arith) refl (utf8_rest word words utf8)
          (stands_part command rows pending what stands word)
          (going_next command rows (settled_here command rows pending) pending
          (Some (codes "part", word ∷ [])) waiting positional false false word words going
          (plain_walked command rows pending waiting word quiet plain)))
    ]
  ]
]
