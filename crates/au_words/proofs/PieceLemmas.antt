-- What words give and what they say: a value that is read is a piece, and a piece is spelled by a value.
use Rattle.std.proofs.Common.{◌≡◌, ◌≢◌, ◌∙◌, ℕ, ◌<◌, ◌^◌, Bool, true, false, not, ◌&&◌, List, [], ◌∷◌, ◌++◌}
use Rattle.std.proofs.Common.{Option, None, Some, is_some, unwrap_or, option_to_list, map, flat_map, get_or}
use Rattle.std.proofs.Common.{nat_eq, nat_lt, length, codes, decimal, ap, arith, eqb-true, inl, inr, refl}
use Rattle.std.proofs.Common.{subst, sym, IsTrue}
use Rattle.std.specs.List.{list_all}
use Rattle.std.specs.Option.{option_and_then, option_map}
use Rattle.std.proofs.lemmas.Bool.{and_parts, and_from, cases_Bool}
use Rattle.std.proofs.lemmas.Fmt.{first_decimal}
use Rattle.au_lexer.specs.Bytes.{is_letter, is_name_byte}
use Rattle.au_words.specs.Given as given
use Rattle.au_words.specs.Given.{Use, Given, AreGiven, Offers, WritesAll}
use Rattle.au_words.specs.Jobs as asked
use Rattle.au_words.specs.Jobs.{Piece, Said, AreSaid, IsPart, IsEntry, AreSteps, Gives, SpellsAll}
use Rattle.au_words.specs.Jobs.{entry_spelling, is_dashed, is_keyword, is_marked, is_name, is_spelled_as_name}
use Rattle.au_words.specs.Jobs.{joined, takes_files}
use Rattle.au_words.specs.Reading.{part_at, entry_at, steps_at, files_at, optional, said_at}
use Rattle.au_words.specs.declared.jobs.Command.{Command}
use Rattle.au_base.specs.declared.names.Entry.{Entry}
use Rattle.au_base.proofs.OptionLemmas.{map_some}
use Rattle.au_words.proofs.NameLemmas.{part_found, part_again}
use Rattle.au_words.proofs.EntryLemmas.{entry_found, entry_again}
use Rattle.au_words.proofs.StepLemmas.{steps_found, steps_again}
use Rattle.au_words.proofs.ValueLemmas.{all_said, given_of, said_parts}

-- ---- words that don't begin with `-`

letter_plain : (byte : ℕ) (bytes : List ℕ) → is_letter byte ≡ true → is_dashed (byte ∷ bytes) ≡ false
letter_plain byte bytes letter =
    elim (cases_Bool (nat_eq 45 byte)) [
      | inl is ↦ absurd (let e : 45 ≡ byte = eqb-true 45 byte is in let no : is_letter 45 ≡ true =
          ap is_letter e ∙ letter in cc)
      | inr not_one ↦ ap (λ b. b && true) not_one
    ]

digit_plain : (bytes : List ℕ) → 48 < get_or bytes 0 0 → is_dashed bytes ≡ false
digit_plain [] h = absurd (omega arith)
digit_plain (byte ∷ bytes) h =
    elim (cases_Bool (nat_eq 45 byte)) [
      | inl is ↦ absurd (let e : 45 ≡ byte = eqb-true 45 byte is in omega arith)
      | inr not_one ↦ ap (λ b. b && true) not_one
    ]

names_plain : (names : List (List ℕ)) (behind : List ℕ) → names ≢ [] → list_all is_name names ≡ true →
    is_dashed (joined 46 names ++ behind) ≡ false
names_plain [] behind some h = absurd (some refl)
names_plain ([] ∷ names) behind some h = absurd (let e = h in cc)
names_plain ((byte ∷ bytes) ∷ names) behind some h =
    let named = and_parts (is_name (byte ∷ bytes)) (list_all is_name names) h in
    let spelled = and_parts (is_spelled_as_name (byte ∷ bytes)) (not (is_keyword (byte ∷ bytes))) named.0 in
    let letter = and_parts (is_letter byte) (list_all is_name_byte bytes) spelled.0 in
    letter_plain byte ((bytes ++ flat_map (λ other. 46 ∷ other) names) ++ behind) letter.0

entry_plain : (value : Entry) → IsEntry value → is_dashed (entry_spelling value) ≡ false
entry_plain value is =
    ap (λ l. is_dashed (l ++ 58 ∷ value.function)) is.0.3 ∙ names_plain is.0.0 (58 ∷ value.function) is.0.1 is.0.2

steps_plain : (steps : ℕ) → AreSteps steps → is_dashed (decimal steps) ≡ false
steps_plain steps are =
    let small : steps < 2 ^ 64 = omega (arith, are.1) in
    digit_plain (decimal steps) (first_decimal steps (omega (arith, are.0)) small)

-- an option and a value that doesn't begin with `-`
offered : (option value other : List ℕ) (words : List (List ℕ)) → other ≡ value → is_dashed other ≡ false →
    Offers option value words → Gives option other words
offered option value other words same plain (inl e) = inl (e ∙ ap (λ v. (option ++ 61 ∷ v) ∷ []) (sym same))
offered option value other words same plain (inr w) = inr (w.0 ∙ ap (λ v. option ∷ v ∷ []) (sym same), plain)

offers : (option value : List ℕ) (words : List (List ℕ)) → Gives option value words → Offers option value words
offers option value words (inl e) = inl e
offers option value words (inr w) = inr (w.0, ap (λ b. b && nat_lt 1 (length value)) w.1)

-- ---- options and lists

some_is : {X : Type 0} (o : Option X) (d : X) → is_some o ≡ true → o ≡ Some (unwrap_or o d)
some_is None d h = cc
some_is (Some x) d h = refl

and_then_some : {A B : Type 0} (f : A → Option B) (o : Option A) (b : B) → option_and_then f o ≡ Some b →
    (a : A) × (o ≡ Some a) × (f a ≡ Some b)
and_then_some f None b h = cc
and_then_some f (Some a) b h = (a, refl, h)

to_list_map : {A B : Type 0} (f : A → B) (o : Option A) → option_to_list (option_map f o) ≡ map f (option_to_list o)
to_list_map f None = refl
to_list_map f (Some a) = refl

-- what holds of each
abbrev EachIs : {X : Type 0} → (X → Type 0) → List X → Type 0
EachIs P [] = Unit {0}
EachIs P (x ∷ xs) = P x × EachIs P xs

-- ---- the pieces that are given

-- the names in a part, an entry and a number of steps, where a value is one
abbrev names_of : List ℕ → List (List ℕ)
names_of word = unwrap_or (part_at word) []

abbrev entry_of : List ℕ → Entry
entry_of value = unwrap_or (entry_at value) (record { «module» = []; function = [] })

abbrev count_of : List ℕ → ℕ
count_of value = unwrap_or (steps_at value) 0

-- the piece that a use is
abbrev piece_of : Use → Piece
piece_of (given.part word) = asked.part (names_of word)
piece_of (given.entry value) = asked.entry (entry_of value)
piece_of (given.steps value) = asked.steps (count_of value)
piece_of given.life = asked.life
piece_of given.mark = asked.mark

-- whether the value of a use is read
abbrev is_read : Use → Bool
is_read (given.part word) = is_some (part_at word)
is_read (given.entry value) = is_some (entry_at value)
is_read (given.steps value) = is_some (steps_at value)
is_read given.life = true
is_read given.mark = true

is_part : (word : List ℕ) → is_some (part_at word) ≡ true → IsPart (names_of word) word
is_part word h = part_found word (names_of word) (some_is (part_at word) [] h)

is_entry : (value : List ℕ) → is_some (entry_at value) ≡ true → IsEntry (entry_of value)
    × (entry_spelling (entry_of value) ≡ value)
is_entry value h = entry_found value (entry_of value)
    (some_is (entry_at value) (record { «module» = []; function = [] }) h)

are_steps : (value : List ℕ) → is_some (steps_at value) ≡ true → AreSteps (count_of value)
    × (decimal (count_of value) ≡ value)
are_steps value h = steps_found value (count_of value) (some_is (steps_at value) 0 h)

spelled_of : (uses : List Use) (marked : Bool) (words : List (List ℕ)) → WritesAll marked uses words →
    list_all is_read uses ≡ true → SpellsAll marked (map piece_of uses) words
spelled_of [] true words written read = written
spelled_of [] false words written read = written
spelled_of (given.part word ∷ uses) true words written read =
    let parts = and_parts (is_some (part_at word)) (list_all is_read uses) read in (
      written.0,
      written.1,
      written.2,
      (word, written.3, is_part word parts.0),
      spelled_of uses true written.1 written.4 parts.1,
    )
spelled_of (given.entry value ∷ uses) true words written read = absurd written.3
spelled_of (given.steps value ∷ uses) true words written read = absurd written.3
spelled_of (given.life ∷ uses) true words written read = absurd written.3
spelled_of (given.mark ∷ uses) true words written read = absurd written.3
spelled_of (given.part word ∷ uses) false words written read =
    let parts = and_parts (is_some (part_at word)) (list_all is_read uses) read in (
      written.0,
      written.1,
      written.2,
      (word, written.3.0, is_part word parts.0, written.3.1),
      spelled_of uses false written.1 written.4 parts.1,
    )
spelled_of (given.entry value ∷ uses) false words written read =
    let parts = and_parts (is_some (entry_at value)) (list_all is_read uses) read in
    let is = is_entry value parts.0 in (
      written.0,
      written.1,
      written.2,
      (
        is.0,
        offered (codes "--entry") value (entry_spelling (entry_of value)) written.0 is.1
            (entry_plain (entry_of value) is.0) written.3,
      ),
      spelled_of uses false written.1 written.4 parts.1,
    )
spelled_of (given.steps value ∷ uses) false words written read =
    let parts = and_parts (is_some (steps_at value)) (list_all is_read uses) read in
    let are = are_steps value parts.0 in (
      written.0,
      written.1,
      written.2,
      (
        are.0,
        offered (codes "--steps") value (decimal (count_of value)) written.0 are.1
            (steps_plain (count_of value) are.0) written.3,
      ),
      spelled_of uses false written.1 written.4 parts.1,
    )
spelled_of (given.life ∷ uses) false words written read =
    (written.0, written.1, written.2, written.3, spelled_of uses false written.1 written.4 read)
spelled_of (given.mark ∷ uses) false words written read =
    (written.0, written.1, written.2, written.3, spelled_of uses true written.1 written.4 read)

-- the columns of the pieces are those of the uses, read
files_of_pieces : (uses : List Use) → flat_map asked.files_of (map piece_of uses) ≡ flat_map names_of
    (flat_map given.parts_of uses)
files_of_pieces [] = refl
files_of_pieces (given.part word ∷ uses) = ap (λ l. names_of word ++ l) (files_of_pieces uses)
files_of_pieces (given.entry value ∷ uses) = files_of_pieces uses
files_of_pieces (given.steps value ∷ uses) = files_of_pieces uses
files_of_pieces (given.life ∷ uses) = files_of_pieces uses
files_of_pieces (given.mark ∷ uses) = files_of_pieces uses

entries_of_pieces : (uses : List Use) → flat_map asked.entries_of (map piece_of uses)
    ≡ map entry_of (flat_map given.entries_of uses)
entries_of_pieces [] = refl
entries_of_pieces (given.part word ∷ uses) = entries_of_pieces uses
entries_of_pieces (given.entry value ∷ uses) = ap (λ l. entry_of value ∷ l) (entries_of_pieces uses)
entries_of_pieces (given.steps value ∷ uses) = entries_of_pieces uses
entries_of_pieces (given.life ∷ uses) = entries_of_pieces uses
entries_of_pieces (given.mark ∷ uses) = entries_of_pieces uses

steps_of_pieces : (uses : List Use) → flat_map asked.steps_of (map piece_of uses)
    ≡ map count_of (flat_map given.steps_of uses)
steps_of_pieces [] = refl
steps_of_pieces (given.part word ∷ uses) = steps_of_pieces uses
steps_of_pieces (given.entry value ∷ uses) = steps_of_pieces uses
steps_of_pieces (given.steps value ∷ uses) = ap (λ l. count_of value ∷ l) (steps_of_pieces uses)
steps_of_pieces (given.life ∷ uses) = steps_of_pieces uses
steps_of_pieces (given.mark ∷ uses) = steps_of_pieces uses

lives_of_pieces : (uses : List Use) → flat_map asked.lives_of (map piece_of uses) ≡ flat_map given.lives_of uses
lives_of_pieces [] = refl
lives_of_pieces (given.part word ∷ uses) = lives_of_pieces uses
lives_of_pieces (given.entry value ∷ uses) = lives_of_pieces uses
lives_of_pieces (given.steps value ∷ uses) = lives_of_pieces uses
lives_of_pieces (given.life ∷ uses) = ap (λ l. true ∷ l) (lives_of_pieces uses)
lives_of_pieces (given.mark ∷ uses) = lives_of_pieces uses

takes_pieces : (command : Command) (uses : List Use) → list_all (asked.takes command) (map piece_of uses)
    ≡ list_all (given.takes command) uses
takes_pieces command [] = refl
takes_pieces command (given.part word ∷ uses) = takes_pieces command uses
takes_pieces command (given.entry value ∷ uses) = ap (λ b. asked.takes_entry command && b) (takes_pieces command uses)
takes_pieces command (given.steps value ∷ uses) = ap (λ b. asked.is_run command && b) (takes_pieces command uses)
takes_pieces command (given.life ∷ uses) = ap (λ b. asked.is_run command && b) (takes_pieces command uses)
takes_pieces command (given.mark ∷ uses) = takes_pieces command uses

-- what is read of each column is read of each use
all_read : (uses : List Use) → list_all (λ word. is_some (part_at word)) (flat_map given.parts_of uses) ≡ true
    → list_all (λ value. is_some (entry_at value)) (flat_map given.entries_of uses) ≡ true
    → list_all (λ value. is_some (steps_at value)) (flat_map given.steps_of uses) ≡ true → list_all is_read uses ≡ true
all_read [] words entries counts = refl
all_read (given.part word ∷ uses) words entries counts =
    let parts = and_parts (is_some (part_at word))
    (list_all (λ other. is_some (part_at other)) (flat_map given.parts_of uses)) words in
    and_from (is_some (part_at word)) (list_all is_read uses) parts.0 (all_read uses parts.1 entries counts)
all_read (given.entry value ∷ uses) words entries counts =
    let parts = and_parts (is_some (entry_at value))
    (list_all (λ other. is_some (entry_at other)) (flat_map given.entries_of uses)) entries in
    and_from (is_some (entry_at value)) (list_all is_read uses) parts.0 (all_read uses words parts.1 counts)
all_read (given.steps value ∷ uses) words entries counts =
    let parts = and_parts (is_some (steps_at value))
    (list_all (λ other. is_some (steps_at other)) (flat_map given.steps_of uses)) counts in
    and_from (is_some (steps_at value)) (list_all is_read uses) parts.0 (all_read uses words entries parts.1)
all_read (given.life ∷ uses) words entries counts = all_read uses words entries counts
all_read (given.mark ∷ uses) words entries counts = all_read uses words entries counts

-- what is read of the columns
files_read : (words names : List (List ℕ)) → files_at words ≡ Some names →
    (list_all (λ word. is_some (part_at word)) words ≡ true) × (names ≡ flat_map names_of words)
files_read [] names h = (refl, (let e = h in cc))
files_read (word ∷ words) names h =
    let first = and_then_some (λ ns. option_map (λ others. ns ++ others) (files_at words)) (part_at word) names h in
    let others = map_some (λ ns. first.0 ++ ns) (files_at words) names first.2 in
    let rest = files_read words others.0 others.1 in
    let one : first.0 ≡ names_of word = sym (ap (λ o. unwrap_or o []) first.1) in (
      and_from (is_some (part_at word)) (list_all (λ other. is_some (part_at other)) words) (ap is_some first.1) rest.0,
      sym others.2 ∙ ap (λ l. l ++ others.0) one ∙ ap (λ l. names_of word ++ l) rest.1,
    )

files_some : (words names : List (List ℕ)) → words ≢ [] → files_at words ≡ Some names → names ≢ []
files_some [] names some h = absurd (some refl)
files_some (word ∷ words) names some h = λ none.
    let first = and_then_some (λ ns. option_map (λ others. ns ++ others) (files_at words)) (part_at word) names h in
    let others = map_some (λ ns. first.0 ++ ns) (files_at words) names first.2 in
    (part_found word first.0 first.1).0 (front_none first.0 others.0 (others.2 ∙ none))
  where
    front_none : (front rest : List (List ℕ)) → front ++ rest ≡ [] → front ≡ []
    front_none [] rest h = refl
    front_none (x ∷ front) rest h = cc

optional_read : {X : Type 0} (read : List ℕ → Option X) (d : X) (value : Option (List ℕ)) (found : Option X) →
    optional read value ≡ Some found
    → (list_all (λ b. is_some (read b)) (option_to_list value) ≡ true)
    × (option_to_list found ≡ map (λ b. unwrap_or (read b) d) (option_to_list value))
optional_read read d None found h =
    let same : None ≡ found = (let e = h in cc) in
    (refl, ap option_to_list (sym same))
optional_read read d (Some bytes) found h =
    let one = map_some (λ x. Some x) (read bytes) found h in
    (ap (λ b. b && true) (ap is_some one.1), ap option_to_list (sym one.2) ∙ sym (ap (λ o. unwrap_or o d ∷ []) one.1))

-- what is given and read is said
pub given_said : (command : Command) (words : List (List ℕ)) (what : Given) (said : Said) →
    AreGiven command words what → said_at what ≡ Some said → IsTrue (takes_files command (length said.files))
    → AreSaid command words said
given_said command words what said are h counted =
    let read = said_parts what said h in
    let uses : List Use = are.uses in
    let files = files_read what.parts said.files read.0 in
    let entries = optional_read entry_at (record { «module» = []; function = [] }) what.entry said.entry read.1 in
    let counts = optional_read steps_at 0 what.steps said.steps read.2 in
    let each : list_all is_read uses ≡ true =
    all_read uses (sym (ap (list_all (λ word. is_some (part_at word))) are.parts) ∙ files.0)
    (sym (ap (list_all (λ value. is_some (entry_at value))) are.entry) ∙ entries.0)
    (sym (ap (list_all (λ value. is_some (steps_at value))) are.steps) ∙ counts.0) in
    record {
      pieces = map piece_of uses;
      spelled = spelled_of uses false words are.written each;
      taken = takes_pieces command uses ∙ are.taken;
      says = (
        files.1 ∙ ap (flat_map names_of) are.parts ∙ sym (files_of_pieces uses),
        entries.1 ∙ ap (map entry_of) are.entry ∙ sym (entries_of_pieces uses),
        counts.1 ∙ ap (map count_of) are.steps ∙ sym (steps_of_pieces uses),
        sym (ap asked.given read.3) ∙ are.life ∙ sym (lives_of_pieces uses),
      );
      some = files_some what.parts said.files are.some read.0;
      counted = counted;
    }

-- ---- what is given for pieces

-- the use that a piece is
abbrev use_of : Piece → Use
use_of (asked.part names) = given.part (joined 44 names)
use_of (asked.entry value) = given.entry (entry_spelling value)
use_of (asked.steps value) = given.steps (decimal value)
use_of asked.life = given.life
use_of asked.mark = given.mark

-- The piece can be spelled.
abbrev IsGood : Piece → Type 0
IsGood (asked.part names) = IsPart names (joined 44 names)
IsGood (asked.entry value) = IsEntry value
IsGood (asked.steps value) = AreSteps value
IsGood asked.life = Unit {0}
IsGood asked.mark = Unit {0}

good_part : (names : List (List ℕ)) (word : List ℕ) → IsPart names word → IsGood (asked.part names)
good_part names word is = (is.0, is.1, refl)

written_of : (pieces : List Piece) (marked : Bool) (words : List (List ℕ)) → SpellsAll marked pieces words →
    EachIs IsGood pieces × WritesAll marked (map use_of pieces) words
written_of [] true words spelled = (tt, spelled)
written_of [] false words spelled = (tt, spelled)
written_of (asked.part names ∷ pieces) true words spelled =
    let rest = written_of pieces true spelled.1 spelled.4 in
    let is = spelled.3.2 in (
      (good_part names spelled.3.0 is, rest.0),
      (spelled.0, spelled.1, spelled.2, spelled.3.1 ∙ ap (λ w. w ∷ []) is.2, rest.1),
    )
written_of (asked.entry value ∷ pieces) true words spelled = absurd spelled.3
written_of (asked.steps value ∷ pieces) true words spelled = absurd spelled.3
written_of (asked.life ∷ pieces) true words spelled = absurd spelled.3
written_of (asked.mark ∷ pieces) true words spelled = absurd spelled.3
written_of (asked.part names ∷ pieces) false words spelled =
    let rest = written_of pieces false spelled.1 spelled.4 in
    let is = spelled.3.2 in (
      (good_part names spelled.3.0 is, rest.0),
      (
        spelled.0,
        spelled.1,
        spelled.2,
        (spelled.3.1 ∙ ap (λ w. w ∷ []) is.2, sym (ap is_marked is.2) ∙ spelled.3.3),
        rest.1,
      ),
    )
written_of (asked.entry value ∷ pieces) false words spelled =
    let rest = written_of pieces false spelled.1 spelled.4 in (
      (spelled.3.0, rest.0),
      (
        spelled.0,
        spelled.1,
        spelled.2,
        offers (codes "--entry") (entry_spelling value)
            spelled.0 spelled.3.1,
        rest.1,
      ),
    )
written_of (asked.steps value ∷ pieces) false words spelled =
    let rest = written_of pieces false spelled.1 spelled.4 in (
      (spelled.3.0, rest.0),
      (
        spelled.0,
        spelled.1,
        spelled.2,
        offers (codes "--steps") (decimal value)
            spelled.0 spelled.3.1,
        rest.1,
      ),
    )
written_of (asked.life ∷ pieces) false words spelled =
    let rest = written_of pieces false spelled.1 spelled.4 in
    ((tt, rest.0), (spelled.0, spelled.1, spelled.2, spelled.3, rest.1))
written_of (asked.mark ∷ pieces) false words spelled =
    let rest = written_of pieces true spelled.1 spelled.4 in
    ((tt, rest.0), (spelled.0, spelled.1, spelled.2, spelled.3, rest.1))

-- the columns of the uses are read as those of the pieces
files_again : (pieces : List Piece) → EachIs IsGood pieces →
    files_at (flat_map given.parts_of (map use_of pieces)) ≡ Some (flat_map asked.files_of pieces)
files_again [] good = refl
files_again (asked.part names ∷ pieces) good =
    ap (λ o. option_and_then (λ ns. option_map (λ others. ns ++ others)
    (files_at (flat_map given.parts_of (map use_of pieces)))) o) (part_again (joined 44 names) names good.0)
    ∙ ap (option_map (λ others. names ++ others)) (files_again pieces good.1)
files_again (asked.entry value ∷ pieces) good = files_again pieces good.1
files_again (asked.steps value ∷ pieces) good = files_again pieces good.1
files_again (asked.life ∷ pieces) good = files_again pieces good.1
files_again (asked.mark ∷ pieces) good = files_again pieces good.1

entries_of_uses : (pieces : List Piece) → EachIs IsGood pieces
    → EachIs IsEntry (flat_map asked.entries_of pieces)
    × (map entry_spelling (flat_map asked.entries_of pieces) ≡ flat_map given.entries_of
    (map use_of pieces))
entries_of_uses [] good = (tt, refl)
entries_of_uses (asked.part names ∷ pieces) good = entries_of_uses pieces good.1
entries_of_uses (asked.entry value ∷ pieces) good =
    let rest = entries_of_uses pieces good.1 in
    ((good.0, rest.0), ap (λ l. entry_spelling value ∷ l) rest.1)
entries_of_uses (asked.steps value ∷ pieces) good = entries_of_uses pieces good.1
entries_of_uses (asked.life ∷ pieces) good = entries_of_uses pieces good.1
entries_of_uses (asked.mark ∷ pieces) good = entries_of_uses pieces good.1

steps_of_uses : (pieces : List Piece) → EachIs IsGood pieces
    → EachIs AreSteps (flat_map asked.steps_of pieces)
    × (map decimal (flat_map asked.steps_of pieces) ≡ flat_map given.steps_of (map use_of pieces))
steps_of_uses [] good = (tt, refl)
steps_of_uses (asked.part names ∷ pieces) good = steps_of_uses pieces good.1
steps_of_uses (asked.entry value ∷ pieces) good = steps_of_uses pieces good.1
steps_of_uses (asked.steps value ∷ pieces) good =
    let rest = steps_of_uses pieces good.1 in
    ((good.0, rest.0), ap (λ l. decimal value ∷ l) rest.1)
steps_of_uses (asked.life ∷ pieces) good = steps_of_uses pieces good.1
steps_of_uses (asked.mark ∷ pieces) good = steps_of_uses pieces good.1

lives_of_uses : (pieces : List Piece) → flat_map asked.lives_of pieces ≡ flat_map given.lives_of (map use_of pieces)
lives_of_uses [] = refl
lives_of_uses (asked.part names ∷ pieces) = lives_of_uses pieces
lives_of_uses (asked.entry value ∷ pieces) = lives_of_uses pieces
lives_of_uses (asked.steps value ∷ pieces) = lives_of_uses pieces
lives_of_uses (asked.life ∷ pieces) = ap (λ l. true ∷ l) (lives_of_uses pieces)
lives_of_uses (asked.mark ∷ pieces) = lives_of_uses pieces

takes_uses : (command : Command) (pieces : List Piece) → list_all (given.takes command) (map use_of pieces)
    ≡ list_all (asked.takes command) pieces
takes_uses command [] = refl
takes_uses command (asked.part names ∷ pieces) = takes_uses command pieces
takes_uses command (asked.entry value ∷ pieces) = ap (λ b. asked.takes_entry command && b) (takes_uses command pieces)
takes_uses command (asked.steps value ∷ pieces) = ap (λ b. asked.is_run command && b) (takes_uses command pieces)
takes_uses command (asked.life ∷ pieces) = ap (λ b. asked.is_run command && b) (takes_uses command pieces)
takes_uses command (asked.mark ∷ pieces) = takes_uses command pieces

-- an option whose value can be spelled is read again
optional_again : {X : Type 0} (P : X → Type 0) (read : List ℕ → Option X) (spelling : X → List ℕ) (value : Option X)
    → ((x : X) → P x → read (spelling x) ≡ Some x) → EachIs P (option_to_list value) →
    optional read (option_map spelling value) ≡ Some value
optional_again P read spelling None again is = refl
optional_again P read spelling (Some x) again is = ap (option_map (λ y. Some y)) (again x is.0)

-- what is said can be given, and is read so
pub said_given : (command : Command) (words : List (List ℕ)) (said : Said) → AreSaid command words said →
    (what : Given) × AreGiven command words what × (said_at what ≡ Some said)
said_given command words said are =
    let pieces : List Piece = are.pieces in
    let uses : List Use = map use_of pieces in
    let spelled = written_of pieces false words are.spelled in
    let entries = entries_of_uses pieces spelled.0 in
    let counts = steps_of_uses pieces spelled.0 in
    let what : Given = given_of (flat_map given.parts_of uses) (option_map entry_spelling said.entry)
    (option_map decimal said.steps) said.life in
    let files : files_at what.parts ≡ Some said.files = files_again pieces spelled.0
    ∙ ap (λ l. Some l) (sym are.says.0) in (
      what,
      record {
        uses = uses;
        written = spelled.1;
        taken = takes_uses command pieces ∙ are.taken;
        parts = refl;
        entry = to_list_map entry_spelling said.entry ∙ ap (map entry_spelling) are.says.1 ∙ entries.1;
        steps = to_list_map decimal said.steps ∙ ap (map decimal) are.says.2 ∙ counts.1;
        life = are.says.3 ∙ lives_of_uses pieces;
        some = λ none. are.some (let same : Some said.files ≡ Some [] = sym files ∙ ap files_at none in cc);
      },
      all_said what said.files said.entry said.steps files
          (optional_again IsEntry entry_at entry_spelling said.entry entry_again
          (subst (EachIs IsEntry) (sym are.says.1) entries.0))
          (optional_again AreSteps steps_at decimal said.steps steps_again
          (subst (EachIs AreSteps) (sym are.says.2) counts.0)),
    )
