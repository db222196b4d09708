-- The job of a command, from the values in what is given.
use Rattle.std.proofs.Common.{◌≡◌, ◌↔◌, ◌∙◌, ℕ, Bool, true, false, List, Option, None, Some, IsTrue, ap}
use Rattle.std.proofs.Common.{codes, length, refl, subst, sym}
use Rattle.std.specs.Prelude.{if◌then◌else◌}
use Rattle.std.specs.Option.{option_and_then, option_map, unwrap_or}
use Rattle.std.specs.Str.Parse.{ParsesBool}
use Rattle.clap.specs.Matches.{ReadsOne}
use Rattle.au_words.specs.Given.{Given}
use Rattle.au_words.specs.Jobs.{Said, takes_files}
use Rattle.au_words.specs.Reading.{counted_for, entry_at, files_at, optional, said_at, said_for, steps_at}
use Rattle.au_words.specs.declared.jobs.Command.{Command}
use Rattle.au_base.specs.declared.names.Entry.{Entry}

-- what is said, by what is read
abbrev pub said_of : Bool → List (List ℕ) → Option Entry → Option ℕ → Said
said_of life names value count = record { files = names; entry = value; steps = count; life = life }

-- what is said, by what the parts, the entry and the steps are read as
abbrev said_by : Bool → Option (List (List ℕ)) → Option (Option Entry) → Option (Option ℕ) → Option Said
said_by life files entry steps =
    option_and_then (λ names. option_and_then
    (λ value. option_map (λ count. said_of life names value count) steps) entry) files

said_read : (what : Given) → said_at what ≡ said_by what.life (files_at what.parts)
    (optional entry_at what.entry) (optional steps_at what.steps)
unfolding said_at
said_read what = refl

pub all_said : (what : Given) (names : List (List ℕ)) (value : Option Entry) (count : Option ℕ)
    → files_at what.parts ≡ Some names → optional entry_at what.entry ≡ Some value →
    optional steps_at what.steps ≡ Some count
    → said_at what ≡ Some (said_of what.life names value count)
all_said what names value count files entry steps =
    said_read what
    ∙ ap (λ o. said_by what.life o (optional entry_at what.entry) (optional steps_at what.steps)) files
    ∙ ap (λ o. said_by what.life (Some names) o (optional steps_at what.steps)) entry
    ∙ ap (λ o. said_by what.life (Some names) (Some value) o) steps

-- all that is said is read
parts_by : (life : Bool) (files : Option (List (List ℕ))) (entry : Option (Option Entry))
    (steps : Option (Option ℕ)) (said : Said) → said_by life files entry steps ≡ Some said
    → (files ≡ Some said.files) × (entry ≡ Some said.entry) × (steps ≡ Some said.steps) × (life ≡ said.life)
parts_by life None entry steps said h = cc
parts_by life (Some names) None steps said h = cc
parts_by life (Some names) (Some value) None said h = cc
parts_by life (Some names) (Some value) (Some count) said h =
    let same : said_of life names value count ≡ said = (let e = h in cc) in
    (ap (λ s. Some s.files) same, ap (λ s. Some s.entry) same, ap (λ s. Some s.steps) same, ap (λ s. s.life) same)

pub said_parts : (what : Given) (said : Said) → said_at what ≡ Some said
    → (files_at what.parts ≡ Some said.files) × (optional entry_at what.entry ≡ Some said.entry)
    × (optional steps_at what.steps ≡ Some said.steps) × (what.life ≡ said.life)
said_parts what said h =
    parts_by what.life (files_at what.parts) (optional entry_at what.entry) (optional steps_at what.steps)
    said (sym (said_read what) ∙ h)

-- what is said to a command is what is said, and the command takes so many files
counted_by : (command : Command) (said other : Said) (takes : Bool) → takes_files command (length said.files) ≡ takes →
    (if takes then Some said else None) ≡ Some other → (said ≡ other) × IsTrue (takes_files command (length other.files))
counted_by command said other true is h =
    let same : said ≡ other = (let e = h in cc) in
    (same, subst (λ (s : Said). IsTrue (takes_files command (length s.files))) same is)
counted_by command said other false is h = absurd (let e = h in cc)

pub said_to : (command : Command) (found : Option Said) (said : Said) → option_and_then (counted_for command) found
    ≡ Some said → (found ≡ Some said) × IsTrue (takes_files command (length said.files))
unfolding counted_for
said_to command None said h = absurd (let e = h in cc)
said_to command (Some one) said h =
    let both = counted_by command one said _ refl h in
    (ap (λ s. Some s) both.0, both.1)

-- what is said is said to a command that takes so many files
pub said_again : (command : Command) (what : Given) (said : Said) → said_at what ≡ Some said
    → IsTrue (takes_files command (length said.files)) → said_for command what ≡ Some said
unfolding counted_for
said_again command what said is takes =
    ap (option_and_then (counted_for command)) is ∙ ap (λ (b : Bool). if b then Some said else None) takes

-- an option that is read as a `bool`
pub life_read : (E : Type 0) (read : Option (List ℕ)) (result : Option Bool) → (read ≡ None → result ≡ None)
    → ((text : List ℕ) → read ≡ Some text → ReadsOne {T = Bool} {E = E} ParsesBool text result) →
    (read ≡ Some (codes "true")) ↔ IsTrue (unwrap_or result false)
life_read E None None none value = (λ e. absurd (let h = e in cc), λ e. absurd (let h = e in cc))
life_read E None (Some b) none value = absurd (let h = none refl in cc)
life_read E (Some text) None none value =
    let fails = value text refl in
    (λ e. absurd (fails.1.0 (let h = e in cc)), λ e. absurd (let h = e in cc))
life_read E (Some text) (Some true) none value = (λ e. refl, λ e. ap (λ t. Some t) (value text refl))
life_read E (Some text) (Some false) none value =
    let is : text ≡ codes "false" = value text refl in
    (λ e. absurd (let same : text ≡ codes "true" = (let h = e in cc) in cc), λ e. absurd (let h = e in cc))

-- what is given, by its values
abbrev pub given_of : List (List ℕ) → Option (List ℕ) → Option (List ℕ) → Bool → Given
given_of parts entry steps life = record { parts = parts; entry = entry; steps = steps; life = life }

same_bool : (a b : Bool) → (IsTrue a → IsTrue b) → (IsTrue b → IsTrue a) → a ≡ b
same_bool true true to from = refl
same_bool true false to from = let h = to refl in cc
same_bool false true to from = let h = from refl in cc
same_bool false false to from = refl

-- values that are read are what is given
pub same_given : (what : Given) (parts : List (List ℕ)) (entry steps : Option (List ℕ)) (life : Bool) (Found : Type 0)
    → Some parts ≡ Some what.parts → entry ≡ what.entry → steps ≡ what.steps → Found ↔ IsTrue life → Found ↔
    IsTrue what.life
    → given_of parts entry steps life ≡ what
same_given what parts entry steps life Found same_parts same_entry same_steps found shown =
    let alike : parts ≡ what.parts = (let e = same_parts in cc) in
    let lives : life ≡ what.life = same_bool life what.life (λ t. shown.0 (found.1 t)) (λ t. found.0 (shown.1 t)) in
    ap (λ x. given_of x entry steps life) alike
    ∙ ap (λ x. given_of what.parts x steps life) same_entry
    ∙ ap (λ x. given_of what.parts what.entry x life) same_steps
    ∙ ap (λ x. given_of what.parts what.entry what.steps x) lives
