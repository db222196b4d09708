-- The library takes the words behind a command exactly where they give something, and shows what they give.
use Rattle.std.proofs.Common.{◌≡◌, ◌≢◌, ◌⊎◌, ◌↔◌, Bool, true, false, List, [], ◌∷◌, length, Option, Some}
use Rattle.std.proofs.Common.{None, is_some, option_map, ap, ◌∙◌, sym, refl, subst, inl, inr, IsTrue, codes}
use Rattle.std.proofs.Common.{arith}
use Rattle.std.specs.List.{All, fold, list_all}
use Rattle.std.specs.Option.{option_and_then, option_map_or}
use Rattle.std.specs.Prelude.{slice_get}
use Rattle.std.specs.Str.{IsUtf8}
use Rattle.std.proofs.lemmas.Bool.{cases_Bool, cond-true, cond-false}
use Rattle.clap.specs.Facts.{explicit_source}
use Rattle.clap.specs.Kinds.{Kinds, or_else}
use Rattle.clap.specs.Faults.{check_fault, default_fault, defaults_fault, settle_fault, walk_fault}
use Rattle.clap.specs.Takes.{is_given}
use Rattle.clap.specs.Walk.{Row, Rule, Text, Waiting, Walk, idle, finished, has_row, one_of, row_text}
use Rattle.clap.specs.Walk.{settled, walked, with_default}
use Rattle.clap.specs.declared.builder.value_parser.Reading.TheVariants as reading
use Rattle.clap.specs.declared.parser.matches.ValueSource.TheVariants.{DefaultValue}
use Rattle.au_words.specs.Given.{AreGiven, Given, Shows, Use, WritesAll, takes}
use Rattle.au_words.specs.declared.jobs.Command.{Command}
use Rattle.au_words.specs.declared.jobs.Command.TheVariants.{Run, Compile, Explain, Check, Format, Caps}
use Rattle.au_words.proofs.Leaves.{leaf, leaf_fault, leaf_rows, rules}
use Rattle.au_words.proofs.RowLemmas.{Views, entry_rule, has_row_is, life_row, life_rule, other_stays}
use Rattle.au_words.proofs.RowLemmas.{part_row, part_rule, row_added, row_at, steps_rule, value_row}
use Rattle.au_words.proofs.TurnLemmas.{both_pass, first_passes, held, next_passes, settled_here, settles, state}
use Rattle.au_words.proofs.StandLemmas.{EndsWell, Stands}
use Rattle.au_words.proofs.GivenLemmas.{Extends, complete}
use Rattle.au_words.proofs.FoundLemmas.{found}

-- nothing is given
abbrev nothing : Given
nothing = record { parts = []; entry = None; steps = None; life = false }

-- the library stands before the first word
stands_first : (command : Command) → Stands command [] None nothing
stands_first command = record {
  settled = refl;
  views =
      record { parts = refl; entry = refl; steps = refl; life = refl };
}

-- ---- defaults

-- an argument without a default
no_default : (rows : List Row) (rule : Rule) → rule.defaults ≡ [] → (default_fault rows rule ≡ [])
    × (with_default rows rule ≡ rows)
no_default rows rule none = elim (cases_Bool (has_row rule.id rows)) [
  | inl h ↦ (rw h refl, rw h refl)
  | inr h ↦ (rw (h, none) refl, rw (h, none) refl)
]

life_default : (rows : List Row) → default_fault rows life_rule ≡ []
life_default rows = elim (cases_Bool (has_row (codes "life") rows)) [
  | inl h ↦ rw h refl
  | inr h ↦ rw h refl
]

-- the rows at the end
abbrev last_rows : Command → List Row → List Row
last_rows command rows = fold with_default rows (rules command)

-- what the library adds at the end fails nowhere
defaults_pass : (command : Command) (rows : List Row) → defaults_fault rows (rules command) ≡ []
unfolding defaults_fault
defaults_pass Run rows =
    both_pass (default_fault rows part_rule) _ (no_default rows part_rule refl).0
    (ap (λ r. defaults_fault r (entry_rule ∷ steps_rule ∷ life_rule ∷ [])) (no_default rows part_rule refl).1
    ∙ both_pass (default_fault rows entry_rule) _ (no_default rows entry_rule refl).0
    (ap (λ r. defaults_fault r (steps_rule ∷ life_rule ∷ [])) (no_default rows entry_rule refl).1
    ∙ both_pass (default_fault rows steps_rule) _ (no_default rows steps_rule refl).0
    (ap (λ r. defaults_fault r (life_rule ∷ [])) (no_default rows steps_rule refl).1
    ∙ both_pass (default_fault rows life_rule) [] (life_default rows) refl)))
defaults_pass Compile rows =
    both_pass (default_fault rows part_rule) _ (no_default rows part_rule refl).0
    (ap (λ r. defaults_fault r (entry_rule ∷ [])) (no_default rows part_rule refl).1
    ∙ both_pass (default_fault rows entry_rule) [] (no_default rows entry_rule refl).0 refl)
defaults_pass Explain rows = both_pass (default_fault rows part_rule) [] (no_default rows part_rule refl).0 refl
defaults_pass Check rows = both_pass (default_fault rows part_rule) [] (no_default rows part_rule refl).0 refl
defaults_pass Format rows = both_pass (default_fault rows part_rule) [] (no_default rows part_rule refl).0 refl
defaults_pass Caps rows = both_pass (default_fault rows part_rule) [] (no_default rows part_rule refl).0 refl

-- only `--life` has a default
last_are : (command : Command) (rows : List Row) → (last_rows command rows ≡ rows)
    ⊎ (last_rows command rows ≡ with_default rows life_rule)
last_are Run rows = inr (
    ap (λ r. with_default (with_default (with_default r entry_rule) steps_rule) life_rule)
    (no_default rows part_rule refl).1
    ∙ ap (λ r. with_default (with_default r steps_rule) life_rule) (no_default rows entry_rule refl).1
    ∙ ap (λ r. with_default r life_rule) (no_default rows steps_rule refl).1
    )
last_are Compile rows = inl (
    ap (λ r. with_default r entry_rule) (no_default rows part_rule refl).1
    ∙ (no_default rows entry_rule refl).1
    )
last_are Explain rows = inl (no_default rows part_rule refl).1
last_are Check rows = inl (no_default rows part_rule refl).1
last_are Format rows = inl (no_default rows part_rule refl).1
last_are Caps rows = inl (no_default rows part_rule refl).1

-- ---- what is found

-- The rows at the end are those of what is given, but for the default of `--life`.
record Finds (rows : List Row) (what : Given) : Type 0 where
  pub parts : row_at (codes "part") rows ≡ part_row what.parts
  pub entry : row_at (codes "entry") rows ≡ option_map (value_row (codes "entry")) what.entry
  pub steps : row_at (codes "steps") rows ≡ option_map (value_row (codes "steps")) what.steps
  pub life : (one_of (codes "life") rows ≡ Some (codes "true")) ↔ IsTrue what.life

life_shown : (rows : List Row) (life : Bool) → row_at (codes "life") rows ≡ life_row life →
    (one_of (codes "life") rows ≡ Some (codes "true")) ↔ IsTrue life
life_shown rows true h = (λ e. refl, λ e. ap (option_and_then row_text) h)
life_shown rows false h = (λ e. let both = sym (ap (option_and_then row_text) h) ∙ e in cc, λ e. cc)

finds_here : (rows : List Row) (what : Given) → Views rows what → Finds rows what
finds_here rows what v = record {
  parts = v.parts;
  entry = v.entry;
  steps = v.steps;
  life =
      life_shown rows what.life v.life;
}

finds_default : (rows : List Row) (what : Given) → Views rows what → Finds (with_default rows life_rule) what
finds_default rows what v = so what.life refl
  where
    so : (life : Bool) → what.life ≡ life → Finds (with_default rows life_rule) what
    so true is =
        let has : has_row (codes "life") rows ≡ true = has_row_is (codes "life") rows
        ∙ ap is_some (v.life ∙ ap life_row is) in
        subst (λ r. Finds r what) (sym (cond-true (has_row (codes "life") rows) _ _ has))
        (finds_here rows what v)
    so false is =
        let none : row_at (codes "life") rows ≡ None = v.life ∙ ap life_row is in
        let has : has_row (codes "life") rows ≡ false = has_row_is (codes "life") rows ∙ ap is_some none in
        let added = row_added (codes "life") reading.AsWritten DefaultValue (codes "false" ∷ []) rows none in
        subst (λ r. Finds r what) (sym (cond-false (has_row (codes "life") rows) _ _ has)) (record {
          parts = other_stays (codes "life") reading.AsWritten DefaultValue (codes "false" ∷ [])
              (codes "part") rows refl ∙ v.parts;
          entry = other_stays (codes "life") reading.AsWritten DefaultValue (codes "false" ∷ [])
              (codes "entry") rows refl ∙ v.entry;
          steps = other_stays (codes "life") reading.AsWritten DefaultValue (codes "false" ∷ [])
              (codes "steps") rows refl ∙ v.steps;
          life = (
            λ e. absurd (let both = sym (ap (option_and_then row_text) added) ∙ e in cc),
            λ e. absurd (let both = sym is ∙ e in cc),
          );
        })

finds_last : (command : Command) (rows : List Row) (what : Given) → Views rows what →
    Finds (last_rows command rows) what
finds_last command rows what v = elim (last_are command rows) [
  | inl e ↦ subst (λ r. Finds r what) (sym e) (finds_here rows what v)
  | inr e ↦ subst (λ r. Finds r what) (sym e) (finds_default rows what v)
]

-- what is found is shown
shown : (rows : List Row) (what : Given) → Finds rows what → what.parts ≢ [] → Shows rows what
shown rows what finds some = record {
  parts = ap (option_map (λ r. r.values)) finds.parts ∙ parts what.parts some;
  entry = ap (option_and_then (λ r. slice_get r.values 0)) finds.entry ∙ value (codes "entry") what.entry;
  steps = ap (option_and_then (λ r. slice_get r.values 0)) finds.steps ∙ value (codes "steps") what.steps;
  life = finds.life;
}
  where
    parts : (words : List Text) → words ≢ [] → option_map (λ r. r.values) (part_row words) ≡ Some words
    parts [] some = absurd (some refl)
    parts (word ∷ words) some = refl

    value : (id : Text) (o : Option Text) → option_and_then (λ r. slice_get r.values 0)
        (option_map (value_row id) o) ≡ o
    value id None = refl
    value id (Some text) = refl

-- ---- the last checks

-- whether there is a part
part_given : (rows : List Row) (what : Given) → Finds rows what → is_given (codes "part") rows
    ≡ is_some (part_row what.parts)
part_given rows what finds = ap (λ o. option_map_or (λ r. explicit_source r.source) o false) finds.parts ∙ so what.parts
  where
    so : (words : List Text) → option_map_or (λ r. explicit_source r.source) (part_row words) false
        ≡ is_some (part_row words)
    so [] = refl
    so (word ∷ words) = refl

checks_pass : (command : Command) (rows : List Row) → is_given (codes "part") rows ≡ true →
    check_fault (leaf command) rows false ≡ []
checks_pass Run rows h = rw h refl
checks_pass Compile rows h = rw h refl
checks_pass Explain rows h = rw h refl
checks_pass Check rows h = rw h refl
checks_pass Format rows h = rw h refl
checks_pass Caps rows h = rw h refl

checks_fail : (command : Command) (rows : List Row) → is_given (codes "part") rows ≡ false →
    check_fault (leaf command) rows false ≡ [] → ⊥
checks_fail Run rows h passes = let bad = rw h at passes in cc
checks_fail Compile rows h passes = let bad = rw h at passes in cc
checks_fail Explain rows h passes = let bad = rw h at passes in cc
checks_fail Check rows h passes = let bad = rw h at passes in cc
checks_fail Format rows h passes = let bad = rw h at passes in cc
checks_fail Caps rows h passes = let bad = rw h at passes in cc

some_part : (words : List Text) → words ≢ [] → is_some (part_row words) ≡ true
some_part [] some = absurd (some refl)
some_part (word ∷ words) some = refl

part_some : (words : List Text) → is_some (part_row words) ≡ true → words ≢ []
part_some [] h = cc
part_some (word ∷ words) h = λ e. let f = e in cc

-- ---- the words behind a command

-- the library behind the last word
abbrev behind : Command → List Text → Walk
behind command words = fold (walked (rules command) []) (state [] None idle false) words

-- what is left to do behind the last word
abbrev rest_fault : Command → Walk → Kinds
rest_fault command at =
    or_else (settle_fault (rules command) false at.held)
    (or_else (defaults_fault (settled (rules command) at.held).rows (rules command))
    (check_fault (leaf command) (finished (rules command) at.held) false))

leaf_is : (command : Command) (words : List Text) → leaf_fault command words
    ≡ or_else (walk_fault (leaf command) [] (state [] None idle false) words)
    (rest_fault command (behind command words))
leaf_is command words = refl

module _ (command : Command) (rows : List Row) (pending : Option (Text × List Text)) (waiting : Waiting)
    (marked : Bool) (what : Given) (stands : Stands command rows pending what) where
  abbrev last_here : List Row
  last_here = last_rows command (settled_here command rows pending)

  finds_rest : Finds last_here what
  finds_rest = finds_last command (settled_here command rows pending) what stands.views

  -- with a part, nothing fails behind the last word
  rest_passes : what.parts ≢ [] → rest_fault command (state rows pending waiting marked) ≡ []
  rest_passes some =
      both_pass (settles command rows pending)
      (or_else (defaults_fault (settled_here command rows pending) (rules command))
      (check_fault (leaf command) last_here false)) stands.settled
      (both_pass (defaults_fault (settled_here command rows pending) (rules command))
      (check_fault (leaf command) last_here false)
      (defaults_pass command (settled_here command rows pending))
      (checks_pass command last_here (part_given last_here what finds_rest ∙ some_part what.parts some)))

  -- without one, it fails
  rest_some : rest_fault command (state rows pending waiting marked) ≡ [] → what.parts ≢ []
  rest_some passes =
      let checks : check_fault (leaf command) last_here false ≡ [] =
      next_passes (defaults_fault (settled_here command rows pending) (rules command))
      (check_fault (leaf command) last_here false)
      (next_passes (settles command rows pending)
      (or_else (defaults_fault (settled_here command rows pending) (rules command))
      (check_fault (leaf command) last_here false)) passes) in
      elim (cases_Bool (is_some (part_row what.parts))) [
        | inl e ↦ part_some what.parts e
        | inr e ↦ absurd (checks_fail command last_here (part_given last_here what finds_rest ∙ e) checks)
      ]

  shown_rest : what.parts ≢ [] → Shows (finished (rules command) (held rows pending)) what
  shown_rest some = shown last_here what finds_rest some

-- what is given is taken and shown
pub leaf_complete : (command : Command) (words : List Text) (what : Given) → AreGiven command words what →
    (leaf_fault command words ≡ []) × Shows (leaf_rows command words) what
leaf_complete command words what are =
    let ends = complete command are.uses false [] None idle nothing words what (λ e. refl)
    (stands_first command) are.written are.taken (are.parts, are.entry, are.steps, are.life) in
    let rest : rest_fault command (behind command words) ≡ [] =
    subst (λ at. rest_fault command at ≡ []) (sym ends.5)
    (rest_passes command ends.1 ends.2 ends.3 ends.4 what ends.6 are.some) in (
      both_pass (walk_fault (leaf command) [] (state [] None idle false) words)
          (rest_fault command (behind command words)) ends.0 rest,
      subst (λ w. Shows (finished (rules command) w.held) what) (sym ends.5)
          (shown_rest command ends.1 ends.2 ends.3 ends.4 what ends.6 are.some),
    )

-- what is taken is given
pub leaf_sound : (command : Command) (words : List Text) → All IsUtf8 words → leaf_fault command words ≡ [] →
    (what : Given) × AreGiven command words what
leaf_sound command words utf8 passes =
    let first : Walk = state [] None idle false in
    let walks : walk_fault (leaf command) [] first words ≡ [] =
    first_passes (walk_fault (leaf command) [] first words) (rest_fault command (behind command words))
    passes in
    let rest : rest_fault command (behind command words) ≡ [] =
    next_passes (walk_fault (leaf command) [] first words) (rest_fault command (behind command words))
    passes in
    let ends : EndsWell command first words =
    first_passes (settle_fault (rules command) false (behind command words).held) _ rest in
    let goes = found command (length words) words [] None idle nothing (omega arith) refl utf8
    (stands_first command) (record { walks = walks; ends = ends }) in
    given_so command words goes.0 goes.1 goes.2 goes.3 goes.4 rest
  where
    given_so : (command : Command) (words : List Text) (last : Given) (uses : List Use) →
        WritesAll false uses words → IsTrue (list_all (takes command) uses) → Extends nothing uses last
        → rest_fault command (behind command words) ≡ [] → (what : Given) × AreGiven command words what
    given_so command words last uses written taken says rest =
        let ends = complete command uses false [] None idle nothing words last (λ e. refl)
        (stands_first command) written taken says in
        let left : rest_fault command (state ends.1 ends.2 ends.3 ends.4) ≡ [] =
        subst (λ at. rest_fault command at ≡ []) ends.5 rest in (
          last,
          record {
            uses = uses;
            written = written;
            taken = taken;
            parts = says.0;
            entry = says.1;
            steps =
                says.2;
            life = says.3;
            some = rest_some command ends.1 ends.2 ends.3 ends.4 last ends.6 left;
          },
        )
