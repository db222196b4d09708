-- What the library keeps of the words that it has read, row by row.
use Rattle.std.proofs.Common.{◌≡◌, Bool, true, false, List, [], ◌∷◌, ◌++◌, Option, Some, None, is_some}
use Rattle.std.proofs.Common.{option_map, ap, ◌∙◌, sym, refl, subst, inl, inr, codes}
use Rattle.std.specs.List.{find}
use Rattle.std.specs.Str.{bytes_eq}
use Rattle.std.proofs.lemmas.Bool.{cases_Bool, cond-true, cond-false}
use Rattle.std.proofs.lemmas.Slice.Eq.{bytes_eq-Decides}
use Rattle.clap.specs.Faults.{use_fault}
use Rattle.clap.specs.Walk.{Row, Rule, Text, has_row, stronger, used, with_values, without}
use Rattle.clap.specs.declared.builder.range.ValueRange.{ValueRange}
use Rattle.clap.specs.declared.builder.value_parser.Reading.{Reading}
use Rattle.clap.specs.declared.builder.value_parser.Reading.TheVariants as reading
use Rattle.clap.specs.declared.builder.value_parser.ValueParser.TheVariants as vp
use Rattle.clap.specs.declared.parser.matches.ValueSource.{ValueSource}
use Rattle.clap.specs.declared.parser.matches.ValueSource.TheVariants.{CommandLine}
use Rattle.au_words.specs.Given.{Given, part_argument, entry_argument, steps_argument, life_argument}
use Rattle.au_base.proofs.OptionLemmas.{none_of, map_none}
use Rattle.au_base.proofs.TextLemmas.{bytes_self}

-- ---- the arguments, with what the library fills in

abbrev pub one_value : ValueRange
one_value = record { start_inclusive = 1; end_inclusive = 1 }

abbrev pub no_value : ValueRange
no_value = record { start_inclusive = 0; end_inclusive = 0 }

abbrev pub part_rule : Rule
part_rule = record part_argument { parser = Some vp.String; range = Some one_value; index = Some 1 }

abbrev pub entry_rule : Rule
entry_rule = record entry_argument { parser = Some vp.String; range = Some one_value }

abbrev pub steps_rule : Rule
steps_rule = record steps_argument { parser = Some vp.String; range = Some one_value }

abbrev pub life_rule : Rule
life_rule = record life_argument {
  defaults = codes "false" ∷ [];
  missing = codes "true" ∷ [];
  parser =
      Some vp.Bool;
  range = Some no_value;
}

-- ---- the row of an id

abbrev pub row_at : Text → List Row → Option Row
row_at id rows = find (λ r. bytes_eq r.id id) rows

abbrev new_row : Text → Reading → ValueSource → List Text → Row
new_row id how s values = record { id = id; values = values; count = None; source = Some s; reading = how }

-- whether there is a row
pub has_row_is : (id : Text) (rows : List Row) → has_row id rows ≡ is_some (row_at id rows)
has_row_is id [] = refl
has_row_is id (r ∷ rows) = elim (cases_Bool (bytes_eq r.id id)) [
  | inl h ↦ rw h refl
  | inr h ↦ rw h (has_row_is id rows)
]

module _ (id : Text) (how : Reading) (s : ValueSource) (values : List Text) where
  -- other rows stay
  pub other_stays : (other : Text) (rows : List Row) → bytes_eq id other ≡ false →
      row_at other (with_values id how s values rows) ≡ row_at other rows
  other_stays other [] h = rw h refl
  other_stays other (r ∷ rows) h = elim (cases_Bool (bytes_eq r.id id)) [
    | inl e ↦
        let same : r.id ≡ id = (bytes_eq-Decides r.id id).0 e in
        let apart : bytes_eq r.id other ≡ false = ap (λ t. bytes_eq t other) same ∙ h in
        rw (e, apart) refl
    | inr e ↦ elim (cases_Bool (bytes_eq r.id other)) [
      | inl f ↦ rw (e, f) refl
      | inr f ↦ rw (e, f) (other_stays other rows h)
    ]
  ]

  -- a row that isn't there is added
  pub row_added : (rows : List Row) → row_at id rows ≡ None → row_at id (with_values id how s values rows)
      ≡ Some (new_row id how s values)
  row_added [] h = rw (bytes_self id) refl
  row_added (r ∷ rows) h = elim (cases_Bool (bytes_eq r.id id)) [
    | inl e ↦ absurd (let some = sym (cond-true (bytes_eq r.id id) (Some r) (row_at id rows) e) ∙ h in cc)
    | inr e ↦ rw (e, e) (row_added rows (sym (cond-false (bytes_eq r.id id) (Some r) (row_at id rows) e) ∙ h))
  ]

  -- a row that is there gets the values
  pub row_grows : (rows : List Row) (row : Row) → row_at id rows ≡ Some row
      → row_at id (with_values id how s values rows)
      ≡ Some (record row { values = row.values ++ values; source = Some (stronger row.source s) })
  row_grows [] row h = cc
  row_grows (r ∷ rows) row h = elim (cases_Bool (bytes_eq r.id id)) [
    | inl e ↦
        let some : Some r ≡ Some row = sym (cond-true (bytes_eq r.id id) (Some r) (row_at id rows) e) ∙ h in
        let same : r ≡ row = (let f = some in cc) in
        rw (e, e) (ap (λ (x : Row). Some
        (record x { values = x.values ++ values; source = Some (stronger x.source s) })) same)
    | inr e ↦ rw (e, e) (row_grows rows row (sym (cond-false (bytes_eq r.id id) (Some r) (row_at id rows) e)
        ∙ h))
  ]

-- where there is no row, none is taken away
pub without_none : (id : Text) (rows : List Row) → row_at id rows ≡ None → without id rows ≡ rows
without_none id [] h = refl
without_none id (r ∷ rows) h = elim (cases_Bool (bytes_eq r.id id)) [
  | inl e ↦ absurd (let some = sym (cond-true (bytes_eq r.id id) (Some r) (row_at id rows) e) ∙ h in cc)
  | inr e ↦ rw e (ap (λ l. r ∷ l)
      (without_none id rows (sym (cond-false (bytes_eq r.id id) (Some r) (row_at id rows) e) ∙ h)))
]

-- ---- the rows of what is given

abbrev pub value_row : Text → Text → Row
value_row id text = new_row id reading.AsWritten CommandLine (text ∷ [])

abbrev pub part_row : List Text → Option Row
part_row [] = None
part_row (word ∷ words) = Some (new_row (codes "part") reading.AsWritten CommandLine (word ∷ words))

abbrev pub life_row : Bool → Option Row
life_row true = Some (value_row (codes "life") (codes "true"))
life_row false = None

-- The rows are those of what is given so far.
pub record Views (rows : List Row) (what : Given) : Type 0 where
  pub parts : row_at (codes "part") rows ≡ part_row what.parts
  pub entry : row_at (codes "entry") rows ≡ option_map (value_row (codes "entry")) what.entry
  pub steps : row_at (codes "steps") rows ≡ option_map (value_row (codes "steps")) what.steps
  pub life : row_at (codes "life") rows ≡ life_row what.life

abbrev pub with_part : Given → Text → Given
with_part what word = record what { parts = what.parts ++ word ∷ [] }

abbrev pub with_entry : Given → Text → Given
with_entry what value = record what { entry = Some value }

abbrev pub with_steps : Given → Text → Given
with_steps what value = record what { steps = Some value }

abbrev pub with_life : Given → Given
with_life what = record what { life = true }

pub views_part : (rows : List Row) (what : Given) (word : Text) → Views rows what →
    Views (used part_rule (word ∷ []) rows) (with_part what word)
views_part rows what word v = record {
  parts = parts what.parts v.parts;
  entry = other_stays (codes "part") reading.AsWritten CommandLine (word ∷ []) (codes "entry") rows refl ∙ v.entry;
  steps = other_stays (codes "part") reading.AsWritten CommandLine (word ∷ []) (codes "steps") rows refl ∙ v.steps;
  life = other_stays (codes "part") reading.AsWritten CommandLine (word ∷ []) (codes "life") rows refl ∙ v.life;
}
  where
    parts : (words : List Text) → row_at (codes "part") rows ≡ part_row words →
        row_at (codes "part") (used part_rule (word ∷ []) rows) ≡ part_row (words ++ word ∷ [])
    parts [] h = row_added (codes "part") reading.AsWritten CommandLine (word ∷ []) rows h
    parts (first ∷ words) h = row_grows (codes "part") reading.AsWritten CommandLine (word ∷ []) rows
        (new_row (codes "part") reading.AsWritten CommandLine (first ∷ words)) h

-- an option that has no row is kept with its value
once_used : (id : Text) (how : Reading) (value : Text) (rows : List Row) → row_at id rows ≡ None
    → with_values id how CommandLine (value ∷ []) (without id rows) ≡ with_values id how CommandLine (value ∷ []) rows
once_used id how value rows none = ap (with_values id how CommandLine (value ∷ [])) (without_none id rows none)

pub views_entry : (rows : List Row) (what : Given) (value : Text) → Views rows what → what.entry ≡ None →
    Views (used entry_rule (value ∷ []) rows) (with_entry what value)
views_entry rows what value v free =
    let none : row_at (codes "entry") rows ≡ None = v.entry ∙ ap (option_map (value_row (codes "entry"))) free in
    subst (λ r. Views r (with_entry what value))
    (sym (once_used (codes "entry") reading.AsWritten value rows none)) (record {
      parts = other_stays (codes "entry") reading.AsWritten CommandLine (value ∷ []) (codes "part") rows refl ∙ v.parts;
      entry = row_added (codes "entry") reading.AsWritten CommandLine (value ∷ []) rows none;
      steps = other_stays (codes "entry") reading.AsWritten CommandLine (value ∷ []) (codes "steps") rows refl
          ∙ v.steps;
      life = other_stays (codes "entry") reading.AsWritten CommandLine (value ∷ []) (codes "life") rows refl ∙ v.life;
    })

pub views_steps : (rows : List Row) (what : Given) (value : Text) → Views rows what → what.steps ≡ None →
    Views (used steps_rule (value ∷ []) rows) (with_steps what value)
views_steps rows what value v free =
    let none : row_at (codes "steps") rows ≡ None = v.steps ∙ ap (option_map (value_row (codes "steps"))) free in
    subst (λ r. Views r (with_steps what value))
    (sym (once_used (codes "steps") reading.AsWritten value rows none)) (record {
      parts = other_stays (codes "steps") reading.AsWritten CommandLine (value ∷ []) (codes "part") rows refl ∙ v.parts;
      entry = other_stays (codes "steps") reading.AsWritten CommandLine (value ∷ []) (codes "entry") rows refl
          ∙ v.entry;
      steps = row_added (codes "steps") reading.AsWritten CommandLine (value ∷ []) rows none;
      life = other_stays (codes "steps") reading.AsWritten CommandLine (value ∷ []) (codes "life") rows refl ∙ v.life;
    })

pub views_life : (rows : List Row) (what : Given) → Views rows what → what.life ≡ false →
    Views (used life_rule [] rows) (with_life what)
views_life rows what v free =
    let none : row_at (codes "life") rows ≡ None = v.life ∙ ap life_row free in
    subst (λ r. Views r (with_life what))
    (sym (once_used (codes "life") reading.AsWritten (codes "true") rows none)) (record {
      parts = other_stays (codes "life") reading.AsWritten CommandLine (codes "true" ∷ []) (codes "part") rows
          refl ∙ v.parts;
      entry = other_stays (codes "life") reading.AsWritten CommandLine (codes "true" ∷ []) (codes "entry")
          rows refl ∙ v.entry;
      steps = other_stays (codes "life") reading.AsWritten CommandLine (codes "true" ∷ []) (codes "steps")
          rows refl ∙ v.steps;
      life = row_added (codes "life") reading.AsWritten CommandLine (codes "true" ∷ []) rows none;
    })

-- ---- when a use fails

pub part_passes : (word : Text) (rows : List Row) → use_fault false part_rule (word ∷ []) rows ≡ []
part_passes word rows = refl

pub entry_passes : (value : Text) (rows : List Row) (what : Given) → Views rows what → what.entry ≡ None →
    use_fault false entry_rule (value ∷ []) rows ≡ []
entry_passes value rows what v free =
    let none : has_row (codes "entry") rows ≡ false = has_row_is (codes "entry") rows
    ∙ ap is_some (v.entry ∙ ap (option_map (value_row (codes "entry"))) free) in
    rw none refl

pub steps_passes : (value : Text) (rows : List Row) (what : Given) → Views rows what → what.steps ≡ None →
    use_fault false steps_rule (value ∷ []) rows ≡ []
steps_passes value rows what v free =
    let none : has_row (codes "steps") rows ≡ false = has_row_is (codes "steps") rows
    ∙ ap is_some (v.steps ∙ ap (option_map (value_row (codes "steps"))) free) in
    rw none refl

pub life_passes : (rows : List Row) (what : Given) → Views rows what → what.life ≡ false →
    use_fault false life_rule [] rows ≡ []
life_passes rows what v free =
    let none : has_row (codes "life") rows ≡ false = has_row_is (codes "life") rows
    ∙ ap is_some (v.life ∙ ap life_row free) in
    rw none refl

-- a use that doesn't fail is the first
pub entry_free : (value : Text) (rows : List Row) (what : Given) → Views rows what →
    use_fault false entry_rule (value ∷ []) rows ≡ [] → what.entry ≡ None
entry_free value rows what v passes = elim (cases_Bool (has_row (codes "entry") rows)) [
  | inl h ↦ absurd (let e = rw h at passes in cc)
  | inr h ↦ map_none (value_row (codes "entry")) what.entry
      (sym v.entry ∙ none_of (row_at (codes "entry") rows) (sym (has_row_is (codes "entry") rows) ∙ h))
]

pub steps_free : (value : Text) (rows : List Row) (what : Given) → Views rows what →
    use_fault false steps_rule (value ∷ []) rows ≡ [] → what.steps ≡ None
steps_free value rows what v passes = elim (cases_Bool (has_row (codes "steps") rows)) [
  | inl h ↦ absurd (let e = rw h at passes in cc)
  | inr h ↦ map_none (value_row (codes "steps")) what.steps
      (sym v.steps ∙ none_of (row_at (codes "steps") rows) (sym (has_row_is (codes "steps") rows) ∙ h))
]

no_life : (life : Bool) → life_row life ≡ None → life ≡ false
no_life true h = cc
no_life false h = refl

pub life_free : (rows : List Row) (what : Given) → Views rows what → use_fault false life_rule [] rows ≡ [] →
    what.life ≡ false
life_free rows what v passes = elim (cases_Bool (has_row (codes "life") rows)) [
  | inl h ↦ absurd (let e = rw h at passes in cc)
  | inr h ↦ no_life what.life (sym v.life ∙ none_of (row_at (codes "life") rows)
      (sym (has_row_is (codes "life") rows) ∙ h))
]
