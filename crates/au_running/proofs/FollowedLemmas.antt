-- Code can follow the functions of a closed program, with the rows of its types.
use Rattle.std.proofs.Common.{◌≡◌, ℕ, suc, Bool, true, false, cond, List, [], ◌∷◌, map, Option, Some, None}
use Rattle.std.proofs.Common.{refl, sym, ap, subst, ◌∙◌}
use Rattle.std.specs.Prelude.{slice_get}
use Rattle.std.specs.List.{find}
use Rattle.std.specs.Option.{option_map}
use Rattle.std.proofs.lemmas.Option.{slice_get-map}
use Rattle.au_syntax.specs.Plain.{Bytes}
use Rattle.au_modules.specs.Programs.{ModuleParts}
use Rattle.au_type_texts.specs.Same.{same}
use Rattle.au_type_texts.specs.Types.{ClosedType}
use Rattle.au_closed_trees.specs.ClosedNotes.{Callee, ClosedNote}
use Rattle.au_closing.specs.Closes.{ClosedFunction, ClosesFunctions}
use Rattle.au_closing.specs.Instances.{Instance}
use Rattle.au_lowering.specs.Programs.{ClosedProgram, TypeRow}
use Rattle.au_closed_meanings.specs.Programs.{Body, Row, fields_at, linear_by, row_in, surroundings}
use Rattle.au_closed_meanings.specs.Surroundings.{Surroundings, field_names}
use Rattle.au_closed_meanings.specs.Closed.{function_closed, names_at, parameters_seen}
use Rattle.au_closed_meanings.specs.Listed.{row_for, rows_for}
use Rattle.au_typing.specs.Trees.{NotedParts}
use Rattle.au_lowering.specs.Faults.{IsDerived}
use Rattle.au_effects.specs.Parts.{along}
use Rattle.au_meaning.specs.Views.{Field, Function}
use Rattle.au_lowering.specs.Closed.{body_seen, row_seen, told_by, told_in}
use Rattle.au_running.specs.Asked.{AreSimple, FieldsAreOnce, ParametersAreOnce}
use Rattle.au_running.specs.Followed.{AreFollowed, EntryBegins, functions_in}
use Rattle.au_running.specs.Formed.{IsFormed}
use Rattle.au_running.specs.Suits.{EachSuits, are_once, guarded_functions}
use Rattle.au_running.proofs.AskedLemmas.{block_follows}
use Rattle.au_running.proofs.ClosedLemmas.{closed_formed}
use Rattle.au_running.proofs.ConstantLemmas.{are_simple}
use Rattle.au_running.proofs.OrderLemmas.{from_closed, in_order}
use Rattle.au_lowered.specs.HomeLists.{HomesShared}

-- ---- parameters

named : (f : Option ClosedFunction)
    → option_map (λ (b : Body). field_names b.parameters) (option_map body_seen f)
    ≡ option_map (λ (f : ClosedFunction). field_names (parameters_seen f)) f
named None = refl
named (Some f) = refl

-- the names of parameters are those of the closed functions
pub names_same : (functions : List ClosedFunction) (number : ℕ)
    → option_map (λ (b : Body). field_names b.parameters) (slice_get (map body_seen functions) number)
    ≡ names_at functions number
names_same functions number =
    ap (option_map (λ (b : Body). field_names b.parameters)) (slice_get-map body_seen functions number)
    ∙ named (slice_get functions number)

-- ---- types

found_seen : (rows : List TypeRow) (of : ClosedType)
    → row_in (map row_seen rows) of ≡ option_map row_seen (find (λ (row : TypeRow). same row.of of) rows)
found_seen [] of = refl
found_seen (row ∷ rest) of = by (same row.of of) (found_seen rest of)
  where
    by : (b : Bool) → row_in (map row_seen rest) of
        ≡ option_map row_seen (find (λ (row : TypeRow). same row.of of) rest)
        → cond b (Some (row_seen row)) (row_in (map row_seen rest) of)
        ≡ option_map row_seen (cond b (Some row) (find (λ (row : TypeRow). same row.of of) rest))
    by true later = refl
    by false later = later

linear_told : (o : Option TypeRow) → (told_by o).linear ≡ linear_by (option_map row_seen o)
linear_told None = refl
linear_told (Some row) = refl

-- a type is told as linear where its row says so
linear_same : (rows : List TypeRow) (of : ClosedType)
    → (told_in rows of).linear ≡ linear_by (row_in (map row_seen rows) of)
linear_same rows of =
    linear_told (find (λ (row : TypeRow). same row.of of) rows) ∙ ap linear_by (sym (found_seen rows of))

-- ---- fields

module _ (program : List ModuleParts) (once : FieldsAreOnce program) where
  -- the fields of a case of a type, if it has a row, are those that the program has
  fields_once : (types : List ClosedType) (of : ClosedType) (tag : ℕ) (fields : List Field)
      → along (row_in (rows_for program types) of) (λ row. fields_at tag row.cases) ≡ Some fields
      → are_once (field_names fields) ≡ true
  fields_once [] of tag fields e = absurd cc
  fields_once (t ∷ rest) of tag fields e = by (same t of) e (fields_once rest of tag fields)
    where
      by : (b : Bool)
          → along (cond b (Some (row_for program t))
          (row_in (rows_for program rest) of)) (λ (row : Row). fields_at tag row.cases) ≡ Some fields
          → (along (row_in (rows_for program rest) of) (λ (row : Row). fields_at tag row.cases) ≡ Some fields
          → are_once (field_names fields) ≡ true)
          → are_once (field_names fields) ≡ true
      by true here later = once t tag fields here
      by false here later = later here

-- ---- functions

-- code can follow functions of which this is asked
all_follow : (round : Bytes → Surroundings)
    → ((home : Bytes) (number : ℕ) (names : List Bytes) → (round home).parameters number ≡ Some names
    → are_once names ≡ true)
    → ((home : Bytes) (of : ClosedType) (tag : ℕ) (fields : List Field)
    → (round home).fields of tag ≡ Some fields → are_once (field_names fields) ≡ true)
    → (some : List ClosedFunction) → AreSimple some → (numbers : ℕ → ℕ)
    → EachSuits (functions_in round numbers some)
all_follow round once fields [] simple numbers = tt
all_follow round once fields (f ∷ rest) simple numbers = (
  block_follows (round f.home) (once f.home) (fields f.home) f.body (simple 0 f refl),
  all_follow round once fields rest (λ i. simple (suc i)) (λ n. numbers (suc n)),
)

-- what is known round a closed tree, by the rows of types
abbrev pub round_in : ClosedProgram → Bytes → Surroundings
round_in c = surroundings (map body_seen c.functions) (map row_seen c.types)

-- the functions of a closed program, each with a number for its first name
abbrev pub all_of : (ℕ → ℕ) → ClosedProgram → List (Function ℕ ClosedNote (Callee ℕ))
all_of numbers c = functions_in (round_in c) numbers c.functions

module _ (program : List ModuleParts) (noted : List NotedParts) (derived : IsDerived program noted)
    (entry : Instance) (c : ClosedProgram) (closes : ClosesFunctions program noted entry c.functions)
    (types : List ClosedType) (rows : map row_seen c.types ≡ rows_for program types)
    (once : ParametersAreOnce c.functions) (fields : FieldsAreOnce program) (numbers : ℕ → ℕ) where
  -- a function is a closed one
  which : (i : ℕ) (g : Function ℕ ClosedNote (Callee ℕ)) → slice_get (all_of numbers c) i ≡ Some g
      → (f : ClosedFunction) × (slice_get c.functions i ≡ Some f) × (function_closed (round_in c) (numbers i) f ≡ g)
  which i g e =
      from_closed (round_in c) (numbers i) (slice_get c.functions i) g
      (sym (in_order (round_in c) c.functions numbers i) ∙ e)

  -- code can follow them
  pub rows_follow : HomesShared (guarded_functions (all_of numbers c))
      → EntryBegins (told_in c.types) (all_of numbers c) → AreFollowed (told_in c.types) (all_of numbers c)
  rows_follow shared begins = record {
    formed = λ i g e.
        let f = which i g e in
        subst (λ (x : Function ℕ ClosedNote (Callee ℕ)). IsFormed x.body) f.2
        (closed_formed program noted derived entry c.functions closes i f.0 f.1);
    suits = all_follow (round_in c)
        (λ home number names e. once number names (sym (names_same c.functions number) ∙ e))
        (λ home of tag all e. fields_once program fields types of tag all
        (sym (ap (λ l. along (row_in l of) (λ (row : Row). fields_at tag row.cases)) rows) ∙ e))
        c.functions (are_simple program noted derived entry c.functions closes) numbers;
    linear = λ i g e of.
        let f = which i g e in
        linear_same c.types of
        ∙ ap (λ (x : Function ℕ ClosedNote (Callee ℕ)). x.view.is_linear of) f.2;
    homes = shared;
    entry = begins;
  }
