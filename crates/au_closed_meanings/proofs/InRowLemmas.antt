-- Functions that number their names as the program does are the closed functions with such numbers.
use Rattle.std.proofs.Common.{◌≡◌, ℕ, zero, suc, List, [], ◌∷◌, map, Option, Some, None, refl, sym, ap, ◌∙◌}
use Rattle.std.specs.Prelude.{slice_get}
use Rattle.std.specs.Option.{option_map}
use Rattle.std.proofs.lemmas.Option.{slice_get-map}
use Rattle.au_modules.specs.Programs.{ModuleParts}
use Rattle.au_closed_meanings.specs.Programs.{Body, Row, functions_by, surroundings}
use Rattle.au_closed_meanings.specs.Surroundings.{field_names}
use Rattle.au_typing.specs.Trees.{NotedParts}
use Rattle.au_closing.specs.Closes.{ClosedFunction}
use Rattle.au_closing.specs.Instances.{Instance}
use Rattle.au_meaning.specs.Meanings.{mean}
use Rattle.au_closed_meanings.specs.Closed.{function_closed, names_at, parameters_seen}
use Rattle.au_closed_meanings.specs.InRow.{KeepsMeaningInRow, body_seen}
use Rattle.au_closed_meanings.specs.Kept.{NumberAlike}
use Rattle.au_closed_meanings.specs.Numbers.{first_name, first_of, numbers_of}
use Rattle.au_closed_meanings.proofs.KeptLemmas.{meaning_kept}

by_seen : (bodies : List Body) (rows : List Row) (numbers : ℕ → ℕ) (functions : List ClosedFunction) (number : ℕ)
    → slice_get (functions_by bodies rows numbers (map body_seen functions)) number
    ≡ option_map (function_closed (surroundings bodies rows) (numbers number)) (slice_get functions number)
by_seen bodies rows numbers [] number = refl
by_seen bodies rows numbers (f ∷ rest) zero = refl
by_seen bodies rows numbers (f ∷ rest) (suc number) = by_seen bodies rows (λ n. numbers (suc n)) rest number

named : (f : Option ClosedFunction)
    → option_map (λ (b : Body). field_names b.parameters) (option_map body_seen f)
    ≡ option_map (λ (f : ClosedFunction). field_names (parameters_seen f)) f
named None = refl
named (Some f) = refl

-- the names of parameters
names_seen : (functions : List ClosedFunction) (number : ℕ)
    → option_map (λ (b : Body). field_names b.parameters) (slice_get (map body_seen functions) number)
    ≡ names_at functions number
names_seen functions number =
    ap (option_map (λ (b : Body). field_names b.parameters)) (slice_get-map body_seen functions number)
    ∙ named (slice_get functions number)

-- an instance numbers its names as the function in its place does
pub numbered_alike : (program : List ModuleParts) (noted : List NotedParts) (all : List Instance)
    → NumberAlike all (first_name program noted) (numbers_of program noted all)
numbered_alike program noted all place one there = sym (ap (first_of program noted) there)

pub kept_in_row : KeepsMeaningInRow
kept_in_row program noted entry functions closes rows known say counts input ticks =
    let round = surroundings (map body_seen functions) rows in
    let numbers = numbers_of program noted closes.instances in
    meaning_kept program noted entry functions closes (first_name program noted) numbers
    (numbered_alike program noted closes.instances) round known
    (record {
      parameters = λ home number. names_seen functions number;
      homes = λ home. refl;
      tags = λ home of k name. say.tags of k name;
      fields = λ home of k tag. say.fields of k tag;
      linear = λ home of k has. say.linear of k has;
    }) counts input ticks
    ∙ sym (ap (λ made. mean made 0 input ticks)
    (λ i number. by_seen (map body_seen functions) rows numbers functions number i))
