-- Code doesn't depend on the numbers of names: functions that number theirs in one way have the code of those
-- that number theirs in any other.
use Rattle.std.proofs.Common.{◌≡◌, ℕ, suc, List, [], ◌∷◌, ◌++◌, length, map, nat_lt, refl, ◌∙◌}
use Rattle.std.specs.Str.{bytes_eq}
use Rattle.au_closed_trees.specs.ClosedNotes.{Callee, ClosedNote}
use Rattle.au_type_texts.specs.Same.{same}
use Rattle.au_type_texts.specs.Types.{ClosedType}
use Rattle.au_closed_meanings.specs.Programs.{Body, Row, function_seen, functions_by, surroundings}
use Rattle.au_closing.specs.Closes.{ClosedFunction}
use Rattle.au_running.specs.Followed.{functions_in}
use Rattle.au_low.specs.declared.code.LowType.{LowType}
use Rattle.au_lowered.specs.Programs.{bodies, body_of, entry_types, function_code, lowered, texts_in}
use Rattle.au_lowered.specs.Programs.{texts_named, types_in, types_named}
use Rattle.au_lowering.specs.Closed.{body_seen}
use Rattle.au_meaning.specs.Views.{Function}
use Rattle.au_graphs.specs.Reached.{adds}
use Rattle.au_syntax.specs.Plain.{Bytes}

module _ (all : List Body) (rows : List Row) where
  -- functions that number their names in one way, and in any other
  abbrev in_one : (ℕ → ℕ) → List ClosedFunction → List (Function ℕ ClosedNote (Callee ℕ))
  in_one firsts functions = functions_by all rows firsts (map body_seen functions)

  abbrev in_any : (ℕ → ℕ) → List ClosedFunction → List (Function ℕ ClosedNote (Callee ℕ))
  in_any numbers functions = functions_in (surroundings all rows) numbers functions

  -- with one numbering they are the same
  pub same_functions : (functions : List ClosedFunction) (numbers : ℕ → ℕ)
      → in_one numbers functions ≡ in_any numbers functions
  same_functions [] numbers = refl
  same_functions (f ∷ rest) numbers =
      λ i. function_seen all rows (numbers 0) (body_seen f) ∷ same_functions rest (λ n. numbers (suc n)) i

  bodies_same : (functions : List ClosedFunction) (firsts numbers : ℕ → ℕ)
      → bodies (in_one firsts functions) ≡ bodies (in_any numbers functions)
  bodies_same [] firsts numbers = refl
  bodies_same (f ∷ rest) firsts numbers =
      λ i. body_of (function_seen all rows (firsts 0) (body_seen f))
      ++ bodies_same rest (λ n. firsts (suc n)) (λ n. numbers (suc n)) i

  entry_same : (functions : List ClosedFunction) (firsts numbers : ℕ → ℕ)
      → entry_types (in_one firsts functions) ≡ entry_types (in_any numbers functions)
  entry_same [] firsts numbers = refl
  entry_same (f ∷ rest) firsts numbers = refl

  -- the texts and the types are the same
  pub texts_same : (functions : List ClosedFunction) (firsts numbers : ℕ → ℕ)
      → texts_in (in_one firsts functions) ≡ texts_in (in_any numbers functions)
  texts_same functions firsts numbers =
      λ i. adds bytes_eq [] (texts_named (bodies_same functions firsts numbers i))

  pub types_same : (functions : List ClosedFunction) (firsts numbers : ℕ → ℕ)
      → types_in (in_one firsts functions) ≡ types_in (in_any numbers functions)
  types_same functions firsts numbers =
      λ i. adds same [] (entry_same functions firsts numbers i
      ++ types_named (bodies_same functions firsts numbers i))

  functions_same : (texts : List Bytes) (types : List ClosedType) (functions : List ClosedFunction)
      (firsts numbers : ℕ → ℕ)
      → map (function_code texts types) (in_one firsts functions)
      ≡ map (function_code texts types) (in_any numbers functions)
  functions_same texts types [] firsts numbers = refl
  functions_same texts types (f ∷ rest) firsts numbers =
      λ i. function_code texts types (function_seen all rows (firsts 0) (body_seen f))
      ∷ functions_same texts types rest (λ n. firsts (suc n)) (λ n. numbers (suc n)) i

  -- the code is the same
  pub code_same : (told : ClosedType → LowType) (functions : List ClosedFunction) (firsts numbers : ℕ → ℕ)
      → lowered told (in_one firsts functions) ≡ lowered told (in_any numbers functions)
  code_same told functions firsts numbers =
      (λ i. record {
        texts = texts_same functions firsts numbers i;
        types = map told (types_same functions firsts numbers i);
        functions = map
            (function_code (texts_same functions firsts numbers i) (types_same functions firsts numbers i))
            (in_one firsts functions);
        root = nat_lt 0 (length (entry_same functions firsts numbers i));
      })
      ∙ (λ i. record {
        texts = texts_in (in_any numbers functions);
        types = map told (types_in (in_any numbers functions));
        functions = functions_same (texts_in (in_any numbers functions)) (types_in (in_any numbers functions))
            functions firsts numbers i;
        root = nat_lt 0 (length (entry_types (in_any numbers functions)));
      })
