-- The drafts of functions are those of the functions as they are run.
use Rattle.std.proofs.Common.{◌≡◌, ℕ, suc, List, [], ◌∷◌, map, refl, ap, ◌∙◌}
use Rattle.std.proofs.Common.{Option, None, Some, slice_get}
use Rattle.std.specs.Option.{option_map}
use Rattle.std.proofs.lemmas.Option.{slice_get-map}
use Rattle.au_closed_programs.specs.declared.functions.ClosedFunction as found
use Rattle.au_closed_programs.specs.FunctionViews.{function_said, functions_said}
use Rattle.au_closed_meanings.specs.Programs.{Body, Row, functions_by, functions_seen}
use Rattle.au_lowering.specs.Drafts.{drafted_from}
use Rattle.au_lowering.specs.Closed.{body_seen}
use Rattle.au_lowering.specs.Drafted.{drafted}
use Rattle.au_lowered.specs.Drafts.{Written}
use Rattle.au_lowering_statements.specs.Wrote.{wrote}

drafted_by : (functions : List Body) (rows : List Row) (numbers : ℕ → ℕ) (all : List Body)
    → map (drafted_from functions rows) all ≡ map drafted (functions_by functions rows numbers all)
drafted_by functions rows numbers [] = refl
drafted_by functions rows numbers (f ∷ rest) =
    ap (λ l. drafted_from functions rows f ∷ l) (drafted_by functions rows (λ n. numbers (suc n)) rest)

pub all_drafted : (functions : List Body) (rows : List Row)
    → map (drafted_from functions rows) functions ≡ map drafted (functions_seen functions rows (λ n. 0))
all_drafted functions rows = drafted_by functions rows (λ n. 0) functions

-- code behind nothing
pub first_wrote : (write : Written) → wrote write [] ≡ write 0
unfolding wrote
first_wrote write = refl

twice : (o : Option found.ClosedFunction)
    → option_map body_seen (option_map function_said o) ≡ option_map (λ f. body_seen (function_said f)) o
twice None = refl
twice (Some f) = refl

-- the function of a number
pub body_at : (functions : List found.ClosedFunction) (k : ℕ)
    → slice_get (map body_seen (functions_said functions)) k
    ≡ option_map (λ f. body_seen (function_said f)) (slice_get functions k)
body_at functions k =
    slice_get-map body_seen (functions_said functions) k
    ∙ ap (option_map body_seen) (slice_get-map function_said functions k)
    ∙ twice (slice_get functions k)
