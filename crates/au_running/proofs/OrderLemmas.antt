-- The closed functions of a program, in order as they are run.
use Rattle.std.proofs.Common.{◌≡◌, ℕ, zero, suc, List, [], ◌∷◌, Option, Some, None, refl}
use Rattle.std.specs.Prelude.{slice_get}
use Rattle.std.specs.Option.{option_map}
use Rattle.au_syntax.specs.Plain.{Bytes}
use Rattle.au_closed_trees.specs.ClosedNotes.{Callee, ClosedNote}
use Rattle.au_closing.specs.Closes.{ClosedFunction}
use Rattle.au_closed_meanings.specs.Surroundings.{Surroundings}
use Rattle.au_closed_meanings.specs.Closed.{closed_functions, function_closed}
use Rattle.au_meaning.specs.Views.{Function}
use Rattle.au_running.specs.Followed.{functions_in}

-- each closed function stands under its number
pub in_order : (round : Bytes → Surroundings) (functions : List ClosedFunction) (numbers : ℕ → ℕ) (i : ℕ)
    → slice_get (functions_in round numbers functions) i ≡ closed_functions round functions numbers i
in_order round [] numbers i = refl
in_order round (f ∷ rest) numbers zero = refl
in_order round (f ∷ rest) numbers (suc i) = in_order round rest (λ n. numbers (suc n)) i

-- what is said of each closed function is said of each in order
pub from_closed : (round : Bytes → Surroundings) (number : ℕ) (o : Option ClosedFunction)
    (g : Function ℕ ClosedNote (Callee ℕ)) → option_map (function_closed round number) o ≡ Some g
    → (f : ClosedFunction) × (o ≡ Some f) × (function_closed round number f ≡ g)
from_closed round number None g e = absurd cc
from_closed round number (Some f) g e = (f, refl, cc)
