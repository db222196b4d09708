-- How many types the parameters of a call have, in order or by labels.
use Rattle.std.proofs.Common.{◌≡◌, ℕ, suc, ◌==◌, Bool, true, false, List, [], ◌∷◌, refl, sym, ap, ◌∙◌, length}
use Rattle.std.proofs.Common.{map, Option, Some, None, option_map, option_and_then, if◌then◌else◌}
use borrow.Author.Tests.{eqb-true}
use Rattle.std.proofs.lemmas.List.{length-map}
use Rattle.au_syntax.specs.Plain.{Bytes}
use Rattle.au_types.specs.Types.{Meaning}
use Rattle.au_typing.specs.Scopes.{Typed}
use Rattle.au_typing.specs.Calls.{labelled_types}
use Rattle.au_typing.specs.Lookups.{type_of_name}

-- in order there are as many as parameters
pub ordered : (b : Bool) (n : ℕ) (params : List Typed) (types : List Meaning) → (length params == n) ≡ b
    → (if b then Some (map (λ (one : Typed). one.of) params) else None) ≡ Some types → length types ≡ n
ordered true n params types is h =
    let made : map (λ (one : Typed). one.of) params ≡ types = cc in
    sym (ap length made) ∙ (length-map params (λ (one : Typed). one.of) ∙ eqb-true (length params) n is)
ordered false n params types is h = absurd cc

-- one more before others
pub one_more : (o : Option Meaning) (r : Option (List Meaning)) (n : ℕ) (types : List Meaning)
    → ((ts : List Meaning) → r ≡ Some ts → length ts ≡ n)
    → option_and_then (λ (t : Meaning). option_map (λ (ts : List Meaning). t ∷ ts) r) o ≡ Some types
    → length types ≡ suc n
one_more None r n types k h = absurd cc
one_more (Some t) None n types k h = absurd cc
one_more (Some t) (Some ts) n types k h =
    let made : t ∷ ts ≡ types = cc in
    sym (ap length made) ∙ ap suc (k ts refl)

-- by labels there are as many as labels
pub labelled_length : (labels : List Bytes) (params : List Typed) (types : List Meaning)
    → labelled_types labels params ≡ Some types → length types ≡ length labels
labelled_length [] params types h =
    let none : [] ≡ types = cc in
    sym (ap length none)
labelled_length (label ∷ labels) params types h =
    one_more (type_of_name label params) (labelled_types labels params) (length labels) types
    (λ ts is. labelled_length labels params ts is) h

-- where a test holds
pub where_named : (b : Bool) (r : Option (List Meaning)) (n : ℕ) (types : List Meaning)
    → ((ts : List Meaning) → r ≡ Some ts → length ts ≡ n) → (if b then r else None) ≡ Some types
    → length types ≡ n
where_named true r n types k h = k types h
where_named false r n types k h = absurd cc
