-- Operations on values, by the definitions of the integer kinds.
use Rattle.std.specs.Prelude.{ℕ, Bool, true, false, not, ◌==◌, if◌then◌else◌, List, Option, Some, None, ℤ}
use Rattle.std.specs.Prelude.{codes}
use Rattle.std.specs.Fmt.{signed_decimal}
use Rattle.au_base.specs.declared.kinds.IntKind.{IntKind}
use Rattle.au_base.specs.declared.kinds.IntKind.TheVariants.{Nat8, Nat16, Nat32, Nat64, Int8, Int16, Int32}
use Rattle.au_base.specs.declared.kinds.IntKind.TheVariants.{Int64, Index}
use Rattle.au_ints.specs.declared.operations.IntOp.{IntOp}
use Rattle.au_ints.specs.declared.operations.WrapOp.{WrapOp}
use Rattle.au_ints.specs.declared.operations.Order.{Order}
use Rattle.au_ints.specs.declared.operations.Order.TheVariants as order
use Rattle.au_ints.specs.Operations.{exact, unwrapped, trapped, wrapped, converted}
use Rattle.au_ints.specs.Orders.{truth_of}
use Rattle.au_effects.specs.Values.{Value, truth, number, text, optional}
use Rattle.au_effects.specs.Answers.{Result, value, fault, no_rule, arithmetic}

-- a number for each kind
abbrev pub kind_number : IntKind → ℕ
kind_number Nat8 = 0
kind_number Nat16 = 1
kind_number Nat32 = 2
kind_number Nat64 = 3
kind_number Int8 = 4
kind_number Int16 = 5
kind_number Int32 = 6
kind_number Int64 = 7
kind_number Index = 8

-- whether two kinds are one
abbrev pub same_kind : IntKind → IntKind → Bool
same_kind a b = kind_number a == kind_number b

-- the number that a value is, with its kind
abbrev pub number_in : {T : Type 0} → Value T → Option (IntKind × ℤ)
number_in (number kind z) = Some (kind, z)
number_in other = None

-- a number where it is of this kind
abbrev pub if_of : IntKind → Option (IntKind × ℤ) → Option ℤ
if_of kind None = None
if_of kind (Some one) = if same_kind one.0 kind then Some one.1 else None

-- the number of a kind that a value is
abbrev pub number_of : {T : Type 0} → IntKind → Value T → Option ℤ
number_of kind one = if_of kind (number_in one)

-- the truth value that a value is
abbrev pub truth_in : {T : Type 0} → Value T → Option Bool
truth_in (truth b) = Some b
truth_in other = None

-- an operation on two of something, where both are there
abbrev pub on_both : {T A : Type 0} → (A → A → Result T) → Option A → Option A → Result T
on_both go None b = no_rule
on_both go (Some a) None = no_rule
on_both go (Some a) (Some b) = go a b

-- a number, or the abort where there is none
abbrev pub number_or_fault : {T : Type 0} → IntKind → Option ℤ → Result T
number_or_fault kind None = fault arithmetic
number_or_fault kind (Some z) = value (number kind z)

-- the exact result of two numbers of a kind, or an abort where there is none in the kind's range
abbrev pub computed : {T : Type 0} → IntOp → IntKind → Value T → Value T → Result T
computed op kind a b =
    on_both (λ x y. number_or_fault kind (trapped op kind x y)) (number_of kind a) (number_of kind b)

-- the wrapped result of two numbers of a kind
abbrev pub wrapped_around : {T : Type 0} → WrapOp → IntKind → Value T → Value T → Result T
wrapped_around op kind a b =
    on_both (λ x y. value (number kind (wrapped kind (exact (unwrapped op) x y)))) (number_of kind a)
    (number_of kind b)

-- two truth values are told apart, or found equal, and nothing else
abbrev pub compared_truths : {T : Type 0} → Order → Bool → Bool → Result T
compared_truths order.Equal a b = value (truth (if a then b else not b))
compared_truths order.NotEqual a b = value (truth (if a then not b else b))
compared_truths order.Less a b = no_rule
compared_truths order.LessEqual a b = no_rule
compared_truths order.Greater a b = no_rule
compared_truths order.GreaterEqual a b = no_rule

-- two numbers of a kind are compared, or two truth values where no kind is given
abbrev pub compared : {T : Type 0} → Order → Option IntKind → Value T → Value T → Result T
compared order None a b = on_both (compared_truths order) (truth_in a) (truth_in b)
compared order (Some kind) a b =
    on_both (λ x y. value (truth (truth_of order x y))) (number_of kind a) (number_of kind b)

-- a truth value is turned
abbrev pub turned : {T : Type 0} → Option Bool → Result T
turned None = no_rule
turned (Some b) = value (truth (not b))

abbrev pub negated : {T : Type 0} → Value T → Result T
negated a = turned (truth_in a)

-- a number as one of another kind, if that kind has it
abbrev pub at_kind : {T : Type 0} → IntKind → Option ℤ → Option (Value T)
at_kind to None = None
at_kind to (Some z) = Some (number to z)

abbrev pub converted_from : {T : Type 0} → IntKind → Option (IntKind × ℤ) → Result T
converted_from to None = no_rule
converted_from to (Some one) = value (optional (at_kind to (converted to one.1)))

-- a number at another kind: an Option, which is none where that kind doesn't have it
abbrev pub converted_value : {T : Type 0} → IntKind → Value T → Result T
converted_value to a = converted_from to (number_in a)

-- the word for a truth value
abbrev pub truth_word : Bool → List ℕ
truth_word true = codes "true"
truth_word false = codes "false"

-- what is written for a number, for a truth value and for a text
abbrev pub number_bytes : Option (IntKind × ℤ) → Option (List ℕ)
number_bytes None = None
number_bytes (Some one) = Some (signed_decimal one.1)

abbrev pub truth_bytes : Option Bool → Option (List ℕ)
truth_bytes None = None
truth_bytes (Some b) = Some (truth_word b)

-- the text that a value is
abbrev pub text_in : {T : Type 0} → Value T → Option T
text_in (text t) = Some t
text_in other = None
