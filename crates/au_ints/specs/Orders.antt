-- What a comparison says.
use Rattle.std.specs.Prelude.{◌≡◌, ◌≢◌, Bool, not, ◌&&◌, ℤ, ◌<ℤ◌, ◌≤ℤ◌, int_lt, int_le}
use Rattle.au_ints.specs.declared.operations.Order.{Order}
use Rattle.au_ints.specs.declared.operations.Order.TheVariants as order

-- what an order says of two numbers
abbrev pub Holds : Order → ℤ → ℤ → Type 0
Holds order.Equal a b = a ≡ b
Holds order.NotEqual a b = a ≢ b
Holds order.Less a b = a <ℤ b
Holds order.LessEqual a b = a ≤ℤ b
Holds order.Greater a b = b <ℤ a
Holds order.GreaterEqual a b = b ≤ℤ a

-- the truth value of an order: equal are two numbers of which each is at most the other
unfoldable pub truth_of : Order → ℤ → ℤ → Bool
truth_of order.Equal a b = int_le a b && int_le b a
truth_of order.NotEqual a b = not (int_le a b && int_le b a)
truth_of order.Less a b = int_lt a b
truth_of order.LessEqual a b = int_le a b
truth_of order.Greater a b = int_lt b a
truth_of order.GreaterEqual a b = int_le b a
