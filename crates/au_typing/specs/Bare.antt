-- Bare expressions, which have no type of their own.
use Rattle.std.specs.Prelude.{Bool, true, false, ◌&&◌}
use Rattle.au_syntax.specs.declared.expressions.BinaryOperator.{BinaryOperator}
use Rattle.au_syntax.specs.declared.expressions.BinaryOperator.TheVariants.{Add, Subtract, Multiply, Divide}
use Rattle.au_syntax.specs.Expressions.{Expression, number, negative, parenthesized, binary}

-- `+`, `-`, `*` or `/`
abbrev pub is_arithmetic : BinaryOperator → Bool
is_arithmetic Add = true
is_arithmetic Subtract = true
is_arithmetic Multiply = true
is_arithmetic Divide = true
is_arithmetic operator = false

-- an expression is bare where it is an integer literal, a bare expression in parentheses, or `+ - * /` of two
-- bare ones
abbrev pub is_bare : {N T C : Type 0} → Expression N T C → Bool
is_bare (number n l) = true
is_bare (negative n l) = true
is_bare (parenthesized n e) = is_bare e
is_bare (binary n op a b) = is_arithmetic op && is_bare a && is_bare b
is_bare e = false
