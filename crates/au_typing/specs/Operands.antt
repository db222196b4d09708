-- Noting two paired operands.
use Rattle.std.specs.Prelude.{Bool, true, false, Some, Ok}
use Rattle.au_types.specs.Same.{same}
use Rattle.au_typing.specs.Faults.{Noting, ◌>>=◌, check, different}
use Rattle.au_typing.specs.Notes.{Mode, NotedExpression, type_of}

-- what notes an expression in a mode
abbrev pub Noter : Type 0
Noter = Mode → Noting NotedExpression

-- an operand before one that is noted, and behind it
abbrev pub before : NotedExpression → NotedExpression → Noting (NotedExpression × NotedExpression)
before b a = Ok (a, b)

abbrev pub behind_it : NotedExpression → NotedExpression → Noting (NotedExpression × NotedExpression)
behind_it a b = Ok (a, b)

-- two paired operands, where the tests say whether each is bare: from left to right, but one that isn't bare
-- before one that is
abbrev pub paired : Bool → Bool → Noter → Noter → Mode → Noting (NotedExpression × NotedExpression)
paired true true a b mode = a mode >>= λ x. b mode >>= behind_it x
paired true false a b mode = b mode >>= λ y. a (Some (type_of y)) >>= before y
paired false true a b mode = a mode >>= λ x. b (Some (type_of x)) >>= behind_it x
paired false false a b mode = a mode >>= λ x. b mode >>= behind_it x

-- what follows, where two operands have one type
abbrev pub of_one_type : {A : Type 0} → NotedExpression → NotedExpression → Noting A → Noting A
of_one_type a b rest = check (same (type_of a) (type_of b)) (different (type_of a) (type_of b)) rest
