-- The search for the notes of expressions without operands.
use Rattle.std.specs.Prelude.{ℕ, List, Bool, Ok, neg_ℤ}
use Rattle.au_syntax.specs.declared.expressions.BorrowMode.{BorrowMode}
use Rattle.au_syntax.specs.declared.expressions.Literal.{Literal}
use Rattle.au_syntax.specs.Expressions.{Node, number, negative, text, truth, nil, borrow}
use Rattle.au_syntax.specs.Names.{Placed}
use Rattle.au_syntax.specs.Plain.{Bytes}
use Rattle.au_types.specs.Types as mean
use Rattle.au_types.specs.Types.{Meaning}
use Rattle.au_typing.specs.Faults.{Noting, ◌>>=◌}
use Rattle.au_typing.specs.Notes.{Mode, NotedExpression, noted_at}
use Rattle.au_typing.specs.Rules.{noted}
use Rattle.au_typing.specs.Search.{borrowed, literal_note}

-- an integer literal
abbrev pub number_noted : Node (Unit {0}) → Literal → Mode → Noting NotedExpression
number_noted u l mode = literal_note mode l.value >>= λ n. Ok (number (noted_at u n) l)

-- an integer literal behind a sign
abbrev pub negative_noted : Node (Unit {0}) → Literal → Mode → Noting NotedExpression
negative_noted u l mode = literal_note mode (neg_ℤ l.value) >>= λ n. Ok (negative (noted_at u n) l)

-- a text
abbrev pub text_noted : Node (Unit {0}) → List ℕ → Mode → Noting NotedExpression
text_noted u t mode = noted mode mean.text >>= λ n. Ok (text (noted_at u n) t)

-- a truth
abbrev pub truth_noted : Node (Unit {0}) → Bool → Mode → Noting NotedExpression
truth_noted u b mode = noted mode mean.truth >>= λ n. Ok (truth (noted_at u n) b)

-- nil
abbrev pub nil_noted : Node (Unit {0}) → Mode → Noting NotedExpression
nil_noted u mode = noted mode mean.unit >>= λ n. Ok (nil (noted_at u n))

-- a reference to a variable of this type
abbrev pub borrow_noted : Node (Unit {0}) → BorrowMode → Placed Bytes → Mode → Meaning →
    Noting NotedExpression
borrow_noted u m x mode t = borrowed m t >>= λ of. noted mode of >>= λ n. Ok (borrow (noted_at u n) m x)
