-- The scopes in the blocks of borrow statements, where what is borrowed is good.
use Rattle.std.specs.Prelude.{Ok}
use Rattle.au_syntax.specs.declared.expressions.BorrowMode.{BorrowMode}
use Rattle.au_syntax.specs.declared.types.Access.{Access}
use Rattle.au_syntax.specs.Plain.{Bytes}
use Rattle.au_syntax.specs.Types.{WrittenType}
use Rattle.au_types.specs.Types.{Meaning}
use Rattle.au_typing.specs.InScope.{with_reference}
use Rattle.au_typing.specs.Parts.{borrow_type, mode_for}
use Rattle.au_typing.specs.DerivationSearch.{judge_borrow, judge_lent}
use Rattle.au_typing.specs.Scopes.{Scope}
use Rattle.au_typing.specs.Faults.{Noting, ◌>>=◌}

-- the type of the reference of a borrow statement without a written type
abbrev pub lent_reference : Scope → Access → Bytes → Bytes → Noting Meaning
lent_reference sc kind x region =
    judge_lent sc (mode_for kind) x >>= λ of. Ok (borrow_type (mode_for kind) region of)

-- the scope in the block of a borrow statement without a written type
abbrev pub lent_scope : Scope → Access → Bytes → Bytes → Bytes → Noting Scope
lent_scope sc kind x r region = lent_reference sc kind x region >>= λ of. Ok (with_reference r region of sc)

-- the scope in the block of a borrow statement with a written type
abbrev pub typed_scope : Scope → Bytes → WrittenType → BorrowMode → Bytes → Noting Scope
typed_scope sc r t mode x = judge_borrow sc t mode x >>= λ y. Ok (with_reference r y.0 y.1 sc)
