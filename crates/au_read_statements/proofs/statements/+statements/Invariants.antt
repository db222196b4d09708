-- Only a statement lowers the levels, for what it holds. What the loops keep: what was read, before what
-- is still read, is what is read of all tokens.
use Rattle.std.proofs.Common.{◌≡◌, map, ◌+◌, ◌-◌, ◌*◌, length}
use Rattle.au_base.specs.declared.tokens.Keyword.TheVariants as keyword
use Rattle.au_base.specs.declared.tokens.What.TheVariants as what
use Rattle.au_read_expressions.specs.ExpressionReading.{call_at, expression_at}
use Rattle.au_read_statements.specs.Seen.{arm_seen, branch_seen}
use Rattle.au_read_statements.specs.StatementReading as spec
use Rattle.au_read_statements.specs.StatementReading.{block_at}
use Rattle.au_read_expressions.specs.Bounds.{usual}
use Rattle.au_read_expressions.specs.Reading.{is_front, repeated, repeated_at}
use Rattle.au_read_expressions.proofs.Loops.{with_front}
use Rattle.au_syntax.specs.contracts.parsed.ParsedPhase.TheImpl.{ghosts as parsed}
use Rattle.au_syntax.specs.Views.{statement}
use Rattle.au_read_statements.proofs.statements.+statements.Given as goal

abbrev pub decreases-statement : goal.decreases-statement
decreases-statement l = 8 * l.levels

abbrev pub decreases-several : goal.decreases-several
decreases-several l = 8 * l.levels + 1

abbrev pub decreases-block : goal.decreases-block
decreases-block l = 8 * l.levels + 2

abbrev pub decreases-branch : goal.decreases-branch
decreases-branch l = 8 * l.levels + 3

abbrev pub decreases-branches : goal.decreases-branches
decreases-branches l = 8 * l.levels + 4

abbrev pub decreases-conditional : goal.decreases-conditional
decreases-conditional l = 8 * l.levels + 5

abbrev pub decreases-arm : goal.decreases-arm
decreases-arm l = 8 * l.levels + 3

abbrev pub decreases-arms : goal.decreases-arms
decreases-arms l = 8 * l.levels + 4

abbrev pub decreases-case : goal.decreases-case
decreases-case l = 8 * l.levels + 6

abbrev pub decreases-closed_arms : goal.decreases-closed_arms
decreases-closed_arms l = 8 * l.levels + 5

abbrev pub decreases-closed_block : goal.decreases-closed_block
decreases-closed_block l = 8 * l.levels + 3

abbrev pub decreases-while_loop : goal.decreases-while_loop
decreases-while_loop l = 8 * l.levels + 4

abbrev pub decreases-for_loop : goal.decreases-for_loop
decreases-for_loop l = 8 * l.levels + 4

abbrev pub decreases-borrowed_block : goal.decreases-borrowed_block
decreases-borrowed_block l = 8 * l.levels + 3

abbrev pub decreases-borrow_in : goal.decreases-borrow_in
decreases-borrow_in l = 8 * l.levels + 4

abbrev pub decreases-borrow_typed : goal.decreases-borrow_typed
decreases-borrow_typed l = 8 * l.levels + 4

abbrev pub decreases-borrow_statement : goal.decreases-borrow_statement
decreases-borrow_statement l = 8 * l.levels + 5

abbrev pub decreases-statement_with : goal.decreases-statement_with
decreases-statement_with l = 8 * l.levels + 7

abbrev pub invariant-several-loop : goal.invariant-several-loop
invariant-several-loop l =
    with_front (map (statement parsed) l.statements.items)
    (repeated_at spec.begins_statement (spec.statement_at usual l.levels) (length l.tokens - l.counter)
    l.rest)
    ≡ repeated spec.begins_statement (spec.statement_at usual l.levels) l.tokens

abbrev pub invariant-branches-loop : goal.invariant-branches-loop
invariant-branches-loop l =
    with_front (map (branch_seen parsed) l.tests.items)
    (spec.branches_within usual (expression_at usual l.levels) (call_at usual l.levels)
    (block_at usual l.levels) (length l.tokens - l.counter) l.rest)
    ≡ spec.branches_with usual (expression_at usual l.levels) (call_at usual l.levels)
    (block_at usual l.levels) l.tokens

abbrev pub invariant-arms-loop : goal.invariant-arms-loop
invariant-arms-loop l =
    with_front (map arm_seen l.cases.items)
    (repeated_at (is_front (what.Word keyword.KwWhen))
    (spec.arm_with usual (expression_at usual l.levels) (call_at usual l.levels) (block_at usual l.levels))
    (length l.tokens - l.counter) l.rest)
    ≡ spec.arms_with usual (expression_at usual l.levels) (call_at usual l.levels) (block_at usual l.levels) l.tokens
