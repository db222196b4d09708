-- Only `nested` and `atom` lower the level; the others are ranked below it. What was read in a list,
-- before what is still read, is what is read of all tokens.
use Rattle.std.proofs.Common.{◌≡◌, map, ◌-◌, ◌+◌, ◌*◌, length}
use Rattle.au_base.specs.declared.tokens.Sign.TheVariants.{Comma}
use Rattle.au_base.specs.declared.tokens.What.TheVariants as what
use Rattle.au_read_expressions.specs.Bounds.{usual}
use Rattle.au_read_expressions.specs.Reading.{listed, separated_at}
use Rattle.au_read_expressions.proofs.Loops.{with_front}
use Rattle.au_syntax.specs.Views.{expression}
use Rattle.au_syntax.specs.contracts.parsed.ParsedPhase.TheImpl.{ghosts as parsed}
use Rattle.au_read_expressions.specs.Arguments.{argument}
use Rattle.au_read_expressions.specs.ExpressionReading.{labelled, expression_at, atom_at}
use Rattle.au_read_expressions.proofs.expressions.+expressions.Given as goal

abbrev pub decreases-nested : goal.decreases-nested
decreases-nested l = 20 * l.levels

abbrev pub decreases-atom : goal.decreases-atom
decreases-atom l = 20 * l.levels

abbrev pub decreases-expression : goal.decreases-expression
decreases-expression l = 20 * l.levels + 1

abbrev pub decreases-negation : goal.decreases-negation
decreases-negation l = 20 * l.levels + 1

abbrev pub decreases-choice : goal.decreases-choice
decreases-choice l = 20 * l.levels + 1

abbrev pub decreases-binary : goal.decreases-binary
decreases-binary l = 20 * l.levels + 1

abbrev pub decreases-parenthesized : goal.decreases-parenthesized
decreases-parenthesized l = 20 * l.levels + 1

abbrev pub decreases-dereference : goal.decreases-dereference
decreases-dereference l = 20 * l.levels + 1

abbrev pub decreases-labelled : goal.decreases-labelled
decreases-labelled l = 20 * l.levels + 2

abbrev pub decreases-expression_list : goal.decreases-expression_list
decreases-expression_list l = 20 * l.levels + 2

abbrev pub decreases-continued : goal.decreases-continued
decreases-continued l = 20 * l.levels + 2

abbrev pub decreases-labelled_list : goal.decreases-labelled_list
decreases-labelled_list l = 20 * l.levels + 3

abbrev pub decreases-given_in_order : goal.decreases-given_in_order
decreases-given_in_order l = 20 * l.levels + 3

abbrev pub decreases-given_by_name : goal.decreases-given_by_name
decreases-given_by_name l = 20 * l.levels + 4

abbrev pub decreases-given : goal.decreases-given
decreases-given l = 20 * l.levels + 5

abbrev pub decreases-call_within : goal.decreases-call_within
decreases-call_within l = 20 * l.levels + 6

abbrev pub decreases-named : goal.decreases-named
decreases-named l = 20 * l.levels + 7

abbrev pub decreases-atom_within : goal.decreases-atom_within
decreases-atom_within l = 20 * l.levels + 8

abbrev pub decreases-operation : goal.decreases-operation
decreases-operation l = 20 * l.levels + 9

abbrev pub decreases-expression_within : goal.decreases-expression_within
decreases-expression_within l = 20 * l.levels + 10

abbrev pub invariant-expression_list-loop : goal.invariant-expression_list-loop
invariant-expression_list-loop l =
    with_front (map (expression parsed) l.exprs.items)
    (separated_at (what.Sign Comma) (expression_at usual l.levels) (length l.tokens - l.counter) l.rest)
    ≡ listed (expression_at usual l.levels) l.tokens

abbrev pub invariant-labelled_list-loop : goal.invariant-labelled_list-loop
invariant-labelled_list-loop l =
    with_front (map (argument parsed) l.arguments.items)
    (separated_at (what.Sign Comma) (labelled (expression_at usual l.levels) (atom_at usual l.levels))
    (length l.tokens - l.counter) l.rest)
    ≡ listed (labelled (expression_at usual l.levels) (atom_at usual l.levels)) l.tokens
