-- The recursion goes down by the height of expressions, and between functions of one expression by their ranks.
use Rattle.std.proofs.Common.{◌≡◌, ◌+◌, ◌*◌, length, map, max}
use Rattle.std.specs.VecDeque.{deque_len}
use Rattle.au_noting.specs.Said.{meanings}
use Rattle.au_noting.specs.Scopes.{scope_said}
use Rattle.au_noting_expressions.specs.Arguments.{each_operand, value_of, values}
use Rattle.au_noting_expressions.proofs.Heights.{height, highest}
use Rattle.au_noting_expressions.proofs.PassLemmas.{first_left, second_left}
use Rattle.au_noting_expressions.specs.Said.{half_said}
use Rattle.au_typing.specs.SearchCalls as search
use Rattle.au_noting_expressions.proofs.noting.+note.Given as goal

abbrev pub decreases-note : goal.decreases-note
decreases-note l = 16 * height l.e.now

abbrev pub decreases-note_boxed : goal.decreases-note_boxed
decreases-note_boxed l = 16 * height l.e.now + 1

abbrev pub decreases-note_test : goal.decreases-note_test
decreases-note_test l = 16 * height l.e.now + 2

abbrev pub decreases-paired : goal.decreases-paired
decreases-paired l = 16 * max (height l.first.now) (height l.second.now) + 2

abbrev pub decreases-note_binary : goal.decreases-note_binary
decreases-note_binary l = 16 * max (height l.first.now) (height l.second.now) + 3

abbrev pub decreases-note_choice : goal.decreases-note_choice
decreases-note_choice l = 16 * max (height l.test.now) (max (height l.first.now) (height l.second.now)) + 3

abbrev pub decreases-note_call : goal.decreases-note_call
decreases-note_call l = 16 * highest l.args.now.items + 8

abbrev pub decreases-note_named_call : goal.decreases-note_named_call
decreases-note_named_call l = 16 * highest (map value_of l.args.now.items) + 8

abbrev pub decreases-note_arguments : goal.decreases-note_arguments
decreases-note_arguments l = 16 * highest (values l.ops.now) + 7

abbrev pub decreases-note_operands : goal.decreases-note_operands
decreases-note_operands l = 16 * highest (values l.ops.now) + 6

abbrev pub decreases-first : goal.decreases-first
decreases-first l = 16 * highest (values l.ops.now) + 5

abbrev pub decreases-second : goal.decreases-second
decreases-second l = 16 * highest (values l.ops.now) + 5

abbrev pub decreases-first_step : goal.decreases-first_step
decreases-first_step l = 16 * height l.e.now + 4

abbrev pub decreases-second_step : goal.decreases-second_step
decreases-second_step l = 16 * height l.e.now + 4

abbrev pub decreases-taken : goal.decreases-taken
decreases-taken l = 16 * height l.e.now + 3

abbrev pub decreases-taken_bare : goal.decreases-taken_bare
decreases-taken_bare l = 16 * height l.e.now + 3

abbrev pub decreases-taken_fixed : goal.decreases-taken_fixed
decreases-taken_fixed l = 16 * height l.e.now + 2

-- what was found so far, before what is found from the next argument on, is what the pass gives
abbrev pub invariant-first-loop-index : goal.invariant-first-loop-index
invariant-first-loop-index l = record {
  count : deque_len l.halves ≡ l.index;
  rest : first_left (scope_said l.scope) (values l.ops) l.types l.halves.items l.index l.s
      ≡ search.first (each_operand (scope_said l.scope) (values l.ops)) (meanings l.types) l.fn.s;
}

abbrev pub invariant-second-loop-index : goal.invariant-second-loop-index
invariant-second-loop-index l = record {
  count : deque_len l.halves + l.index ≡ length l.types;
  rest : second_left (scope_said l.scope) (values l.ops) l.types l.made.items l.halves.items l.index l.s
      ≡ search.second (each_operand (scope_said l.scope) (values l.ops)) (map half_said l.fn.halves.items)
      (meanings l.types) l.fn.s;
}
