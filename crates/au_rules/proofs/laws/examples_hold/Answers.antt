use Rattle.std.proofs.Common.{refl}
use Rattle.au_rules.specs.Doubles.{doubles_behind, first_again, is_open}
use Rattle.au_rules.specs.Marks.{arm_marks, block_marks, branch_marks, statement_marks}
use Rattle.au_rules.proofs.laws.examples_hold.Goals as goal

pub returns-clause-top : goal.returns-clause-top
unfolding doubles_behind first_again is_open statement_marks block_marks branch_marks arm_marks
returns-clause-top c = (
  refl,
  (
    refl,
    (
      refl,
      (
        refl,
        (refl, (refl, (refl, (refl, (refl, (refl, (refl, tt))))))),
      ),
    ),
  ),
)

pub returns-clause-blocks : goal.returns-clause-blocks
unfolding doubles_behind first_again is_open statement_marks block_marks branch_marks arm_marks
returns-clause-blocks c = (
  refl,
  (refl, (refl, (refl, (refl, (refl, (refl, (refl, (refl, (refl, tt))))))))),
)
