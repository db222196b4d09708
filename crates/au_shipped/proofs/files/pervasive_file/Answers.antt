use Rattle.std.proofs.Common.{ap, ◌∙◌}
use Rattle.au_shipped.specs.Building.{place}
use Rattle.au_shipped.specs.PervasiveInterface.{pervasive}
use Rattle.au_shipped.proofs.WholeTrees.{pervasive_whole, says_written, written_formed, written_within, written_allowed}
use Rattle.au_shipped.proofs.files.pervasive_file.Goals as goal

pub file_of-requires-clause-formed : goal.file_of-requires-clause-formed
file_of-requires-clause-formed c = written_formed c.in_ok-tree.tree (pervasive (place 65532))
    (c.in_ok-tree.ensures ∙ ap pervasive c.place.ensures) pervasive_whole

pub file_of-requires-clause-within : goal.file_of-requires-clause-within
file_of-requires-clause-within c = written_within c.in_ok-tree.tree (pervasive (place 65532))
    (c.in_ok-tree.ensures ∙ ap pervasive c.place.ensures) pervasive_whole

pub file_of-requires-clause-allowed : goal.file_of-requires-clause-allowed
file_of-requires-clause-allowed c = written_allowed c.in_ok-tree.tree (pervasive (place 65532))
    (c.in_ok-tree.ensures ∙ ap pervasive c.place.ensures) pervasive_whole

pub returns : goal.returns
returns c =
    c.file_of.ensures
    ∙ (λ i. (
      65532,
      says_written c.in_ok-tree.tree (pervasive (place 65532))
          (c.in_ok-tree.ensures ∙ ap pervasive c.place.ensures) pervasive_whole i,
    ))
