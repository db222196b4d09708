use Rattle.std.proofs.Common.{ap, ◌∙◌}
use Rattle.au_shipped.specs.Building.{place}
use Rattle.au_shipped.specs.BufferInterface.{buffers}
use Rattle.au_shipped.proofs.WholeTrees.{buffers_whole, says_written, written_formed, written_within, written_allowed}
use Rattle.au_shipped.proofs.files.buffer_file.Goals as goal

pub file_of-requires-clause-formed : goal.file_of-requires-clause-formed
file_of-requires-clause-formed c = written_formed c.in_ok-tree.tree (buffers (place 65534))
    (c.in_ok-tree.ensures ∙ ap buffers c.place.ensures) buffers_whole

pub file_of-requires-clause-within : goal.file_of-requires-clause-within
file_of-requires-clause-within c = written_within c.in_ok-tree.tree (buffers (place 65534))
    (c.in_ok-tree.ensures ∙ ap buffers c.place.ensures) buffers_whole

pub file_of-requires-clause-allowed : goal.file_of-requires-clause-allowed
file_of-requires-clause-allowed c = written_allowed c.in_ok-tree.tree (buffers (place 65534))
    (c.in_ok-tree.ensures ∙ ap buffers c.place.ensures) buffers_whole

pub returns : goal.returns
returns c =
    c.file_of.ensures
    ∙ (λ i. (
      65534,
      says_written c.in_ok-tree.tree (buffers (place 65534))
          (c.in_ok-tree.ensures ∙ ap buffers c.place.ensures) buffers_whole i,
    ))
