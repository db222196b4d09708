-- No byte so far is a colon.
use Rattle.std.proofs.Common.{◌≡◌, ◌+◌, drop}
use Rattle.std.specs.List.{prefix_len}
use Rattle.au_words.specs.Jobs.{is_other}
use Rattle.au_words.proofs.names.home_size.Given as goal

abbrev pub invariant-loop-index : goal.invariant-loop-index
invariant-loop-index l =
    l.index + prefix_len (is_other 58) (drop l.index l.bytes) ≡ prefix_len (is_other 58) l.bytes
