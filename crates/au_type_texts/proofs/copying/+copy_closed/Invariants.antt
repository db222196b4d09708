use Rattle.std.proofs.Common.{◌≡◌, take}
use Rattle.au_type_texts.specs.Views.{closed_meanings}
use Rattle.au_type_texts.proofs.copying.+copy_closed.Given as goal

-- the closed types copied so far
abbrev pub invariant-copy_all-loop-one : goal.invariant-copy_all-loop-one
invariant-copy_all-loop-one l = closed_meanings l.copies.items ≡ closed_meanings (take l.one-index l.one-items)
