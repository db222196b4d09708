use Rattle.std.proofs.Common.{◌≡◌, take}
use Rattle.au_syntax.specs.Views.{written_all}
use Rattle.au_sights.proofs.texts.+copy_text.Given as goal

-- the types copied so far
abbrev pub invariant-copy_texts-loop-one : goal.invariant-copy_texts-loop-one
invariant-copy_texts-loop-one l = written_all l.copies.items ≡ written_all (take l.one-index l.one-items)
