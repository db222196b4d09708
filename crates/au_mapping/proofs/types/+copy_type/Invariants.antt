use Rattle.std.proofs.Common.{◌≡◌, take}
use Rattle.au_syntax.specs.Views.{written_all}
use Rattle.au_mapping.proofs.types.+copy_type.Given as goal

-- the types copied so far
abbrev pub invariant-copy_types-loop-one : goal.invariant-copy_types-loop-one
invariant-copy_types-loop-one l = written_all l.copies.items ≡ written_all (take l.one-index l.one-items)
