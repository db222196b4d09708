use Rattle.std.proofs.Common.{◌≡◌, take}
use Rattle.au_types.specs.declared.types.DeclAt.{DeclAt}
use Rattle.au_formed.specs.Graphs.{declarer, index_at}
use Rattle.au_caps_types.proofs.declarers.first_declarers.Given as goal

-- each type has the first that declares it of those that are visited
abbrev pub invariant-loop-index : goal.invariant-loop-index
invariant-loop-index l = (a : DeclAt) → index_at l.table a ≡ declarer (take l.index l.one-items) a
