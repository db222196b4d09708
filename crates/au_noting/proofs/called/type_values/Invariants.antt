use Rattle.std.proofs.Common.{◌≡◌, ◌++◌, drop}
use Rattle.au_typing.specs.Calls.{type_values}
use Rattle.au_noting.specs.Said.{meanings}
use Rattle.au_noting.proofs.called.type_values.Given as goal

-- the types of the type parameters so far, before those of the others
abbrev pub invariant-loop-index : goal.invariant-loop-index
invariant-loop-index l = meanings l.types.items ++ type_values l.s (drop l.index l.params) ≡ type_values l.s l.params
