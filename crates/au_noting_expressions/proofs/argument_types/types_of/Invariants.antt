use Rattle.std.proofs.Common.{◌≡◌, ◌++◌, drop, map}
use Rattle.au_noting.specs.Said.{all_typed, meanings}
use Rattle.au_noting_expressions.proofs.argument_types.types_of.Given as goal

-- the types of the parameters so far, before those of the others
abbrev pub invariant-loop-one : goal.invariant-loop-one
invariant-loop-one l =
    meanings l.types.items ++ map (λ one. one.of) (all_typed (drop l.one-index l.params))
    ≡ map (λ one. one.of) (all_typed l.params)
