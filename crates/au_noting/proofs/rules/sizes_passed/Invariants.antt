use Rattle.std.proofs.Common.{◌≡◌, drop}
use Rattle.au_type_texts.specs.Sizes.{nodes_limit}
use Rattle.au_typing.specs.Limits.{first_limit}
use Rattle.au_noting.specs.Said.{meanings}
use Rattle.au_noting.proofs.rules.sizes_passed.Given as goal

-- no type so far is too large, so those that are left decide
abbrev pub invariant-loop-one : goal.invariant-loop-one
invariant-loop-one l = first_limit nodes_limit (meanings l.types) ≡ first_limit nodes_limit
    (meanings (drop l.one-index l.types))
