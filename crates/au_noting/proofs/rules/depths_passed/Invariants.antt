use Rattle.std.proofs.Common.{◌≡◌, drop}
use Rattle.au_type_texts.specs.Sizes.{depth_limit}
use Rattle.au_typing.specs.Limits.{first_limit}
use Rattle.au_noting.specs.Said.{meanings}
use Rattle.au_noting.proofs.rules.depths_passed.Given as goal

-- no type so far is too deep, so those that are left decide
abbrev pub invariant-loop-one : goal.invariant-loop-one
invariant-loop-one l = first_limit depth_limit (meanings l.types) ≡ first_limit depth_limit
    (meanings (drop l.one-index l.types))
