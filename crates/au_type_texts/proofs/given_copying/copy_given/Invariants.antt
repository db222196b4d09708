use Rattle.std.proofs.Common.{◌≡◌, take}
use Rattle.au_type_texts.specs.GivenViews.{given_said}
use Rattle.au_type_texts.proofs.given_copying.copy_given.Given as goal

-- what is copied so far
abbrev pub invariant-loop-one : goal.invariant-loop-one
invariant-loop-one l = given_said l.copies.items ≡ given_said (take l.one-index l.all)
