use Rattle.std.proofs.Common.{◌≡◌, drop}
use Rattle.std.specs.Map.{lookup}
use Rattle.std.specs.Str.{bytes_eq}
use Rattle.au_type_texts.specs.GivenViews.{given_said}
use Rattle.au_type_texts.proofs.under.find.Given as goal

-- none so far has the name, so those that are left decide
abbrev pub invariant-loop-one : goal.invariant-loop-one
invariant-loop-one l =
    lookup (bytes_eq l.name) (given_said l.given)
    ≡ lookup (bytes_eq l.name) (given_said (drop l.one-index l.given))
