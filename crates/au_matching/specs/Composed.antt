-- One substitution in the place of two.
use Rattle.std.specs.Prelude.{[], ◌∷◌}
use Rattle.au_matching.specs.Bindings.{Bindings, with_pair}
use Rattle.au_matching.specs.Substituted.{argument_substituted}

-- what the first list gives, with the second one put into it, and besides what the second one gives
abbrev pub composed : Bindings → Bindings → Bindings
composed [] second = second
composed (p ∷ first) second = with_pair p.0 (argument_substituted second p.1) (composed first second)
