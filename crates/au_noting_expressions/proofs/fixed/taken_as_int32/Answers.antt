use Rattle.std.proofs.Common.{subst}
use Rattle.au_types.proofs.TypeLemmas.{integer_means}
use Rattle.au_base.specs.declared.kinds.IntKind.TheVariants.{Int32}
use Rattle.au_matching.specs.Matched.{matched}
use Rattle.au_matching.specs.Substituted.{substituted}
use Rattle.au_noting.specs.Giving.{Gives}
use Rattle.au_types.specs.Views.{meaning}
use Rattle.au_typing.specs.Faults.{different, known_or}
use Rattle.au_noting_expressions.proofs.fixed.taken_as_int32.Goals as goal

pub returns : goal.returns
returns c =
    subst
    (λ t. Gives (λ r. r) c.taken_as.result
    (known_or (different (substituted c.args.s.now (meaning c.args.param.now)) t)
    (matched (meaning c.args.param.now) t c.args.s.now)))
    (integer_means Int32) c.taken_as.ensures
