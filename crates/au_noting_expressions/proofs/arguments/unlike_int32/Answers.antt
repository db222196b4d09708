use Rattle.std.proofs.Common.{subst}
use Rattle.au_types.proofs.TypeLemmas.{integer_means}
use Rattle.au_base.specs.declared.kinds.IntKind.TheVariants.{Int32}
use Rattle.au_matching.specs.Substituted.{substituted}
use Rattle.au_noting.specs.Giving.{Tells}
use Rattle.au_types.specs.Views.{meaning}
use Rattle.au_typing.specs.Faults.{different}
use Rattle.au_noting_expressions.proofs.arguments.unlike_int32.Goals as goal

pub returns : goal.returns
returns c =
    subst (λ t. Tells (different (substituted c.args.s.now (meaning c.args.param.now)) t) c.unlike.result)
    (integer_means Int32) c.unlike.ensures
