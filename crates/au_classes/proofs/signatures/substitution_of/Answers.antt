use Rattle.std.proofs.Common.{ap, ◌∙◌}
use Rattle.au_types.specs.Types.{of_type}
use Rattle.au_types.specs.Views.{argument, meaning}
use Rattle.au_types.specs.declared.types.Arg.{Of}
use Rattle.au_types.proofs.TypeLemmas.{type_argument_means}
use Rattle.au_classes.proofs.PuttingLemmas.{put_alone}
use Rattle.au_classes.proofs.signatures.substitution_of.Goals as goal

pub returns : goal.returns
returns c =
    put_alone c.put.new.self c.new-s.result c.in_ok-name.name c.args.class.now.parameter.now.name.name
    (argument (Of c.in_ok-head.head)) (meaning c.args.head.now)
    c.in_ok-put.ensures.ok c.new-s.ensures c.in_ok-name.ensures
    (type_argument_means c.in_ok-head.head ∙ ap of_type c.in_ok-head.ensures)
