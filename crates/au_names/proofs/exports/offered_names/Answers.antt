use Rattle.std.proofs.Common.{◌∙◌}
use Rattle.au_names.proofs.ExportLemmas.{offered_is}
use Rattle.au_names.proofs.exports.offered_names.Goals as goal

pub returns : goal.returns
returns c = λ program m made here.
    c.in_space.ensures
    ∙ offered_is c.args.space c.args.exports.now.interfaces.items program c.args.place m
    c.index-names.result.now made.interfaces here c.index-names.ensures
