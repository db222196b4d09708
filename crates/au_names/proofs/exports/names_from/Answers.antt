use Rattle.au_syntax.specs.contracts.parsed.ParsedPhase.TheImpl.{ghosts as parsed}
use Rattle.au_syntax.specs.Files.{says}
use Rattle.au_names.proofs.ExportLemmas.{tables_are}
use Rattle.au_names.proofs.exports.names_from.Goals as goal

pub returns : goal.returns
returns c =
    tables_are c.in_ok-names.names c.args.first (says parsed c.args.tree.now).declarations
    c.in_ok-names.ensures.values c.in_ok-names.ensures.callables c.in_ok-names.ensures.types
