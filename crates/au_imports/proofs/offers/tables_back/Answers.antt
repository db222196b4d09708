use Rattle.std.proofs.Common.{map}
use Rattle.au_syntax.specs.contracts.parsed.ParsedPhase.TheImpl.{ghosts as parsed}
use Rattle.au_syntax.specs.Plain.{plain_declaration}
use Rattle.au_syntax.specs.Views.{declaration}
use Rattle.au_imports.proofs.OfferLemmas.{tables_are}
use Rattle.au_imports.proofs.offers.tables_back.Goals as goal

pub returns : goal.returns
returns c =
    let ds = map (plain_declaration parsed.name_bytes)
    (map (declaration parsed) c.args.declarations.now.items) in
    tables_are (record {
      values = c.in_ok-values.values;
      callables = c.in_ok-callables.callables;
      types = c.in_ok-types.types;
    }) ds c.in_ok-values.ensures c.in_ok-callables.ensures
    c.in_ok-types.ensures
