use Rattle.au_syntax.specs.contracts.parsed.ParsedPhase.TheImpl.{ghosts as parsed}
use Rattle.au_syntax.specs.Plain.{plain_declaration}
use Rattle.au_syntax.specs.Views.{declaration}
use Rattle.au_promises.proofs.DefinitionLemmas.{seen_got}
use Rattle.au_classes.proofs.instance_texts.declaration_at.Goals as goal

pub returns : goal.returns
returns c =
    seen_got (plain_declaration parsed.name_bytes) (declaration parsed) c.args.decls.now c.args.index
    c.get.result c.get.ensures.lookup.0 c.get.ensures.lookup.1
