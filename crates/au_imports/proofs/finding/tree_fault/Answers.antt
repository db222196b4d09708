use Rattle.au_syntax.specs.contracts.parsed.ParsedPhase.TheImpl.{ghosts as parsed}
use Rattle.au_syntax.specs.Files.{says}
use Rattle.au_imports.proofs.NamingLemmas.{modules_named}
use Rattle.au_imports.proofs.finding.tree_fault.Goals as goal

pub imports_fault-requires-clause-named : goal.imports_fault-requires-clause-named
imports_fault-requires-clause-named c = modules_named (says parsed c.args.tree.now)
    c.requires.formed c.requires.sized
