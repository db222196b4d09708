use Rattle.std.proofs.Common.{ap, ◌∙◌, length, arith}
use Rattle.au_syntax.specs.contracts.parsed.ParsedPhase.TheImpl.{ghosts as parsed}
use Rattle.au_syntax.specs.Files.{says}
use Rattle.au_modules.proofs.PartLemmas as lemmas
use Rattle.au_modules.proofs.parts.given_by.Goals as goal

pub copy_of-requires-clause-most : goal.copy_of-requires-clause-most
copy_of-requires-clause-most c =
    let same = ap length (lemmas.bytes_joined c.as_bytes.result.now c.tree-tree.result.now.name.items
    (c.as_bytes.ensures ∙ c.in_ok-text.ensures.text)) in
    let most = lemmas.name_fits (says parsed c.tree-tree.result.now) c.tree-tree.ensures.within in
    omega (arith, same, most)

pub returns : goal.returns
returns c =
    lemmas.given_is c.in_ok-name.name c.tree-tree.result.now c.args.file.now c.tree-tree.ensures.same
    (c.in_ok-name.ensures ∙ lemmas.bytes_joined c.as_bytes.result.now c.tree-tree.result.now.name.items
    (c.as_bytes.ensures ∙ c.in_ok-text.ensures.text))
