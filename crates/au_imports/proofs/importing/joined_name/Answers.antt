use Rattle.std.proofs.Common.{◌≡◌, length, map, ap, ◌∙◌, subst, arith}
use Rattle.std.specs.Prelude.{IfOk}
use Rattle.au_syntax.specs.contracts.parsed.ParsedPhase.TheImpl.{ghosts as parsed}
use Rattle.au_syntax.specs.Plain.{plain_name}
use Rattle.au_syntax.specs.Views.{placed}
use Rattle.au_modules.proofs.PartLemmas.{bytes_joined}
use Rattle.au_imports.proofs.NamingLemmas.{within_limit}
use Rattle.au_imports.proofs.importing.joined_name.Goals as goal

pub copy_of-requires-clause-most : goal.copy_of-requires-clause-most
copy_of-requires-clause-most c =
    let same = ap length (bytes_joined c.as_bytes.result.now c.args.names.now.items
    (c.as_bytes.ensures ∙ c.in_ok-text.ensures.text)) in
    let most = within_limit (map (plain_name parsed.name_bytes) (map (placed parsed) c.args.names.now.items))
    c.requires in
    omega (arith, same, most)

pub returns : goal.returns
returns c =
    subst (λ z. IfOk c.copy_of.result (λ name. name ≡ z))
    (bytes_joined c.as_bytes.result.now c.args.names.now.items (c.as_bytes.ensures
    ∙ c.in_ok-text.ensures.text)) c.copy_of.ensures
