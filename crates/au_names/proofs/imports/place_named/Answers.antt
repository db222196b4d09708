use Rattle.std.proofs.Common.{ap, sym, ◌∙◌, drop}
use Rattle.au_modules.proofs.PartLemmas.{name_joined}
use Rattle.au_types.specs.Tables.{find}
use Rattle.au_names.proofs.imports.place_named.Goals as goal

pub returns : goal.returns
returns c =
    c.copied.ensures
    ∙ c.get.ensures
    ∙ ap (λ n. find n c.args.exports.now.places) (c.past_first.ensures
    ∙ ap (drop 1) (c.as_bytes.ensures ∙ c.in_ok-text.ensures.text)
    ∙ sym (name_joined c.args.names.now.items))
