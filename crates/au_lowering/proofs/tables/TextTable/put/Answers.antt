use Rattle.std.proofs.Common.{[], ◌∷◌, ap, ◌∙◌, map}
use Rattle.std.specs.Str.{bytes_eq}
use Rattle.au_graphs.specs.Finding.{numbers}
use Rattle.au_graphs.specs.Reached.{adds}
use Rattle.au_lowering.proofs.TableLemmas.{put_key}
use Rattle.au_lowering.proofs.tables.TextTable.put.Goals as goal

pub returns : goal.returns
returns c =
    ap (map numbers) c.in_ok-insert.ensures.keys
    ∙ put_key c.in_ok-key.key c.self.inside.keys.keys c.args.text.now
    (c.in_ok-key.ensures.items ∙ c.as_bytes.ensures)
    ∙ ap (λ ks. adds bytes_eq ks (c.args.text.now ∷ [])) c.self.view_is
