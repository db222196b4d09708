use Rattle.std.proofs.Common.{[], ◌∷◌, ap, ◌∙◌, map}
use Rattle.std.specs.Str.{bytes_eq}
use Rattle.au_type_texts.specs.Keys.{key_of}
use Rattle.au_type_texts.specs.Views.{closed_meaning}
use Rattle.au_graphs.specs.Finding.{numbers}
use Rattle.au_graphs.specs.Reached.{adds}
use Rattle.au_lowering.proofs.TableLemmas.{put_key}
use Rattle.au_lowering.proofs.tables.TypeTable.put.Goals as goal

pub returns : goal.returns
returns c =
    ap (map numbers) c.in_ok-insert.ensures.keys
    ∙ put_key c.in_ok-key.key c.self.inside.keys.keys
    (key_of (closed_meaning c.args.of.now)) c.in_ok-key.ensures
    ∙ ap (λ ks. adds bytes_eq ks (key_of (closed_meaning c.args.of.now) ∷ [])) c.self.view_is
