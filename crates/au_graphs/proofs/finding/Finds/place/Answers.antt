use Rattle.std.proofs.Common.{◌∙◌}
use Rattle.std.specs.Str.{bytes_eq}
use Rattle.au_graphs.proofs.KeyLemmas.{place_among}
use Rattle.au_graphs.proofs.finding.Finds.place.Goals as goal

pub returns : goal.returns
returns g c = c.get_index_of.ensures.index ∙ place_among (bytes_eq c.args.key.now.items) c.args.self.now.keys.keys
