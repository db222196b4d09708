use Rattle.std.proofs.Common.{[]}
use Rattle.au_types.specs.Senses.{sense_of}
use Rattle.au_caps_lists.proofs.scopes.scope_of.Goals as goal

pub returns : goal.returns
returns c =
    λ i name. sense_of [] c.args.params.now (c.types_at.ensures i) (c.heads_ref.ensures i) name
