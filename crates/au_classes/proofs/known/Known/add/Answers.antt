use Rattle.au_types.specs.Views.{meaning}
use Rattle.au_instances.specs.Constructors.{constructor_of}
use Rattle.au_classes.proofs.KnownLemmas.{none_with}
use Rattle.au_classes.proofs.known.Known.add.Goals as goal

pub add-requires-clause-apart : goal.add-requires-clause-apart
add-requires-clause-apart c =
    none_with c.args.row.class (constructor_of (meaning c.args.row.head)) c.args.self.now.places.items
    c.args.self.now.rows c.args.self.now.many c.requires.apart
