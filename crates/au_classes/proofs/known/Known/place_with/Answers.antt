use Rattle.std.proofs.Common.{ap, sym}
use Rattle.std.specs.Option.{option_map}
use Rattle.au_classes.specs.Faults.{place_of}
use Rattle.au_classes.proofs.KnownLemmas.{none_like}
use Rattle.au_classes.proofs.known.Known.place_with.Goals as goal

pub returns-in-None : goal.returns-in-None
returns-in-None c =
    sym (ap (option_map place_of) (none_like c.args.class c.args.constructor c.args.self.now.places.items
    c.args.self.now.rows c.args.self.now.many (sym c.in-None.ensures)))
