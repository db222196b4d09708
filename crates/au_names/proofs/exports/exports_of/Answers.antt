use Rattle.au_modules.specs.Slots as slots
use Rattle.au_names.proofs.ExportLemmas.{places_are}
use Rattle.au_names.proofs.exports.exports_of.Goals as goal

pub returns-in-Ok : goal.returns-in-Ok
returns-in-Ok c = record {
  places = places_are (slots.modules c.args.modules.now) c.in_ok-places.places c.in_ok-places.ensures;
  interfaces = c.in-Ok.ensures;
}
