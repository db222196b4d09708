-- Where names are brought from.
use Rattle.std.specs.Prelude.{List}
use Rattle.au_modules.specs.Programs.{ModuleParts}
use Rattle.au_modules.specs.Slots as slots
use Rattle.au_names.specs.declared.exports.Source.{Source}
use Rattle.au_names.specs.Exporting.{AreExports}

-- the modules of a source
abbrev pub modules_of : Source → List ModuleParts
modules_of source = slots.modules source.modules.now

-- What a source has beside its modules is what their interfaces offer.
abbrev pub IsMade : Source → Type 0
IsMade source = AreExports source.exports.now (modules_of source)
