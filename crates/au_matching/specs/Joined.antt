-- What two universes of arguments come to.
use Rattle.au_matching.specs.declared.universes.TypeUniverse.{TypeUniverse}
use Rattle.au_matching.specs.declared.universes.TypeUniverse.TheVariants.{Free, Linear, AnyUniverse}

-- Linear if one of them is Linear, Free if both are Free, and otherwise `Type`
abbrev pub joined : TypeUniverse → TypeUniverse → TypeUniverse
joined Free other = other
joined Linear other = Linear
joined AnyUniverse Linear = Linear
joined AnyUniverse other = AnyUniverse
