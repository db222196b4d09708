-- What the code's values say.
use Rattle.std.specs.Prelude.{◌<◌, List, Contains, length, map}
use Rattle.std.specs.Option.{option_map}
use Rattle.au_sights.specs.contracts.noted.NotedPhase.TheImpl.{ghosts as noted}
use Rattle.au_syntax.specs.Views.{block, constrained, header, placed, written}
use Rattle.au_modules.specs.Programs.{ModuleParts}
use Rattle.au_caps_lists.specs.declared.bodies.Body as code_body
use Rattle.au_caps_lists.specs.declared.bodies.Home as code_home
use Rattle.au_caps_lists.specs.declared.mentions.Mention as found
use Rattle.au_caps_lists.specs.declared.mentions.Mention.TheVariants as mention
use Rattle.au_caps_lists.specs.Bodies.{Bodied, Home}
use Rattle.au_caps_lists.specs.Mentions.{Mention, declared, generic}

-- what stands in a type, and in several
abbrev pub mention_said : found.Mention → Mention
mention_said (mention.Declared at) = declared at
mention_said (mention.Parameter name) = generic name.now

abbrev pub mentions_said : List found.Mention → List Mention
mentions_said all = map mention_said all

-- the instance that a method is of
abbrev pub home_said : code_home.Home → Home
home_said home = record { class = (placed noted home.class.now).name; of = written home.of.now }

-- a function or method with its body, and several
abbrev pub body_said : code_body.Body → Bodied
body_said one = record {
  place = one.place;
  home = option_map home_said one.home;
  generics = map (constrained noted) one.generics.now.items;
  header = header noted one.signature.now;
  block = block noted one.block.now;
}

abbrev pub bodies_said : List code_body.Body → List Bodied
bodies_said all = map body_said all

-- each of these bodies stands in a module that is there
abbrev pub AreWithin : List ModuleParts → List Bodied → Type 0
AreWithin program bodies = (b : Bodied) → Contains bodies b → b.place < length program
