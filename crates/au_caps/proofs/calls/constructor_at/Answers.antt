use Rattle.std.proofs.Common.{ap, ◌∙◌}
use Rattle.std.specs.Option.{option_and_then}
use Rattle.au_instances.specs.Constructors.{constructor_of}
use Rattle.au_caps.proofs.calls.constructor_at.Goals as goal

pub returns-in-None : goal.returns-in-None
returns-in-None c = ap (option_and_then constructor_of) c.in-None.ensures

pub returns-in-Some : goal.returns-in-Some
returns-in-Some c = c.constructor_of.ensures ∙ ap (option_and_then constructor_of) c.in-Some.ensures
