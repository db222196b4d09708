use Rattle.au_modules.specs.Slots as slots
use Rattle.au_noting_programs.proofs.SightLemmas.{sight_is}
use Rattle.au_noting_programs.proofs.sights.sight.Goals as goal

pub returns : goal.returns
returns c =
    sight_is (slots.modules c.args.program.now) c.args.place c.args.part c.names.result.now.values
    c.names.result.now.callables c.names.result.now.types c.args.instances.now
    c.requires.place c.names.ensures.values c.names.ensures.callables c.names.ensures.types c.requires.instances
