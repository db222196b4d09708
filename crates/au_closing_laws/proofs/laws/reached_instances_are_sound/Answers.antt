use Rattle.au_closing_laws.proofs.SoundLemmas.{call_somewhere, reached_sound}
use Rattle.au_closing_laws.proofs.laws.reached_instances_are_sound.Goals as goal

pub returns-clause-calls : goal.returns-clause-calls
returns-clause-calls c = call_somewhere

pub returns-clause-reached : goal.returns-clause-reached
returns-clause-reached c = reached_sound
