use Rattle.au_closing.specs.Telling.{instance_one}
use Rattle.au_closing.proofs.walk_laws.instance_keys_tell.Goals as goal

pub returns : goal.returns
returns c a b is = instance_one a b is
