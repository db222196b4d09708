use Rattle.au_events.proofs.BirthLemmas.{lives_ended, lives_pushed, once_at_most}
use Rattle.au_events.proofs.laws.lives_go_on.Goals as goal

pub returns : goal.returns
returns g c = record {
  on = λ events event all fits. lives_pushed events event all fits;
  ended = λ events all even. lives_ended events all even;
  once = λ events all. once_at_most events all;
}
