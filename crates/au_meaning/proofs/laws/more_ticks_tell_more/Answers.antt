use Rattle.au_meaning.proofs.MeaningGrowth.{more_tells, endings_stay}
use Rattle.au_meaning.proofs.laws.more_ticks_tell_more.Goals as goal

pub returns : goal.returns
returns g c = record {
  more = λ functions entry input ticks more. more_tells functions entry input ticks more;
  stays = λ functions entry input ticks more done. endings_stay functions entry input ticks more done;
}
