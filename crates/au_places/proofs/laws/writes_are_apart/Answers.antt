use Rattle.au_places.proofs.MemoryLemmas.{write_apart, write_stands}
use Rattle.au_places.proofs.laws.writes_are_apart.Goals as goal

pub returns : goal.returns
returns g c = record {
  stand = λ m to old new there. write_stands m to old new there;
  apart = λ m to other new h k. write_apart m to other new h k;
}
