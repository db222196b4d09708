use Rattle.au_memory.proofs.PointLemmas.{point_stands}
use Rattle.au_memory.proofs.laws.points_stand.Goals as goal

pub returns : goal.returns
returns c = λ types s m steps one two stands h. point_stands types s m steps one two stands h
