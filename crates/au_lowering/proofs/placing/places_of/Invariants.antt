use Rattle.std.proofs.Common.{nat_eq}
use Rattle.indexmap.specs.IndexMap.{get}
use Rattle.au_lowering.specs.Placed.{ArePlaced}
use Rattle.au_lowering.specs.Views.{rows_held}
use Rattle.au_lowering.proofs.placing.places_of.Given as goal

-- the rows so far have their places
abbrev pub invariant-loop-place : goal.invariant-loop-place
invariant-loop-place l = ArePlaced (rows_held l.one-items) (get nat_eq l.places) l.place
