use Rattle.std.proofs.Common.{take}
use Rattle.au_classes.specs.Indices.{FindsFirst}
use Rattle.au_classes.specs.Views.{called_by, headers_of}
use Rattle.au_classes.proofs.methods.signatures_by_name.Given as goal

-- the table finds the first of the methods that are visited
abbrev pub invariant-loop-index : goal.invariant-loop-index
invariant-loop-index l = FindsFirst called_by (headers_of (take l.index l.one-items)) l.table
