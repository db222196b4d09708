use Rattle.std.proofs.Common.{◌≡◌, drop}
use Rattle.au_syntax.specs.Views.{expression_all, argument_all}
use Rattle.au_syntax.specs.Plain.{plain_expressions, plain_arguments}
use Rattle.au_lives.specs.Mentions.{counts_in_all, counts_in_arguments}
use Rattle.au_lives.specs.Tallies.{tally_of, tally_and}
use Rattle.au_lives.proofs.counting.+counts.Given as goal

-- what is counted, with what is left, is all
abbrev pub invariant-counts_of_all-loop-one : goal.invariant-counts_of_all-loop-one
invariant-counts_of_all-loop-one g l =
    tally_and l.sum (tally_of
    (counts_in_all l.x l.free
    (plain_expressions g.P.Phase.name_bytes (expression_all g.P.Phase (drop l.one-index l.one-items)))))
    ≡ tally_of (counts_in_all l.x l.free
    (plain_expressions g.P.Phase.name_bytes (expression_all g.P.Phase l.one-items)))

abbrev pub invariant-counts_of_arguments-loop-one : goal.invariant-counts_of_arguments-loop-one
invariant-counts_of_arguments-loop-one g l =
    tally_and l.sum (tally_of
    (counts_in_arguments l.x l.free
    (plain_arguments g.P.Phase.name_bytes (argument_all g.P.Phase (drop l.one-index l.one-items)))))
    ≡ tally_of (counts_in_arguments l.x l.free
    (plain_arguments g.P.Phase.name_bytes (argument_all g.P.Phase l.one-items)))
