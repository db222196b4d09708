-- What was gone through is cut into the tokens so far.
use Rattle.std.proofs.Common.{◌-◌, length}
use Rattle.au_lexer.proofs.CutLemmas.{HasCut}
use Rattle.au_lexer.proofs.lexing.cut_all.Given as goal

abbrev pub invariant-loop-done : goal.invariant-loop-done
invariant-loop-done l = HasCut l.file l.bytes l.done l.at l.tokens.items

abbrev pub decreases-loop-done : goal.decreases-loop-done
decreases-loop-done l = length l.bytes - l.done
