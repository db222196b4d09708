-- Small bodies, and whether what is known of them clears x, whose type asks that it be consumed; all written
-- by hand.
use Rattle.std.specs.Prelude.{Bool, true, false, List, [], ◌∷◌}
use Rattle.au_syntax.specs.Examples.{here, spot, x}
use Rattle.au_syntax.specs.Expressions.{dereference}
use Rattle.au_syntax.specs.Statements.{conditional_else, while_loop, return_of, no_branches, branches}
use Rattle.au_syntax.specs.Plain.{PlainStatements}
use Rattle.au_lives.specs.Examples.{f_of, yes, does, block_of, three_ways, some_turns, lent_and_left}
use Rattle.au_lives.specs.Examples.{named_again}

-- if true then return f(x); else f(x); end if; return true;
abbrev pub early_return : PlainStatements
early_return =
    block_of
    (
    conditional_else here (branches yes (block_of (return_of here (f_of x) ∷ [])) no_branches)
    (block_of (does x ∷ []))
    ∷ return_of here yes
    ∷ []
    )

-- if true then return true; else f(x); end if; return true;
abbrev pub early_leave : PlainStatements
early_leave =
    block_of
    (
    conditional_else here (branches yes (block_of (return_of here yes ∷ [])) no_branches)
    (block_of (does x ∷ []))
    ∷ return_of here yes
    ∷ []
    )

-- while true do f(x); end while; return x;
abbrev pub consumed_in_turns : PlainStatements
consumed_in_turns = block_of (while_loop here yes (block_of (does x ∷ [])) ∷ return_of here x ∷ [])

-- f(x); f(!x); return true;
abbrev pub met_afterwards : PlainStatements
met_afterwards = block_of (does x ∷ does (dereference spot x) ∷ return_of here yes ∷ [])

abbrev pub judged : List (PlainStatements × Bool)
judged =
    (some_turns, true)
    ∷ (named_again, true)
    ∷ (early_return, true)
    ∷ (early_leave, false)
    ∷ (consumed_in_turns, false)
    ∷ (met_afterwards, false)
    ∷ (three_ways, false)
    ∷ (lent_and_left, false)
    ∷ []
