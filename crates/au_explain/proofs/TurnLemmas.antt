-- One turn of the walk over the statements of a block.
use Rattle.std.proofs.Common.{◌≡◌, ℕ, ◌+◌, ◌<◌, List, ◌++◌, append_assoc, length, drop, get_or, ap, sym, ◌∙◌}
use Rattle.au_base.proofs.ListLemmas.{next_item}
use Rattle.au_typing.specs.InScope.{after}
use Rattle.au_explain.specs.declared.lists.VariableLives.{VariableLives}
use Rattle.au_explain.specs.Said.{statement_said, statements_said}
use Rattle.au_explain.specs.Variables.{listed_after, listed_in, listed_inside}
use Rattle.au_explain.proofs.PutLemmas as puts
use Rattle.au_noting_programs.proofs.Depths.{ParsedStmt}
use Rattle.au_typing.specs.Scopes.{Scope}

-- a statement is behind, and what it declares is in scope
pub block_turn : (xs : List ParsedStmt) (i : ℕ) (x : ParsedStmt) → x ≡ get_or xs i x → i < length xs →
    (rest : List ParsedStmt) (here within next : Scope) (made one two whole : List VariableLives) →
    rest ≡ drop (i + 1) xs → within ≡ here →
    made ++ listed_in (statements_said (drop i xs)) here ≡ whole →
    one ≡ made ++ listed_inside (statement_said x) here →
    two ≡ one ++ listed_after (statement_said x) (statements_said rest) (after (statement_said x) within) →
    next ≡ after (statement_said x) within →
    two ++ listed_in (statements_said (drop (i + 1) xs)) next ≡ whole
block_turn xs i x is lt rest here within next made one two whole left same before first second is_next =
    let s = statement_said x in
    let more = drop (i + 1) xs in
    let behind = after s here in
    let two_is : two ≡ one ++ listed_after s (statements_said more) behind =
    second
    ∙ ap (λ (r : List ParsedStmt). one ++ listed_after s (statements_said r) (after s within)) left
    ∙ ap (λ (sc : Scope). one ++ listed_after s (statements_said more) (after s sc)) same in
    let both : two ≡ made ++ (listed_inside s here ++ listed_after s (statements_said more) behind) =
    puts.both_put made (listed_inside s here) (listed_after s (statements_said more) behind) one two first two_is in
    ap (λ (sc : Scope). two ++ listed_in (statements_said more) sc) (is_next ∙ ap (λ (sc : Scope). after s sc) same)
    ∙ ap (λ (l : List VariableLives). l ++ listed_in (statements_said more) behind) both
    ∙ append_assoc made (listed_inside s here ++ listed_after s (statements_said more) behind)
    (listed_in (statements_said more) behind)
    ∙ ap (λ (l : List VariableLives). made ++ l)
    (sym (ap (λ (zs : List ParsedStmt). listed_in (statements_said zs) here) (next_item xs i x is lt)))
    ∙ before
