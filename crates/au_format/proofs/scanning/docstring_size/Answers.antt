-- Three quotes begin no earlier.
use Rattle.std.proofs.Common.{◌≡◌, false, nat_eq, drop, ◌∙◌, sym, ap}
use Rattle.std.specs.List.{starts_with}
use Rattle.std.proofs.lemmas.List.{take_rest}
use Rattle.au_lexer.specs.Pieces.{three_quotes}
use Rattle.au_lexer.proofs.DocstringLemmas.{one_further}
use Rattle.au_format.proofs.scanning.docstring_size.Goals as goal

pub loop-index-preserved : goal.loop-index-preserved
loop-index-preserved c =
    let inside = c.args.inside.now in
    let index = c.loop-index.index in
    let none : starts_with nat_eq (drop index inside) three_quotes ≡ false =
    ap (λ r. starts_with nat_eq r three_quotes) (sym (take_rest inside index))
    ∙ sym c.starts_with.ensures.value ∙ c.if-starts_with.false in
    one_further inside index c.loop-index-test.true none c.loop-index.invariant
