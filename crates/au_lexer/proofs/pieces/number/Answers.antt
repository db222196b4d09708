-- All bytes of a number are digits, and so many fit.
use Rattle.std.proofs.Common.{◌≡◌, ◌≤◌, true, take, ◌∙◌, sym, subst, arith, length-take-le}
use Rattle.std.specs.List.{list_all}
use Rattle.std.proofs.lemmas.List.Sums.{prefix_len-le-length}
use Rattle.au_base.specs.declared.limits.LimitKind.TheVariants.{LiteralDigits}
use Rattle.au_lexer.specs.Bytes.{is_digit}
use Rattle.au_lexer.proofs.RunLemmas.{prefix_all}
use Rattle.au_lexer.proofs.NumberLemmas.{value_fits}
use Rattle.au_lexer.proofs.PassingLemmas.{not_passed}
use Rattle.au_lexer.proofs.pieces.number.Goals as goal

pub number_value-value-requires-clause-digits : goal.number_value-value-requires-clause-digits
number_value-value-requires-clause-digits c =
    subst (λ n. list_all is_digit (take n c.args.bytes.now) ≡ true) (sym c.number_size-size.ensures)
    (prefix_all is_digit c.args.bytes.now)

pub number_value-value-requires-clause-fits : goal.number_value-value-requires-clause-fits
number_value-value-requires-clause-fits c =
    let bytes = c.args.bytes.now in
    let size = c.number_size-size.result in
    let few : size ≤ 38 = not_passed LiteralDigits 38 size (sym c.passed.ensures ∙ c.in_default.is) in
    value_fits (take size bytes)
    (subst (λ n. list_all is_digit (take n bytes) ≡ true) (sym c.number_size-size.ensures) (prefix_all is_digit bytes))
    (omega (
      arith,
      length-take-le size bytes
          (omega (arith, c.number_size-size.ensures, prefix_len-le-length is_digit bytes)),
    ))
