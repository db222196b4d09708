-- The value so far is no larger than the number, which fits.
use Rattle.std.proofs.Common.{arith}
use Rattle.std.specs.Str.Parse.{digits_value}
use Rattle.au_lexer.proofs.NumberLemmas.{one_more}
use Rattle.au_words.proofs.counts.number.Goals as goal

pub overflow_mul-value : goal.overflow_mul-value
overflow_mul-value c =
    let digits = c.args.digits.now in
    let more = one_more c.loop-digit.value c.loop-digit.digit-index (digits_value 10 digits) digits
    c.requires.digits c.loop-digit-test.true c.loop-digit.invariant in
    omega (arith, more.0, c.requires.fits)

pub overflow_add-value : goal.overflow_add-value
overflow_add-value c =
    let digits = c.args.digits.now in
    let more = one_more c.loop-digit.value c.loop-digit.digit-index (digits_value 10 digits) digits
    c.requires.digits c.loop-digit-test.true c.loop-digit.invariant in
    omega (arith, more.0, c.requires.fits)
