-- The text that is too long.
use Rattle.std.proofs.Common.{◌∙◌, sym, false}
use Rattle.au_lexer.specs.Reading.{text_at}
use Rattle.au_lexer.proofs.PassingLemmas.{text_passes}
use Rattle.au_lexer.proofs.pieces.quoted.Goals as goal

pub returns-in-Some-passed : goal.returns-in-Some-passed
returns-in-Some-passed c =
    text_passes (text_at false c.args.inside.now) c.in-Some.meant c.in-Some.field-0-1 c.in-Some-passed.limit
    (sym c.text_sizes.ensures ∙ c.in-Some.is) (sym c.passed.ensures ∙ c.in-Some-passed.is)
