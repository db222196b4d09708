use Rattle.std.proofs.Common.{◌∷◌, ◌∙◌, ap}
use Rattle.austral_cases.specs.Patterns.{is_told}
use Rattle.austral_cases.proofs.PatternLemmas.{tells_itself}
use Rattle.austral_cases.proofs.comparing.place_behind.Goals as goal

pub returns-in-Some-strip_prefix : goal.returns-in-Some-strip_prefix
returns-in-Some-strip_prefix c = λ bytes.
    ap (λ inside. is_told inside c.args.pattern.now (c.args.byte ∷ bytes)) c.if-inside.false
    ∙ tells_itself c.args.pattern.now c.in-Some-strip_prefix.left.now bytes c.args.byte
    c.in_default.ensures.cases c.in-Some-strip_prefix.ensures.cases.0 c.in-Some-strip_prefix.ensures.cases.1
