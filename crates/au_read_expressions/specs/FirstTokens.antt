-- What the first tokens of an argument tell.
use Rattle.std.specs.Prelude.{Bool, true, false, not, Option, Some}
use Rattle.au_base.specs.declared.tokens.Sign.TheVariants.{FatArrow}
use Rattle.au_base.specs.declared.tokens.What.{What}
use Rattle.au_base.specs.declared.tokens.What.TheVariants.{Sign, Name}
use Rattle.au_read_expressions.specs.ExpressionReading.{goes_on}

-- whether an argument is given by the name of its parameter, by the first two tokens
abbrev pub is_label : Option What → Option What → Bool
is_label (Some (Name bytes)) (Some (Sign FatArrow)) = true
is_label first second = false

-- whether an argument begins with a name behind which no expression goes on
abbrev pub is_cut_short : Option What → Option What → Bool
is_cut_short (Some (Name bytes)) second = not (goes_on second)
is_cut_short first second = false
