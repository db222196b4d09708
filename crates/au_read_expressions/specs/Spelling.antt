-- Which tokens words are spelled by, with others behind them.
use Rattle.std.specs.Prelude.{◌≡◌, List, [], ◌∷◌, map}
use Rattle.au_base.specs.declared.tokens.Token.{Token}
use Rattle.au_base.specs.declared.tokens.What.{What}
use Rattle.au_syntax.specs.Words.{Words, IsWord}

-- The tokens begin with these words, and the rest follows.
abbrev pub Begins : Words → List Token → List Token → Type 0
Begins [] tokens rest = tokens ≡ rest
Begins (printed ∷ words) [] rest = ⊥
Begins (printed ∷ words) (token ∷ tokens) rest = IsWord printed token × Begins words tokens rest

-- words that have no place in a tree
abbrev pub fixed : List What → Words
fixed whats = map (λ (what : What). record { what = what; places = [] }) whats
