-- How many nodes a type has, as far as tokens go.
use Rattle.std.specs.Prelude.{◌≡◌, ℕ, List, [], ◌∷◌, ◌++◌}
use Rattle.au_base.specs.declared.tokens.Token.{Token}
use Rattle.au_syntax.specs.Types.{WrittenType}
use Rattle.au_syntax.specs.Words.{AreWords, type_words}
use Rattle.au_read_expressions.specs.TypeReading.{nodes_in}

-- with some behind, these tokens are the words of a type
pub record BeginsType (tokens : List Token) : Type 0 where
  pub tree : WrittenType
  pub rest : List Token
  pub words : AreWords (type_words tree) (tokens ++ rest)

-- The nodes of the longest front of these tokens that begins a type: a name, `&` and `&!` each stand for one.
pub record NodesOf (tokens : List Token) (count : ℕ) : Type 0 where
  pub front : List Token
  pub back : List Token
  pub same : tokens ≡ front ++ back
  pub begins : BeginsType front
  pub longest : (next : Token) (others : List Token) → back ≡ next ∷ others
      → BeginsType (front ++ next ∷ []) → ⊥
  pub nodes : count ≡ nodes_in front
