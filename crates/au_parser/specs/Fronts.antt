-- Which tokens begin the words of a file, and the place at which tokens stop doing so.
use Rattle.std.specs.Prelude.{◌≤◌, ◌<◌, ◌+◌, ℕ, IsTrue, List, ◌++◌, length, take}
use Rattle.au_base.specs.declared.tokens.Token.{Token}
use Rattle.au_syntax.specs.Forms.{formed_module}
use Rattle.au_syntax.specs.Plain.{PlainModule}
use Rattle.au_syntax.specs.Words.{Spells}

-- these tokens are the words of a file, however large
pub record IsFile (tokens : List Token) : Type 0 where
  pub tree : PlainModule
  pub formed : IsTrue (formed_module tree)
  pub spelled : Spells tree tokens

-- they begin some file: with some tokens behind, they are its words
pub record BeginsFile (tokens : List Token) : Type 0 where
  pub rest : List Token
  pub file : IsFile (tokens ++ rest)

-- The place of a fault, by the words of the grammar: the tokens before it begin some file, and those
-- through it begin none; and where no token is left, they are no file yet.
pub record IsFaultPlace (tokens : List Token) (place : ℕ) : Type 0 where
  pub within : place ≤ length tokens
  pub before : BeginsFile (take place tokens)
  pub through : place < length tokens → BeginsFile (take (place + 1) tokens) → ⊥
  pub short : IsFile tokens → ⊥
