-- Which tokens have a tree, and which files are read.
use Rattle.std.specs.Prelude.{◌≡◌, ℕ, ◌+◌, List, [], ◌∷◌, IsTrue}
use Rattle.au_base.specs.declared.places.Pos.{Pos}
use Rattle.au_base.specs.declared.tokens.Token.{Token}
use Rattle.au_base.specs.Places.{place_after}
use Rattle.au_lexer.specs.Cut.{Cut}
use Rattle.au_lexer.specs.Passing.{IsWithinLimits}
use Rattle.au_syntax.specs.Forms.{formed_module}
use Rattle.au_syntax.specs.Plain.{PlainModule}
use Rattle.au_syntax.specs.Sizes.{fits}
use Rattle.au_syntax.specs.Words.{Spells}

-- The tokens are the words of a tree within the limits.
abbrev pub HasTree : List Token → Type 0
HasTree tokens = (m : PlainModule) × IsTrue (formed_module m) × Spells m tokens × IsTrue (fits m)

-- a file that was read: its tokens, the place of its end, and its tree
pub record ReadFile : Type 0 where
  pub tokens : List Token
  pub end : Pos
  pub tree : PlainModule

-- A file of these bytes was read so: it is cut into these tokens, which are the words of this tree, and no
-- limit is passed.
pub record IsRead (file : ℕ) (bytes : List ℕ) (one : ReadFile) : Type 0 where
  pub cut : Cut file bytes one.tokens
  pub within : IsWithinLimits one.tokens
  pub end : one.end ≡ place_after file bytes
  pub formed : IsTrue (formed_module one.tree)
  pub spelled : Spells one.tree one.tokens
  pub fits : IsTrue (fits one.tree)

-- Files in order, the first of this number, were read so.
abbrev pub AreRead : ℕ → List (List ℕ) → List ReadFile → Type 0
AreRead file [] [] = Unit {0}
AreRead file (bytes ∷ others) (one ∷ rest) = IsRead file bytes one × AreRead (file + 1) others rest
AreRead file bytes reads = ⊥
