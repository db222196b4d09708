-- How a file is cut into tokens.
use Rattle.std.specs.Prelude.{◌≡◌, ◌≢◌, ℕ, ◌≤◌, nat_eq, IsTrue, List, [], ◌∷◌, ◌++◌, length, drop, Option}
use Rattle.std.specs.Prelude.{Some, None}
use Rattle.std.specs.List.{starts_with, flat_map}
use Rattle.au_base.specs.declared.limits.Limit.{Limit}
use Rattle.au_base.specs.declared.places.Pos.{Pos}
use Rattle.au_base.specs.declared.tokens.Token.{Token}
use Rattle.au_base.specs.declared.tokens.What.{What}
use Rattle.au_base.specs.declared.tokens.What.TheVariants.{Word, Sign, Name, Number, Text}
use Rattle.au_base.specs.Places.{place_after}
use Rattle.au_lexer.specs.Passing.{limit_passed, count_among, are_within, IsWithinLimits}
use Rattle.au_lexer.specs.Pieces.{Piece, blank, comment, docstring, number, token, three_quotes, spelling}
use Rattle.au_lexer.specs.Pieces.{IsPiece, what_of}

-- The piece is a text.
abbrev pub IsText : Piece → Type 0
IsText (blank byte) = ⊥
IsText (comment bytes) = ⊥
IsText (docstring inside) = ⊥
IsText (number digits) = ⊥
IsText (token (Word keyword)) = ⊥
IsText (token (Sign sign)) = ⊥
IsText (token (Name name)) = ⊥
IsText (token (Number value digits)) = ⊥
IsText (token (Text text)) = Unit {0}

-- A piece can stand at the front of the bytes: they begin with its spelling, and three quotes begin
-- no text.
pub record Begins (piece : Piece) (bytes : List ℕ) : Type 0 where
  pub known : IsPiece piece
  pub front : (rest : List ℕ) × (bytes ≡ spelling piece ++ rest)
  pub no_docstring : IsTrue (starts_with nat_eq bytes three_quotes) → IsText piece → ⊥

-- It is the longest piece that can stand there.
pub record Stands (piece : Piece) (bytes : List ℕ) : Type 0 where
  pub begins : Begins piece bytes
  pub longest : (other : Piece) → Begins other bytes → length (spelling other) ≤ length (spelling piece)

-- The pieces stand one behind another at the front of the bytes, and leave the rest.
abbrev pub CutsFront : List Piece → List ℕ → List ℕ → Type 0
CutsFront [] bytes rest = bytes ≡ rest
CutsFront (piece ∷ pieces) bytes rest =
    Stands piece bytes × CutsFront pieces (drop (length (spelling piece)) bytes) rest

-- a token at a place, if there is one
abbrev pub token_at : Pos → Option What → List Token
token_at at None = []
token_at at (Some what) = record { what = what; at = at } ∷ []

-- the tokens among the pieces, each with the place of its first byte, behind the bytes `front`
abbrev pub tokens_among : ℕ → List ℕ → List Piece → List Token
tokens_among file front [] = []
tokens_among file front (piece ∷ pieces) =
    token_at (place_after file front) (what_of piece) ++ tokens_among file (front ++ spelling piece) pieces

-- The bytes of a file are cut into these tokens: pieces stand one behind another from the first byte
-- to the last, and the tokens are those among them.
abbrev pub Cut : ℕ → List ℕ → List Token → Type 0
Cut file bytes tokens =
    (pieces : List Piece) × CutsFront pieces bytes [] × (tokens ≡ tokens_among file [] pieces)

-- The front of a file is cut, no token there passes a limit, and the rest begins at a place.
pub record StopsAt (file : ℕ) (bytes rest : List ℕ) (at : Pos) : Type 0 where
  pub pieces : List Piece
  pub cuts : CutsFront pieces bytes rest
  pub within : IsTrue (are_within 0 pieces)
  pub place : at ≡ place_after file (flat_map spelling pieces)

-- The place is that of the first byte that begins no piece.
abbrev pub IsStray : ℕ → List ℕ → Pos → Type 0
IsStray file bytes at =
    (rest : List ℕ) × StopsAt file bytes rest at × (rest ≢ []) × ((piece : Piece) → Begins piece rest → ⊥)

-- The first token of the file that passes a limit passes this one.
pub record PassesLimit (file : ℕ) (bytes : List ℕ) (limit : Limit) : Type 0 where
  pub rest : List ℕ
  pub at : Pos
  pub stops : StopsAt file bytes rest at
  pub found : Piece
  pub stands : Stands found rest
  pub what : What
  pub meant : what_of found ≡ Some what
  pub passes : limit_passed (count_among stops.pieces) what ≡ Some limit

-- What a file comes to: its tokens, the place of a byte that begins no piece, or a limit that is
-- passed.
pub data Lexed : Type 0 where
  tokens : List Token → Lexed
  stray : Pos → Lexed
  passes : Limit → Lexed

-- The bytes of a file come to this outcome.
abbrev pub Lexes : ℕ → List ℕ → Lexed → Type 0
Lexes file bytes (tokens list) = Cut file bytes list × IsWithinLimits list
Lexes file bytes (stray at) = IsStray file bytes at
Lexes file bytes (passes limit) = PassesLimit file bytes limit
