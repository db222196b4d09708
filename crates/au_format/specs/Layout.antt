-- The layout of a file.
use Rattle.std.specs.Prelude.{◌≡◌, ℕ, ◌+◌, Bool, ◌&&◌, ◌||◌, ◌==◌, if◌then◌else◌, List, [], ◌∷◌, ◌++◌, length}
use Rattle.std.specs.Prelude.{Option, Some}
use Rattle.au_base.specs.Places.{is_newline}
use Rattle.au_lexer.specs.Cut.{CutsFront}
use Rattle.au_lexer.specs.Pieces.{Piece, blank, comment, docstring, number, token, spelling}
use Rattle.au_format.specs.declared.kinds.Kind.{Kind}
use Rattle.au_format.specs.declared.kinds.Kind.TheVariants as kind
use Rattle.au_format.specs.declared.standings.Previous.{Previous}
use Rattle.au_format.specs.declared.standings.Previous.TheVariants.{Nothing, Token, Docstring, Comment}
use Rattle.au_format.specs.Kinds.{kind_of, nearest, kinds_among}
use Rattle.au_format.specs.Standings.{standing}
use Rattle.au_format.specs.Gaps.{token_gap, remark_gap}

-- a blank that a comment doesn't end with: space, tab or carriage return
abbrev pub is_trailing : ℕ → Bool
is_trailing byte = byte == 32 || byte == 9 || byte == 13

-- one byte more before bytes without their trailing blanks
abbrev pub trimmed_before : ℕ → List ℕ → List ℕ
trimmed_before byte rest = if is_trailing byte && length rest == 0 then [] else byte ∷ rest

-- bytes without their trailing blanks
abbrev pub trimmed : List ℕ → List ℕ
trimmed [] = []
trimmed (byte ∷ bytes) = trimmed_before byte (trimmed bytes)

-- how many lines a blank ends
abbrev pub ended_lines : ℕ → ℕ
ended_lines byte = if is_newline byte then 1 else 0

-- the kind of the next token among pieces, if there is one
abbrev pub next_kind : List Piece → Option Kind
next_kind pieces = nearest (kinds_among pieces)

-- how a laid out file ends: with the end of a line, if it has a piece that is no blank
abbrev pub file_end : Previous → List ℕ
file_end Nothing = []
file_end Token = 10 ∷ []
file_end Docstring = 10 ∷ []
file_end Comment = 10 ∷ []

-- The layout of pieces, behind the tokens `before`, the nearest first, behind what stands before the
-- pieces, and behind so many ends of lines since: each token and each remark as it is spelled, a comment
-- without its trailing blanks, with what stands before it.
abbrev pub laid_out : List Kind → Previous → ℕ → List Piece → List ℕ
laid_out before last lines [] = file_end last
laid_out before last lines (blank byte ∷ rest) = laid_out before last (lines + ended_lines byte) rest
laid_out before last lines (comment bytes ∷ rest) =
    remark_gap (standing before (next_kind rest)) last lines
    ++ (spelling (comment (trimmed bytes)) ++ laid_out before Comment 0 rest)
laid_out before last lines (docstring inside ∷ rest) =
    remark_gap (standing before (next_kind rest)) last lines
    ++ (spelling (docstring inside) ++ laid_out before Docstring 0 rest)
laid_out before last lines (number digits ∷ rest) =
    token_gap (standing before (Some kind.Number)) last lines kind.Number (next_kind rest)
    ++ (digits ++ laid_out (kind.Number ∷ before) Token 0 rest)
laid_out before last lines (token what ∷ rest) =
    token_gap (standing before (Some (kind_of what))) last lines (kind_of what) (next_kind rest)
    ++ (spelling (token what) ++ laid_out (kind_of what ∷ before) Token 0 rest)

-- the layout of the pieces of a file
abbrev pub layout_text : List Piece → List ℕ
layout_text pieces = laid_out [] Nothing 0 pieces

-- The layout of a file is this text.
abbrev pub IsLayout : List ℕ → List ℕ → Type 0
IsLayout bytes text = (pieces : List Piece) × CutsFront pieces bytes [] × (text ≡ layout_text pieces)
