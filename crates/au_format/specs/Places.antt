-- How far a file is laid out.
use Rattle.std.specs.Prelude.{◌≡◌, ℕ, ◌+◌, ◌≤◌, List, [], ◌∷◌, ◌++◌, length, map, take, drop, Option, Some}
use Rattle.std.specs.Prelude.{None}
use Rattle.au_base.specs.declared.tokens.Token.{Token as TokenOf}
use Rattle.au_base.specs.declared.tokens.What.{What}
use Rattle.au_lexer.specs.Cut.{CutsFront}
use Rattle.au_lexer.specs.Pieces.{Piece, what_of}
use Rattle.au_format.specs.declared.kinds.Kind.{Kind}
use Rattle.au_format.specs.declared.places.Place.{Place}
use Rattle.au_format.specs.declared.standings.Previous.{Previous}
use Rattle.au_format.specs.declared.standings.Previous.TheVariants.{Nothing, Token}
use Rattle.au_format.specs.Gaps.{token_gap}
use Rattle.au_format.specs.Kinds.{kind_of, first_kind, spelled_size}
use Rattle.au_format.specs.Standings.{standing, step}
use Rattle.au_format.specs.Layout.{laid_out, layout_text, next_kind, ended_lines}

-- the beginning of a file
abbrev pub start : Place
start = record { done = 0; tokens = 0; standing = standing [] None; last = Nothing; lines = 0 }

-- the place behind a blank byte
abbrev pub behind_blank : Place → ℕ → Place
behind_blank p byte = record {
  done = p.done + 1;
  tokens = p.tokens;
  standing = p.standing;
  last = p.last;
  lines = p.lines + ended_lines byte;
}

-- the place behind a remark of so many bytes
abbrev pub behind_remark : Place → Previous → ℕ → Place
behind_remark p remark size =
    record { done = p.done + size; tokens = p.tokens; standing = p.standing; last = remark; lines = 0 }

-- the place behind a token of so many bytes, before the next one
abbrev pub behind_token : Place → Kind → Option Kind → ℕ → Place
behind_token p kind next size = record {
  done = p.done + size;
  tokens = p.tokens + 1;
  standing = step p.standing kind next;
  last = Token;
  lines = 0;
}

-- a token, or nothing
abbrev pub whats_of : Option What → List What
whats_of None = []
whats_of (Some what) = what ∷ []

-- the tokens among pieces, without their places
abbrev pub whats_among : List Piece → List What
whats_among [] = []
whats_among (piece ∷ pieces) = whats_of (what_of piece) ++ whats_among pieces

-- what tokens are, without their places
abbrev pub whats : List TokenOf → List What
whats tokens = map (λ (token : TokenOf). token.what) tokens

-- A file is laid out up to a place: the text and the layout of what is left are the layout of the file.
pub record HasLaid (bytes : List ℕ) (tokens : List TokenOf) (text : List ℕ) (place : Place) : Type 0 where
  pub within : place.done ≤ length bytes
  pub pieces : List Piece
  pub cuts : CutsFront pieces bytes []
  pub rest : List Piece
  pub left : CutsFront rest (drop place.done bytes) []
  pub counted : place.tokens ≤ length tokens
  pub spelled : whats (drop place.tokens tokens) ≡ whats_among rest
  pub before : List Kind
  pub known : place.standing ≡ standing before (next_kind rest)
  pub few : length before ≤ place.done
  pub few_lines : place.lines ≤ place.done
  pub laid : text ++ laid_out before place.last place.lines rest ≡ layout_text pieces

-- how many bytes the first of tokens is spelled with
abbrev pub first_size : List TokenOf → ℕ
first_size [] = 0
first_size (token ∷ tokens) = spelled_size token.what

-- The first of tokens, which the bytes begin with, is added behind a place, with what stands before it.
abbrev pub AddsToken : List ℕ → List ℕ → Place → Place → List ℕ → List TokenOf → Type 0
AddsToken old new place after rest [] = ⊥
AddsToken old new place after rest (token ∷ tokens) =
    (new ≡ old ++ (token_gap place.standing place.last place.lines (kind_of token.what) (first_kind tokens)
    ++ take (spelled_size token.what) rest))
    × (after ≡ behind_token place (kind_of token.what) (first_kind tokens) (spelled_size token.what))
