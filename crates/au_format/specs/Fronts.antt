-- What pieces of a file are to its layout, and how this shows in the bytes.
use Rattle.std.specs.Prelude.{ℕ, ◌+◌, nat_eq, if◌then◌else◌, List, drop, length, slice_index, Option, Some}
use Rattle.std.specs.Prelude.{None}
use Rattle.std.specs.List.{starts_with}
use Rattle.au_lexer.specs.Bytes.{is_space}
use Rattle.au_lexer.specs.Pieces.{Piece, blank, comment, docstring, number, token, spelling, three_quotes}
use Rattle.au_lexer.specs.Reading.{is_comment, comment_size, docstring_size}
use Rattle.au_format.specs.declared.fronts.Front.{Front}
use Rattle.au_format.specs.declared.fronts.Front.TheVariants as front

-- what a piece is to the layout
abbrev pub front_of : Piece → Front
front_of (blank byte) = front.Blank
front_of (comment bytes) = front.Comment (length (spelling (comment bytes)))
front_of (docstring inside) = front.Docstring (length (spelling (docstring inside)))
front_of (number digits) = front.Token
front_of (token what) = front.Token

-- a docstring through the next three quotes behind its first
abbrev pub docstring_front : Option ℕ → Front
docstring_front None = front.Token
docstring_front (Some size) = front.Docstring (size + 3)

-- what bytes begin with
abbrev pub front_at : List ℕ → Front
front_at bytes =
    if is_space (slice_index bytes 0) then front.Blank
    else (if is_comment bytes then front.Comment (comment_size bytes)
    else (if starts_with nat_eq bytes three_quotes then docstring_front (docstring_size (drop 3 bytes))
    else front.Token))
