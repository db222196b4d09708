-- What layout sees of the tokens of a file: the kind of each.
use Rattle.std.specs.Prelude.{ℕ, ◌+◌, List, [], ◌∷◌, ◌++◌, length, Option, Some, None}
use Rattle.std.specs.List.{flat_map}
use Rattle.au_base.specs.declared.tokens.Token.{Token}
use Rattle.au_base.specs.declared.tokens.What.{What}
use Rattle.au_base.specs.declared.tokens.What.TheVariants.{Word, Sign, Name, Number, Text}
use Rattle.au_base.specs.Tokens.{keyword_spelling, sign_spelling}
use Rattle.au_lexer.specs.Pieces.{Piece, byte_spelling, what_of}
use Rattle.au_format.specs.declared.kinds.Kind.{Kind}
use Rattle.au_format.specs.declared.kinds.Kind.TheVariants as kind

-- the kind of a token
abbrev pub kind_of : What → Kind
kind_of (Word keyword) = kind.Word keyword
kind_of (Sign sign) = kind.Sign sign
kind_of (Name name) = kind.Name
kind_of (Number value digits) = kind.Number
kind_of (Text text) = kind.Text

-- the first of some kinds, if there is one
abbrev pub nearest : List Kind → Option Kind
nearest [] = None
nearest (kind ∷ kinds) = Some kind

-- the kind of the first of some tokens, if there is one
abbrev pub first_kind : List Token → Option Kind
first_kind [] = None
first_kind (token ∷ tokens) = Some (kind_of token.what)

-- the kind of a token, or nothing
abbrev pub kinds_of : Option What → List Kind
kinds_of None = []
kinds_of (Some what) = kind_of what ∷ []

-- the kinds of the tokens among pieces, in order
abbrev pub kinds_among : List Piece → List Kind
kinds_among [] = []
kinds_among (piece ∷ pieces) = kinds_of (what_of piece) ++ kinds_among pieces

-- how many bytes a token is spelled with
abbrev pub spelled_size : What → ℕ
spelled_size (Word keyword) = length (keyword_spelling keyword)
spelled_size (Sign sign) = length (sign_spelling sign)
spelled_size (Name name) = length name
spelled_size (Number value digits) = digits
spelled_size (Text text) = length (flat_map byte_spelling text) + 2
