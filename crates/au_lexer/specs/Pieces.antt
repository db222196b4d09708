-- The pieces of a file, and how each is spelled.
use Rattle.std.specs.Prelude.{◌≢◌, ℕ, pos, Bool, false, not, IsTrue, IsFalse, nat_eq, ◌==◌, ◌||◌, List, []}
use Rattle.std.specs.Prelude.{◌∷◌, ◌++◌, length, Option, Some, None, if◌then◌else◌, codes}
use Rattle.std.specs.List.{flat_map, list_all, starts_with}
use Rattle.std.specs.Str.Parse.{digits_value}
use Rattle.au_base.specs.declared.tokens.Keyword.{Keyword}
use Rattle.au_base.specs.declared.tokens.What.{What}
use Rattle.au_base.specs.declared.tokens.What.TheVariants.{Word, Sign, Name, Number, Text}
use Rattle.au_base.specs.Places.{is_newline}
use Rattle.au_base.specs.Tokens.{keyword_spelling, sign_spelling}
use Rattle.au_lexer.specs.Bytes.{is_space, is_digit, is_letter, is_name_byte, is_text_byte}

-- A piece of a file: one blank byte, a comment by its bytes behind `--`, a docstring by its bytes
-- between three quotes and three quotes, a number by its digits, or another token.
pub data Piece : Type 0 where
  blank : ℕ → Piece
  comment : List ℕ → Piece
  docstring : List ℕ → Piece
  number : List ℕ → Piece
  token : What → Piece

-- three quotes, which begin a docstring and never a text
abbrev pub three_quotes : List ℕ
three_quotes = 34 ∷ 34 ∷ 34 ∷ []

-- whether three quotes begin somewhere in the bytes
abbrev pub has_three_quotes : List ℕ → Bool
has_three_quotes [] = false
has_three_quotes (byte ∷ bytes) = starts_with nat_eq (byte ∷ bytes) three_quotes || has_three_quotes bytes

-- a byte as it is written in a text: an escape, or the byte itself
abbrev pub byte_spelling : ℕ → List ℕ
byte_spelling byte =
    if byte == 10 then codes "\\n"
    else (if byte == 13 then codes "\\r"
    else (if byte == 9 then codes "\\t"
    else (if byte == 34 then codes "\\\""
    else (if byte == 92 then codes "\\\\"
    else byte ∷ []))))

-- what a token is spelled as that is no number
abbrev pub token_spelling : What → List ℕ
token_spelling (Word keyword) = keyword_spelling keyword
token_spelling (Sign sign) = sign_spelling sign
token_spelling (Name name) = name
token_spelling (Number value digits) = []
token_spelling (Text text) = 34 ∷ flat_map byte_spelling text ++ 34 ∷ []

-- what a piece is spelled as
abbrev pub spelling : Piece → List ℕ
spelling (blank byte) = byte ∷ []
spelling (comment bytes) = 45 ∷ 45 ∷ bytes
spelling (docstring inside) = three_quotes ++ inside ++ three_quotes
spelling (number digits) = digits
spelling (token what) = token_spelling what

-- a letter, and then letters, digits and `_`
abbrev pub IsWord : List ℕ → Type 0
IsWord [] = ⊥
IsWord (first ∷ rest) = IsTrue (is_letter first) × IsTrue (list_all is_name_byte rest)

-- one digit or more, and nothing else
abbrev pub IsNumber : List ℕ → Type 0
IsNumber digits = (digits ≢ []) × IsTrue (list_all is_digit digits)

-- the tokens that there are beside numbers: a name is a word and no keyword
abbrev pub IsToken : What → Type 0
IsToken (Word keyword) = Unit {0}
IsToken (Sign sign) = Unit {0}
IsToken (Name name) = IsWord name × ((keyword : Keyword) → keyword_spelling keyword ≢ name)
IsToken (Number value digits) = ⊥
IsToken (Text text) = IsTrue (list_all is_text_byte text)

-- the pieces that there are: a comment ends before its line does, and a docstring with the next
-- three quotes
abbrev pub IsPiece : Piece → Type 0
IsPiece (blank byte) = IsTrue (is_space byte)
IsPiece (comment bytes) = IsTrue (list_all (λ byte. not (is_newline byte)) bytes)
IsPiece (docstring inside) = IsFalse (has_three_quotes (inside ++ 34 ∷ 34 ∷ []))
IsPiece (number digits) = IsNumber digits
IsPiece (token what) = IsToken what

-- the number that digits write, and how many they are, leading zeros among them
abbrev pub number_of : List ℕ → What
number_of digits = Number (pos (digits_value 10 digits)) (length digits)

-- the token that a piece is, if it is one
abbrev pub what_of : Piece → Option What
what_of (blank byte) = None
what_of (comment bytes) = None
what_of (docstring inside) = None
what_of (number digits) = Some (number_of digits)
what_of (token what) = Some what
