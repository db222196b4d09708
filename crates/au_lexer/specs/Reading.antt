-- What the reading functions of the lexer give, as functions of the bytes.
use Rattle.std.specs.Prelude.{◌≡◌, ℕ, ◌+◌, Bool, true, false, not, IsTrue, nat_eq, nat_lt, ◌==◌, List, []}
use Rattle.std.specs.Prelude.{◌∷◌, length, take, drop, Option, Some, None, Result, Ok, Err, if◌then◌else◌}
use Rattle.std.specs.Prelude.{slice_index}
use Rattle.std.specs.List.{prefix_len, starts_with}
use Rattle.std.specs.Option.{option_map}
use Rattle.std.specs.Str.{bytes_eq}
use Rattle.au_base.specs.declared.limits.Limit.{Limit}
use Rattle.au_base.specs.declared.tokens.Keyword.{Keyword}
use Rattle.au_base.specs.declared.tokens.Sign.{Sign as SignOf}
use Rattle.au_base.specs.declared.tokens.What.{What}
use Rattle.au_base.specs.declared.tokens.What.TheVariants.{Word, Sign, Name, Text}
use Rattle.au_base.specs.Places.{is_newline}
use Rattle.au_base.specs.Tokens.{keywords, signs, keyword_spelling, sign_spelling}
use Rattle.au_lexer.specs.Bytes.{is_space, is_letter, is_digit, is_name_byte}
use Rattle.au_lexer.specs.Cut.{Stands, Begins}
use Rattle.au_lexer.specs.Passing.{limit_passed, is_within}
use Rattle.au_lexer.specs.Pieces.{Piece, three_quotes, spelling, number_of, what_of}
use Rattle.au_lexer.specs.declared.pieces.Found.{Found}
use Rattle.au_lexer.specs.declared.pieces.Stop.{Stop}
use Rattle.au_lexer.specs.declared.pieces.Stop.TheVariants.{Stray, Passes, Memory}

-- What stands at the front of bytes: a piece of so many bytes, with its token if it is one, or nothing.
pub data Front : Type 0 where
  piece : ℕ → Option What → Front
  stray : Front

-- the first keyword in a table that is spelled as a word is
abbrev pub first_spelled : List Keyword → List ℕ → Option Keyword
first_spelled [] word = None
first_spelled (keyword ∷ table) word =
    if bytes_eq (keyword_spelling keyword) word then Some keyword else first_spelled table word

-- the first sign in a table that bytes begin with
abbrev pub first_begun : List SignOf → List ℕ → Option SignOf
first_begun [] bytes = None
first_begun (sign ∷ table) bytes =
    if starts_with nat_eq bytes (sign_spelling sign) then Some sign else first_begun table bytes

-- the keyword that a word is
unfoldable pub keyword_of : List ℕ → Option Keyword
keyword_of word = first_spelled keywords word

-- the sign that bytes begin with, the longest one
unfoldable pub sign_of : List ℕ → Option SignOf
sign_of bytes = first_begun signs bytes

-- the byte that an escape means, by the byte behind its `\`
abbrev pub escaped : ℕ → Option ℕ
escaped byte =
    if byte == 110 then Some 10
    else (if byte == 114 then Some 13
    else (if byte == 116 then Some 9
    else (if byte == 34 then Some 34
    else (if byte == 92 then Some 92
    else None))))

-- a text read so far, and one byte more before it
abbrev pub with_byte : ℕ → Option (List ℕ × ℕ) → Option (List ℕ × ℕ)
with_byte byte read = option_map (λ text. (byte ∷ text.0, text.1 + 1)) read

-- a text read so far, and the byte that an escape before it means, if it means one
abbrev pub with_escape : Option ℕ → Option (List ℕ × ℕ) → Option (List ℕ × ℕ)
with_escape None read = None
with_escape (Some byte) read = with_byte byte read

-- what a text means, and how many bytes it takes through its last quote; behind a `\` or not
abbrev pub text_at : Bool → List ℕ → Option (List ℕ × ℕ)
text_at escape [] = None
text_at true (byte ∷ bytes) = with_escape (escaped byte) (text_at false bytes)
text_at false (byte ∷ bytes) =
    if byte == 34 then Some ([], 1)
    else (if byte == 92 then option_map (λ text. (text.0, text.1 + 1)) (text_at true bytes)
    else (if nat_lt byte 32 then None
    else with_byte byte (text_at false bytes)))

-- how many bytes a text means, and how many bytes it takes through its last quote
abbrev pub text_sizes : Option (List ℕ × ℕ) → Option (ℕ × ℕ)
text_sizes read = option_map (λ text. (length text.0, text.1)) read

-- how many bytes stand before the next three quotes, with these
abbrev pub docstring_size : List ℕ → Option ℕ
docstring_size [] = None
docstring_size (byte ∷ bytes) =
    if starts_with nat_eq (byte ∷ bytes) three_quotes then Some 3
    else option_map (λ size. size + 1) (docstring_size bytes)

-- a token of so many bytes at the front
abbrev pub token_front : ℕ → What → Front
token_front size what = piece size (Some what)

-- the front of bytes that begin with a quote, by the text that was read behind it
abbrev pub text_front : Option (List ℕ × ℕ) → Front
text_front None = stray
text_front (Some text) = token_front (text.1 + 1) (Text text.0)

-- the front of bytes that begin with three quotes, by the bytes through the next three
abbrev pub docstring_front : Option ℕ → Front
docstring_front None = stray
docstring_front (Some size) = piece (size + 3) None

-- the front of bytes that begin with a number
abbrev pub number_front : List ℕ → Front
number_front digits = token_front (length digits) (number_of digits)

-- the digits that bytes begin with
abbrev pub digits_at : List ℕ → List ℕ
digits_at bytes = take (prefix_len is_digit bytes) bytes

-- the token that a word is, by the keyword that it is or is not
abbrev pub word_what : List ℕ → Option Keyword → What
word_what word None = Name word
word_what word (Some keyword) = Word keyword

-- the front of bytes that begin with a word
abbrev pub word_front : List ℕ → Front
word_front word = token_front (length word) (word_what word (keyword_of word))

-- the word that bytes begin with
abbrev pub word_at : List ℕ → List ℕ
word_at bytes = take (prefix_len is_name_byte bytes) bytes

-- the front of bytes that begin with a sign or with none
abbrev pub sign_front : Option SignOf → Front
sign_front None = stray
sign_front (Some sign) = token_front (length (sign_spelling sign)) (Sign sign)

-- whether bytes begin with `--`
abbrev pub is_comment : List ℕ → Bool
is_comment bytes = starts_with nat_eq bytes (45 ∷ 45 ∷ [])

-- how many bytes stand before the first newline
abbrev pub comment_size : List ℕ → ℕ
comment_size bytes = prefix_len (λ byte. not (is_newline byte)) bytes

-- what stands at the front of bytes that begin with a byte
abbrev pub front_from : ℕ → List ℕ → Front
front_from first bytes =
    if is_space first then piece 1 None
    else (if is_letter first then word_front (word_at bytes)
    else (if is_digit first then number_front (digits_at bytes)
    else (if starts_with nat_eq bytes three_quotes then docstring_front (docstring_size (drop 3 bytes))
    else (if first == 34 then text_front (text_at false (drop 1 bytes))
    else (if is_comment bytes then piece (comment_size bytes) None
    else sign_front (sign_of bytes))))))

-- what stands at the front of bytes
unfoldable pub front : List ℕ → Front
front bytes = front_from (slice_index bytes 0) bytes

-- What a reading function answers behind so many tokens is what stands at the front, unless a token
-- there passes a limit or memory runs out.
abbrev pub Reads : ℕ → Result Found Stop → Front → Type 0
Reads before (Ok found) read = (read ≡ piece found.size found.what) × IsTrue (is_within before found.what)
Reads before (Err Stray) read = read ≡ stray
Reads before (Err (Passes limit)) read =
    (size : ℕ) × (what : What) × (read ≡ token_front size what) × (limit_passed before what ≡ Some limit)
Reads before (Err Memory) read = Unit {0}

-- The longest piece at the front of the bytes has this size and this token.
pub record IsLongest (bytes : List ℕ) (size : ℕ) (what : Option What) : Type 0 where
  pub found : Piece
  pub stands : Stands found bytes
  pub sized : length (spelling found) ≡ size
  pub meant : what_of found ≡ what

-- Behind so many tokens, a token at the front of the bytes passes a limit.
pub record BeginsPassing (before : ℕ) (bytes : List ℕ) (limit : Limit) : Type 0 where
  pub found : Piece
  pub stands : Stands found bytes
  pub what : What
  pub meant : what_of found ≡ Some what
  pub passes : limit_passed before what ≡ Some limit

-- what an answer says of the piece at the front of bytes, behind so many tokens
abbrev pub FindsPiece : ℕ → Result Found Stop → List ℕ → Type 0
FindsPiece before (Ok found) bytes =
    IsLongest bytes found.size found.what × IsTrue (is_within before found.what)
FindsPiece before (Err Stray) bytes = (other : Piece) → Begins other bytes → ⊥
FindsPiece before (Err (Passes limit)) bytes = BeginsPassing before bytes limit
FindsPiece before (Err Memory) bytes = Unit {0}
