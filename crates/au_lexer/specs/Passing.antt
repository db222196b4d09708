-- Which token passes a limit.
use Rattle.std.specs.Prelude.{ℕ, ◌+◌, ◌≤◌, nat_lt, IsTrue, ◌&&◌, Bool, true, List, [], ◌∷◌, length, Option}
use Rattle.std.specs.Prelude.{Some, None, is_none, if◌then◌else◌}
use Rattle.std.specs.List.{list_all}
use Rattle.au_base.specs.declared.limits.Limit.{Limit}
use Rattle.au_base.specs.declared.limits.LimitKind.{LimitKind}
use Rattle.au_base.specs.declared.limits.LimitKind.TheVariants.{Tokens, NameBytes, LiteralDigits, TextBytes}
use Rattle.au_base.specs.declared.tokens.Token.{Token}
use Rattle.au_base.specs.declared.tokens.What.{What}
use Rattle.au_base.specs.declared.tokens.What.TheVariants.{Word, Sign, Name, Number, Text}
use Rattle.au_base.specs.Limits.{most_tokens, most_name_bytes, most_literal_digits, most_text_bytes}
use Rattle.au_lexer.specs.Pieces.{Piece, what_of}

-- a limit that is passed, with the first count that passes it
abbrev pub limit_above : LimitKind → ℕ → Limit
limit_above kind most = record { kind = kind; count = most + 1; most = most }

-- the limit that a count passes, if it passes it
abbrev pub passed : LimitKind → ℕ → ℕ → Option Limit
passed kind most count = if nat_lt most count then Some (limit_above kind most) else None

-- the limit that a token passes by itself: of a name's bytes, of a number's digits, or of the bytes
-- that a text means
abbrev pub own_limit : What → Option Limit
own_limit (Word keyword) = None
own_limit (Sign sign) = None
own_limit (Name name) = passed NameBytes most_name_bytes (length name)
own_limit (Number value digits) = passed LiteralDigits most_literal_digits digits
own_limit (Text text) = passed TextBytes most_text_bytes (length text)

-- the limit that a token passes behind so many others: that of tokens first
abbrev pub limit_passed : ℕ → What → Option Limit
limit_passed before what =
    if nat_lt before most_tokens then own_limit what else Some (limit_above Tokens most_tokens)

-- whether something that is a token or none passes no limit behind so many tokens
abbrev pub is_within : ℕ → Option What → Bool
is_within before None = true
is_within before (Some what) = is_none (limit_passed before what)

-- how many tokens something is that is a token or none
abbrev pub count_of : Option What → ℕ
count_of None = 0
count_of (Some what) = 1

-- how many tokens are among pieces
abbrev pub count_among : List Piece → ℕ
count_among [] = 0
count_among (piece ∷ pieces) = count_of (what_of piece) + count_among pieces

-- whether no token among the pieces passes a limit, where so many tokens stand before them
abbrev pub are_within : ℕ → List Piece → Bool
are_within before [] = true
are_within before (piece ∷ pieces) =
    is_within before (what_of piece) && are_within (before + count_of (what_of piece)) pieces

-- No token passes a limit of its own, and there are no more tokens than there may be.
abbrev pub IsWithinLimits : List Token → Type 0
IsWithinLimits tokens =
    IsTrue (list_all (λ token. is_none (own_limit token.what)) tokens) × (length tokens ≤ most_tokens)
