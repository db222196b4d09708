-- Where levels and lines begin and end, and which tokens stand together: what each token does to the
-- layout, by its kind, the tokens before it and the next one.
use Rattle.std.specs.Prelude.{ℕ, ◌+◌, ◌-◌, ◌==◌, Bool, true, false, not, ◌&&◌, ◌||◌, if◌then◌else◌}
use Rattle.std.specs.Prelude.{List, [], ◌∷◌, drop, Option, Some, is_none}
use Rattle.au_base.specs.declared.tokens.Keyword.TheVariants.{KwIs, KwEnd, KwImport, KwCase, KwWhen, KwOf}
use Rattle.au_base.specs.declared.tokens.Keyword.TheVariants.{KwDo}
use Rattle.au_base.specs.declared.tokens.Keyword.TheVariants.{KwIf, KwThen, KwElse, KwBorrow, KwNil, KwTrue}
use Rattle.au_base.specs.declared.tokens.Keyword.TheVariants.{KwFalse, KwFree, KwLinear, KwAnyUniverse}
use Rattle.au_base.specs.declared.tokens.Keyword.TheVariants.{KwRegion}
use Rattle.au_base.specs.declared.tokens.Sign.TheVariants.{Arrow, WriteBorrow, Reborrow, LeftParenthesis}
use Rattle.au_base.specs.declared.tokens.Sign.TheVariants.{RightParenthesis, LeftBracket, RightBracket, Comma}
use Rattle.au_base.specs.declared.tokens.Sign.TheVariants.{Semicolon, Colon, Dot, ReadBorrow, Exclamation}
use Rattle.au_base.specs.declared.tokens.Sign.TheVariants.{Minus}
use Rattle.au_format.specs.declared.kinds.Kind.{Kind}
use Rattle.au_format.specs.declared.kinds.Kind.TheVariants.{Word, Sign, Name, Number, Text}
use Rattle.au_format.specs.Kinds.{nearest}

-- whether a token is there and is `case`
abbrev pub is_case : Option Kind → Bool
is_case (Some (Word KwCase)) = true
is_case other = false

-- whether it is `of`
abbrev pub is_of : Option Kind → Bool
is_of (Some (Word KwOf)) = true
is_of other = false

-- whether it is `if`
abbrev pub is_if : Option Kind → Bool
is_if (Some (Word KwIf)) = true
is_if other = false

-- whether it is `borrow`
abbrev pub is_borrow : Option Kind → Bool
is_borrow (Some (Word KwBorrow)) = true
is_borrow other = false

-- whether it is a name
abbrev pub is_name : Option Kind → Bool
is_name (Some Name) = true
is_name other = false

-- whether it is a number
abbrev pub is_number : Option Kind → Bool
is_number (Some Number) = true
is_number other = false

-- Whether an `if` behind a token begins a statement or goes on in one, where so many expressions before the
-- token have an `else` to come: behind `;`, behind what opens a level, and in `else if` and `end if`.
abbrev pub begins_behind : ℕ → Kind → Bool
begins_behind choices (Sign Semicolon) = true
begins_behind choices (Word KwIs) = true
begins_behind choices (Word KwDo) = true
begins_behind choices (Word KwOf) = true
begins_behind choices (Word KwEnd) = true
begins_behind choices (Word KwThen) = choices == 0
begins_behind choices (Word KwElse) = choices == 0
begins_behind choices other = false

-- how many expressions have an `else` to come behind a token, by how many had before it, and by whether
-- an `if` there is one of a statement
abbrev pub choices_behind : ℕ → Bool → Kind → ℕ
choices_behind choices begins (Word KwIf) = if begins then choices else choices + 1
choices_behind choices begins (Word KwElse) = choices - 1
choices_behind choices begins other = choices

abbrev mutual
  -- how many expressions have an `else` to come behind these tokens
  pub choices : List Kind → ℕ
  choices [] = 0
  choices (kind ∷ before) = choices_behind (choices before) (begins before) kind

  -- whether an `if` behind these tokens is one of a statement
  pub begins : List Kind → Bool
  begins [] = true
  begins (kind ∷ before) = begins_behind (choices before) kind

-- whether the last keyword through a token is the `is` of a union's case, by the token two before it and by
-- whether this was so before it
abbrev pub case_through : Option Kind → Bool → Kind → Bool
case_through second before (Word KwIs) = is_case second
case_through second before (Word other) = false
case_through second before other = before

-- whether the last keyword among tokens is the `is` of a union's case
abbrev pub in_case : List Kind → Bool
in_case [] = false
in_case (kind ∷ before) = case_through (nearest (drop 1 before)) (in_case before) kind

-- whether the last keyword through a token is `import`
abbrev pub import_through : Bool → Kind → Bool
import_through before (Word KwImport) = true
import_through before (Word other) = false
import_through before other = before

-- whether the last keyword among tokens is `import`
abbrev pub in_import : List Kind → Bool
in_import [] = false
in_import (kind ∷ before) = import_through (in_import before) kind

-- Whether a token opens a level, by the token two before it, by how many expressions have an `else` to
-- come and by the next token: `is` but in a union's case, `do`, `of`, and `then` and `else` of a
-- statement, but for an `else` before `if`.
abbrev pub opens : Option Kind → ℕ → Kind → Option Kind → Bool
opens second choices (Word KwIs) next = not (is_case second)
opens second choices (Word KwDo) next = true
opens second choices (Word KwOf) next = true
opens second choices (Word KwThen) next = choices == 0
opens second choices (Word KwElse) next = choices == 0 && not (is_if next)
opens second choices other next = false

-- How many levels a token ends, by the token before it: `end` ends its own, and that of the last arm in a
-- `case` that has arms; `when` ends that of the arm before it; an `else` of a statement ends that of `then`.
abbrev pub closes : Option Kind → ℕ → Kind → Option Kind → ℕ
closes last choices (Word KwEnd) next = if is_case next && not (is_of last) then 2 else 1
closes last choices (Word KwWhen) next = if is_of last then 0 else 1
closes last choices (Word KwElse) next = if choices == 0 then 1 else 0
closes last choices other next = 0

-- how many levels are open behind tokens, before the next one
abbrev pub levels : List Kind → Option Kind → ℕ
levels [] next = 0
levels (kind ∷ before) next =
    levels before (Some kind) - closes (nearest before) (choices before) kind next
    + (if opens (nearest (drop 1 before)) (choices before) kind next then 1 else 0)

-- Whether a token is a `;` that ends its line: one inside a union's case doesn't, where a field follows.
abbrev pub is_last_semicolon : Bool → Kind → Option Kind → Bool
is_last_semicolon in_case (Sign Semicolon) next = not (in_case && is_name next)
is_last_semicolon in_case other next = false

-- whether a line ends behind tokens: what begins there begins nothing within something unfinished
abbrev pub is_ended : List Kind → Option Kind → Bool
is_ended [] next = true
is_ended (kind ∷ before) next =
    is_none next || (opens (nearest (drop 1 before)) (choices before) kind next
    || is_last_semicolon (in_case before) kind next)

-- whether a token is the end of an atom, so that a `-` behind it takes away
abbrev pub ends_atom : Option Kind → Bool
ends_atom (Some Name) = true
ends_atom (Some Number) = true
ends_atom (Some Text) = true
ends_atom (Some (Sign RightParenthesis)) = true
ends_atom (Some (Word KwTrue)) = true
ends_atom (Some (Word KwFalse)) = true
ends_atom (Some (Word KwNil)) = true
ends_atom other = false

-- whether no blank stands behind a token, by the token before it: `(`, `[`, `.`, `->`, `&!`, `&~`, a `!` but
-- that of `borrow!`, and the `-` of a negative number
abbrev pub hugs : Option Kind → Kind → Option Kind → Bool
hugs last (Sign LeftParenthesis) next = true
hugs last (Sign LeftBracket) next = true
hugs last (Sign Dot) next = true
hugs last (Sign Arrow) next = true
hugs last (Sign WriteBorrow) next = true
hugs last (Sign Reborrow) next = true
hugs last (Sign Exclamation) next = not (is_borrow last)
hugs last (Sign Minus) next = is_number next && not (ends_atom last)
hugs last other next = false

-- whether no blank stands behind the last of tokens
abbrev pub is_hugging : List Kind → Option Kind → Bool
is_hugging [] next = false
is_hugging (kind ∷ before) next = hugs (nearest before) kind next

-- whether a token is a name or the word of a universe, which `(` and `[` follow with no blank
abbrev pub takes_list : Option Kind → Bool
takes_list (Some Name) = true
takes_list (Some (Word KwFree)) = true
takes_list (Some (Word KwLinear)) = true
takes_list (Some (Word KwAnyUniverse)) = true
takes_list (Some (Word KwRegion)) = true
takes_list other = false

-- whether it is `&`, which a name, `(` and `[` follow with no blank
abbrev pub is_read_borrow : Option Kind → Bool
is_read_borrow (Some (Sign ReadBorrow)) = true
is_read_borrow other = false

-- whether no blank stands before a token, by the token before it and by whether it stands in an import: `;`,
-- `,`, `)`, `]`, `:` and `.` anywhere, and others behind what they belong to
abbrev pub follows : Option Kind → Bool → Kind → Bool
follows last in_import (Sign Semicolon) = true
follows last in_import (Sign Comma) = true
follows last in_import (Sign RightParenthesis) = true
follows last in_import (Sign RightBracket) = true
follows last in_import (Sign Colon) = true
follows last in_import (Sign Dot) = true
follows last in_import (Sign Arrow) = is_name last
follows last in_import (Sign LeftParenthesis) = not in_import && takes_list last || is_read_borrow last
follows last in_import (Sign LeftBracket) = takes_list last || is_read_borrow last
follows last in_import (Sign Exclamation) = is_borrow last
follows last in_import Name = is_read_borrow last
follows last in_import other = false
