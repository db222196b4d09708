-- Reading from the left: what is read and the tokens behind it, or why reading stops.
use Rattle.std.specs.Prelude.{◌≡◌, ℕ, suc, Bool, false, ◌==◌, ◌&&◌, List, [], ◌∷◌, Option, Some, None, Result}
use Rattle.std.specs.Prelude.{Ok, Err, length, drop, cond}
use Prim.Native.Nat.{zero}
use Rattle.std.specs.Ordering.{int_eq}
use Rattle.std.specs.Str.{bytes_eq}
use denote.Enum.Bare.{sameb}
use Rattle.au_base.specs.contracts.tokens.Keyword.{the_type as keyword}
use Rattle.au_base.specs.contracts.tokens.Sign.{the_type as sign}
use Rattle.au_base.specs.declared.places.Pos.{Pos}
use Rattle.au_base.specs.declared.tokens.Sign.{Sign as SignOf}
use Rattle.au_base.specs.declared.tokens.Sign.TheVariants.{Comma, Dot}
use Rattle.au_base.specs.declared.tokens.Token.{Token}
use Rattle.au_base.specs.declared.tokens.What.{What}
use Rattle.au_base.specs.declared.tokens.What.TheVariants.{Word, Sign, Name, Number, Text}
use Rattle.au_syntax.specs.Names.{Placed}
use Rattle.au_syntax.specs.Plain.{Bytes}
use Rattle.au_syntax.specs.declared.expressions.Literal.{Literal}
use Rattle.au_read_expressions.specs.declared.faults.Fault.{Fault}
use Rattle.au_read_expressions.specs.declared.faults.Fault.TheVariants as fault
use Rattle.au_read_expressions.specs.declared.faults.Stop.{Stop}
use Rattle.au_read_expressions.specs.declared.faults.Stop.TheVariants as stop
use Rattle.au_read_expressions.specs.declared.tokens.Expected.{Expected}
use Rattle.au_read_expressions.specs.declared.tokens.Expected.TheVariants as expected

-- what reading gives: what was read with the tokens behind it, or a fault
abbrev pub Read : Type 0 → Type 0
Read A = Result (A × List Token) Fault

-- the second step is taken where the first has no fault
infixl 10 ◌>>=◌
abbrev pub ◌>>=◌ : {A B : Type 0} → Result A Fault → (A → Result B Fault) → Result B Fault
(Ok x) >>= f = f x
(Err f) >>= g = Err f

-- a fault is that of reading, unless memory ran out
abbrev pub Stops : {A : Type 0} → Stop → Result A Fault → Type 0
Stops stop.Memory read = Unit {0}
Stops (stop.Fault f) read = read ≡ Err f

-- what a function returned, seen by `view`, is what reading gives, unless memory ran out
abbrev pub Gives : {X A : Type 0} → (X → A) → Result X Stop → Result A Fault → Type 0
Gives view (Ok x) read = read ≡ Ok (view x)
Gives view (Err e) read = Stops e read

-- the place of the first token
abbrev pub place_of : List Token → Pos
place_of [] = record { file = 0; line = 0; column = 0 }
place_of (token ∷ tokens) = token.at

-- what the first token is
abbrev pub front : List Token → Option What
front [] = None
front (token ∷ tokens) = Some token.what

-- reading stops before these tokens
abbrev pub no : {A : Type 0} → List Token → Result A Fault
no tokens = Err (fault.Syntax (length tokens))

-- whether two tokens say the same
abbrev pub same_what : What → What → Bool
same_what (Word a) (Word b) = sameb keyword a b
same_what (Sign a) (Sign b) = sameb sign a b
same_what (Name a) (Name b) = bytes_eq a b
same_what (Number a n) (Number b m) = int_eq a b && n == m
same_what (Text a) (Text b) = bytes_eq a b
same_what a b = false

-- whether the first token is this one
abbrev pub is_front : What → Option What → Bool
is_front what None = false
is_front what (Some first) = same_what first what

abbrev pub begins_with : What → List Token → Bool
begins_with what tokens = is_front what (front tokens)

-- the token that is expected
abbrev pub expected_what : Expected → What
expected_what (expected.Word word) = Word word
expected_what (expected.Sign mark) = Sign mark
expected_what (expected.Name bytes) = Name bytes.now

-- this token, and what is behind it
abbrev pub token_at : What → List Token → Result (List Token) Fault
token_at what tokens = cond (begins_with what tokens) (Ok (drop 1 tokens)) (no tokens)

-- these tokens, and what is behind them
abbrev pub tokens_at : List What → List Token → Result (List Token) Fault
tokens_at [] tokens = Ok tokens
tokens_at (what ∷ others) tokens = token_at what tokens >>= tokens_at others

-- what the first token stands for by `value`, if it stands for something
abbrev pub value_or_no : {A : Type 0} → List Token → Option A → Read A
value_or_no tokens None = no tokens
value_or_no tokens (Some v) = Ok (v, drop 1 tokens)

abbrev pub value_at : {A : Type 0} → (Token → Option A) → List Token → Read A
value_at value [] = no []
value_at value (token ∷ tokens) = value_or_no (token ∷ tokens) (value token)

-- a name, with its place
abbrev pub name_of : What → Pos → Option (Placed Bytes)
name_of (Name bytes) at = Some (record { name = bytes; at = at })
name_of other at = None

abbrev pub name_at : List Token → Read (Placed Bytes)
name_at = value_at (λ token. name_of token.what token.at)

-- a number
abbrev pub literal_of : What → Option Literal
literal_of (Number value digits) = Some (record { value = value; digits = digits })
literal_of other = None

abbrev pub number_at : List Token → Read Literal
number_at = value_at (λ token. literal_of token.what)

-- a text
abbrev pub bytes_of : What → Option Bytes
bytes_of (Text bytes) = Some bytes
bytes_of other = None

abbrev pub text_at : List Token → Read Bytes
text_at = value_at (λ token. bytes_of token.what)

-- these tokens alone
abbrev pub nothing_at : List Token → Read (Unit {0})
nothing_at rest = Ok (tt, rest)

abbrev pub exactly : List What → List Token → Read (Unit {0})
exactly whats tokens = tokens_at whats tokens >>= nothing_at

module _ {A : Type 0} where
  -- what was read, with these tokens behind it
  abbrev pub read_of : A → List Token → Read A
  read_of x rest = Ok (x, rest)

  -- these tokens, and then a part
  abbrev pub behind_tokens : List What → (List Token → Read A) → List Token → Read A
  behind_tokens whats part tokens = tokens_at whats tokens >>= part

  -- a part, and then these tokens
  abbrev pub closed_at : List What → A × List Token → Read A
  closed_at whats x = tokens_at whats x.1 >>= read_of x.0

  abbrev pub closed : List What → (List Token → Read A) → List Token → Read A
  closed whats part tokens = part tokens >>= closed_at whats

module _ {A B : Type 0} where
  -- a part, and then another
  abbrev pub joined_with : A → B × List Token → Read (A × B)
  joined_with a y = Ok ((a, y.0), y.1)

  abbrev pub joined_at : (List Token → Read B) → A × List Token → Read (A × B)
  joined_at other x = other x.1 >>= joined_with x.0

  abbrev pub pair : (List Token → Read A) → (List Token → Read B) → List Token → Read (A × B)
  pair part other tokens = part tokens >>= joined_at other

  -- what is built of a part
  abbrev pub built_at : (A → B) → A × List Token → Read B
  built_at build x = Ok (build x.0, x.1)

  abbrev pub shaped : (A → B) → (List Token → Read A) → List Token → Read B
  shaped build part tokens = part tokens >>= built_at build

  -- what is built of the place of the first token and a part
  abbrev pub built : (Pos → A → B) → (List Token → Read A) → List Token → Read B
  built build part tokens = part tokens >>= built_at (build (place_of tokens))

module _ {A : Type 0} where
  -- a part before others
  abbrev pub before_all : A → List A × List Token → Read (List A)
  before_all x y = Ok (x ∷ y.0, y.1)

  abbrev pub then_all : (List Token → Read (List A)) → A × List Token → Read (List A)
  then_all others x = others x.1 >>= before_all x.0

  -- Parts that stand one after another, up to a token with which none begins. The number bounds how many
  -- there may be.
  abbrev pub repeated_at : (Option What → Bool) → (List Token → Read A) → ℕ → List Token → Read (List A)
  repeated_at begins part zero tokens = Ok ([], tokens)
  repeated_at begins part (suc k) tokens =
      cond (begins (front tokens)) (part tokens >>= then_all (repeated_at begins part k)) (Ok ([], tokens))

  abbrev pub repeated : (Option What → Bool) → (List Token → Read A) → List Token → Read (List A)
  repeated begins part tokens = repeated_at begins part (length tokens) tokens

  -- One or more parts with a token between. The number bounds how many there may be.
  abbrev pub after_part : What → (List Token → Read (List A)) → A × List Token → Read (List A)
  after_part between others x =
      cond (begins_with between x.1) (others (drop 1 x.1) >>= before_all x.0) (Ok (x.0 ∷ [], x.1))

  abbrev pub separated_at : What → (List Token → Read A) → ℕ → List Token → Read (List A)
  separated_at between part zero tokens = no tokens
  separated_at between part (suc k) tokens = part tokens >>= after_part between (separated_at between part k)

  abbrev pub separated : What → (List Token → Read A) → List Token → Read (List A)
  separated between part tokens = separated_at between part (length tokens) tokens

  -- one or more parts with commas between
  abbrev pub listed : (List Token → Read A) → List Token → Read (List A)
  listed = separated (Sign Comma)

  -- parts with commas between and signs round them, or nothing where the first sign doesn't stand
  abbrev pub bracketed : SignOf → SignOf → (List Token → Read A) → List Token → Read (List A)
  bracketed left right part tokens =
      cond (begins_with (Sign left) tokens) (listed part (drop 1 tokens) >>= closed_at (Sign right ∷ []))
      (Ok ([], tokens))

  -- a part behind a token, if that stands
  abbrev pub optional_of : A × List Token → Read (Option A)
  optional_of x = Ok (Some x.0, x.1)

  abbrev pub optional : What → (List Token → Read A) → List Token → Read (Option A)
  optional what part tokens =
      cond (begins_with what tokens) (part (drop 1 tokens) >>= optional_of) (Ok (None, tokens))

-- names with dots between
abbrev pub dotted_at : List Token → Read (List (Placed Bytes))
dotted_at = separated (Sign Dot) name_at

-- names that each stand behind a dot
abbrev pub fields_at : List Token → Read (List (Placed Bytes))
fields_at = repeated (is_front (Sign Dot)) (behind_tokens (Sign Dot ∷ []) name_at)
