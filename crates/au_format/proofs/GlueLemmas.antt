-- What follows a token in a layout doesn't go on with it.
use Rattle.std.proofs.Common.{◌≡◌, ℕ, Bool, true, false, ◌||◌, nat_eq, Option, Some, ap, ◌∙◌}
use Rattle.std.proofs.Common.{refl, inl, inr, arith, subst}
use Rattle.std.proofs.lemmas.Bool.{and_parts, or_cases}
use Rattle.std.proofs.lemmas.Bool.Decides.{nat_tests}
use Rattle.au_base.specs.declared.tokens.Sign.{Sign as SignOf}
use Rattle.au_base.specs.declared.tokens.Sign.TheVariants.{Assign, FatArrow, Arrow, WriteBorrow, Reborrow}
use Rattle.au_base.specs.declared.tokens.Sign.TheVariants.{NotEqual, LessEqual, GreaterEqual, LeftParenthesis}
use Rattle.au_base.specs.declared.tokens.Sign.TheVariants.{RightParenthesis, LeftBracket, RightBracket}
use Rattle.au_base.specs.declared.tokens.Sign.TheVariants.{LeftBrace, RightBrace, Comma, Semicolon, Colon}
use Rattle.au_base.specs.declared.tokens.Sign.TheVariants.{Dot, ReadBorrow, Exclamation, Plus, Minus, Star}
use Rattle.au_base.specs.declared.tokens.Sign.TheVariants.{Slash, Equal, Less, Greater}
use Rattle.au_base.specs.declared.tokens.What.{What}
use Rattle.au_base.specs.declared.tokens.What.TheVariants.{Word, Sign, Name, Number, Text}
use Rattle.au_lexer.specs.Bytes.{is_letter, is_digit, is_name_byte}
use Rattle.au_format.specs.declared.kinds.Kind.{Kind}
use Rattle.au_format.specs.Kinds.{kind_of}
use Rattle.au_format.specs.Marks.{hugs, follows, is_name, is_number, is_borrow, is_read_borrow}
use Rattle.au_format.proofs.AgainLemmas.{extends, goes_with}

-- A byte that goes on with no token.
pub record IsPlain (byte : ℕ) : Type 0 where
  pub no_name : is_name_byte byte ≡ false
  pub no_digit : is_digit byte ≡ false
  pub no_quote : nat_eq 34 byte ≡ false
  pub no_equal : nat_eq 61 byte ≡ false
  pub no_greater : nat_eq 62 byte ≡ false
  pub no_minus : nat_eq 45 byte ≡ false
  pub no_mark : nat_eq 33 byte ≡ false
  pub no_tilde : nat_eq 126 byte ≡ false

neither : (a b : Bool) → a ≡ false → b ≡ false → (a || b) ≡ false
neither a b h k = ap (λ c. c || b) h ∙ k

sign_apart : (sign : SignOf) (byte : ℕ) → IsPlain byte → extends sign byte ≡ false
sign_apart Assign byte p = refl
sign_apart FatArrow byte p = refl
sign_apart Arrow byte p = refl
sign_apart WriteBorrow byte p = refl
sign_apart Reborrow byte p = refl
sign_apart NotEqual byte p = refl
sign_apart LessEqual byte p = refl
sign_apart GreaterEqual byte p = refl
sign_apart LeftParenthesis byte p = refl
sign_apart RightParenthesis byte p = refl
sign_apart LeftBracket byte p = refl
sign_apart RightBracket byte p = refl
sign_apart LeftBrace byte p = refl
sign_apart RightBrace byte p = refl
sign_apart Comma byte p = refl
sign_apart Semicolon byte p = refl
sign_apart Colon byte p = p.no_equal
sign_apart Dot byte p = refl
sign_apart ReadBorrow byte p = neither _ _ p.no_mark p.no_tilde
sign_apart Exclamation byte p = refl
sign_apart Plus byte p = refl
sign_apart Minus byte p = neither _ _ p.no_greater p.no_minus
sign_apart Star byte p = refl
sign_apart Slash byte p = p.no_equal
sign_apart Equal byte p = p.no_greater
sign_apart Less byte p = p.no_equal
sign_apart Greater byte p = p.no_equal

-- it goes on with none
pub plain_apart : (what : What) (byte : ℕ) → IsPlain byte → goes_with what byte ≡ false
plain_apart (Word keyword) byte p = p.no_name
plain_apart (Sign sign) byte p = sign_apart sign byte p
plain_apart (Name name) byte p = p.no_name
plain_apart (Number value digits) byte p = p.no_digit
plain_apart (Text text) byte p = p.no_quote

-- a newline is one
pub newline_plain : IsPlain 10
newline_plain = record {
  no_name = refl;
  no_digit = refl;
  no_quote = refl;
  no_equal = refl;
  no_greater = refl;
  no_minus = refl;
  no_mark = refl;
  no_tilde = refl;
}

-- a space is one
pub space_plain : IsPlain 32
space_plain = record {
  no_name = refl;
  no_digit = refl;
  no_quote = refl;
  no_equal = refl;
  no_greater = refl;
  no_minus = refl;
  no_mark = refl;
  no_tilde = refl;
}

-- the first byte of a sign
abbrev pub sign_first : SignOf → ℕ
sign_first Assign = 58
sign_first FatArrow = 61
sign_first Arrow = 45
sign_first WriteBorrow = 38
sign_first Reborrow = 38
sign_first NotEqual = 47
sign_first LessEqual = 60
sign_first GreaterEqual = 62
sign_first LeftParenthesis = 40
sign_first RightParenthesis = 41
sign_first LeftBracket = 91
sign_first RightBracket = 93
sign_first LeftBrace = 123
sign_first RightBrace = 125
sign_first Comma = 44
sign_first Semicolon = 59
sign_first Colon = 58
sign_first Dot = 46
sign_first ReadBorrow = 38
sign_first Exclamation = 33
sign_first Plus = 43
sign_first Minus = 45
sign_first Star = 42
sign_first Slash = 47
sign_first Equal = 61
sign_first Less = 60
sign_first Greater = 62

-- the first byte of a token that may stand behind another without a blank
abbrev pub BeginsWith : What → ℕ → Type 0
BeginsWith (Word keyword) byte = Unit {0}
BeginsWith (Sign sign) byte = sign_first sign ≡ byte
BeginsWith (Name name) byte = is_letter byte ≡ true
BeginsWith (Number value digits) byte = is_digit byte ≡ true
BeginsWith (Text text) byte = Unit {0}

-- what two things can't both be
no_way : {A : Type 0} → false ≡ true → A
no_way h = absurd cc

digit_apart : (byte : ℕ) → is_digit byte ≡ true → (nat_eq 62 byte || nat_eq 45 byte) ≡ false
digit_apart byte h = neither (nat_eq 62 byte) (nat_eq 45 byte) (grind (arith, nat_tests)) (grind (arith, nat_tests))

letter_apart : (byte : ℕ) → is_letter byte ≡ true → (nat_eq 33 byte || nat_eq 126 byte) ≡ false
letter_apart byte h = neither (nat_eq 33 byte) (nat_eq 126 byte) (grind (arith, nat_tests)) (grind (arith, nat_tests))

minus_apart : (other : What) (byte : ℕ) → is_number (Some (kind_of other)) ≡ true → BeginsWith other byte →
    (nat_eq 62 byte || nat_eq 45 byte) ≡ false
minus_apart (Word keyword) byte h begins = no_way h
minus_apart (Sign sign) byte h begins = no_way h
minus_apart (Name name) byte h begins = no_way h
minus_apart (Number value digits) byte h begins = digit_apart byte begins
minus_apart (Text text) byte h begins = no_way h

-- behind a token that none stands behind with a blank
sign_hugs : (sign : SignOf) (other : What) (byte : ℕ) (last : Option Kind) →
    hugs last (kind_of (Sign sign)) (Some (kind_of other)) ≡ true → BeginsWith other byte →
    extends sign byte ≡ false
sign_hugs Assign other byte last h begins = refl
sign_hugs FatArrow other byte last h begins = refl
sign_hugs Arrow other byte last h begins = refl
sign_hugs WriteBorrow other byte last h begins = refl
sign_hugs Reborrow other byte last h begins = refl
sign_hugs NotEqual other byte last h begins = refl
sign_hugs LessEqual other byte last h begins = refl
sign_hugs GreaterEqual other byte last h begins = refl
sign_hugs LeftParenthesis other byte last h begins = refl
sign_hugs RightParenthesis other byte last h begins = refl
sign_hugs LeftBracket other byte last h begins = refl
sign_hugs RightBracket other byte last h begins = refl
sign_hugs LeftBrace other byte last h begins = refl
sign_hugs RightBrace other byte last h begins = refl
sign_hugs Comma other byte last h begins = refl
sign_hugs Semicolon other byte last h begins = refl
sign_hugs Colon other byte last h begins = no_way h
sign_hugs Dot other byte last h begins = refl
sign_hugs ReadBorrow other byte last h begins = no_way h
sign_hugs Exclamation other byte last h begins = refl
sign_hugs Plus other byte last h begins = refl
sign_hugs Minus other byte last h begins = minus_apart other byte (and_parts _ _ h).0 begins
sign_hugs Star other byte last h begins = refl
sign_hugs Slash other byte last h begins = no_way h
sign_hugs Equal other byte last h begins = no_way h
sign_hugs Less other byte last h begins = no_way h
sign_hugs Greater other byte last h begins = no_way h

hugs_apart : (what other : What) (byte : ℕ) (last : Option Kind) →
    hugs last (kind_of what) (Some (kind_of other)) ≡ true → BeginsWith other byte → goes_with what byte ≡ false
hugs_apart (Word keyword) other byte last h begins = no_way h
hugs_apart (Sign sign) other byte last h begins = sign_hugs sign other byte last h begins
hugs_apart (Name name) other byte last h begins = no_way h
hugs_apart (Number value digits) other byte last h begins = no_way h
hugs_apart (Text text) other byte last h begins = no_way h

name_follows : (what : What) (byte : ℕ) → is_read_borrow (Some (kind_of what)) ≡ true → is_letter byte ≡ true →
    goes_with what byte ≡ false
name_follows (Word keyword) byte h letter = no_way h
name_follows (Sign Assign) byte h letter = no_way h
name_follows (Sign FatArrow) byte h letter = no_way h
name_follows (Sign Arrow) byte h letter = no_way h
name_follows (Sign WriteBorrow) byte h letter = no_way h
name_follows (Sign Reborrow) byte h letter = no_way h
name_follows (Sign NotEqual) byte h letter = no_way h
name_follows (Sign LessEqual) byte h letter = no_way h
name_follows (Sign GreaterEqual) byte h letter = no_way h
name_follows (Sign LeftParenthesis) byte h letter = no_way h
name_follows (Sign RightParenthesis) byte h letter = no_way h
name_follows (Sign LeftBracket) byte h letter = no_way h
name_follows (Sign RightBracket) byte h letter = no_way h
name_follows (Sign LeftBrace) byte h letter = no_way h
name_follows (Sign RightBrace) byte h letter = no_way h
name_follows (Sign Comma) byte h letter = no_way h
name_follows (Sign Semicolon) byte h letter = no_way h
name_follows (Sign Colon) byte h letter = no_way h
name_follows (Sign Dot) byte h letter = no_way h
name_follows (Sign ReadBorrow) byte h letter = letter_apart byte letter
name_follows (Sign Exclamation) byte h letter = no_way h
name_follows (Sign Plus) byte h letter = no_way h
name_follows (Sign Minus) byte h letter = no_way h
name_follows (Sign Star) byte h letter = no_way h
name_follows (Sign Slash) byte h letter = no_way h
name_follows (Sign Equal) byte h letter = no_way h
name_follows (Sign Less) byte h letter = no_way h
name_follows (Sign Greater) byte h letter = no_way h
name_follows (Name name) byte h letter = no_way h
name_follows (Number value digits) byte h letter = no_way h
name_follows (Text text) byte h letter = no_way h

arrow_follows : (what : What) → is_name (Some (kind_of what)) ≡ true → goes_with what 45 ≡ false
arrow_follows (Word keyword) h = no_way h
arrow_follows (Sign sign) h = no_way h
arrow_follows (Name name) h = refl
arrow_follows (Number value digits) h = no_way h
arrow_follows (Text text) h = no_way h

mark_follows : (what : What) → is_borrow (Some (kind_of what)) ≡ true → goes_with what 33 ≡ false
mark_follows (Word keyword) h = refl
mark_follows (Sign sign) h = no_way h
mark_follows (Name name) h = no_way h
mark_follows (Number value digits) h = no_way h
mark_follows (Text text) h = no_way h

byte40_plain : IsPlain 40
byte40_plain = record {
  no_name = refl;
  no_digit = refl;
  no_quote = refl;
  no_equal = refl;
  no_greater = refl;
  no_minus = refl;
  no_mark = refl;
  no_tilde = refl;
}

byte41_plain : IsPlain 41
byte41_plain = record {
  no_name = refl;
  no_digit = refl;
  no_quote = refl;
  no_equal = refl;
  no_greater = refl;
  no_minus = refl;
  no_mark = refl;
  no_tilde = refl;
}

byte91_plain : IsPlain 91
byte91_plain = record {
  no_name = refl;
  no_digit = refl;
  no_quote = refl;
  no_equal = refl;
  no_greater = refl;
  no_minus = refl;
  no_mark = refl;
  no_tilde = refl;
}

byte93_plain : IsPlain 93
byte93_plain = record {
  no_name = refl;
  no_digit = refl;
  no_quote = refl;
  no_equal = refl;
  no_greater = refl;
  no_minus = refl;
  no_mark = refl;
  no_tilde = refl;
}

byte44_plain : IsPlain 44
byte44_plain = record {
  no_name = refl;
  no_digit = refl;
  no_quote = refl;
  no_equal = refl;
  no_greater = refl;
  no_minus = refl;
  no_mark = refl;
  no_tilde = refl;
}

byte59_plain : IsPlain 59
byte59_plain = record {
  no_name = refl;
  no_digit = refl;
  no_quote = refl;
  no_equal = refl;
  no_greater = refl;
  no_minus = refl;
  no_mark = refl;
  no_tilde = refl;
}

byte58_plain : IsPlain 58
byte58_plain = record {
  no_name = refl;
  no_digit = refl;
  no_quote = refl;
  no_equal = refl;
  no_greater = refl;
  no_minus = refl;
  no_mark = refl;
  no_tilde = refl;
}

byte46_plain : IsPlain 46
byte46_plain = record {
  no_name = refl;
  no_digit = refl;
  no_quote = refl;
  no_equal = refl;
  no_greater = refl;
  no_minus = refl;
  no_mark = refl;
  no_tilde = refl;
}

-- before a token that stands behind another with no blank
sign_follows : (sign : SignOf) (what : What) (imported : Bool) →
    follows (Some (kind_of what)) imported (kind_of (Sign sign)) ≡ true → goes_with what (sign_first sign) ≡ false
sign_follows Assign what imported h = no_way h
sign_follows FatArrow what imported h = no_way h
sign_follows Arrow what imported h = arrow_follows what h
sign_follows WriteBorrow what imported h = no_way h
sign_follows Reborrow what imported h = no_way h
sign_follows NotEqual what imported h = no_way h
sign_follows LessEqual what imported h = no_way h
sign_follows GreaterEqual what imported h = no_way h
sign_follows LeftParenthesis what imported h = plain_apart what 40 byte40_plain
sign_follows RightParenthesis what imported h = plain_apart what 41 byte41_plain
sign_follows LeftBracket what imported h = plain_apart what 91 byte91_plain
sign_follows RightBracket what imported h = plain_apart what 93 byte93_plain
sign_follows LeftBrace what imported h = no_way h
sign_follows RightBrace what imported h = no_way h
sign_follows Comma what imported h = plain_apart what 44 byte44_plain
sign_follows Semicolon what imported h = plain_apart what 59 byte59_plain
sign_follows Colon what imported h = plain_apart what 58 byte58_plain
sign_follows Dot what imported h = plain_apart what 46 byte46_plain
sign_follows ReadBorrow what imported h = no_way h
sign_follows Exclamation what imported h = mark_follows what h
sign_follows Plus what imported h = no_way h
sign_follows Minus what imported h = no_way h
sign_follows Star what imported h = no_way h
sign_follows Slash what imported h = no_way h
sign_follows Equal what imported h = no_way h
sign_follows Less what imported h = no_way h
sign_follows Greater what imported h = no_way h

follows_apart : (what other : What) (byte : ℕ) (imported : Bool) →
    follows (Some (kind_of what)) imported (kind_of other) ≡ true → BeginsWith other byte → goes_with what byte ≡ false
follows_apart what (Word keyword) byte imported h begins = no_way h
follows_apart what (Sign sign) byte imported h begins =
    subst (λ b. goes_with what b ≡ false) begins (sign_follows sign what imported h)
follows_apart what (Name name) byte imported h begins = name_follows what byte h begins
follows_apart what (Number value digits) byte imported h begins = no_way h
follows_apart what (Text text) byte imported h begins = no_way h

-- Where no blank stands between two tokens, the second doesn't go on with the first.
pub glued_apart : (what other : What) (byte : ℕ) (last : Option Kind) (imported : Bool) →
    (hugs last (kind_of what) (Some (kind_of other)) || follows (Some (kind_of what)) imported (kind_of other)) ≡ true →
    BeginsWith other byte → goes_with what byte ≡ false
glued_apart what other byte last imported h begins =
    elim (or_cases _ _ h) [
      | inl hug ↦ hugs_apart what other byte last hug begins
      | inr follow ↦ follows_apart what other byte imported follow begins
    ]
