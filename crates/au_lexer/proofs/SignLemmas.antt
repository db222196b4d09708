-- Signs.
use Rattle.std.proofs.Common.{◌≡◌, ℕ, ◌<◌, ◌≤◌, Bool, true, false, not, ◌&&◌, ◌||◌, nat_eq, nat_le, List, []}
use Rattle.std.proofs.Common.{◌∷◌, ◌++◌, length, take, drop, Option, Some, ap, ◌∙◌, sym, refl, subst, ◌⊎◌}
use Rattle.std.proofs.Common.{inl, inr, arith}
use Rattle.std.specs.List.{list_all, starts_with}
use Rattle.std.specs.Cmp.Lexicographic.{pointwise}
use Rattle.std.proofs.lemmas.Bool.{and_parts, leb-true, cases_lt, or_cases, both_ways, not-true, cond-true}
use Rattle.std.proofs.lemmas.Bool.Decides.{Decides-eqb}
use Rattle.std.proofs.lemmas.Slice.Eq.{starts_is}
use Rattle.std.proofs.lemmas.List.{take_at, take-append-le}
use Rattle.au_base.specs.declared.tokens.Sign.{Sign}
use Rattle.au_base.specs.declared.tokens.Sign.TheVariants.{Assign, FatArrow, Arrow, WriteBorrow, Reborrow}
use Rattle.au_base.specs.declared.tokens.Sign.TheVariants.{NotEqual, LessEqual, GreaterEqual, LeftParenthesis}
use Rattle.au_base.specs.declared.tokens.Sign.TheVariants.{RightParenthesis, LeftBracket, RightBracket}
use Rattle.au_base.specs.declared.tokens.Sign.TheVariants.{LeftBrace, RightBrace, Comma, Semicolon, Colon}
use Rattle.au_base.specs.declared.tokens.Sign.TheVariants.{Dot, ReadBorrow, Exclamation, Plus, Minus, Star}
use Rattle.au_base.specs.declared.tokens.Sign.TheVariants.{Slash, Equal, Less, Greater}
use Rattle.au_base.specs.Tokens.{signs, sign_spelling}
use Rattle.au_base.proofs.BoolLemmas.{cond_cases}
use Rattle.au_lexer.specs.Bytes.{is_space, is_letter, is_digit}
use Rattle.au_lexer.specs.Reading.{first_begun, sign_of}

-- bytes that begin with a spelling
pub begun : (bytes spelled : List ℕ) → starts_with nat_eq bytes spelled ≡ true → bytes ≡ spelled
    ++ drop (length spelled) bytes
begun bytes spelled h = (starts_is Decides-eqb bytes spelled (starts_with nat_eq bytes spelled) refl).0 h

pub begins_so : (bytes spelled rest : List ℕ) → bytes ≡ spelled ++ rest → starts_with nat_eq bytes spelled ≡ true
begins_so bytes spelled rest h = (starts_is Decides-eqb bytes spelled (starts_with nat_eq bytes spelled) refl).1 rest h

-- the sign is in the table
IsAmong : Sign → List Sign → Type 0
IsAmong sign [] = ⊥
IsAmong sign (one ∷ table) = (sign ≡ one) ⊎ IsAmong sign table

-- no sign in the table is longer
none_longer : ℕ → List Sign → Bool
none_longer most table = list_all (λ sign. nat_le (length (sign_spelling sign)) most) table

-- the table has longer signs first
falls : List Sign → Bool
falls [] = true
falls (one ∷ table) = none_longer (length (sign_spelling one)) table && falls table

-- each sign is found by its spelling, so no two are spelled alike
sign_again : (sign : Sign) → sign_of (sign_spelling sign) ≡ Some sign
unfolding sign_of
sign_again Assign = refl
sign_again FatArrow = refl
sign_again Arrow = refl
sign_again WriteBorrow = refl
sign_again Reborrow = refl
sign_again NotEqual = refl
sign_again LessEqual = refl
sign_again GreaterEqual = refl
sign_again LeftParenthesis = refl
sign_again RightParenthesis = refl
sign_again LeftBracket = refl
sign_again RightBracket = refl
sign_again LeftBrace = refl
sign_again RightBrace = refl
sign_again Comma = refl
sign_again Semicolon = refl
sign_again Colon = refl
sign_again Dot = refl
sign_again ReadBorrow = refl
sign_again Exclamation = refl
sign_again Plus = refl
sign_again Minus = refl
sign_again Star = refl
sign_again Slash = refl
sign_again Equal = refl
sign_again Less = refl
sign_again Greater = refl

pub sign_same : (a b : Sign) → sign_spelling a ≡ sign_spelling b → a ≡ b
sign_same a b h = let e : Some a ≡ Some b = sym (sign_again a) ∙ ap sign_of h ∙ sign_again b in cc

all_among : (sign : Sign) → IsAmong sign signs
unfolding IsAmong
all_among Assign = inl refl
all_among FatArrow = inr (inl refl)
all_among Arrow = inr (inr (inl refl))
all_among WriteBorrow = inr (inr (inr (inl refl)))
all_among Reborrow = inr (inr (inr (inr (inl refl))))
all_among NotEqual = inr (inr (inr (inr (inr (inl refl)))))
all_among LessEqual = inr (inr (inr (inr (inr (inr (inl refl))))))
all_among GreaterEqual = inr (inr (inr (inr (inr (inr (inr (inl refl)))))))
all_among LeftParenthesis = inr (inr (inr (inr (inr (inr (inr (inr (inl refl))))))))
all_among RightParenthesis = inr (inr (inr (inr (inr (inr (inr (inr (inr (inl refl)))))))))
all_among LeftBracket = inr (inr (inr (inr (inr (inr (inr (inr (inr (inr (inl refl))))))))))
all_among RightBracket = inr (inr (inr (inr (inr (inr (inr (inr (inr (inr (inr (inl refl)))))))))))
all_among LeftBrace = inr (inr (inr (inr (inr (inr (inr (inr (inr (inr (inr (inr (inl refl))))))))))))
all_among RightBrace = inr (inr (inr (inr (inr (inr (inr (inr (inr (inr (inr (inr (inr (inl refl)))))))))))))
all_among Comma = inr (inr (inr (inr (inr (inr (inr (inr (inr (inr (inr (inr (inr (inr (inl refl))))))))))))))
all_among Semicolon = inr (inr (inr (inr (inr (inr (inr (inr (inr (inr (inr (inr (inr (inr (inr (inl refl)))))))))))))))
all_among Colon = inr (inr (inr
    (inr (inr (inr (inr (inr (inr (inr (inr (inr (inr (inr (inr (inr (inl refl))))))))))))))))
all_among Dot = inr (inr (inr (inr
    (inr (inr (inr (inr (inr (inr (inr (inr (inr (inr (inr (inr (inr (inl refl)))))))))))))))))
all_among ReadBorrow = inr (inr
    (inr (inr (inr (inr (inr (inr (inr (inr (inr (inr (inr (inr (inr (inr (inr (inr (inl refl))))))))))))))))))
all_among Exclamation = inr (inr
    (inr (inr (inr (inr (inr (inr (inr
    (inr (inr (inr (inr (inr (inr (inr (inr (inr (inr (inl refl)))))))))))))))))))
all_among Plus = inr (inr (inr
    (inr (inr (inr (inr (inr (inr (inr
    (inr (inr (inr (inr (inr (inr (inr (inr (inr (inr (inl refl))))))))))))))))))))
all_among Minus = inr (inr (inr
    (inr (inr (inr (inr (inr (inr (inr
    (inr (inr (inr (inr (inr (inr (inr (inr (inr (inr (inr (inl refl)))))))))))))))))))))
all_among Star = inr (inr (inr
    (inr (inr (inr (inr (inr (inr (inr
    (inr (inr (inr (inr (inr (inr (inr (inr (inr (inr (inr (inr (inl refl))))))))))))))))))))))
all_among Slash = inr (inr (inr
    (inr (inr (inr (inr (inr (inr (inr
    (inr (inr (inr (inr (inr (inr (inr (inr (inr (inr (inr (inr (inr (inl refl)))))))))))))))))))))))
all_among Equal = inr (inr (inr
    (inr (inr (inr (inr (inr (inr (inr
    (inr (inr (inr (inr (inr (inr (inr (inr (inr (inr (inr (inr (inr (inr (inl refl))))))))))))))))))))))))
all_among Less = inr (inr (inr
    (inr (inr (inr (inr (inr (inr (inr
    (inr (inr (inr (inr (inr (inr (inr
    (inr (inr (inr (inr (inr (inr (inr (inr (inl refl)))))))))))))))))))))))))
all_among Greater = inr (inr (inr
    (inr (inr (inr (inr (inr (inr (inr
    (inr (inr (inr (inr (inr (inr (inr
    (inr (inr (inr (inr (inr (inr (inr (inr (inr (inl refl))))))))))))))))))))))))))

-- the first byte of a sign is of no other kind
pub record BeginsMark (spelled : List ℕ) : Type 0 where
  pub first : ℕ
  pub rest : List ℕ
  pub is : spelled ≡ first ∷ rest
  pub no_space : is_space first ≡ false
  pub no_letter : is_letter first ≡ false
  pub no_digit : is_digit first ≡ false
  pub no_quote : nat_eq first 34 ≡ false

pub sign_mark : (sign : Sign) → BeginsMark (sign_spelling sign)
sign_mark Assign = record {
  first = 58;
  rest = 61 ∷ [];
  is = refl;
  no_space = refl;
  no_letter =
      refl;
  no_digit = refl;
  no_quote = refl;
}
sign_mark FatArrow = record {
  first = 61;
  rest = 62 ∷ [];
  is = refl;
  no_space = refl;
  no_letter =
      refl;
  no_digit = refl;
  no_quote = refl;
}
sign_mark Arrow = record {
  first = 45;
  rest = 62 ∷ [];
  is = refl;
  no_space = refl;
  no_letter =
      refl;
  no_digit = refl;
  no_quote = refl;
}
sign_mark WriteBorrow = record {
  first = 38;
  rest = 33 ∷ [];
  is = refl;
  no_space = refl;
  no_letter =
      refl;
  no_digit = refl;
  no_quote = refl;
}
sign_mark Reborrow = record {
  first = 38;
  rest = 126 ∷ [];
  is = refl;
  no_space = refl;
  no_letter =
      refl;
  no_digit = refl;
  no_quote = refl;
}
sign_mark NotEqual = record {
  first = 47;
  rest = 61 ∷ [];
  is = refl;
  no_space = refl;
  no_letter =
      refl;
  no_digit = refl;
  no_quote = refl;
}
sign_mark LessEqual = record {
  first = 60;
  rest = 61 ∷ [];
  is = refl;
  no_space = refl;
  no_letter =
      refl;
  no_digit = refl;
  no_quote = refl;
}
sign_mark GreaterEqual = record {
  first = 62;
  rest = 61 ∷ [];
  is = refl;
  no_space = refl;
  no_letter =
      refl;
  no_digit = refl;
  no_quote = refl;
}
sign_mark LeftParenthesis = record {
  first = 40;
  rest = [];
  is = refl;
  no_space = refl;
  no_letter =
      refl;
  no_digit = refl;
  no_quote = refl;
}
sign_mark RightParenthesis = record {
  first = 41;
  rest = [];
  is = refl;
  no_space = refl;
  no_letter =
      refl;
  no_digit = refl;
  no_quote = refl;
}
sign_mark LeftBracket = record {
  first = 91;
  rest = [];
  is = refl;
  no_space = refl;
  no_letter =
      refl;
  no_digit = refl;
  no_quote = refl;
}
sign_mark RightBracket = record {
  first = 93;
  rest = [];
  is = refl;
  no_space = refl;
  no_letter =
      refl;
  no_digit = refl;
  no_quote = refl;
}
sign_mark LeftBrace = record {
  first = 123;
  rest = [];
  is = refl;
  no_space = refl;
  no_letter =
      refl;
  no_digit = refl;
  no_quote = refl;
}
sign_mark RightBrace = record {
  first = 125;
  rest = [];
  is = refl;
  no_space = refl;
  no_letter =
      refl;
  no_digit = refl;
  no_quote = refl;
}
sign_mark Comma = record {
  first = 44;
  rest = [];
  is = refl;
  no_space = refl;
  no_letter = refl;
  no_digit =
      refl;
  no_quote = refl;
}
sign_mark Semicolon = record {
  first = 59;
  rest = [];
  is = refl;
  no_space = refl;
  no_letter = refl;
  no_digit =
      refl;
  no_quote = refl;
}
sign_mark Colon = record {
  first = 58;
  rest = [];
  is = refl;
  no_space = refl;
  no_letter = refl;
  no_digit =
      refl;
  no_quote = refl;
}
sign_mark Dot = record {
  first = 46;
  rest = [];
  is = refl;
  no_space = refl;
  no_letter = refl;
  no_digit =
      refl;
  no_quote = refl;
}
sign_mark ReadBorrow = record {
  first = 38;
  rest = [];
  is = refl;
  no_space = refl;
  no_letter =
      refl;
  no_digit = refl;
  no_quote = refl;
}
sign_mark Exclamation = record {
  first = 33;
  rest = [];
  is = refl;
  no_space = refl;
  no_letter =
      refl;
  no_digit = refl;
  no_quote = refl;
}
sign_mark Plus = record {
  first = 43;
  rest = [];
  is = refl;
  no_space = refl;
  no_letter = refl;
  no_digit =
      refl;
  no_quote = refl;
}
sign_mark Minus = record {
  first = 45;
  rest = [];
  is = refl;
  no_space = refl;
  no_letter = refl;
  no_digit =
      refl;
  no_quote = refl;
}
sign_mark Star = record {
  first = 42;
  rest = [];
  is = refl;
  no_space = refl;
  no_letter = refl;
  no_digit =
      refl;
  no_quote = refl;
}
sign_mark Slash = record {
  first = 47;
  rest = [];
  is = refl;
  no_space = refl;
  no_letter = refl;
  no_digit =
      refl;
  no_quote = refl;
}
sign_mark Equal = record {
  first = 61;
  rest = [];
  is = refl;
  no_space = refl;
  no_letter = refl;
  no_digit =
      refl;
  no_quote = refl;
}
sign_mark Less = record {
  first = 60;
  rest = [];
  is = refl;
  no_space = refl;
  no_letter = refl;
  no_digit =
      refl;
  no_quote = refl;
}
sign_mark Greater = record {
  first = 62;
  rest = [];
  is = refl;
  no_space = refl;
  no_letter = refl;
  no_digit =
      refl;
  no_quote = refl;
}

-- a sign in a table without longer ones isn't longer
among_bound : (most : ℕ) (table : List Sign) (sign : Sign) → none_longer most table ≡ true →
    IsAmong sign table → length (sign_spelling sign) ≤ most
unfolding IsAmong none_longer
among_bound most [] sign h i = absurd i
among_bound most (one ∷ table) sign h i =
    let parts = and_parts (nat_le (length (sign_spelling one)) most) _ h in
    elim i [
      | inl e ↦ subst (λ s. length (sign_spelling s) ≤ most) (sym e) (leb-true _ _ parts.0)
      | inr j ↦ among_bound most table sign parts.1 j
    ]

-- two signs of one length that the bytes begin with are the same
same_length : (bytes : List ℕ) (a b : Sign) → starts_with nat_eq bytes (sign_spelling a) ≡ true →
    starts_with nat_eq bytes (sign_spelling b) ≡ true → length (sign_spelling a) ≡ length (sign_spelling b) →
    a ≡ b
same_length bytes a b x y e =
    let front : (s : Sign) → starts_with nat_eq bytes (sign_spelling s) ≡ true →
    take (length (sign_spelling s)) bytes ≡ sign_spelling s =
    λ s z. ap (take (length (sign_spelling s))) (begun bytes (sign_spelling s) z)
    ∙ take_at (sign_spelling s) _ _ refl in
    sign_same a b (sym (front a x) ∙ ap (λ n. take n bytes) e ∙ front b y)

-- What is found where a sign is begun: that sign, or a longer one.
abbrev pub FindsSign : Option Sign → Sign → Type 0
FindsSign found sign = (one : Sign) × (found ≡ Some one)
    × ((sign ≡ one) ⊎ (length (sign_spelling sign) < length (sign_spelling one)))

-- of two signs that are begun, one that isn't longer is the same or shorter
shorter : (one sign : Sign) (bytes : List ℕ) → length (sign_spelling sign) ≤ length (sign_spelling one) →
    starts_with nat_eq bytes (sign_spelling sign) ≡ true → starts_with nat_eq bytes (sign_spelling one) ≡ true →
    (sign ≡ one) ⊎ (length (sign_spelling sign) < length (sign_spelling one))
shorter one sign bytes le a b =
    elim (cases_lt (length (sign_spelling sign)) (length (sign_spelling one))) [
      | inl lt ↦ inr lt
      | inr ge ↦ inl (same_length bytes sign one a b (omega arith))
    ]

finds : (table : List Sign) (bytes : List ℕ) (sign : Sign) → falls table ≡ true → IsAmong sign table →
    starts_with nat_eq bytes (sign_spelling sign) ≡ true → FindsSign (first_begun table bytes) sign
unfolding IsAmong falls
finds [] bytes sign f i h = absurd i
finds (one ∷ table) bytes sign f i h =
    let parts = and_parts (none_longer (length (sign_spelling one)) table) (falls table) f in
    elim i [
      | inl e ↦ (
        one,
        cond-true _ _ _ (subst (λ s. starts_with nat_eq bytes (sign_spelling s) ≡ true) e h),
        inl e,
      )
      | inr j ↦
          elim (cond_cases (starts_with nat_eq bytes (sign_spelling one)) (Some one) (first_begun table bytes)
          (first_begun (one ∷ table) bytes) refl) [
            | inl w ↦ (one, sym w.1, shorter one sign bytes (among_bound _ table sign parts.0 j) h w.0)
            | inr w ↦ let found = finds table bytes sign parts.1 j h in (found.0, sym w.1 ∙ found.1, found.2)
          ]
    ]

falls_so : falls signs ≡ true
unfolding falls none_longer
falls_so = refl

pub sign_begins : (bytes : List ℕ) (sign : Sign) → starts_with nat_eq bytes (sign_spelling sign) ≡ true →
    FindsSign (sign_of bytes) sign
unfolding sign_of
sign_begins bytes sign h = finds signs bytes sign falls_so (all_among sign) h

-- the sign that is found is begun
first_begun_is : (table : List Sign) (bytes : List ℕ) (sign : Sign) → first_begun table bytes ≡ Some sign →
    starts_with nat_eq bytes (sign_spelling sign) ≡ true
first_begun_is [] bytes sign h = cc
first_begun_is (one ∷ table) bytes sign h =
    elim (cond_cases (starts_with nat_eq bytes (sign_spelling one)) (Some one) (first_begun table bytes)
    (Some sign) h) [
      | inl w ↦ let same : one ≡ sign = (let e = w.1 in cc)
          in subst (λ k. starts_with nat_eq bytes (sign_spelling k) ≡ true) same w.0
      | inr w ↦ first_begun_is table bytes sign w.1
    ]

pub sign_found : (bytes : List ℕ) (sign : Sign) → sign_of bytes ≡ Some sign →
    starts_with nat_eq bytes (sign_spelling sign) ≡ true
unfolding sign_of
sign_found bytes sign h = first_begun_is signs bytes sign h

-- no sign of two bytes begins as a comment does
no_comment : (sign : Sign) → (nat_le (length (sign_spelling sign)) 1 || not
    (starts_with nat_eq (sign_spelling sign) (45 ∷ 45 ∷ []))) ≡ true
no_comment Assign = refl
no_comment FatArrow = refl
no_comment Arrow = refl
no_comment WriteBorrow = refl
no_comment Reborrow = refl
no_comment NotEqual = refl
no_comment LessEqual = refl
no_comment GreaterEqual = refl
no_comment LeftParenthesis = refl
no_comment RightParenthesis = refl
no_comment LeftBracket = refl
no_comment RightBracket = refl
no_comment LeftBrace = refl
no_comment RightBrace = refl
no_comment Comma = refl
no_comment Semicolon = refl
no_comment Colon = refl
no_comment Dot = refl
no_comment ReadBorrow = refl
no_comment Exclamation = refl
no_comment Plus = refl
no_comment Minus = refl
no_comment Star = refl
no_comment Slash = refl
no_comment Equal = refl
no_comment Less = refl
no_comment Greater = refl

-- a sign where a comment begins has one byte
pub sign_of_comment : (bytes rest : List ℕ) (sign : Sign) → bytes ≡ sign_spelling sign ++ rest →
    starts_with nat_eq bytes (45 ∷ 45 ∷ []) ≡ true → length (sign_spelling sign) ≤ 1
sign_of_comment bytes rest sign h begins =
    elim (or_cases (nat_le (length (sign_spelling sign)) 1)
    (not (starts_with nat_eq (sign_spelling sign) (45 ∷ 45 ∷ []))) (no_comment sign)) [
      | inl w ↦ leb-true _ _ w
      | inr w ↦ elim (cases_lt 1 (length (sign_spelling sign))) [
        | inr le ↦ le
        | inl lt ↦
            let front : take 2 bytes ≡ take 2 (sign_spelling sign) = ap (take 2) h
            ∙ take-append-le 2 (sign_spelling sign) rest (omega arith) in
            let same : starts_with nat_eq (sign_spelling sign) (45 ∷ 45 ∷ []) ≡ true =
            ap (pointwise nat_eq (45 ∷ 45 ∷ [])) (sym front) ∙ begins in
            absurd (both_ways _ (not-true _ w) same)
      ]
    ]
