-- A piece is read again where what follows doesn't go on with it.
use Rattle.std.proofs.Common.{◌≡◌, ℕ, ◌+◌, ◌≤◌, Bool, true, false, not, ◌&&◌, ◌||◌, cond, nat_eq, List, []}
use Rattle.std.proofs.Common.{◌∷◌, ◌++◌, length, take, Some, None, ap, ◌∙◌, sym, refl, inl, inr}
use Rattle.std.proofs.Common.{arith, append_assoc, length-append}
use Rattle.std.specs.List.{list_all, prefix_len, starts_with}
use Rattle.std.proofs.lemmas.List.{take_at}
use Rattle.std.proofs.lemmas.Bool.{and_parts, and_from, or_left, or_parts, cond-true, cond-false, both_ways}
use Rattle.std.proofs.lemmas.Bool.Decides.{nat_tests}
use Rattle.au_base.specs.declared.tokens.Keyword.{Keyword}
use Rattle.au_base.specs.declared.tokens.Sign.{Sign as SignOf}
use Rattle.au_base.specs.declared.tokens.Sign.TheVariants.{Assign, FatArrow, Arrow, WriteBorrow, Reborrow}
use Rattle.au_base.specs.declared.tokens.Sign.TheVariants.{NotEqual, LessEqual, GreaterEqual, LeftParenthesis}
use Rattle.au_base.specs.declared.tokens.Sign.TheVariants.{RightParenthesis, LeftBracket, RightBracket}
use Rattle.au_base.specs.declared.tokens.Sign.TheVariants.{LeftBrace, RightBrace, Comma, Semicolon, Colon}
use Rattle.au_base.specs.declared.tokens.Sign.TheVariants.{Dot, ReadBorrow, Exclamation, Plus, Minus, Star}
use Rattle.au_base.specs.declared.tokens.Sign.TheVariants.{Slash, Equal, Less, Greater}
use Rattle.au_base.specs.declared.tokens.What.{What}
use Rattle.au_base.specs.declared.tokens.What.TheVariants.{Word, Sign, Name, Number, Text}
use Rattle.au_base.specs.Places.{is_newline}
use Rattle.au_base.specs.Tokens.{keyword_spelling, sign_spelling}
use Rattle.au_lexer.specs.Bytes.{is_space, is_letter, is_digit, is_name_byte, is_text_byte}
use Rattle.au_lexer.specs.Cut.{Begins, Stands, IsText}
use Rattle.au_lexer.specs.Pieces.{Piece, blank, comment, docstring, number, token, three_quotes, spelling, what_of}
use Rattle.au_lexer.specs.Pieces.{IsPiece, IsWord, IsNumber, byte_spelling}
use Rattle.au_lexer.specs.Reading.{piece, front, front_from, word_at, digits_at, word_front, number_front}
use Rattle.au_lexer.specs.Reading.{word_what, comment_size, docstring_front, text_front}
use Rattle.au_lexer.specs.Reading.{sign_of, sign_front}
use Rattle.au_lexer.proofs.RunLemmas.{prefix_pass}
use Rattle.au_lexer.proofs.WordLemmas.{keyword_again, keyword_none, keyword_word}
use Rattle.au_lexer.proofs.StringLemmas.{text_again, written, how_written, plain, escape}
use Rattle.au_lexer.proofs.DocstringLemmas.{docstring_again}
use Rattle.au_lexer.proofs.FrontLemmas.{begins_found}

-- whether a byte behind a sign makes it another one
abbrev pub extends : SignOf → ℕ → Bool
extends Colon next = nat_eq 61 next
extends Equal next = nat_eq 62 next
extends Minus next = nat_eq 62 next || nat_eq 45 next
extends ReadBorrow next = nat_eq 33 next || nat_eq 126 next
extends Slash next = nat_eq 61 next
extends Less next = nat_eq 61 next
extends Greater next = nat_eq 61 next
extends other next = false

-- whether a byte behind a token goes on with it
abbrev pub goes_with : What → ℕ → Bool
goes_with (Word keyword) next = is_name_byte next
goes_with (Sign sign) next = extends sign next
goes_with (Name name) next = is_name_byte next
goes_with (Number value digits) next = is_digit next
goes_with (Text text) next = nat_eq 34 next

-- whether a byte behind a piece goes on with it
abbrev pub goes_on : Piece → ℕ → Bool
goes_on (blank byte) next = false
goes_on (comment bytes) next = not (is_newline next)
goes_on (docstring inside) next = false
goes_on (number digits) next = is_digit next
goes_on (token what) next = goes_with what next

-- What follows a piece doesn't go on with it.
abbrev pub Apart : Piece → List ℕ → Type 0
Apart found [] = Unit {0}
Apart found (next ∷ rest) = goes_on found next ≡ false

front_same : (first : ℕ) (rest : List ℕ) → front (first ∷ rest) ≡ front_from first (first ∷ rest)
unfolding front
front_same first rest = refl

-- no byte at the front of what doesn't begin with one that passes
none_passes : (p : ℕ → Bool) (next : ℕ) (rest : List ℕ) → p next ≡ false → prefix_len p (next ∷ rest) ≡ 0
none_passes p next rest h = cond-false (p next) (1 + prefix_len p rest) 0 h

-- a run that what follows doesn't go on with
run_ends : (p : ℕ → Bool) (run rest : List ℕ) → list_all p run ≡ true → prefix_len p rest ≡ 0 →
    prefix_len p (run ++ rest) ≡ length run
run_ends p run rest h none =
    let e : length run + prefix_len p rest ≡ length run = omega (arith, none) in
    prefix_pass p run rest h ∙ e

no_newline : (bytes rest : List ℕ) → Apart (comment bytes) rest → prefix_len (λ byte. not (is_newline byte)) rest ≡ 0
no_newline bytes [] h = refl
no_newline bytes (next ∷ rest) h = none_passes (λ byte. not (is_newline byte)) next rest h

no_digit : (digits rest : List ℕ) → Apart (number digits) rest → prefix_len is_digit rest ≡ 0
no_digit digits [] h = refl
no_digit digits (next ∷ rest) h = none_passes is_digit next rest h

no_name : (name rest : List ℕ) → Apart (token (Name name)) rest → prefix_len is_name_byte rest ≡ 0
no_name name [] h = refl
no_name name (next ∷ rest) h = none_passes is_name_byte next rest h

no_word : (keyword : Keyword) (rest : List ℕ) → Apart (token (Word keyword)) rest → prefix_len is_name_byte rest ≡ 0
no_word keyword [] h = refl
no_word keyword (next ∷ rest) h = none_passes is_name_byte next rest h

letter_no_space : (byte : ℕ) → is_letter byte ≡ true → is_space byte ≡ false
letter_no_space byte h = grind (arith, nat_tests)

digit_first : (byte : ℕ) → is_digit byte ≡ true → (is_space byte ≡ false) × (is_letter byte ≡ false)
digit_first byte digit = (grind (arith, nat_tests), grind (arith, nat_tests))

-- the word that bytes begin with is read
front_word : (word rest : List ℕ) → IsWord word → prefix_len is_name_byte rest ≡ 0 →
    front (word ++ rest) ≡ word_front word
front_word [] rest h none = absurd h
front_word (first ∷ word) rest h none =
    let name_byte : is_name_byte first ≡ true = or_left _ _ (or_left _ _ h.0) in
    let all : list_all is_name_byte (first ∷ word) ≡ true = and_from _ _ name_byte h.1 in
    let at : word_at (first ∷ word ++ rest) ≡ first ∷ word =
    ap (λ n. take n (first ∷ word ++ rest)) (run_ends is_name_byte (first ∷ word) rest all none)
    ∙ take_at (first ∷ word) rest (length (first ∷ word)) refl in
    front_same first (word ++ rest) ∙ cond-false _ _ _ (letter_no_space first h.0) ∙ cond-true _ _ _ h.0
    ∙ ap word_front at

-- the number that bytes begin with is read
front_number : (digits rest : List ℕ) → IsNumber digits → prefix_len is_digit rest ≡ 0 →
    front (digits ++ rest) ≡ number_front digits
front_number [] rest h none = absurd (h.0 refl)
front_number (first ∷ digits) rest h none =
    let digit : is_digit first ≡ true = (and_parts (is_digit first) (list_all is_digit digits) h.1).0 in
    let at : digits_at (first ∷ digits ++ rest) ≡ first ∷ digits =
    ap (λ n. take n (first ∷ digits ++ rest)) (run_ends is_digit (first ∷ digits) rest h.1 none)
    ∙ take_at (first ∷ digits) rest (length (first ∷ digits)) refl in
    let apart = digit_first first digit in
    front_same first (digits ++ rest) ∙ cond-false _ _ _ apart.0 ∙ cond-false _ _ _ apart.1
    ∙ cond-true _ _ _ digit ∙ ap number_front at

-- behind the quote of a text no two quotes follow
no_quotes : (text rest : List ℕ) → list_all is_text_byte text ≡ true → Apart (token (Text text)) rest →
    starts_with nat_eq (34 ∷ written text ++ 34 ∷ rest) three_quotes ≡ false
no_quotes [] [] known h = refl
no_quotes [] (next ∷ rest) known h = ap (λ b. b && true) h
no_quotes (byte ∷ text) rest known h =
    let parts = and_parts (is_text_byte byte) (list_all is_text_byte text) known in
    let all : List ℕ = written text ++ 34 ∷ rest in
    let split : written (byte ∷ text) ++ 34 ∷ rest
    ≡ byte_spelling byte ++ all = append_assoc (byte_spelling byte) (written text) (34 ∷ rest) in
    ap (λ b. starts_with nat_eq (34 ∷ b) three_quotes) split ∙ elim (how_written byte parts.0) [
      | plain e low quote slash ↦
          ap (λ s. starts_with nat_eq (34 ∷ s ++ all) three_quotes) e
          ∙ ap (λ b. b && starts_with nat_eq all (34 ∷ [])) (swapped byte quote)
      | escape letter e is ↦ ap (λ s. starts_with nat_eq (34 ∷ s ++ all) three_quotes) e
    ]
  where
    swapped : (byte : ℕ) → nat_eq byte 34 ≡ false → nat_eq 34 byte ≡ false
    swapped byte h = grind (arith, nat_tests)

-- the sign that bytes begin with is read
front_sign : (sign : SignOf) (rest : List ℕ) → Apart (token (Sign sign)) rest →
    front (sign_spelling sign ++ rest) ≡ piece (length (sign_spelling sign)) (Some (Sign sign))
unfolding front sign_of
front_sign Assign rest h = refl
front_sign FatArrow rest h = refl
front_sign Arrow rest h = refl
front_sign WriteBorrow rest h = refl
front_sign Reborrow rest h = refl
front_sign NotEqual rest h = refl
front_sign LessEqual rest h = refl
front_sign GreaterEqual rest h = refl
front_sign LeftParenthesis rest h = refl
front_sign RightParenthesis rest h = refl
front_sign LeftBracket rest h = refl
front_sign RightBracket rest h = refl
front_sign LeftBrace rest h = refl
front_sign RightBrace rest h = refl
front_sign Comma rest h = refl
front_sign Semicolon rest h = refl
front_sign Colon [] h = refl
front_sign Colon (next ∷ rest) h = ap (λ b. sign_front (cond (b && true) (Some Assign) (Some Colon))) h
front_sign Dot rest h = refl
front_sign ReadBorrow [] h = refl
front_sign ReadBorrow (next ∷ rest) h =
    let parts = or_parts _ _ h in
    ap (λ b. sign_front (cond (b && true) (Some WriteBorrow)
    (cond (nat_eq 126 next && true) (Some Reborrow) (Some ReadBorrow)))) parts.0
    ∙ ap (λ b. sign_front (cond (b && true) (Some Reborrow) (Some ReadBorrow))) parts.1
front_sign Exclamation rest h = refl
front_sign Plus rest h = refl
front_sign Minus [] h = refl
front_sign Minus (next ∷ rest) h =
    let parts = or_parts _ _ h in
    ap (λ b. cond (b && true) (piece (comment_size (45 ∷ next ∷ rest)) None)
    (sign_front (cond (nat_eq 62 next && true) (Some Arrow) (Some Minus)))) parts.1
    ∙ ap (λ b. sign_front (cond (b && true) (Some Arrow) (Some Minus))) parts.0
front_sign Star rest h = refl
front_sign Slash [] h = refl
front_sign Slash (next ∷ rest) h = ap (λ b. sign_front (cond (b && true) (Some NotEqual) (Some Slash))) h
front_sign Equal [] h = refl
front_sign Equal (next ∷ rest) h = ap (λ b. sign_front (cond (b && true) (Some FatArrow) (Some Equal))) h
front_sign Less [] h = refl
front_sign Less (next ∷ rest) h = ap (λ b. sign_front (cond (b && true) (Some LessEqual) (Some Less))) h
front_sign Greater [] h = refl
front_sign Greater (next ∷ rest) h = ap (λ b. sign_front (cond (b && true) (Some GreaterEqual) (Some Greater))) h

-- a piece is read again
pub front_again : (found : Piece) (rest : List ℕ) → IsPiece found → Apart found rest →
    front (spelling found ++ rest) ≡ piece (length (spelling found)) (what_of found)
front_again (blank byte) rest known h = front_same byte rest ∙ cond-true _ _ _ known
front_again (comment bytes) rest known h =
    front_same 45 (45 ∷ bytes ++ rest)
    ∙ ap (λ n. piece n None) (run_ends (λ byte. not (is_newline byte)) (45 ∷ 45 ∷ bytes) rest known (no_newline bytes rest h))
front_again (docstring inside) rest known h =
    let size : length inside + 3 + 3 ≡ length (spelling (docstring inside)) =
    omega (arith, length-append inside three_quotes) in
    front_same 34 (34 ∷ 34 ∷ (inside ++ three_quotes) ++ rest)
    ∙ ap docstring_front (docstring_again inside rest known) ∙ ap (λ n. piece n None) size
front_again (number digits) rest known h = front_number digits rest known (no_digit digits rest h)
front_again (token (Word keyword)) rest known h =
    front_word (keyword_spelling keyword) rest (keyword_word keyword) (no_word keyword rest h)
    ∙ ap (λ o. piece (length (keyword_spelling keyword)) (Some (word_what (keyword_spelling keyword) o)))
    (keyword_again keyword)
front_again (token (Sign sign)) rest known h = front_sign sign rest h
front_again (token (Name name)) rest known h =
    front_word name rest known.0 (no_name name rest h)
    ∙ ap (λ o. piece (length name) (Some (word_what name o))) (keyword_none name known.1)
front_again (token (Number value digits)) rest known h = absurd known
front_again (token (Text text)) rest known h =
    let size : length (written text) + 1 + 1 ≡ length (spelling (token (Text text))) =
    omega (arith, length-append (written text) (34 ∷ [])) in
    ap (λ b. front (34 ∷ b)) (append_assoc (written text) (34 ∷ []) rest)
    ∙ front_same 34 (written text ++ 34 ∷ rest) ∙ cond-false _ _ _ (no_quotes text rest known h)
    ∙ ap text_front (text_again text rest known) ∙ ap (λ n. piece n (Some (Text text))) size

-- what can begin where a text does
no_text : (found : Piece) (rest : List ℕ) → IsPiece found → Apart found rest →
    starts_with nat_eq (spelling found ++ rest) three_quotes ≡ true → IsText found → ⊥
no_text (blank byte) rest known h quotes is = is
no_text (comment bytes) rest known h quotes is = is
no_text (docstring inside) rest known h quotes is = is
no_text (number digits) rest known h quotes is = is
no_text (token (Word keyword)) rest known h quotes is = is
no_text (token (Sign sign)) rest known h quotes is = is
no_text (token (Name name)) rest known h quotes is = is
no_text (token (Number value digits)) rest known h quotes is = is
no_text (token (Text text)) rest known h quotes is =
    both_ways _ (ap (λ b. starts_with nat_eq (34 ∷ b) three_quotes) (append_assoc (written text) (34 ∷ []) rest)
    ∙ no_quotes text rest known h) quotes

-- A piece stands where it is spelled, if what follows doesn't go on with it.
pub stands_again : (found : Piece) (rest : List ℕ) → IsPiece found → Apart found rest →
    Stands found (spelling found ++ rest)
stands_again found rest known h = record {
  begins = record { known = known; front = (rest, refl); no_docstring = λ quotes is. no_text found rest known h quotes is };
  longest = λ other begins. bound other begins;
}
  where
    bound : (other : Piece) → Begins other (spelling found ++ rest) → length (spelling other) ≤ length (spelling found)
    bound other begins =
        let some = begins_found (spelling found ++ rest) other begins in
        let e : piece some.0 some.1 ≡ piece (length (spelling found)) (what_of found) =
        sym some.2 ∙ front_again found rest known h in
        let same : some.0 ≡ length (spelling found) = cc in
        elim some.3 [ inl w ↦ omega (arith, w.0) | inr lt ↦ omega arith ]
