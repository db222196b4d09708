-- What stands at the front of bytes: the longest piece that begins there.
use Rattle.std.proofs.Common.{◌≡◌, ◌≢◌, ℕ, suc, ◌+◌, ◌<◌, ◌≤◌, Bool, true, false, not, cond, ◌==◌, nat_eq}
use Rattle.std.proofs.Common.{List, [], ◌∷◌, ◌++◌, length, take, drop, Option, Some, None, Result, Ok, Err}
use Rattle.std.proofs.Common.{ap, ◌∙◌, sym, refl, subst, ◌⊎◌, inl, inr, arith, append_assoc, length-append}
use Rattle.std.specs.List.{list_all, prefix_len, starts_with}
use Rattle.std.proofs.Math.Seq.{take-append-add}
use Rattle.std.proofs.lemmas.List.{append-nil, take-append-drop, length-take-le}
use Rattle.std.proofs.lemmas.Bool.{and_parts, and_left, or_left, both_ways, ne_eqb, eqb-false, eqb-true}
use Rattle.std.proofs.lemmas.Bool.{cases_eq, cases_Bool, and_from, cond-true, cond-false}
use Rattle.std.proofs.lemmas.Bool.Decides.{nat_tests}
use Rattle.std.proofs.lemmas.List.Sums.{prefix_len-le-length}
use Rattle.au_base.specs.declared.tokens.Keyword.{Keyword}
use Rattle.au_base.specs.declared.tokens.Sign.{Sign as SignOf}
use Rattle.au_base.specs.declared.tokens.What.{What}
use Rattle.au_base.specs.declared.tokens.What.TheVariants.{Word, Sign, Name, Number, Text}
use Rattle.au_base.specs.Places.{is_newline}
use Rattle.au_base.specs.Tokens.{keyword_spelling, sign_spelling}
use Rattle.au_base.proofs.BoolLemmas.{cond_cases}
use Rattle.au_lexer.specs.Bytes.{is_space, is_letter, is_digit, is_name_byte, is_text_byte}
use Rattle.au_lexer.specs.Pieces.{Piece, blank, comment, docstring, number, token, three_quotes}
use Rattle.au_lexer.specs.Pieces.{has_three_quotes, spelling, IsWord, IsNumber, number_of, what_of}
use Rattle.au_lexer.specs.Cut.{Begins}
use Rattle.au_lexer.specs.declared.pieces.Found.{Found}
use Rattle.au_lexer.specs.declared.pieces.Stop.{Stop}
use Rattle.au_lexer.specs.declared.pieces.Stop.TheVariants.{Stray, Passes, Memory}
use Rattle.au_lexer.specs.Reading.{Reads, FindsPiece, IsLongest, Front, piece, stray, front, front_from}
use Rattle.au_lexer.specs.Reading.{number_front, digits_at, docstring_front, docstring_size, word_front}
use Rattle.au_lexer.specs.Reading.{word_what, word_at, text_front, text_at, sign_front, sign_of, keyword_of}
use Rattle.au_lexer.specs.Reading.{is_comment, comment_size}
use Rattle.au_lexer.proofs.RunLemmas.{prefix_pass, prefix_all}
use Rattle.au_lexer.proofs.WordLemmas.{keyword_found, keyword_none, keyword_again, keyword_word}
use Rattle.au_lexer.proofs.StringLemmas.{text_again, text_found, written}
use Rattle.au_lexer.proofs.DocstringLemmas.{docstring_again, docstring_found}
use Rattle.au_lexer.proofs.SignLemmas.{begun, begins_so, sign_mark, sign_begins, sign_found, sign_of_comment}

-- What is found where a piece begins: that piece, or a longer one.
abbrev pub Finds : Front → Piece → Type 0
Finds read other =
    (size : ℕ) × (what : Option What) × (read ≡ piece size what)
    × (((length (spelling other) ≡ size) × (what_of other ≡ what)) ⊎ (length (spelling other) < size))

front_is : (first : ℕ) (rest : List ℕ) → front (first ∷ rest) ≡ front_from first (first ∷ rest)
unfolding front
front_is first rest = refl

-- finding in bytes that are given in another way
finds_in : (bytes same : List ℕ) (other : Piece) → bytes ≡ same → Finds (front same) other → Finds (front bytes) other
finds_in bytes same other e found = subst (λ b. Finds (front b) other) (sym e) found

finds_as : (read same : Front) (other : Piece) → read ≡ same → Finds same other → Finds read other
finds_as read same other e found = subst (λ r. Finds r other) (sym e) found

finds_blank : (byte : ℕ) (rest : List ℕ) → is_space byte ≡ true → Finds (front (byte ∷ rest)) (blank byte)
finds_blank byte rest h = (1, None, front_is byte rest ∙ cond-true _ _ _ h, inl (refl, refl))

-- a run that goes on behind what is given is longer
more_or_none : (m n : ℕ) → (m ≡ 0) ⊎ (n < n + m)
more_or_none m n = elim (cases_eq m 0) [ inl e ↦ inl e | inr some ↦ inr (omega arith) ]

finds_comment : (bytes rest : List ℕ) → list_all (λ byte. not (is_newline byte)) bytes ≡ true →
    Finds (front (45 ∷ 45 ∷ bytes ++ rest)) (comment bytes)
finds_comment bytes rest h =
    let m : ℕ = prefix_len (λ byte. not (is_newline byte)) rest in
    let size : comment_size (45 ∷ 45 ∷ bytes ++ rest) ≡ 1 + (1 + (length bytes + m)) =
    ap (λ n. 1 + (1 + n)) (prefix_pass (λ byte. not (is_newline byte)) bytes rest h) in
    finds_as _ _ (comment bytes) (front_is 45 (45 ∷ bytes ++ rest)) (
      comment_size (45 ∷ 45 ∷ bytes ++ rest),
      None,
      refl,
      elim (more_or_none m (length bytes)) [ inl e ↦ inl (omega arith, refl) | inr lt ↦ inr (omega arith) ],
    )

letter_no_space : (byte : ℕ) → is_letter byte ≡ true → is_space byte ≡ false
letter_no_space byte h = grind (arith, nat_tests)

-- the word that bytes begin with is read
front_word : (word rest : List ℕ) → IsWord word → front (word ++ rest)
    ≡ word_front (word ++ take (prefix_len is_name_byte rest) rest)
front_word [] rest h = absurd h
front_word (first ∷ word) rest h =
    let name_byte : is_name_byte first ≡ true = or_left _ _ (or_left _ _ h.0) in
    let all : list_all is_name_byte (first ∷ word) ≡ true = and_from _ _ name_byte h.1 in
    let at : word_at (first ∷ word ++ rest) ≡ first ∷ word ++ take (prefix_len is_name_byte rest) rest =
    ap (λ n. take n (first ∷ word ++ rest)) (prefix_pass is_name_byte (first ∷ word) rest all)
    ∙ take-append-add (first ∷ word) rest (prefix_len is_name_byte rest) in
    front_is first (word ++ rest) ∙ cond-false _ _ _ (letter_no_space first h.0) ∙ cond-true _ _ _ h.0
    ∙ ap word_front at

-- a word is found where it begins, or a longer one
finds_word : (word rest : List ℕ) (what : What) → IsWord word → word_what word (keyword_of word) ≡ what →
    spelling (token what) ≡ word → Finds (front (word ++ rest)) (token what)
finds_word word rest what h is spelled =
    let m : ℕ = prefix_len is_name_byte rest in
    let whole : List ℕ = word ++ take m rest in
    let size : length whole ≡ length word + m = length-append word (take m rest)
    ∙ ap (λ n. length word + n) (length-take-le m rest (prefix_len-le-length is_name_byte rest)) in
    let long : length (spelling (token what)) ≡ length word = ap length spelled in
    finds_as _ _ (token what) (front_word word rest h) (
      length whole,
      Some (word_what whole (keyword_of whole)),
      refl,
      elim (more_or_none m (length word)) [
        | inl e ↦
            let same : whole ≡ word = ap (λ n. word ++ take n rest) e ∙ append-nil word in
            inl (omega arith, ap Some (sym (ap (λ w. word_what w (keyword_of w)) same ∙ is)))
        | inr lt ↦ inr (omega arith)
      ],
    )

-- a digit is neither a blank nor a letter
digit_first : (byte : ℕ) → is_digit byte ≡ true → (is_space byte ≡ false) × (is_letter byte ≡ false)
digit_first byte digit = (grind (arith, nat_tests), grind (arith, nat_tests))

-- the number that bytes begin with is read
front_number : (digits rest : List ℕ) → IsNumber digits → front (digits ++ rest)
    ≡ number_front (digits ++ take (prefix_len is_digit rest) rest)
front_number [] rest h = absurd (h.0 refl)
front_number (first ∷ digits) rest h =
    let digit : is_digit first ≡ true = (and_parts (is_digit first) (list_all is_digit digits) h.1).0 in
    let at : digits_at (first ∷ digits ++ rest) ≡ first ∷ digits ++ take (prefix_len is_digit rest) rest =
    ap (λ n. take n (first ∷ digits ++ rest)) (prefix_pass is_digit (first ∷ digits) rest h.1)
    ∙ take-append-add (first ∷ digits) rest (prefix_len is_digit rest) in
    let apart = digit_first first digit in
    front_is first (digits ++ rest) ∙ cond-false _ _ _ apart.0 ∙ cond-false _ _ _ apart.1
    ∙ cond-true _ _ _ digit ∙ ap number_front at

-- a number is found where it begins, or a longer one
finds_number : (digits rest : List ℕ) → IsNumber digits → Finds (front (digits ++ rest)) (number digits)
finds_number digits rest h =
    let m : ℕ = prefix_len is_digit rest in
    let whole : List ℕ = digits ++ take m rest in
    let size : length whole ≡ length digits + m = length-append digits (take m rest)
    ∙ ap (λ n. length digits + n) (length-take-le m rest (prefix_len-le-length is_digit rest)) in
    finds_as _ _ (number digits) (front_number digits rest h) (
      length whole,
      Some (number_of whole),
      refl,
      elim (more_or_none m (length digits)) [
        | inl e ↦
            let same : whole ≡ digits = ap (λ n. digits ++ take n rest) e ∙ append-nil digits in
            inl (omega arith, ap (λ d. Some (number_of d)) (sym same))
        | inr lt ↦ inr (omega arith)
      ],
    )

-- a docstring is found where it begins
finds_docstring : (inside rest : List ℕ) → has_three_quotes (inside ++ 34 ∷ 34 ∷ []) ≡ false →
    Finds (front (three_quotes ++ inside ++ three_quotes ++ rest)) (docstring inside)
finds_docstring inside rest h =
    let size : length (spelling (docstring inside)) ≡ length inside + 3 + 3 =
    omega (arith, length-append inside three_quotes) in (
      length inside + 3 + 3,
      None,
      front_is 34 (34 ∷ 34 ∷ inside ++ three_quotes ++ rest) ∙ ap docstring_front (docstring_again inside rest h),
      inl (size, refl),
    )

-- bytes that begin with no quote
no_quotes : (first : ℕ) (rest : List ℕ) → nat_eq first 34 ≡ false →
    starts_with nat_eq (first ∷ rest) three_quotes ≡ false
no_quotes first rest h = and_left _ _ (ne_eqb 34 first (λ e. eqb-false first 34 h (sym e)))

-- the front of bytes that begin with none of the other kinds
front_mark : (first : ℕ) (rest : List ℕ) → is_space first ≡ false → is_letter first ≡ false →
    is_digit first ≡ false → nat_eq first 34 ≡ false →
    front (first ∷ rest) ≡ cond (is_comment (first ∷ rest)) (piece (comment_size (first ∷ rest)) None)
    (sign_front (sign_of (first ∷ rest)))
front_mark first rest space letter digit quote =
    front_is first rest ∙ cond-false _ _ _ space ∙ cond-false _ _ _ letter ∙ cond-false _ _ _ digit
    ∙ cond-false _ _ _ (no_quotes first rest quote) ∙ cond-false _ _ _ quote

comment_long : (bytes : List ℕ) → is_comment bytes ≡ true → 1 < comment_size bytes
comment_long bytes h =
    let e = begun bytes (45 ∷ 45 ∷ []) h in
    subst (λ b. 1 < comment_size b) (sym e) (omega arith)

finds_sign : (bytes rest : List ℕ) (sign : SignOf) → bytes ≡ sign_spelling sign ++ rest →
    Finds (front bytes) (token (Sign sign))
finds_sign bytes rest sign h =
    let mark = sign_mark sign in
    let is : bytes ≡ mark.first ∷ (mark.rest ++ rest) = h ∙ ap (λ s. s ++ rest) mark.is in
    let same : front bytes ≡ cond (is_comment bytes) (piece (comment_size bytes) None) (sign_front (sign_of bytes)) =
    subst (λ b. front b ≡ cond (is_comment b) (piece (comment_size b) None) (sign_front (sign_of b))) (sym is)
    (front_mark mark.first (mark.rest ++ rest) mark.no_space mark.no_letter mark.no_digit mark.no_quote) in
    elim (cases_Bool (is_comment bytes)) [
      | inl is_one ↦ (
        comment_size bytes,
        None,
        same ∙ cond-true _ _ _ is_one,
        inr (omega (arith, comment_long bytes is_one, sign_of_comment bytes rest sign h is_one)),
      )
      | inr is_none ↦
          let found = sign_begins bytes sign (begins_so bytes (sign_spelling sign) rest h) in (
            length (sign_spelling found.0),
            Some (Sign found.0),
            same ∙ cond-false _ _ _ is_none ∙ ap sign_front found.1,
            elim found.2 [
              | inl e ↦ inl (ap (λ s. length (sign_spelling s)) e, ap (λ s. Some (Sign s)) e)
              | inr
                  lt ↦ inr lt
            ],
          )
    ]

finds_text : (text rest : List ℕ) → list_all is_text_byte text ≡ true →
    (starts_with nat_eq (34 ∷ written text ++ 34 ∷ rest) three_quotes ≡ true → ⊥) →
    Finds (front (34 ∷ written text ++ 34 ∷ rest)) (token (Text text))
finds_text text rest h apart =
    let quotes : starts_with nat_eq (34 ∷ written text ++ 34 ∷ rest) three_quotes ≡ false =
    elim (cases_Bool (starts_with nat_eq (34 ∷ written text ++ 34 ∷ rest) three_quotes))
    [ inl are ↦ absurd (apart are) | inr e ↦ e ] in
    let size : length (spelling (token (Text text))) ≡ length (written text) + 1 + 1 =
    omega (arith, length-append (written text) (34 ∷ [])) in (
      length (written text) + 1 + 1,
      Some (Text text),
      front_is 34 (written text ++ 34 ∷ rest) ∙ cond-false _ _ _ quotes
          ∙ ap text_front (text_again text rest h),
      inl (size, refl),
    )

-- Where a piece begins, it or a longer one is found.
pub begins_found : (bytes : List ℕ) (other : Piece) → Begins other bytes → Finds (front bytes) other
begins_found bytes (blank byte) begins = finds_in _ _ (blank byte) begins.front.1
    (finds_blank byte begins.front.0 begins.known)
begins_found bytes (comment text) begins = finds_in _ _ (comment text) begins.front.1
    (finds_comment text begins.front.0 begins.known)
begins_found bytes (docstring inside) begins =
    finds_in _ _ (docstring inside) begins.front.1 (finds_docstring inside begins.front.0 begins.known)
begins_found bytes (number digits) begins = finds_in _ _ (number digits) begins.front.1
    (finds_number digits begins.front.0 begins.known)
begins_found bytes (token (Number value digits)) begins = absurd begins.known
begins_found bytes (token (Word keyword)) begins =
    finds_in _ _ (token (Word keyword)) begins.front.1
    (finds_word (keyword_spelling keyword) begins.front.0 (Word keyword) (keyword_word keyword)
    (ap (word_what (keyword_spelling keyword)) (keyword_again keyword)) refl)
begins_found bytes (token (Sign sign)) begins = finds_sign bytes begins.front.0 sign begins.front.1
begins_found bytes (token (Name name)) begins =
    finds_in _ _ (token (Name name)) begins.front.1
    (finds_word name begins.front.0 (Name name) begins.known.0
    (ap (word_what name) (keyword_none name begins.known.1)) refl)
begins_found bytes (token (Text text)) begins =
    let is : bytes ≡ 34 ∷ written text ++ 34 ∷ begins.front.0 = begins.front.1
    ∙ ap (λ b. 34 ∷ b) (append_assoc (written text) (34 ∷ []) begins.front.0) in
    finds_in _ _ (token (Text text)) is
    (finds_text text begins.front.0 begins.known
    (λ quotes. begins.no_docstring (ap (λ b. starts_with nat_eq b three_quotes) is ∙ quotes) tt))

-- A piece of this size and with this token begins the bytes.
pub record IsFound (bytes : List ℕ) (size : ℕ) (what : Option What) : Type 0 where
  pub found : Piece
  pub begins : Begins found bytes
  pub sized : length (spelling found) ≡ size
  pub meant : what_of found ≡ what

found_as : (bytes : List ℕ) (a size : ℕ) (b what : Option What) → piece a b ≡ piece size what →
    IsFound bytes a b → IsFound bytes size what
found_as bytes a size b what e found = record {
  found = found.found;
  begins = found.begins;
  sized = (let h : a ≡ size = cc in found.sized ∙ h);
  meant = (let h : b ≡ what = cc in found.meant ∙ h);
}

found_blank : (first : ℕ) (rest : List ℕ) → is_space first ≡ true → IsFound (first ∷ rest) 1 None
found_blank first rest h = record {
  found = blank first;
  begins = record { known = h; front = (rest, refl); no_docstring = λ _ t. t };
  sized =
      refl;
  meant = refl;
}

-- no keyword is spelled as a word that is none
none_so : (word : List ℕ) (keyword : Keyword) → keyword_of word ≡ None → keyword_spelling keyword ≡ word → ⊥
none_so word keyword e h = let again : keyword_of word ≡ Some keyword = ap keyword_of (sym h)
    ∙ keyword_again keyword in cc

-- a word is a keyword or a name
word_is : (bytes word rest : List ℕ) (o : Option Keyword) → keyword_of word ≡ o → bytes ≡ word ++ rest →
    IsWord word → IsFound bytes (length word) (Some (word_what word o))
word_is bytes word rest None e whole is_word = record {
  found = token (Name word);
  begins = record {
    known = (is_word, λ keyword h. none_so word keyword e h);
    front =
        (rest, whole);
    no_docstring = λ _ t. t;
  };
  sized = refl;
  meant = refl;
}
word_is bytes word rest (Some keyword) e whole is_word =
    let same = keyword_found word keyword e in
    record {
      found = token (Word keyword);
      begins = record { known = tt; front = (rest, whole ∙ ap (λ w. w ++ rest) (sym same)); no_docstring = λ _ t. t };
      sized = ap length same;
      meant = refl;
    }

found_word : (first : ℕ) (rest : List ℕ) → is_letter first ≡ true → (size : ℕ) (what : Option What) →
    word_front (word_at (first ∷ rest)) ≡ piece size what → IsFound (first ∷ rest) size what
found_word first rest h size what e =
    let bytes : List ℕ = first ∷ rest in
    let m : ℕ = prefix_len is_name_byte rest in
    let word : List ℕ = first ∷ take m rest in
    let name_byte : is_name_byte first ≡ true = or_left _ _ (or_left _ _ h) in
    let at : word_at bytes ≡ word =
    ap (λ n. take n bytes) (cond-true (is_name_byte first) (1 + m) 0 name_byte
    ∙ (let g : 1 + m ≡ suc m = omega arith in g)) in
    let whole : bytes ≡ word ++ drop m rest = ap (λ r. first ∷ r) (sym (take-append-drop m rest)) in
    let read : piece (length word) (Some (word_what word (keyword_of word))) ≡ piece size what =
    sym (ap word_front at) ∙ e in
    found_as bytes (length word) size (Some (word_what word (keyword_of word))) what read
    (word_is bytes word (drop m rest) (keyword_of word) refl whole (h, prefix_all is_name_byte rest))

found_number : (first : ℕ) (rest : List ℕ) → is_digit first ≡ true → (size : ℕ) (what : Option What) →
    number_front (digits_at (first ∷ rest)) ≡ piece size what → IsFound (first ∷ rest) size what
found_number first rest h size what e =
    let bytes : List ℕ = first ∷ rest in
    let m : ℕ = prefix_len is_digit rest in
    let digits : List ℕ = first ∷ take m rest in
    let at : digits_at bytes ≡ digits =
    ap (λ n. take n bytes) (cond-true (is_digit first) (1 + m) 0 h
    ∙ (let g : 1 + m ≡ suc m = omega arith in g)) in
    let whole : bytes ≡ digits ++ drop m rest = ap (λ r. first ∷ r) (sym (take-append-drop m rest)) in
    let read : piece (length digits) (Some (number_of digits)) ≡ piece size what = sym (ap number_front at) ∙ e in
    let some : digits ≢ [] = λ f. (let g : first ∷ take m rest ≡ [] = f in cc) in
    found_as bytes (length digits) size (Some (number_of digits)) what read (record {
      found = number digits;
      begins = record {
        known = (some, and_from (is_digit first) _ h (prefix_all is_digit rest));
        front =
            (drop m rest, whole);
        no_docstring = λ _ t. t;
      };
      sized = refl;
      meant = refl;
    })

found_docstring : (bytes : List ℕ) (o : Option ℕ) (size : ℕ) (what : Option What) →
    docstring_size (drop 3 bytes) ≡ o → starts_with nat_eq bytes three_quotes ≡ true →
    docstring_front o ≡ piece size what → IsFound bytes size what
found_docstring bytes None size what e quotes h = cc
found_docstring bytes (Some through) size what e quotes h =
    let read = docstring_found (drop 3 bytes) through e in
    let whole : bytes ≡ (three_quotes ++ read.inside ++ three_quotes) ++ read.rest =
    begun bytes three_quotes quotes ∙ ap (λ b. three_quotes ++ b) read.spelled in
    found_as bytes (through + 3) size None what h (record {
      found = docstring read.inside;
      begins = record { known = read.known; front = (read.rest, whole); no_docstring = λ _ t. t };
      sized = (let s = read.sized in let l = length-append read.inside three_quotes in omega arith);
      meant = refl;
    })

found_text : (rest : List ℕ) (o : Option (List ℕ × ℕ)) (size : ℕ) (what : Option What) → text_at false rest
    ≡ o → starts_with nat_eq (34 ∷ rest) three_quotes ≡ false → text_front o ≡ piece size what →
    IsFound (34 ∷ rest) size what
found_text rest None size what e quotes h = cc
found_text rest (Some text) size what e quotes h =
    let read = text_found rest text e in
    let whole : 34 ∷ rest ≡ (34 ∷ written text.0 ++ 34 ∷ []) ++ read.rest =
    ap (λ b. 34 ∷ b) (read.spelled ∙ sym (append_assoc (written text.0) (34 ∷ []) read.rest)) in
    found_as (34 ∷ rest) (text.1 + 1) size (Some (Text text.0)) what h (record {
      found = token (Text text.0);
      begins = record {
        known = read.meant;
        front = (read.rest, whole);
        no_docstring =
            λ are _. both_ways _ quotes are;
      };
      sized = (let s = read.sized in let l = length-append (written text.0) (34 ∷ []) in omega arith);
      meant = refl;
    })

found_comment : (bytes : List ℕ) (size : ℕ) (what : Option What) → is_comment bytes ≡ true →
    piece (comment_size bytes) None ≡ piece size what → IsFound bytes size what
found_comment bytes size what h e =
    let line : ℕ → Bool = λ byte. not (is_newline byte) in
    let rest : List ℕ = drop 2 bytes in
    let m : ℕ = prefix_len line rest in
    let is : bytes ≡ 45 ∷ 45 ∷ rest = begun bytes (45 ∷ 45 ∷ []) h in
    let sized : comment_size bytes ≡ suc (suc m) = ap comment_size is
    ∙ (let g : 1 + (1 + m) ≡ suc (suc m) = omega arith in g) in
    found_as bytes (comment_size bytes) size None what e (record {
      found = comment (take m rest);
      begins = record {
        known = prefix_all line rest;
        front =
            (drop m rest, is ∙ ap (λ r. 45 ∷ 45 ∷ r) (sym (take-append-drop m rest)));
        no_docstring = λ _ t. t;
      };
      sized = ap (λ n. suc (suc n)) (length-take-le m rest (prefix_len-le-length line rest)) ∙ sym sized;
      meant = refl;
    })

found_sign : (bytes : List ℕ) (o : Option SignOf) (size : ℕ) (what : Option What) → sign_of bytes ≡ o →
    sign_front o ≡ piece size what → IsFound bytes size what
found_sign bytes None size what e h = cc
found_sign bytes (Some sign) size what e h =
    found_as bytes (length (sign_spelling sign)) size (Some (Sign sign)) what h (record {
      found = token (Sign sign);
      begins = record {
        known = tt;
        front = (
          drop (length (sign_spelling sign)) bytes,
          begun bytes (sign_spelling sign) (sign_found bytes sign e),
        );
        no_docstring = λ _ t. t;
      };
      sized = refl;
      meant = refl;
    })

-- What is found begins there.
pub found_begins : (first : ℕ) (rest : List ℕ) (size : ℕ) (what : Option What) → front (first ∷ rest)
    ≡ piece size what → IsFound (first ∷ rest) size what
found_begins first rest size what h =
    let bytes : List ℕ = first ∷ rest in
    let p : Front = piece size what in
    elim (cond_cases (is_space first) _ _ p (sym (front_is first rest) ∙ h)) [
      | inl w ↦ found_as bytes 1 size None what w.1 (found_blank first rest w.0)
      | inr w ↦ elim (cond_cases (is_letter first) _ _ p w.1) [
        | inl w ↦ found_word first rest w.0 size what w.1
        | inr w ↦ elim (cond_cases (is_digit first) _ _ p w.1) [
          | inl w ↦ found_number first rest w.0 size what w.1
          | inr w ↦ elim (cond_cases (starts_with nat_eq bytes three_quotes) _ _ p w.1) [
            | inl w ↦ found_docstring bytes (docstring_size (drop 3 bytes)) size what refl w.0 w.1
            | inr v ↦ elim (cond_cases (first == 34) _ _ p v.1) [
              | inl w ↦
                  let is = eqb-true first 34 w.0 in
                  subst (λ f. IsFound (f ∷ rest) size what) (sym is)
                  (found_text rest (text_at false rest) size what refl
                  (subst (λ f. starts_with nat_eq (f ∷ rest) three_quotes ≡ false) is v.0) w.1)
              | inr w ↦ elim (cond_cases (is_comment bytes) _ _ p w.1) [
                | inl w ↦ found_comment bytes size what w.0 w.1
                | inr w ↦ found_sign bytes (sign_of bytes) size what refl w.1
              ]
            ]
          ]
        ]
      ]
    ]

-- What is found is the longest piece that begins there.
pub longest_found : (first : ℕ) (rest : List ℕ) (size : ℕ) (what : Option What) → front (first ∷ rest)
    ≡ piece size what → IsLongest (first ∷ rest) size what
longest_found first rest size what h =
    let found = found_begins first rest size what h in
    record {
      found = found.found;
      stands = record { begins = found.begins; longest = λ other begins. bound other begins };
      sized = found.sized;
      meant = found.meant;
    }
  where
    bound : (other : Piece) → Begins other (first ∷ rest) → length (spelling other)
        ≤ length (spelling (found_begins first rest size what h).found)
    bound other begins =
        let some = begins_found (first ∷ rest) other begins in
        let e : piece some.0 some.1 ≡ piece size what = sym some.2 ∙ h in
        let same : some.0 ≡ size = cc in
        let sized = (found_begins first rest size what h).sized in
        elim some.3 [ inl w ↦ omega (arith, w.0) | inr lt ↦ omega arith ]

-- Where nothing is read, no piece begins.
none_begins : (bytes : List ℕ) → front bytes ≡ stray → (other : Piece) → Begins other bytes → ⊥
none_begins bytes h other begins =
    let some = begins_found bytes other begins in
    let e : stray ≡ piece some.0 some.1 = sym h ∙ some.2 in
    cc

-- a list that isn't empty
pub split_first : (bytes : List ℕ) → 0 < length bytes → (first : ℕ) × (rest : List ℕ) × (bytes ≡ first ∷ rest)
split_first [] h = absurd (omega arith)
split_first (first ∷ rest) h = (first, rest, refl)

-- What is read is what the definitions say of the bytes.
pub finds_read : (before : ℕ) (bytes : List ℕ) → 0 < length bytes → (answer : Result Found Stop) →
    Reads before answer (front bytes) → FindsPiece before answer bytes
finds_read before bytes some answer reads =
    let split = split_first bytes some in
    subst (FindsPiece before answer) (sym split.2)
    (from split.0 split.1 answer (subst (λ b. Reads before answer (front b)) split.2 reads))
  where
    from : (first : ℕ) (rest : List ℕ) (answer : Result Found Stop) →
        Reads before answer (front (first ∷ rest)) → FindsPiece before answer (first ∷ rest)
    from first rest (Ok found) reads = (longest_found first rest found.size found.what reads.0, reads.1)
    from first rest (Err Stray) reads = none_begins (first ∷ rest) reads
    from first rest (Err (Passes limit)) reads =
        let longest = longest_found first rest reads.0 (Some reads.1) reads.2 in
        record {
          found = longest.found;
          stands = longest.stands;
          what = reads.1;
          meant =
              longest.meant;
          passes = reads.3;
        }
    from first rest (Err Memory) reads = tt
