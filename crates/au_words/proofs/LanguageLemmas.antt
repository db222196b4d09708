-- The names in words are the names of the language.
use Rattle.std.proofs.Common.{◌≡◌, ◌↔◌, ℕ, Bool, true, false, cond, not, ◌||◌, List, [], ◌∷◌, Option, Some}
use Rattle.std.proofs.Common.{is_some, IsTrue, ap, ◌∙◌, sym, refl}
use Rattle.std.specs.Str.{bytes_eq}
use Rattle.std.proofs.lemmas.Bool.{and_parts, and_from, not-true}
use Rattle.au_base.specs.declared.tokens.Keyword.{Keyword}
use Rattle.au_base.specs.declared.tokens.What.TheVariants.{Name}
use Rattle.au_base.specs.Tokens.{keywords, keyword_spelling}
use Rattle.au_lexer.specs.Bytes.{is_letter}
use Rattle.au_lexer.specs.Pieces.{IsWord, IsToken}
use Rattle.au_lexer.specs.Reading.{first_spelled, keyword_of}
use Rattle.au_lexer.proofs.WordLemmas.{keyword_none, keyword_again}
use Rattle.au_words.specs.Jobs.{is_spelled_as_name, is_spelled_among, is_keyword, is_name}

first_or : (b : Bool) (keyword : Keyword) (other : Option Keyword) → (b || is_some other)
    ≡ is_some (cond b (Some keyword) other)
first_or true keyword other = refl
first_or false keyword other = refl

among_first : (table : List Keyword) (bytes : List ℕ) → is_spelled_among table bytes
    ≡ is_some (first_spelled table bytes)
among_first [] bytes = refl
among_first (keyword ∷ table) bytes =
    ap (λ b. bytes_eq (keyword_spelling keyword) bytes || b) (among_first table bytes)
    ∙ first_or (bytes_eq (keyword_spelling keyword) bytes) keyword (first_spelled table bytes)

keyword_is : (bytes : List ℕ) → is_keyword bytes ≡ is_some (keyword_of bytes)
unfolding is_keyword keyword_of
keyword_is bytes = among_first keywords bytes

word_is : (bytes : List ℕ) → is_spelled_as_name bytes ≡ true → IsWord bytes
word_is [] h = cc
word_is (first ∷ rest) h = and_parts (is_letter first) _ h

is_word : (bytes : List ℕ) → IsWord bytes → is_spelled_as_name bytes ≡ true
is_word [] h = absurd h
is_word (first ∷ rest) h = and_from (is_letter first) _ h.0 h.1

pub names_are_tokens : (bytes : List ℕ) → IsTrue (is_name bytes) ↔ IsToken (Name bytes)
names_are_tokens bytes = (named, again)
  where
    named : IsTrue (is_name bytes) → IsToken (Name bytes)
    named h =
        let parts = and_parts (is_spelled_as_name bytes) (not (is_keyword bytes)) h in (
          word_is bytes parts.0,
          λ keyword e.
              let none : is_keyword bytes ≡ false = not-true (is_keyword bytes) parts.1 in
              let some : is_keyword bytes ≡ true = keyword_is bytes ∙ ap (λ l. is_some (keyword_of l)) (sym e)
              ∙ ap is_some (keyword_again keyword) in
              cc,
        )

    again : IsToken (Name bytes) → IsTrue (is_name bytes)
    again h =
        and_from (is_spelled_as_name bytes) (not (is_keyword bytes)) (is_word bytes h.0)
        (ap not (keyword_is bytes ∙ ap is_some (keyword_none bytes h.1)))
