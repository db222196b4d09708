-- Keywords and names.
use Rattle.std.proofs.Common.{◌≡◌, ◌≢◌, ℕ, List, [], ◌∷◌, Some, None, refl, subst, inl, inr}
use Rattle.std.specs.Str.{bytes_eq}
use Rattle.std.proofs.lemmas.Slice.Eq.{bytes_eq-Decides}
use Rattle.au_base.specs.declared.tokens.Keyword.{Keyword}
use Rattle.au_base.specs.declared.tokens.Keyword.TheVariants.{KwModule, KwBody, KwIs, KwEnd, KwImport, KwAs}
use Rattle.au_base.specs.declared.tokens.Keyword.TheVariants.{KwPragma, KwConstant, KwType, KwRecord, KwUnion}
use Rattle.au_base.specs.declared.tokens.Keyword.TheVariants.{KwCase, KwWhen, KwOf, KwDo, KwFunction}
use Rattle.au_base.specs.declared.tokens.Keyword.TheVariants.{KwGeneric, KwTypeclass, KwInstance, KwMethod}
use Rattle.au_base.specs.declared.tokens.Keyword.TheVariants.{KwLet, KwVar, KwIf, KwThen, KwElse, KwWhile}
use Rattle.au_base.specs.declared.tokens.Keyword.TheVariants.{KwFor, KwFrom, KwTo, KwBorrow, KwIn, KwReturn}
use Rattle.au_base.specs.declared.tokens.Keyword.TheVariants.{KwSkip, KwNil, KwTrue, KwFalse, KwAnd, KwOr}
use Rattle.au_base.specs.declared.tokens.Keyword.TheVariants.{KwNot, KwFree, KwLinear, KwAnyUniverse}
use Rattle.au_base.specs.declared.tokens.Keyword.TheVariants.{KwRegion}
use Rattle.au_base.specs.Tokens.{keywords, keyword_spelling}
use Rattle.au_base.proofs.BoolLemmas.{cond_cases}
use Rattle.au_lexer.specs.Pieces.{IsWord}
use Rattle.au_lexer.specs.Reading.{first_spelled, keyword_of}

-- the keyword that is found is spelled so
first_spelled_is : (table : List Keyword) (word : List ℕ) (keyword : Keyword) → first_spelled table word
    ≡ Some keyword → keyword_spelling keyword ≡ word
first_spelled_is [] word keyword h = cc
first_spelled_is (one ∷ table) word keyword h =
    elim (cond_cases (bytes_eq (keyword_spelling one) word) (Some one) (first_spelled table word)
    (Some keyword) h) [
      | inl w ↦ let same : one ≡ keyword = (let e = w.1 in cc) in subst (λ k. keyword_spelling k ≡ word) same
          ((bytes_eq-Decides (keyword_spelling one) word).0 w.0)
      | inr w ↦ first_spelled_is table word keyword w.1
    ]

pub keyword_found : (word : List ℕ) (keyword : Keyword) → keyword_of word ≡ Some keyword →
    keyword_spelling keyword ≡ word
unfolding keyword_of
keyword_found word keyword h = first_spelled_is keywords word keyword h

-- a word that no keyword is spelled as is none
pub keyword_none : (word : List ℕ) → ((keyword : Keyword) → keyword_spelling keyword ≢ word) → keyword_of word ≡ None
keyword_none word none = elim (keyword_of word) as (λ o. keyword_of word ≡ o → keyword_of word ≡ None)
    [ None ↦ λ e. e | Some k ↦ λ e. absurd (none k (keyword_found word k e)) ] refl

-- each keyword is found by its spelling
pub keyword_again : (keyword : Keyword) → keyword_of (keyword_spelling keyword) ≡ Some keyword
unfolding keyword_of
keyword_again KwModule = refl
keyword_again KwBody = refl
keyword_again KwIs = refl
keyword_again KwEnd = refl
keyword_again KwImport = refl
keyword_again KwAs = refl
keyword_again KwPragma = refl
keyword_again KwConstant = refl
keyword_again KwType = refl
keyword_again KwRecord = refl
keyword_again KwUnion = refl
keyword_again KwCase = refl
keyword_again KwWhen = refl
keyword_again KwOf = refl
keyword_again KwDo = refl
keyword_again KwFunction = refl
keyword_again KwGeneric = refl
keyword_again KwTypeclass = refl
keyword_again KwInstance = refl
keyword_again KwMethod = refl
keyword_again KwLet = refl
keyword_again KwVar = refl
keyword_again KwIf = refl
keyword_again KwThen = refl
keyword_again KwElse = refl
keyword_again KwWhile = refl
keyword_again KwFor = refl
keyword_again KwFrom = refl
keyword_again KwTo = refl
keyword_again KwBorrow = refl
keyword_again KwIn = refl
keyword_again KwReturn = refl
keyword_again KwSkip = refl
keyword_again KwNil = refl
keyword_again KwTrue = refl
keyword_again KwFalse = refl
keyword_again KwAnd = refl
keyword_again KwOr = refl
keyword_again KwNot = refl
keyword_again KwFree = refl
keyword_again KwLinear = refl
keyword_again KwAnyUniverse = refl
keyword_again KwRegion = refl

-- each keyword is a word
pub keyword_word : (keyword : Keyword) → IsWord (keyword_spelling keyword)
keyword_word KwModule = (refl, refl)
keyword_word KwBody = (refl, refl)
keyword_word KwIs = (refl, refl)
keyword_word KwEnd = (refl, refl)
keyword_word KwImport = (refl, refl)
keyword_word KwAs = (refl, refl)
keyword_word KwPragma = (refl, refl)
keyword_word KwConstant = (refl, refl)
keyword_word KwType = (refl, refl)
keyword_word KwRecord = (refl, refl)
keyword_word KwUnion = (refl, refl)
keyword_word KwCase = (refl, refl)
keyword_word KwWhen = (refl, refl)
keyword_word KwOf = (refl, refl)
keyword_word KwDo = (refl, refl)
keyword_word KwFunction = (refl, refl)
keyword_word KwGeneric = (refl, refl)
keyword_word KwTypeclass = (refl, refl)
keyword_word KwInstance = (refl, refl)
keyword_word KwMethod = (refl, refl)
keyword_word KwLet = (refl, refl)
keyword_word KwVar = (refl, refl)
keyword_word KwIf = (refl, refl)
keyword_word KwThen = (refl, refl)
keyword_word KwElse = (refl, refl)
keyword_word KwWhile = (refl, refl)
keyword_word KwFor = (refl, refl)
keyword_word KwFrom = (refl, refl)
keyword_word KwTo = (refl, refl)
keyword_word KwBorrow = (refl, refl)
keyword_word KwIn = (refl, refl)
keyword_word KwReturn = (refl, refl)
keyword_word KwSkip = (refl, refl)
keyword_word KwNil = (refl, refl)
keyword_word KwTrue = (refl, refl)
keyword_word KwFalse = (refl, refl)
keyword_word KwAnd = (refl, refl)
keyword_word KwOr = (refl, refl)
keyword_word KwNot = (refl, refl)
keyword_word KwFree = (refl, refl)
keyword_word KwLinear = (refl, refl)
keyword_word KwAnyUniverse = (refl, refl)
keyword_word KwRegion = (refl, refl)
