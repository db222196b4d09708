-- What the first piece of bytes is to the layout, and how long it is.
use Rattle.std.proofs.Common.{◌≡◌, ℕ, ◌+◌, ◌<◌, ◌≤◌, nat_eq, List, [], ◌∷◌, ◌++◌, length}
use Rattle.std.proofs.Common.{take, drop, Option, Some, None, ap, ◌∙◌, sym, refl, subst, inl, inr, arith, length-append}
use Rattle.std.specs.List.{starts_with, flat_map}
use Rattle.std.proofs.lemmas.Bool.{cases_Bool, cond-true, cond-false}
use Rattle.std.proofs.lemmas.List.{take_at}
use Rattle.au_base.specs.declared.tokens.What.{What}
use Rattle.au_base.specs.declared.tokens.What.TheVariants.{Word, Sign, Name, Number, Text}
use Rattle.au_lexer.specs.Bytes.{is_space}
use Rattle.au_lexer.specs.Cut.{Stands}
use Rattle.au_lexer.specs.Pieces.{Piece, blank, comment, docstring, number, token, spelling, what_of, three_quotes}
use Rattle.au_lexer.specs.Pieces.{IsPiece, number_of, byte_spelling}
use Rattle.au_lexer.specs.Reading.{piece, stray, front, front_from, is_comment, comment_size, docstring_size}
use Rattle.au_lexer.specs.Reading.{docstring_front}
use Rattle.au_lexer.proofs.SignLemmas.{begun}
use Rattle.au_lexer.proofs.FrontLemmas.{split_first}
use Rattle.au_format.proofs.StandLemmas.{stands_front}
use Rattle.au_format.specs.declared.fronts.Front.TheVariants as shown
use Rattle.au_format.specs.Fronts.{front_at, front_of, docstring_front as docstring_shown}
use Rattle.au_format.specs.Kinds.{spelled_size}

-- a piece lies within the bytes that it stands at the front of
pub stands_within : (bytes : List ℕ) (found : Piece) → Stands found bytes → length (spelling found) ≤ length bytes
stands_within bytes found stands =
    let front = stands.begins.front in
    omega (arith, ap length front.1, length-append (spelling found) front.0)

pub stands_spelled : (bytes : List ℕ) (found : Piece) → Stands found bytes →
    take (length (spelling found)) bytes ≡ spelling found
stands_spelled bytes found stands =
    let front = stands.begins.front in
    ap (take (length (spelling found))) front.1 ∙ take_at (spelling found) front.0 (length (spelling found)) refl

front_same : (first : ℕ) (rest : List ℕ) → front (first ∷ rest) ≡ front_from first (first ∷ rest)
unfolding front
front_same first rest = refl

-- no token is read where nothing that is one begins
not_none : {A : Type 0} (n m : ℕ) (what : What) → piece n None ≡ piece m (Some what) → A
not_none n m what h = absurd cc

not_stray : {A : Type 0} (m : ℕ) (o : Option What) → stray ≡ piece m o → A
not_stray m o h = absurd cc

no_docstring : {A : Type 0} (o : Option ℕ) (m : ℕ) (what : What) → docstring_front o ≡ piece m (Some what) → A
no_docstring None m what h = not_stray m (Some what) h
no_docstring (Some size) m what h = not_none (size + 3) m what h

-- what a token's bytes begin with
token_shown : (first : ℕ) (rest : List ℕ) (m : ℕ) (what : What) → front (first ∷ rest) ≡ piece m (Some what) →
    front_at (first ∷ rest) ≡ shown.Token
token_shown first rest m what h =
    let bytes : List ℕ = first ∷ rest in
    let read : front_from first bytes ≡ piece m (Some what) = sym (front_same first rest) ∙ h in
    elim (cases_Bool (is_space first)) [
      | inl space ↦ not_none 1 m what (sym (cond-true _ _ _ space) ∙ read)
      | inr space ↦ elim (cases_Bool (is_comment bytes)) [
        | inl is ↦
            let same : bytes ≡ 45 ∷ 45 ∷ drop 2 bytes = begun bytes (45 ∷ 45 ∷ []) is in
            let there : front (45 ∷ 45 ∷ drop 2 bytes) ≡ piece m (Some what) = ap front (sym same) ∙ h in
            not_none (comment_size (45 ∷ 45 ∷ drop 2 bytes)) m what
            (sym (front_same 45 (45 ∷ drop 2 bytes)) ∙ there)
        | inr is ↦ elim (cases_Bool (starts_with nat_eq bytes three_quotes)) [
          | inl quotes ↦
              let same : bytes ≡ 34 ∷ 34 ∷ 34 ∷ drop 3 bytes = begun bytes three_quotes quotes in
              let there : front (34 ∷ 34 ∷ 34 ∷ drop 3 bytes) ≡ piece m (Some what) = ap front (sym same) ∙ h in
              no_docstring (docstring_size (drop 3 bytes)) m what
              (sym (front_same 34 (34 ∷ 34 ∷ drop 3 bytes)) ∙ there)
          | inr quotes ↦ cond-false _ _ _ space ∙ cond-false _ _ _ is ∙ cond-false _ _ _ quotes
        ]
      ]
    ]

token_is : (bytes : List ℕ) (found : Piece) (what : What) → Stands found bytes → what_of found ≡ Some what →
    0 < length bytes → front_at bytes ≡ shown.Token
token_is bytes found what stands meant some =
    let split = split_first bytes some in
    let read : front bytes ≡ piece (length (spelling found)) (Some what) =
    stands_front bytes found stands ∙ ap (piece (length (spelling found))) meant in
    subst (λ b. front_at b ≡ shown.Token) (sym split.2)
    (token_shown split.0 split.1 (length (spelling found)) what (ap front (sym split.2) ∙ read))

docstring_is : (o : Option ℕ) (n : ℕ) → docstring_front o ≡ piece n None → docstring_shown o ≡ shown.Docstring n
docstring_is None n h = not_stray n None h
docstring_is (Some size) n h = let e : size + 3 ≡ n = cc in ap shown.Docstring e

-- what bytes begin with is what their first piece is to the layout
pub front_is : (bytes : List ℕ) (found : Piece) → 0 < length bytes → Stands found bytes →
    front_at bytes ≡ front_of found
front_is bytes (blank byte) some stands =
    let f = stands.begins.front in
    subst (λ b. front_at b ≡ shown.Blank) (sym f.1) (cond-true _ _ _ stands.begins.known)
front_is bytes (comment text) some stands =
    let f = stands.begins.front in
    let n : ℕ = length (spelling (comment text)) in
    let there : front (45 ∷ 45 ∷ text ++ f.0) ≡ piece n None =
    ap front (sym f.1) ∙ stands_front bytes (comment text) stands in
    let read : piece (comment_size (45 ∷ 45 ∷ text ++ f.0)) None ≡ piece n None =
    sym (front_same 45 (45 ∷ text ++ f.0)) ∙ there in
    let size : comment_size (45 ∷ 45 ∷ text ++ f.0) ≡ n = cc in
    subst (λ b. front_at b ≡ shown.Comment n) (sym f.1) (ap shown.Comment size)
front_is bytes (docstring inside) some stands =
    let f = stands.begins.front in
    let n : ℕ = length (spelling (docstring inside)) in
    let rest : List ℕ = (inside ++ three_quotes) ++ f.0 in
    let there : front (34 ∷ 34 ∷ 34 ∷ rest) ≡ piece n None =
    ap front (sym f.1) ∙ stands_front bytes (docstring inside) stands in
    subst (λ b. front_at b ≡ shown.Docstring n) (sym f.1)
    (docstring_is (docstring_size rest) n (sym (front_same 34 (34 ∷ 34 ∷ rest)) ∙ there))
front_is bytes (number digits) some stands = token_is bytes (number digits) (number_of digits) stands refl some
front_is bytes (token what) some stands = token_is bytes (token what) what stands refl some

-- how long a token is spelled
pub spelled_is : (found : Piece) (what : What) → IsPiece found → what_of found ≡ Some what →
    spelled_size what ≡ length (spelling found)
spelled_is (blank byte) what known h = absurd cc
spelled_is (comment bytes) what known h = absurd cc
spelled_is (docstring inside) what known h = absurd cc
spelled_is (number digits) what known h = let e : number_of digits ≡ what = cc in ap spelled_size (sym e)
spelled_is (token (Number value digits)) what known h = absurd known
spelled_is (token (Word keyword)) what known h = let e : Word keyword ≡ what = cc in ap spelled_size (sym e)
spelled_is (token (Sign sign)) what known h = let e : Sign sign ≡ what = cc in ap spelled_size (sym e)
spelled_is (token (Name name)) what known h = let e : Name name ≡ what = cc in ap spelled_size (sym e)
spelled_is (token (Text text)) what known h =
    let e : Text text ≡ what = cc in
    let size : length (flat_map byte_spelling text) + 2 ≡ length (spelling (token (Text text))) =
    omega (arith, length-append (flat_map byte_spelling text) (34 ∷ [])) in
    ap spelled_size (sym e) ∙ size
