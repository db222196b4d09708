-- Docstrings: what is read is spelled so, and what is spelled so is read.
use Rattle.std.proofs.Common.{◌≡◌, ℕ, suc, ◌+◌, ◌<◌, false, nat_eq, List, [], ◌∷◌, ◌++◌, length, drop, get_or}
use Rattle.std.proofs.Common.{Option, Some, None, ap, ◌∙◌, sym, refl, arith, inl, inr, drop-cons}
use Rattle.std.specs.List.{starts_with}
use Rattle.std.specs.Option.{option_map}
use Rattle.std.proofs.lemmas.Bool.{or_parts, or_from, cond-false}
use Rattle.au_base.proofs.BoolLemmas.{cond_cases}
use Rattle.au_lexer.specs.Pieces.{three_quotes, has_three_quotes}
use Rattle.au_lexer.specs.Reading.{docstring_size}
use Rattle.au_lexer.proofs.SignLemmas.{begun}

moved : (index : ℕ) (o : Option ℕ) → option_map (λ size. index + 1 + size) o
    ≡ option_map (λ size. index + size) (option_map (λ size. size + 1) o)
moved index None = refl
moved index (Some size) = ap Some (let e : index + 1 + size ≡ index + (size + 1) = omega arith in e)

-- looking one byte further, where no three quotes begin
pub one_further : (inside : List ℕ) (index : ℕ) → index < length inside →
    starts_with nat_eq (drop index inside) three_quotes ≡ false →
    option_map (λ size. index + size) (docstring_size (drop index inside)) ≡ docstring_size inside →
    option_map (λ size. index + 1 + size) (docstring_size (drop (index + 1) inside)) ≡ docstring_size inside
one_further inside index within none so_far =
    let byte : ℕ = get_or inside index 0 in
    let rest : List ℕ = drop (suc index) inside in
    let split : drop index inside ≡ byte ∷ rest = drop-cons inside index 0 within in
    let next : suc index ≡ index + 1 = omega arith in
    let here : docstring_size (byte ∷ rest) ≡ option_map (λ size. size + 1) (docstring_size rest) =
    cond-false _ _ _ (ap (λ r. starts_with nat_eq r three_quotes) (sym split) ∙ none) in
    ap (λ n. option_map (λ size. index + 1 + size) (docstring_size (drop n inside))) (sym next)
    ∙ moved index (docstring_size rest)
    ∙ ap (option_map (λ size. index + size)) (sym here ∙ ap docstring_size (sym split))
    ∙ so_far

-- three quotes that begin at the front of bytes begin there too with the two quotes of an end
-- behind them
no_front : (inside rest : List ℕ) (byte : ℕ) → starts_with nat_eq (byte ∷ (inside ++ 34 ∷ 34 ∷ []))
    three_quotes ≡ false →
    starts_with nat_eq (byte ∷ (inside ++ three_quotes ++ rest)) three_quotes ≡ false
no_front [] rest byte h = h
no_front (next ∷ []) rest byte h = h
no_front (next ∷ last ∷ inside) rest byte h = h

-- what is spelled so is read
pub docstring_again : (inside rest : List ℕ) → has_three_quotes (inside ++ 34 ∷ 34 ∷ []) ≡ false →
    docstring_size (inside ++ three_quotes ++ rest) ≡ Some (length inside + 3)
docstring_again [] rest h = ap Some (let e : 3 ≡ 0 + 3 = omega arith in e)
docstring_again (byte ∷ inside) rest h =
    let parts = or_parts _ _ h in
    cond-false _ _ _ (no_front inside rest byte parts.0)
    ∙ ap (option_map (λ size. size + 1)) (docstring_again inside rest parts.1)
    ∙ ap Some (let e : length inside + 3 + 1 ≡ length (byte ∷ inside) + 3 = omega arith in e)

-- what is read is spelled so
pub record IsDocstring (bytes : List ℕ) (size : ℕ) : Type 0 where
  pub inside : List ℕ
  pub rest : List ℕ
  pub spelled : bytes ≡ inside ++ three_quotes ++ rest
  pub known : has_three_quotes (inside ++ 34 ∷ 34 ∷ []) ≡ false
  pub sized : size ≡ length inside + 3

-- no three quotes begin where none begin with more behind
no_front_so : (inside rest : List ℕ) (byte : ℕ) → starts_with nat_eq (byte ∷ (inside ++ three_quotes ++ rest))
    three_quotes ≡ false →
    starts_with nat_eq (byte ∷ (inside ++ 34 ∷ 34 ∷ [])) three_quotes ≡ false
no_front_so [] rest byte h = h
no_front_so (next ∷ []) rest byte h = h
no_front_so (next ∷ last ∷ inside) rest byte h = h

one_longer : (byte : ℕ) (bytes : List ℕ) (size longer : ℕ) → starts_with nat_eq (byte ∷ bytes) three_quotes
    ≡ false → size + 1 ≡ longer → IsDocstring bytes size → IsDocstring (byte ∷ bytes) longer
one_longer byte bytes size longer none e read = record {
  inside = byte ∷ read.inside;
  rest = read.rest;
  spelled = ap (λ b. byte ∷ b) read.spelled;
  known = or_from _ _ (no_front_so read.inside read.rest byte
      (ap (λ b. starts_with nat_eq (byte ∷ b) three_quotes) (sym read.spelled) ∙ none)) read.known;
  sized = (let s = read.sized in omega arith);
}

mapped : (o : Option ℕ) (y : ℕ) → option_map (λ size. size + 1) o ≡ Some y → (x : ℕ) × (o ≡ Some x) × (x + 1 ≡ y)
mapped None y h = cc
mapped (Some x) y h = (x, refl, cc)

pub docstring_found : (bytes : List ℕ) (size : ℕ) → docstring_size bytes ≡ Some size → IsDocstring bytes size
docstring_found [] size h = cc
docstring_found (byte ∷ bytes) size h =
    elim (cond_cases (starts_with nat_eq (byte ∷ bytes) three_quotes) (Some 3) _ (Some size) h) [
      | inl w ↦
          let e : 3 ≡ size = (let g = w.1 in cc) in
          record {
            inside = [];
            rest = drop 3 (byte ∷ bytes);
            spelled = begun (byte ∷ bytes) three_quotes w.0;
            known = refl;
            sized = omega arith;
          }
      | inr w ↦
          let more = mapped (docstring_size bytes) size w.1 in
          one_longer byte bytes more.0 size w.0 more.2 (docstring_found bytes more.0 more.1)
    ]
