-- Texts in quotes: what is read is spelled so, and what is spelled so is read.
use Rattle.std.proofs.Common.{◌≡◌, ℕ, ◌+◌, ◌≤◌, true, false, ◌==◌, nat_lt, List, [], ◌∷◌, ◌++◌, length}
use Rattle.std.proofs.Common.{Option, Some, None, ap, ◌∙◌, sym, refl, subst, inl, inr, arith, append_assoc}
use Rattle.std.proofs.Common.{length-append}
use Rattle.std.specs.List.{list_all, flat_map}
use Rattle.std.specs.Option.{option_map}
use Rattle.std.proofs.lemmas.Bool.{and_parts, and_from, eqb-true, ltb-false, ne_eqb, cases_Bool, cond-false}
use Rattle.std.proofs.lemmas.Bool.Decides.{nat_tests}
use Rattle.au_base.proofs.BoolLemmas.{cond_cases}
use Rattle.au_base.proofs.OptionLemmas.{map_some}
use Rattle.au_lexer.specs.Bytes.{is_text_byte}
use Rattle.au_lexer.specs.Pieces.{byte_spelling}
use Rattle.au_lexer.specs.Reading.{escaped, with_byte, with_escape, text_at}

-- how a text is written between its quotes
abbrev pub written : List ℕ → List ℕ
written text = flat_map byte_spelling text

-- how a byte that a text can mean is written: as itself, or as an escape
pub data Written (byte : ℕ) : Type 0 where
  plain : byte_spelling byte ≡ byte ∷ [] → nat_lt byte 32 ≡ false → (byte == 34) ≡ false →
      (byte == 92) ≡ false → Written byte
  escape : (letter : ℕ) → byte_spelling byte ≡ 92 ∷ letter ∷ [] → escaped letter ≡ Some byte → Written byte

pub how_written : (byte : ℕ) → is_text_byte byte ≡ true → Written byte
how_written byte h =
    elim (cases_Bool (byte == 10)) [
      | inl e ↦ let is = eqb-true byte 10 e in subst Written (sym is) (escape 110 refl refl)
      | inr n ↦ elim (cases_Bool (byte == 13)) [
        | inl e ↦ let is = eqb-true byte 13 e in subst Written (sym is) (escape 114 refl refl)
        | inr r ↦ elim (cases_Bool (byte == 9)) [
          | inl e ↦ let is = eqb-true byte 9 e in subst Written (sym is) (escape 116 refl refl)
          | inr t ↦ elim (cases_Bool (byte == 34)) [
            | inl e ↦ let is = eqb-true byte 34 e in subst Written (sym is) (escape 34 refl refl)
            | inr q ↦ elim (cases_Bool (byte == 92)) [
              | inl e ↦ let is = eqb-true byte 92 e in subst Written (sym is) (escape 92 refl refl)
              | inr s ↦
                  plain
                  (cond-false _ _ _ n ∙ cond-false _ _ _ r ∙ cond-false _ _ _ t ∙ cond-false _ _ _ q
                  ∙ cond-false _ _ _ s)
                  (grind (arith, nat_tests)) q s
            ]
          ]
        ]
      ]
    ]

-- what an escape means can be meant, and is written so
pub escaped_is : (letter byte : ℕ) → escaped letter ≡ Some byte → (byte_spelling byte ≡ 92 ∷ letter ∷ [])
    × (is_text_byte byte ≡ true)
escaped_is letter byte h =
    let P : ℕ → ℕ → Type 0 = λ l b. (byte_spelling b ≡ 92 ∷ l ∷ []) × (is_text_byte b ≡ true) in
    let go : (l b : ℕ) → letter ≡ l → Some b ≡ Some byte → P l b → P letter byte = λ l b e f p. let g : b
    ≡ byte = cc in subst (λ x. P x byte) (sym e) (subst (P l) g p) in
    elim (cond_cases (letter == 110) (Some 10) _ (Some byte) h) [
      | inl w ↦ go 110 10 (eqb-true letter 110 w.0) w.1 (refl, refl)
      | inr w ↦ elim (cond_cases (letter == 114) (Some 13) _ (Some byte) w.1) [
        | inl w ↦ go 114 13 (eqb-true letter 114 w.0) w.1 (refl, refl)
        | inr w ↦ elim (cond_cases (letter == 116) (Some 9) _ (Some byte) w.1) [
          | inl w ↦ go 116 9 (eqb-true letter 116 w.0) w.1 (refl, refl)
          | inr w ↦ elim (cond_cases (letter == 34) (Some 34) _ (Some byte) w.1) [
            | inl w ↦ go 34 34 (eqb-true letter 34 w.0) w.1 (refl, refl)
            | inr w ↦ elim (cond_cases (letter == 92) (Some 92) None (Some byte) w.1) [
              | inl w ↦ go 92 92 (eqb-true letter 92 w.0) w.1 (refl, refl)
              | inr w ↦ let e = w.1 in absurd cc
            ]
          ]
        ]
      ]
    ]

-- a text that was read with a byte before it, which took so many bytes
text_more : ℕ → ℕ → Option (List ℕ × ℕ) → Option (List ℕ × ℕ)
text_more byte size read = option_map (λ text. (byte ∷ text.0, text.1 + size)) read

escape_more : (byte : ℕ) (read : Option (List ℕ × ℕ)) → option_map (λ text. (text.0, text.1 + 1))
    (with_byte byte read) ≡ text_more byte 2 read
unfolding text_more
escape_more byte None = refl
escape_more byte (Some text) = ap (λ n. let p : List ℕ × ℕ = (byte ∷ text.0, n) in Some p)
    (let e : text.1 + 1 + 1 ≡ text.1 + 2 = omega arith in e)

-- reading over one byte of a text
byte_again : (byte : ℕ) (rest : List ℕ) → is_text_byte byte ≡ true →
    text_at false (byte_spelling byte ++ rest) ≡ text_more byte (length (byte_spelling byte))
    (text_at false rest)
unfolding text_more
byte_again byte rest h = elim (how_written byte h) [
  | plain e low quote slash ↦
      ap (λ s. text_at false (s ++ rest)) e ∙ cond-false _ _ _ quote ∙ cond-false _ _ _ slash
      ∙ cond-false _ _ _ low ∙ ap (λ s. option_map
      (λ (text : List ℕ × ℕ). let p : List ℕ × ℕ = (byte ∷ text.0, text.1 + length s) in p)
      (text_at false rest)) (sym e)
  | escape letter e is ↦
      ap (λ s. text_at false (s ++ rest)) e
      ∙ ap (λ o. option_map (λ (text : List ℕ × ℕ). let p : List ℕ × ℕ = (text.0, text.1 + 1) in p)
      (with_escape o (text_at false rest))) is ∙ escape_more byte (text_at false rest)
      ∙ ap (λ s. text_more byte (length s) (text_at false rest)) (sym e)
]

-- what is spelled so is read
pub text_again : (text rest : List ℕ) → list_all is_text_byte text ≡ true →
    text_at false (written text ++ 34 ∷ rest) ≡ Some (text, length (written text) + 1)
unfolding text_more
text_again [] rest h = ap (λ n. let p : List ℕ × ℕ = ([], n) in Some p) (let e : 1 ≡ 0 + 1 = omega arith in e)
text_again (byte ∷ text) rest h =
    let parts = and_parts (is_text_byte byte) (list_all is_text_byte text) h in
    let n : ℕ = length (written text) in
    let size : n + 1 + length (byte_spelling byte) ≡ length (byte_spelling byte ++ written text) + 1 =
    omega (arith, length-append (byte_spelling byte) (written text)) in
    ap (text_at false) (append_assoc (byte_spelling byte) (written text) (34 ∷ rest))
    ∙ byte_again byte (written text ++ 34 ∷ rest) parts.0
    ∙ ap (text_more byte (length (byte_spelling byte))) (text_again text rest parts.1)
    ∙ ap (λ k. let p : List ℕ × ℕ = (byte ∷ text, k) in Some p) size

-- what is read is spelled so
pub record IsRead (inside : List ℕ) (text : List ℕ) (size : ℕ) : Type 0 where
  pub rest : List ℕ
  pub spelled : inside ≡ written text ++ 34 ∷ rest
  pub meant : list_all is_text_byte text ≡ true
  pub sized : size ≡ length (written text) + 1

-- one byte more before what is read
read_more : (byte : ℕ) (inside : List ℕ) (text : List ℕ) (size size' : ℕ) → is_text_byte byte ≡ true →
    size' ≡ size + length (byte_spelling byte) → IsRead inside text size → IsRead (byte_spelling byte ++ inside)
    (byte ∷ text) size'
read_more byte inside text size size' meant longer read = record {
  rest = read.rest;
  spelled = ap (λ r. byte_spelling byte ++ r) read.spelled
      ∙ sym (append_assoc (byte_spelling byte) (written text) (34 ∷ read.rest));
  meant = and_from _ _ meant read.meant;
  sized = (let s = read.sized in let l = length-append (byte_spelling byte) (written text) in omega arith);
}

escape_mapped : (o : Option ℕ) (read : Option (List ℕ × ℕ)) (y : List ℕ × ℕ) → with_escape o read ≡ Some y →
    (byte : ℕ) × (o ≡ Some byte) × (with_byte byte read ≡ Some y)
escape_mapped None read y h = cc
escape_mapped (Some byte) read y h = (byte, refl, h)

-- what a text that was read is, however it is given
read_as : (inside : List ℕ) (text : List ℕ) (size : ℕ) (found : List ℕ × ℕ) → (text, size) ≡ found →
    IsRead inside text size → IsRead inside found.0 found.1
read_as inside text size found e read = subst (λ (f : List ℕ × ℕ). IsRead inside f.0 f.1) e read

-- an empty text
read_end : (byte : ℕ) (bytes : List ℕ) (found : List ℕ × ℕ) → (byte == 34) ≡ true →
    Some ([], 1) ≡ Some found → IsRead (byte ∷ bytes) found.0 found.1
read_end byte bytes found quote h =
    let pair : List ℕ × ℕ = ([], 1) in
    let e : pair ≡ found = cc in
    read_as (byte ∷ bytes) [] 1 found e
    (record {
      rest = bytes;
      spelled = ap (λ b. b ∷ bytes) (eqb-true byte 34 quote);
      meant = refl;
      sized =
          omega arith;
    })

-- a byte that is written as it is
read_plain : (byte : ℕ) (bytes : List ℕ) (found y : List ℕ × ℕ) → (byte == 34) ≡ false →
    (byte == 92) ≡ false → nat_lt byte 32 ≡ false → (byte ∷ y.0, y.1 + 1) ≡ found → IsRead bytes y.0 y.1 →
    IsRead (byte ∷ bytes) found.0 found.1
read_plain byte bytes found y quote slash low e read =
    let bound : 32 ≤ byte = ltb-false byte 32 low in
    let spelled : byte_spelling byte ≡ byte ∷ [] =
    cond-false _ _ _ (ne_eqb byte 10 (λ (h : byte ≡ 10). omega arith))
    ∙ cond-false _ _ _ (ne_eqb byte 13 (λ (h : byte ≡ 13). omega arith))
    ∙ cond-false _ _ _ (ne_eqb byte 9 (λ (h : byte ≡ 9). omega arith)) ∙ cond-false _ _ _ quote
    ∙ cond-false _ _ _ slash in
    let meant : is_text_byte byte ≡ true = grind (arith, nat_tests) in
    read_as (byte ∷ bytes) (byte ∷ y.0) (y.1 + 1) found e
    (subst (λ s. IsRead (s ++ bytes) (byte ∷ y.0) (y.1 + 1)) spelled
    (read_more byte bytes y.0 y.1 (y.1 + 1) meant (ap (λ (s : List ℕ). y.1 + length s) (sym spelled)) read))

-- a byte that is written as an escape
read_escape : (letter byte : ℕ) (bytes : List ℕ) (found y : List ℕ × ℕ) → escaped letter ≡ Some byte →
    (byte ∷ y.0, y.1 + 1 + 1) ≡ found → IsRead bytes y.0 y.1 → IsRead (92 ∷ letter ∷ bytes) found.0 found.1
read_escape letter byte bytes found y h e read =
    let is = escaped_is letter byte h in
    let longer : y.1 + 1 + 1 ≡ y.1 + length (byte_spelling byte) = omega (arith, ap length is.0) in
    read_as (92 ∷ letter ∷ bytes) (byte ∷ y.0) (y.1 + 1 + 1) found e
    (subst (λ s. IsRead (s ++ bytes) (byte ∷ y.0) (y.1 + 1 + 1)) is.0
    (read_more byte bytes y.0 y.1 (y.1 + 1 + 1) is.1 longer read))

-- what is behind a `\`
behind_slash : (letter : ℕ) (rest : List ℕ) (found : List ℕ × ℕ) → option_map (λ text. (text.0, text.1 + 1))
    (text_at true (letter ∷ rest)) ≡ Some found →
    (byte : ℕ) × (y : List ℕ × ℕ) × (escaped letter ≡ Some byte) × (text_at false rest ≡ Some y)
    × ((byte ∷ y.0, y.1 + 1 + 1) ≡ found)
behind_slash letter rest found h =
    let outer = map_some (λ (text : List ℕ × ℕ). let p : List ℕ × ℕ = (text.0, text.1 + 1) in p)
    (text_at true (letter ∷ rest)) found h in
    let inner = escape_mapped (escaped letter) (text_at false rest) outer.0 outer.1 in
    let last = map_some (λ (text : List ℕ × ℕ). let p : List ℕ × ℕ = (inner.0 ∷ text.0, text.1 + 1) in p)
    (text_at false rest) outer.0 inner.2 in (
      inner.0,
      last.0,
      inner.1,
      last.1,
      ap (λ (text : List ℕ × ℕ). let p : List ℕ × ℕ = (text.0, text.1 + 1) in p) last.2 ∙ outer.2,
    )

pub text_found : (inside : List ℕ) (text : List ℕ × ℕ) → text_at false inside ≡ Some text → IsRead inside text.0 text.1
text_found [] text h = cc
text_found (byte ∷ []) text h =
    elim (cond_cases (byte == 34) (Some ([], 1)) _ (Some text) h) [
      | inl w ↦ read_end byte [] text w.0 w.1
      | inr w ↦ elim (cond_cases (byte == 92) (option_map (λ text. (text.0, text.1 + 1)) (text_at true [])) _
          (Some text) w.1) [
            | inl v ↦ let e = v.1 in cc
            | inr v ↦ elim (cond_cases (nat_lt byte 32) None (with_byte byte (text_at false [])) (Some text)
                v.1) [
                  | inl u ↦ let e = u.1 in cc
                  | inr u ↦ let e = u.1 in cc
                ]
          ]
    ]
text_found (byte ∷ next ∷ bytes) text h =
    elim (cond_cases (byte == 34) (Some ([], 1)) _ (Some text) h) [
      | inl w ↦ read_end byte (next ∷ bytes) text w.0 w.1
      | inr w ↦ elim (cond_cases (byte == 92)
          (option_map (λ text. (text.0, text.1 + 1)) (text_at true (next ∷ bytes))) _ (Some text) w.1) [
            | inl v ↦
                let b = behind_slash next bytes text v.1 in
                subst (λ slash. IsRead (slash ∷ next ∷ bytes) text.0 text.1) (sym (eqb-true byte 92 v.0))
                (read_escape next b.0 bytes text b.1 b.2 b.4 (text_found bytes b.1 b.3))
            | inr v ↦ elim (cond_cases (nat_lt byte 32) None (with_byte byte (text_at false (next ∷ bytes)))
                (Some text) v.1) [
                  | inl u ↦ let e = u.1 in absurd cc
                  | inr u ↦
                      let last = map_some
                      (λ (text : List ℕ × ℕ). let p : List ℕ × ℕ = (byte ∷ text.0, text.1 + 1) in p)
                      (text_at false (next ∷ bytes)) text u.1 in
                      read_plain byte (next ∷ bytes) text last.0 w.0 v.0 u.0 last.2
                      (text_found (next ∷ bytes) last.0 last.1)
                ]
          ]
    ]
