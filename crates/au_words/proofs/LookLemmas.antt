-- How a word looks to the library: the mark, a long option, short flags, or none of these.
use Rattle.std.proofs.Common.{◌≡◌, ◌≢◌, ◌⊎◌, ℕ, ◌==◌, true, false, List, [], ◌∷◌, length, Some, None, ap, ◌∙◌}
use Rattle.std.proofs.Common.{sym, refl, inl, inr, eqb-true, eq-eqb, lt-ltb, arith}
use Rattle.std.specs.Prelude.{slice_get, encode_utf8_all}
use Rattle.std.specs.Str.{IsUtf8, all_scalars, bytes_eq, chars, is_utf8}
use Rattle.std.proofs.lemmas.Bool.{and_parts, cases_Bool}
use Rattle.std.proofs.lemmas.Slice.Eq.{bytes_eq-Decides}
use Rattle.std.proofs.lemmas.Str.{is_utf8-from_IsUtf8, IsUtf8-drop, IsCharBoundary-after_ascii}
use Rattle.clap.specs.Lexer.{long_of, short_of}
use Rattle.au_words.specs.Jobs.{is_marked}

-- the word is the mark
abbrev pub mark_word : List ℕ
mark_word = 45 ∷ 45 ∷ []

-- The word begins with `--`, and goes on.
abbrev pub IsLong : List ℕ → Type 0
IsLong word = (first : ℕ) × (rest : List ℕ) × (word ≡ 45 ∷ 45 ∷ first ∷ rest)

-- The word begins with one `-`, and goes on.
abbrev pub IsShort : List ℕ → Type 0
IsShort word = (first : ℕ) × (rest : List ℕ) × (word ≡ 45 ∷ first ∷ rest) × ((first == 45) ≡ false)

-- The word is no option.
abbrev pub IsPlainWord : List ℕ → Type 0
IsPlainWord word = (is_marked word ≡ false) × (long_of word ≡ None) × (short_of word ≡ None)
    × (bytes_eq word mark_word ≡ false)

flip : (a b : ℕ) → (a == b) ≡ false → (b == a) ≡ false
flip a b h = elim (cases_Bool (b == a)) [
  | inl e ↦ absurd (let same = sym (eqb-true b a e) in let both = sym h ∙ eq-eqb a b same in cc)
  | inr e ↦ e
]

-- a dash and more is marked
dash_marked : (next : ℕ) (rest : List ℕ) → is_marked (45 ∷ next ∷ rest) ≡ true
dash_marked next rest = lt-ltb 1 (length (45 ∷ next ∷ rest)) (omega arith)

-- how a word looks
pub looks : (word : List ℕ) → (word ≡ mark_word) ⊎ (IsLong word ⊎ (IsShort word ⊎ IsPlainWord word))
looks [] = inr (inr (inr (refl, refl, refl, refl)))
looks (byte ∷ bytes) = elim (cases_Bool (byte == 45)) [
  | inl h ↦ dashed bytes byte (eqb-true byte 45 h)
  | inr h ↦ inr (inr (inr (rw (flip byte 45 h) refl, rw h refl, rw h refl, rw h refl)))
]
  where
    twice : (rest : List ℕ) (byte next : ℕ) → byte ≡ 45 → next ≡ 45 → (byte ∷ next ∷ rest ≡ mark_word)
        ⊎ (IsLong (byte ∷ next ∷ rest) ⊎ (IsShort (byte ∷ next ∷ rest) ⊎ IsPlainWord (byte ∷ next ∷ rest)))
    twice [] byte next h k = inl (let e = h in let f = k in cc)
    twice (first ∷ rest) byte next h k = inr (inl (first, rest, (let e = h in let f = k in cc)))

    dashed : (bytes : List ℕ) (byte : ℕ) → byte ≡ 45 → (byte ∷ bytes ≡ mark_word)
        ⊎ (IsLong (byte ∷ bytes) ⊎ (IsShort (byte ∷ bytes) ⊎ IsPlainWord (byte ∷ bytes)))
    dashed [] byte h = inr (inr (inr (rw h (refl, refl, refl, refl))))
    dashed (next ∷ rest) byte h = elim (cases_Bool (next == 45)) [
      | inl k ↦ twice rest byte next h (eqb-true next 45 k)
      | inr k ↦ inr (inr (inl (next, rest, (let e = h in cc), k)))
    ]

-- a word that isn't an option looks plain
pub unmarked_plain : (word : List ℕ) → is_marked word ≡ false → IsPlainWord word
unmarked_plain word h = elim (looks word) [
  | inl is ↦ absurd (let e = sym (ap is_marked is) ∙ h in cc)
  | inr other ↦ elim other [
    | inl is ↦ absurd (let e = sym (ap is_marked is.2) ∙ h in long_marked is.0 is.1 e)
    | inr left ↦ elim left [
      | inl is ↦ absurd (let e = sym (ap is_marked is.2) ∙ h in short_marked is.0 is.1 e)
      | inr plain ↦ plain
    ]
  ]
]
  where
    long_marked : (first : ℕ) (rest : List ℕ) → is_marked (45 ∷ 45 ∷ first ∷ rest) ≡ false → ⊥
    long_marked first rest e = let both = sym (dash_marked 45 (first ∷ rest)) ∙ e in cc

    short_marked : (first : ℕ) (rest : List ℕ) → is_marked (45 ∷ first ∷ rest) ≡ false → ⊥
    short_marked first rest e = let both = sym (dash_marked first rest) ∙ e in cc

-- text has a character
pub some_char : (text : List ℕ) → IsUtf8 text → text ≢ [] → (first : ℕ) × (slice_get (chars text) 0 ≡ Some first)
unfolding is_utf8
some_char text utf8 some = so (chars text) (bytes_eq-Decides (encode_utf8_all (chars text)) text)
    (is_text (is_utf8-from_IsUtf8 text utf8))
  where
    is_text : is_utf8 text ≡ true → bytes_eq (encode_utf8_all (chars text)) text ≡ true
    is_text h = (and_parts (all_scalars (chars text)) (bytes_eq (encode_utf8_all (chars text)) text) h).1

    so : (cs : List ℕ) → ((bytes_eq (encode_utf8_all cs) text ≡ true → encode_utf8_all cs ≡ text)
        × (encode_utf8_all cs ≡ text → bytes_eq (encode_utf8_all cs) text ≡ true)) →
        bytes_eq (encode_utf8_all cs) text ≡ true → (first : ℕ) × (slice_get cs 0 ≡ Some first)
    so [] decides h = absurd (some (sym (decides.0 h)))
    so (c ∷ cs) decides h = (c, refl)

-- the flags of a word have a character
pub some_flag : (first : ℕ) (rest : List ℕ) → IsUtf8 (45 ∷ first ∷ rest) → (one : ℕ)
    × (slice_get (chars (first ∷ rest)) 0 ≡ Some one)
some_flag first rest utf8 = some_char (first ∷ rest)
    (IsUtf8-drop (45 ∷ first ∷ rest) 1 utf8
    (IsCharBoundary-after_ascii (45 ∷ first ∷ rest) 0 utf8 (omega arith) (omega arith))) (λ e. let h = e in cc)
