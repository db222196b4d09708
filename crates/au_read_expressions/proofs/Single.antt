-- The laws of readers of single tokens, of names with dots and of names behind dots.
use Rattle.std.proofs.Common.{◌≡◌, true, not, ◌&&◌, List, [], ◌∷◌, ◌++◌, Ok, refl, ap, ◌∙◌, subst, arith, inl}
use Rattle.au_base.specs.declared.tokens.Sign.TheVariants.{Dot}
use Rattle.au_base.specs.declared.tokens.Token.{Token}
use Rattle.au_base.specs.declared.tokens.What.{What}
use Rattle.au_base.specs.declared.tokens.What.TheVariants.{Sign, Name, Number, Text}
use Rattle.au_syntax.specs.Names.{Placed}
use Rattle.au_syntax.specs.Plain.{Bytes}
use Rattle.au_syntax.specs.Words.{Words, name_words, literal_words}
use Rattle.au_syntax.specs.declared.expressions.Literal.{Literal}
use Rattle.au_read_expressions.specs.Reading.{◌>>=◌, is_front, tokens_at, nothing_at, exactly, read_of}
use Rattle.au_read_expressions.specs.Reading.{behind_tokens, value_or_no, name_of, name_at, literal_of}
use Rattle.au_read_expressions.specs.Reading.{number_at, bytes_of, text_at, dotted_at, fields_at}
use Rattle.au_read_expressions.specs.Spelling.{Begins, fixed}
use Rattle.au_read_expressions.proofs.Steps.{ok_same, bind_ok}
use Rattle.au_read_expressions.proofs.Begins.{tokens_take, tokens_again, front_of}
use Rattle.au_read_expressions.proofs.Forms.{Form, Reads, anything, light, behind_form, behind_reads, sound_of}
use Rattle.au_read_expressions.proofs.ListForms.{separated_form, separated_reads, repeated_form, repeated_reads}

-- tokens that a tree says nothing of
pub exactly_reads : (whats : List What) → Reads (light (λ (x : Unit {0}). fixed whats)) anything (exactly whats)
exactly_reads whats = record {
  sound = λ ts rest x e.
      let b = bind_ok (tokens_at whats ts) nothing_at (x, rest) e in
      sound_of (light (λ (y : Unit {0}). fixed whats)) tt x ts b.0 rest
      (record { spelled = tokens_take whats ts b.0 b.1; good = refl; fits = tt }) b.2;
  found = λ x ts rest h good ended. inl (ap (λ r. r >>= nothing_at) (tokens_again whats ts rest h));
}

-- ---- a name

abbrev pub name_form : Form (Placed Bytes)
name_form = light name_words

name_take : (w : What) (t : Token) (ts rest : List Token) (x : Placed Bytes) → t.what ≡ w →
    value_or_no (t ∷ ts) (name_of w t.at) ≡ Ok (x, rest) → Begins (name_words x) (t ∷ ts) rest
name_take (Name bytes) t ts rest x is e =
    let same : (record { name = bytes; at = t.at }, ts) ≡ (x, rest) =
    ok_same (record { name = bytes; at = t.at }, ts) (x, rest) e in
    subst (λ (p : Placed Bytes × List Token). Begins (name_words p.0) (t ∷ ts) p.1) same ((is, (refl, tt)), refl)
name_take other t ts rest x is e = absurd cc

name_sound : (ts rest : List Token) (x : Placed Bytes) → name_at ts ≡ Ok (x, rest) → Begins (name_words x) ts rest
name_sound [] rest x e = absurd cc
name_sound (t ∷ ts) rest x e = name_take t.what t ts rest x refl e

name_found : (x : Placed Bytes) (ts rest : List Token) → Begins (name_words x) ts rest → name_at ts ≡ Ok (x, rest)
name_found x [] rest h = absurd h
name_found x (t ∷ ts) rest h =
    ap (λ w. value_or_no (t ∷ ts) (name_of w t.at)) h.0.0
    ∙ ap (λ at. read_of (record { name = x.name; at = at }) ts) h.0.1.0 ∙ ap (read_of x) h.1

pub name_reads : Reads name_form anything name_at
name_reads = record {
  sound = λ ts rest x e. record { spelled = name_sound ts rest x e; good = refl; fits = tt };
  found = λ x ts rest h good ended. inl (name_found x ts rest h);
}

-- ---- a number

abbrev pub number_form : Form Literal
number_form = light literal_words

number_take : (w : What) (t : Token) (ts rest : List Token) (x : Literal) → t.what ≡ w →
    value_or_no (t ∷ ts) (literal_of w) ≡ Ok (x, rest) → Begins (literal_words x) (t ∷ ts) rest
number_take (Number value digits) t ts rest x is e =
    let same : (record { value = value; digits = digits }, ts) ≡ (x, rest) =
    ok_same (record { value = value; digits = digits }, ts) (x, rest) e in
    subst (λ (p : Literal × List Token). Begins (literal_words p.0) (t ∷ ts) p.1) same ((is, tt), refl)
number_take other t ts rest x is e = absurd cc

number_sound : (ts rest : List Token) (x : Literal) → number_at ts ≡ Ok (x, rest) → Begins (literal_words x) ts rest
number_sound [] rest x e = absurd cc
number_sound (t ∷ ts) rest x e = number_take t.what t ts rest x refl e

number_found : (x : Literal) (ts rest : List Token) → Begins (literal_words x) ts rest → number_at ts ≡ Ok (x, rest)
number_found x [] rest h = absurd h
number_found x (t ∷ ts) rest h = ap (λ w. value_or_no (t ∷ ts) (literal_of w)) h.0.0 ∙ ap (read_of x) h.1

pub number_reads : Reads number_form anything number_at
number_reads = record {
  sound = λ ts rest x e. record { spelled = number_sound ts rest x e; good = refl; fits = tt };
  found = λ x ts rest h good ended. inl (number_found x ts rest h);
}

-- ---- a text

abbrev pub text_words : Bytes → Words
text_words bytes = record { what = Text bytes; places = [] } ∷ []

abbrev pub text_form : Form Bytes
text_form = light text_words

text_take : (w : What) (t : Token) (ts rest : List Token) (x : Bytes) → t.what ≡ w →
    value_or_no (t ∷ ts) (bytes_of w) ≡ Ok (x, rest) → Begins (text_words x) (t ∷ ts) rest
text_take (Text bytes) t ts rest x is e =
    let same : (bytes, ts) ≡ (x, rest) = ok_same (bytes, ts) (x, rest) e in
    subst (λ (p : Bytes × List Token). Begins (text_words p.0) (t ∷ ts) p.1) same ((is, tt), refl)
text_take other t ts rest x is e = absurd cc

text_sound : (ts rest : List Token) (x : Bytes) → text_at ts ≡ Ok (x, rest) → Begins (text_words x) ts rest
text_sound [] rest x e = absurd cc
text_sound (t ∷ ts) rest x e = text_take t.what t ts rest x refl e

text_found : (x : Bytes) (ts rest : List Token) → Begins (text_words x) ts rest → text_at ts ≡ Ok (x, rest)
text_found x [] rest h = absurd h
text_found x (t ∷ ts) rest h = ap (λ w. value_or_no (t ∷ ts) (bytes_of w)) h.0.0 ∙ ap (read_of x) h.1

pub text_reads : Reads text_form anything text_at
text_reads = record {
  sound = λ ts rest x e. record { spelled = text_sound ts rest x e; good = refl; fits = tt };
  found = λ x ts rest h good ended. inl (text_found x ts rest h);
}

-- ---- names with dots

pub dotted_reads : Reads (separated_form name_form (fixed (Sign Dot ∷ [])))
    (λ what. not (is_front (Sign Dot) what) && true) dotted_at
dotted_reads = separated_reads name_form anything name_at name_reads (λ x good. omega arith) (Sign Dot) refl

-- names behind dots
field_reads : Reads (behind_form name_form (Sign Dot ∷ [])) anything (behind_tokens (Sign Dot ∷ []) name_at)
field_reads = behind_reads name_form anything name_at name_reads (Sign Dot ∷ [])

pub fields_reads : Reads (repeated_form (behind_form name_form (Sign Dot ∷ [])))
    (λ what. not (is_front (Sign Dot) what) && true) fields_at
fields_reads =
    repeated_reads (behind_form name_form (Sign Dot ∷ [])) anything (is_front (Sign Dot))
    (behind_tokens (Sign Dot ∷ []) name_at) field_reads
    (λ x ts rest h good. ap (is_front (Sign Dot))
    (front_of (fixed (Sign Dot ∷ []) ++ name_words x) ts rest (omega arith) h))
    (λ x good. omega arith)
    (λ what e. refl)
