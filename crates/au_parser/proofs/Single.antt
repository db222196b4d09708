-- Readers of single tokens, of names with dots and of names behind dots.
use Rattle.std.proofs.Common.{◌≡◌, true, false, List, [], ◌∷◌, Some, None, refl, ap, subst, arith}
use Rattle.au_base.specs.declared.places.Pos.{Pos}
use Rattle.au_base.specs.declared.tokens.Sign.TheVariants.{Dot}
use Rattle.au_base.specs.declared.tokens.Token.{Token}
use Rattle.au_base.specs.declared.tokens.What.{What}
use Rattle.au_base.specs.declared.tokens.What.TheVariants.{Sign, Name, Number, Text}
use Rattle.std.specs.Prelude.{codes, pos}
use Rattle.au_syntax.specs.Names.{Placed}
use Rattle.au_syntax.specs.Plain.{Bytes}
use Rattle.au_syntax.specs.Words.{Words, name_words, literal_words}
use Rattle.au_syntax.specs.declared.expressions.Literal.{Literal}
use Rattle.au_read_expressions.specs.Reading.{is_front, exactly, nothing_at, behind_tokens, name_of, name_at}
use Rattle.au_read_expressions.specs.Reading.{literal_of, number_at, bytes_of, text_at, dotted_at, fields_at}
use Rattle.au_read_expressions.specs.Spelling.{fixed}
use Rattle.au_read_expressions.specs.TypeStops.{is_name}
use Rattle.au_parser.proofs.Told.{Passing, Kind, Is, Example, Honest}
use Rattle.au_parser.proofs.Ways.{light, light_keeps, none_honest, value_honest, behind_kind}
use Rattle.au_parser.proofs.Ways.{behind_honest}
use Rattle.au_parser.proofs.FirstTokens.{Opens, value_opens}
use Rattle.au_parser.proofs.Lists.{separated_kind, repeated_kind, separated_honest, repeated_honest}

-- ---- a name

abbrev pub name_kind : Kind (Placed Bytes)
name_kind = light name_words

abbrev pub a_name : Placed Bytes
a_name = record { name = codes "a"; at = record { file = 0; line = 0; column = 0 } }

abbrev pub name_example : Example name_kind
name_example = record {
  tree = a_name;
  tokens = record { what = Name (codes "a"); at = record { file = 0; line = 0; column = 0 } } ∷ [];
  is = record { words = ((refl, (refl, tt)), tt); good = refl };
}

pub name_means : (w : What) (t : Token) (x : Placed Bytes) → t.what ≡ w → name_of w t.at ≡ Some x → Is name_kind x (t ∷ [])
name_means (Name bytes) t x is e =
    let same : ◌≡◌ {A = Placed Bytes} (record { name = bytes; at = t.at }) x = cc in
    subst (λ (y : Placed Bytes). Is name_kind y (t ∷ [])) same (record { words = ((is, (refl, tt)), tt); good = refl })
name_means other t x is e = absurd cc

pub name_honest : (P : Passing) → Honest P name_kind name_at
name_honest P = value_honest P name_kind name_example (λ token. name_of token.what token.at)
    (λ t x e. name_means t.what t x refl e) (light_keeps P name_words)

name_there : (w : What) (at : Pos) → is_name w ≡ true → (x : Placed Bytes) × (name_of w at ≡ Some x)
name_there (Name bytes) at h = (record { name = bytes; at = at }, refl)
name_there other at h = absurd cc

name_none : (w : What) (at : Pos) → is_name w ≡ false → name_of w at ≡ None
name_none (Name bytes) at h = absurd cc
name_none other at h = refl

pub name_opens : Opens is_name name_at
name_opens = value_opens (λ token. name_of token.what token.at) is_name (λ t h. name_there t.what t.at h)
    (λ t h. name_none t.what t.at h)

pub is_a_name : (w : What) (bytes : Bytes) → w ≡ Name bytes → is_name w ≡ true
is_a_name w bytes e = ap is_name e

-- ---- a number

abbrev pub number_kind : Kind Literal
number_kind = light literal_words

number_means : (w : What) (t : Token) (x : Literal) → t.what ≡ w → literal_of w ≡ Some x → Is number_kind x (t ∷ [])
number_means (Number value digits) t x is e =
    let same : ◌≡◌ {A = Literal} (record { value = value; digits = digits }) x = cc in
    subst (λ (y : Literal). Is number_kind y (t ∷ [])) same (record { words = ((is, tt), tt); good = refl })
number_means other t x is e = absurd cc

number_example : Example number_kind
number_example = record {
  tree = record { value = pos 0; digits = 1 };
  tokens = record { what = Number (pos 0) 1; at = record { file = 0; line = 0; column = 0 } } ∷ [];
  is = record { words = ((refl, tt), tt); good = refl };
}

pub number_honest : (P : Passing) → Honest P number_kind number_at
number_honest P = value_honest P number_kind number_example (λ token. literal_of token.what)
    (λ t x e. number_means t.what t x refl e) (light_keeps P literal_words)

-- ---- a text

abbrev pub text_words : Bytes → Words
text_words bytes = record { what = Text bytes; places = [] } ∷ []

abbrev pub text_kind : Kind Bytes
text_kind = light text_words

text_means : (w : What) (t : Token) (x : Bytes) → t.what ≡ w → bytes_of w ≡ Some x → Is text_kind x (t ∷ [])
text_means (Text bytes) t x is e =
    let same : ◌≡◌ {A = Bytes} bytes x = cc in
    subst (λ (y : Bytes). Is text_kind y (t ∷ [])) same (record { words = ((is, tt), tt); good = refl })
text_means other t x is e = absurd cc

text_example : Example text_kind
text_example = record {
  tree = [];
  tokens = record { what = Text []; at = record { file = 0; line = 0; column = 0 } } ∷ [];
  is = record { words = ((refl, tt), tt); good = refl };
}

pub text_honest : (P : Passing) → Honest P text_kind text_at
text_honest P = value_honest P text_kind text_example (λ token. bytes_of token.what)
    (λ t x e. text_means t.what t x refl e) (light_keeps P text_words)

-- ---- tokens that a tree says nothing of

abbrev pub exactly_kind : List What → Kind (Unit {0})
exactly_kind whats = behind_kind (light (λ (x : Unit {0}). [])) whats

pub exactly_honest : (P : Passing) (whats : List What) → Honest P (exactly_kind whats) (exactly whats)
exactly_honest P whats = behind_honest P (light (λ (x : Unit {0}). [])) whats nothing_at
    (none_honest P (light (λ (x : Unit {0}). [])) tt (record { words = tt; good = refl }) tt)

-- ---- names with dots

abbrev pub dotted_kind : Kind (List (Placed Bytes))
dotted_kind = separated_kind name_kind (fixed (Sign Dot ∷ []))

pub dotted_honest : (P : Passing) → Honest P dotted_kind dotted_at
dotted_honest P = separated_honest P name_kind name_at (name_honest P) (Sign Dot)

abbrev pub fields_kind : Kind (List (Placed Bytes))
fields_kind = repeated_kind (behind_kind name_kind (Sign Dot ∷ []))

pub fields_honest : (P : Passing) → Honest P fields_kind fields_at
fields_honest P = repeated_honest P (behind_kind name_kind (Sign Dot ∷ [])) (behind_tokens (Sign Dot ∷ []) name_at)
    (behind_honest P name_kind (Sign Dot ∷ []) name_at (name_honest P)) (is_front (Sign Dot)) (λ x g. omega arith)
