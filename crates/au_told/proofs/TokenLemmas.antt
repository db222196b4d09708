-- The names in the tree of a file that was read are plain: they are tokens, and so the longest words that
-- stand
-- where they do.
use Rattle.std.proofs.Common.{◌≡◌, ℕ, true, ◌||◌, ◌==◌, List, [], ◌∷◌, ◌++◌, drop, map, length, refl, sym}
use Rattle.std.proofs.Common.{subst}
use Rattle.std.specs.List.{AllByRecursion, flat_map, list_all}
use Rattle.std.proofs.lemmas.Bool.{and_from, and_parts, or_left}
use Rattle.au_base.specs.declared.places.Pos.{Pos}
use Rattle.au_base.specs.declared.tokens.Keyword.TheVariants.{KwEnd, KwIs}
use Rattle.au_base.specs.declared.tokens.Sign.TheVariants.{Dot}
use Rattle.au_base.specs.declared.tokens.Token.{Token}
use Rattle.au_base.specs.declared.tokens.What.{What}
use Rattle.au_base.specs.declared.tokens.What.TheVariants.{Word, Sign, Name, Number, Text}
use Rattle.au_base.specs.Places.{place_after}
use Rattle.au_lexer.specs.Bytes.{is_digit, is_letter, is_name_byte}
use Rattle.au_lexer.specs.Cut.{Cut, CutsFront, token_at, tokens_among}
use Rattle.au_lexer.specs.Pieces.{IsPiece, IsWord, Piece, blank, comment, docstring, number, token, spelling}
use Rattle.au_lexer.specs.Pieces.{what_of}
use Rattle.au_syntax.specs.Modules.{constant, opaque_type, record_type, union_type, function, class, instance}
use Rattle.au_syntax.specs.Modules.{constant_body, function_body, instance_body}
use Rattle.au_syntax.specs.Names.{Placed}
use Rattle.au_syntax.specs.Plain.{Bytes, PlainDeclaration, PlainModule}
use Rattle.au_syntax.specs.Sizes.{joined}
use Rattle.au_syntax.specs.Words.{AreWords, Printed, Spells, Words, begun, declaration_words, dotted}
use Rattle.au_syntax.specs.Words.{import_words}
use Rattle.au_syntax.specs.Words.{mark, name_words, part_words, pragma_words, word, words}
use Rattle.au_told.specs.Names.{IsPlain, is_plain}
use Rattle.au_told.proofs.FileLemmas.{IsNamed, is_named}
use Rattle.au_told.proofs.PlainLemmas.{all_back, all_both, all_front, all_of_each, plain_both}

-- ---- tokens

-- a token, which is plain where it is a name
abbrev pub IsPlainWhat : What → Type 0
IsPlainWhat (Word keyword) = Unit {0}
IsPlainWhat (Sign sign) = Unit {0}
IsPlainWhat (Name name) = IsPlain name
IsPlainWhat (Number value digits) = Unit {0}
IsPlainWhat (Text text) = Unit {0}

abbrev pub ArePlainTokens : List Token → Type 0
ArePlainTokens tokens = AllByRecursion (λ (one : Token). IsPlainWhat one.what) tokens

abbrev pub ArePlainWords : Words → Type 0
ArePlainWords all = AllByRecursion (λ (one : Printed). IsPlainWhat one.what) all

-- bytes of names
bytes_plain : (bytes : List ℕ) → list_all is_name_byte bytes ≡ true → IsPlain bytes
bytes_plain [] h = refl
bytes_plain (b ∷ bytes) h =
    let both = and_parts (is_name_byte b) (list_all is_name_byte bytes) h in
    and_from (is_plain b) (list_all is_plain bytes) (or_left (is_name_byte b) _ both.0)
    (bytes_plain bytes both.1)

word_plain : (name : List ℕ) → IsWord name → IsPlain name
word_plain [] h = absurd h
word_plain (b ∷ bytes) h =
    and_from (is_plain b) (list_all is_plain bytes)
    (or_left (is_name_byte b) _
    (or_left (is_letter b || is_digit b) (b == 95) (or_left (is_letter b) (is_digit b) h.0)))
    (bytes_plain bytes h.1)

piece_plain : (at : Pos) (piece : Piece) → IsPiece piece → ArePlainTokens (token_at at (what_of piece))
piece_plain at (blank byte) h = tt
piece_plain at (comment bytes) h = tt
piece_plain at (docstring inside) h = tt
piece_plain at (number digits) h = (tt, tt)
piece_plain at (token (Word keyword)) h = (tt, tt)
piece_plain at (token (Sign sign)) h = (tt, tt)
piece_plain at (token (Name name)) h = (word_plain name h.0, tt)
piece_plain at (token (Number value digits)) h = absurd h
piece_plain at (token (Text text)) h = (tt, tt)

pieces_plain : (file : ℕ) (front : List ℕ) (pieces : List Piece) (bytes : List ℕ) → CutsFront pieces bytes []
    → ArePlainTokens (tokens_among file front pieces)
pieces_plain file front [] bytes h = tt
pieces_plain file front (piece ∷ pieces) bytes h =
    all_both (λ (one : Token). IsPlainWhat one.what) (token_at (place_after file front) (what_of piece))
    (tokens_among file (front ++ spelling piece) pieces)
    (piece_plain (place_after file front) piece h.0.begins.known)
    (pieces_plain file (front ++ spelling piece) pieces (drop (length (spelling piece)) bytes) h.1)

cut_plain : (file : ℕ) (bytes : List ℕ) (tokens : List Token) → Cut file bytes tokens → ArePlainTokens tokens
cut_plain file bytes tokens (pieces, front, is) =
    subst ArePlainTokens (sym is) (pieces_plain file [] pieces bytes front)

-- ---- words

words_plain : (all : Words) (tokens : List Token) → AreWords all tokens → ArePlainTokens tokens
    → ArePlainWords all
words_plain [] [] are h = tt
words_plain (one ∷ all) (word ∷ tokens) are h =
    (subst IsPlainWhat are.0.0 h.0, words_plain all tokens are.1 h.1)
words_plain [] (word ∷ tokens) are h = absurd are
words_plain (one ∷ all) [] are h = absurd are

begun_plain : (at : Pos) (all : Words) → ArePlainWords (begun at all) → ArePlainWords all
begun_plain at [] h = tt
begun_plain at (one ∷ all) h = h

-- ---- names with dots between

abbrev ArePlainNames : List (Placed Bytes) → Type 0
ArePlainNames names = AllByRecursion (λ (one : Placed Bytes). IsPlain one.name) names

dots_plain : (names : List (Placed Bytes))
    → ArePlainWords (flat_map (λ one. mark Dot ++ one) (map name_words names)) → ArePlainNames names
dots_plain [] h = tt
dots_plain (one ∷ names) h = (h.1.0, dots_plain names h.1.1)

dotted_plain : (names : List (Placed Bytes)) → ArePlainWords (dotted names) → ArePlainNames names
dotted_plain [] h = tt
dotted_plain (one ∷ names) h = (h.0, dots_plain names h.1)

behind_plain : (names : List (Placed Bytes)) → ArePlainNames names
    → IsPlain (flat_map (λ (one : Placed Bytes). 46 ∷ one.name) names)
behind_plain [] h = refl
behind_plain (one ∷ names) h =
    plain_both (46 ∷ one.name) (flat_map (λ (one : Placed Bytes). 46 ∷ one.name) names) h.0
    (behind_plain names h.1)

joined_plain : (names : List (Placed Bytes)) → ArePlainNames names → IsPlain (joined names)
joined_plain [] h = refl
joined_plain (one ∷ names) h =
    plain_both one.name (flat_map (λ (one : Placed Bytes). 46 ∷ one.name) names) h.0 (behind_plain names h.1)

-- ---- declarations

declared_plain : (d : PlainDeclaration) → ArePlainWords (declaration_words d) → is_named d ≡ true
declared_plain (constant at name t) h = refl
declared_plain (opaque_type at name parameters universe) h = h.1.0
declared_plain (record_type at name parameters universe fields) h = h.1.0
declared_plain (union_type at name parameters universe cases) h = h.1.0
declared_plain (function at generics header) h = refl
declared_plain (class at name parameter methods) h = refl
declared_plain (instance at generics name t) h = refl
declared_plain (constant_body at name t e) h = refl
declared_plain (function_body at generics header body stop) h = refl
declared_plain (instance_body at generics name t methods) h = refl

all_declared : (ds : List PlainDeclaration) → AllByRecursion (λ d. ArePlainWords (declaration_words d)) ds
    → list_all is_named ds ≡ true
all_declared [] h = refl
all_declared (d ∷ ds) h =
    and_from (is_named d) (list_all is_named ds) (declared_plain d h.0) (all_declared ds h.1)

-- ---- files

module _ (m : PlainModule) where
  abbrev named : Words
  named = part_words m.part ++ dotted m.name

  abbrev opened : Words
  opened = named ++ word KwIs ++ pragma_words m.pragma

  abbrev declared : Words
  declared = opened ++ flat_map declaration_words m.declarations

  abbrev IsOne : Printed → Type 0
  IsOne one = IsPlainWhat one.what

  file_plain : ArePlainWords (words m) → IsNamed m
  file_plain h =
      let inside = begun_plain m.at (declared ++ word KwEnd ++ part_words m.part ++ mark Dot)
      (all_back IsOne (flat_map import_words m.imports)
      (begun m.at (declared ++ word KwEnd ++ part_words m.part ++ mark Dot)) h) in
      let front = all_front IsOne declared (word KwEnd)
      (all_front IsOne (declared ++ word KwEnd) (part_words m.part)
      (all_front IsOne (declared ++ word KwEnd ++ part_words m.part) (mark Dot) inside)) in
      let head = all_front IsOne named (word KwIs)
      (all_front IsOne (named ++ word KwIs) (pragma_words m.pragma)
      (all_front IsOne opened (flat_map declaration_words m.declarations) front)) in
      record {
        home = joined_plain m.name
            (dotted_plain m.name (all_back IsOne (part_words m.part) (dotted m.name) head));
        types = all_declared m.declarations (all_of_each IsOne declaration_words m.declarations
            (all_back IsOne opened (flat_map declaration_words m.declarations) front));
      }

  -- the tree of a file that is cut into its words
  pub read_plain : (file : ℕ) (bytes : List ℕ) (tokens : List Token) → Cut file bytes tokens → Spells m tokens
      → IsNamed m
  read_plain file bytes tokens cut spells =
      file_plain (words_plain (words m) tokens spells (cut_plain file bytes tokens cut))
