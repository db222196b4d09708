-- Two closed types with one text are one type: a text begins with a word, which tells the form of the type,
-- and what stands behind a type neither continues that word nor opens a bracket.
use Rattle.std.proofs.Common.{◌≡◌, ℕ, Bool, true, not, cond, ◌==◌, ◌||◌, List, [], ◌∷◌, ◌++◌, Option, None}
use Rattle.std.proofs.Common.{Some, refl, ap, ◌∙◌, sym, subst, append_assoc}
use Rattle.std.specs.Prelude.{codes, is_some, unwrap_or}
use Rattle.std.specs.List.{list_all, list_any}
use Rattle.std.specs.Map.{lookup}
use Rattle.std.specs.Str.{bytes_eq}
use Rattle.std.proofs.lemmas.Bool.{false≢true, and_parts, or_parts, not-true, both_ways, cond-true}
use Rattle.std.proofs.lemmas.List.{append_cancel_left}
use Rattle.au_base.specs.declared.kinds.IntKind.{IntKind}
use Rattle.au_base.specs.declared.kinds.IntKind.TheVariants as kinds
use Rattle.au_types.specs.declared.headings.Head.{Head}
use Rattle.au_types.specs.declared.types.DeclAt.{DeclAt}
use Rattle.au_types.specs.Rows.{head_of}
use Rattle.au_type_texts.specs.Texts.{head_text, kind_name}
use Rattle.au_type_texts.specs.Told.{AreTold, is_colon, is_declared, is_word_byte}
use Rattle.au_type_texts.specs.ClosedTexts.{list_text, others_text, text_of}
use Rattle.au_type_texts.specs.ClosedTold.{ClosedTextsTell, HasRows, HaveRows}
use Rattle.au_type_texts.specs.Types.{ClosedType, ClosedTypes, unit, truth, integer, text, named, reads}
use Rattle.au_type_texts.specs.Types.{writes, no_types, types}

-- ---- words

-- whether what stands behind a word doesn't continue it
abbrev stops : List ℕ → Bool
stops [] = true
stops (byte ∷ bytes) = not (is_word_byte byte)

-- whether what stands behind a type neither continues its word nor opens a bracket
abbrev ends : List ℕ → Bool
ends [] = true
ends (byte ∷ bytes) = not (is_word_byte byte || byte == 91)

ends_stops : (r : List ℕ) → ends r ≡ true → stops r ≡ true
ends_stops [] h = refl
ends_stops (byte ∷ bytes) h = ap not
    (or_parts (is_word_byte byte) (byte == 91) (not-true (is_word_byte byte || byte == 91) h)).0

-- what ends a type opens no bracket
no_bracket : (r s : List ℕ) → ends r ≡ true → r ≡ codes "[" ++ s → ⊥
no_bracket r s h e = false≢true (subst (λ k. ends k ≡ true) e h)

-- what stops begins with no byte of a word
no_start : (b : ℕ) (w rest x : List ℕ) → list_all is_word_byte (b ∷ w) ≡ true → stops x ≡ true → x ≡ b ∷ rest → ⊥
no_start b w rest x hw hx e = both_ways (is_word_byte b)
    (not-true (is_word_byte b) (subst (λ t. stops t ≡ true) e hx))
    (and_parts (is_word_byte b) (list_all is_word_byte w) hw).0

-- the words with which one text begins are one word
words_agree : (v w x y : List ℕ) → list_all is_word_byte v ≡ true → list_all is_word_byte w ≡ true →
    stops x ≡ true → stops y ≡ true → v ++ x ≡ w ++ y → v ≡ w
words_agree [] [] x y hv hw hx hy e = refl
words_agree [] (b ∷ w) x y hv hw hx hy e = absurd (no_start b w (w ++ y) x hw hx e)
words_agree (a ∷ v) [] x y hv hw hx hy e = absurd (no_start a v (v ++ x) y hv hy (sym e))
words_agree (a ∷ v) (b ∷ w) x y hv hw hx hy e =
    let first : a ≡ b = cc in
    let behind : v ++ x ≡ w ++ y = cc in
    let rest : v ≡ w = words_agree v w x y (and_parts (is_word_byte a) (list_all is_word_byte v) hv).1
    (and_parts (is_word_byte b) (list_all is_word_byte w) hw).1 hx hy behind in
    cc

-- ---- types by their words

-- what the word of a type tells: the type, or that it is declared or a reference
data Lead : Type 0 where
  plain : ClosedType → Lead
  declared : List ℕ → Lead
  reference : Lead

-- the types that are built in
built_in : List (List ℕ × ClosedType)
built_in =
    (codes "Unit", unit)
    ∷ (codes "Bool", truth)
    ∷ (codes "Nat8", integer kinds.Nat8)
    ∷ (codes "Nat16", integer kinds.Nat16)
    ∷ (codes "Nat32", integer kinds.Nat32)
    ∷ (codes "Nat64", integer kinds.Nat64)
    ∷ (codes "Int8", integer kinds.Int8)
    ∷ (codes "Int16", integer kinds.Int16)
    ∷ (codes "Int32", integer kinds.Int32)
    ∷ (codes "Int64", integer kinds.Int64)
    ∷ (codes "Index", integer kinds.Index)
    ∷ (codes "Span", text)
    ∷ []

lead_of : List ℕ → Lead
lead_of [] = reference
lead_of (b ∷ w) = cond (list_any is_colon (b ∷ w)) (declared (b ∷ w))
    (plain (unwrap_or (lookup (bytes_eq (b ∷ w)) built_in) unit))

declared_lead : (w : List ℕ) → list_any is_colon w ≡ true → lead_of w ≡ declared w
unfolding lead_of
declared_lead [] h = absurd cc
declared_lead (b ∷ w) h = cond-true (list_any is_colon (b ∷ w)) (declared (b ∷ w))
    (plain (unwrap_or (lookup (bytes_eq (b ∷ w)) built_in) unit)) h

kind_lead : (kind : IntKind) → lead_of (kind_name kind) ≡ plain (integer kind)
unfolding lead_of built_in
kind_lead kinds.Nat8 = refl
kind_lead kinds.Nat16 = refl
kind_lead kinds.Nat32 = refl
kind_lead kinds.Nat64 = refl
kind_lead kinds.Int8 = refl
kind_lead kinds.Int16 = refl
kind_lead kinds.Int32 = refl
kind_lead kinds.Int64 = refl
kind_lead kinds.Index = refl

pub kind_is_word : (kind : IntKind) → list_all is_word_byte (kind_name kind) ≡ true
kind_is_word kinds.Nat8 = refl
kind_is_word kinds.Nat16 = refl
kind_is_word kinds.Nat32 = refl
kind_is_word kinds.Nat64 = refl
kind_is_word kinds.Int8 = refl
kind_is_word kinds.Int16 = refl
kind_is_word kinds.Int32 = refl
kind_is_word kinds.Int64 = refl
kind_is_word kinds.Index = refl

module _ (rows : List (DeclAt × Head)) (told : AreTold rows) where
  -- the word with which a type begins
  word : ClosedType → List ℕ
  word unit = codes "Unit"
  word truth = codes "Bool"
  word (integer kind) = kind_name kind
  word text = codes "Span"
  word (named at args) = head_text (head_of rows at)
  word (reads to) = []
  word (writes to) = []

  -- and what is left of it
  tail : ClosedType → List ℕ
  tail unit = []
  tail truth = []
  tail (integer kind) = []
  tail text = codes "[Nat8, Static]"
  tail (named at args) = list_text rows args
  tail (reads to) = text_of rows (reads to)
  tail (writes to) = text_of rows (writes to)

  cut : (t : ClosedType) (r : List ℕ) → text_of rows t ++ r ≡ word t ++ (tail t ++ r)
  unfolding word tail
  cut unit r = refl
  cut truth r = refl
  cut (integer kind) r = refl
  cut text r = refl
  cut (named at args) r = append_assoc (head_text (head_of rows at)) (list_text rows args) r
  cut (reads to) r = refl
  cut (writes to) r = refl

  tail_stops : (t : ClosedType) (r : List ℕ) → ends r ≡ true → stops (tail t ++ r) ≡ true
  unfolding tail
  tail_stops unit r h = ends_stops r h
  tail_stops truth r h = ends_stops r h
  tail_stops (integer kind) r h = ends_stops r h
  tail_stops text r h = refl
  tail_stops (named at no_types) r h = ends_stops r h
  tail_stops (named at (types one rest)) r h = refl
  tail_stops (reads to) r h = refl
  tail_stops (writes to) r h = refl

  -- what the rows say of a declaration's text
  head_declared : (at : DeclAt) → is_some (head_of rows at) ≡ true → is_declared (head_text (head_of rows at)) ≡ true
  head_declared at h = by (head_of rows at) refl h
    where
      by : (o : Option Head) → head_of rows at ≡ o → is_some o ≡ true → is_declared (head_text o) ≡ true
      by None e h = absurd cc
      by (Some head) e h = told.declared at head e

  head_apart : (a b : DeclAt) → is_some (head_of rows a) ≡ true → is_some (head_of rows b) ≡ true →
      head_text (head_of rows a) ≡ head_text (head_of rows b) → a ≡ b
  head_apart a b ha hb e = by (head_of rows a) (head_of rows b) refl refl ha hb e
    where
      by : (o p : Option Head) → head_of rows a ≡ o → head_of rows b ≡ p → is_some o ≡ true →
          is_some p ≡ true → head_text o ≡ head_text p → a ≡ b
      by None p ea eb ho hp same = absurd cc
      by (Some head) None ea eb ho hp same = absurd cc
      by (Some head) (Some other) ea eb ho hp same = told.apart a b head other ea eb same

  is_word : (t : ClosedType) → HasRows rows t → list_all is_word_byte (word t) ≡ true
  unfolding word
  is_word unit h = refl
  is_word truth h = refl
  is_word (integer kind) h = kind_is_word kind
  is_word text h = refl
  is_word (named at args) h = (and_parts (list_any is_colon (head_text (head_of rows at)))
      (list_all is_word_byte (head_text (head_of rows at))) (head_declared at h.0)).1
  is_word (reads to) h = refl
  is_word (writes to) h = refl

  lead : ClosedType → Lead
  lead unit = plain unit
  lead truth = plain truth
  lead (integer kind) = plain (integer kind)
  lead text = plain text
  lead (named at args) = declared (head_text (head_of rows at))
  lead (reads to) = reference
  lead (writes to) = reference

  lead_is : (t : ClosedType) → HasRows rows t → lead_of (word t) ≡ lead t
  unfolding word lead lead_of built_in
  lead_is unit h = refl
  lead_is truth h = refl
  lead_is (integer kind) h = kind_lead kind
  lead_is text h = refl
  lead_is (named at args) h =
      declared_lead (head_text (head_of rows at))
      (and_parts (list_any is_colon (head_text (head_of rows at)))
      (list_all is_word_byte (head_text (head_of rows at))) (head_declared at h.0)).0
  lead_is (reads to) h = refl
  lead_is (writes to) h = refl

  -- types with one text begin with one word
  word_same : (t u : ClosedType) (r s : List ℕ) → HasRows rows t → HasRows rows u → ends r ≡ true →
      ends s ≡ true → text_of rows t ++ r ≡ text_of rows u ++ s → word t ≡ word u
  word_same t u r s ht hu hr hs e =
      words_agree (word t) (word u) (tail t ++ r) (tail u ++ s) (is_word t ht) (is_word u hu)
      (tail_stops t r hr) (tail_stops u s hs) (sym (cut t r) ∙ e ∙ cut u s)

  lead_same : (t u : ClosedType) (r s : List ℕ) → HasRows rows t → HasRows rows u → ends r ≡ true →
      ends s ≡ true → text_of rows t ++ r ≡ text_of rows u ++ s → lead t ≡ lead u
  lead_same t u r s ht hu hr hs e = sym (lead_is t ht) ∙ ap lead_of (word_same t u r s ht hu hr hs e) ∙ lead_is u hu

  -- where the word tells the type, it's that type
  plain_same : (t u : ClosedType) → plain t ≡ lead u → t ≡ u
  unfolding lead
  plain_same t unit e = cc
  plain_same t truth e = cc
  plain_same t (integer kind) e = cc
  plain_same t text e = cc
  plain_same t (named at args) e = absurd cc
  plain_same t (reads to) e = absurd cc
  plain_same t (writes to) e = absurd cc

  -- and go on in one way
  tail_same : (t u : ClosedType) (r s : List ℕ) → word t ≡ word u → text_of rows t ++ r ≡ text_of rows u
      ++ s → tail t ++ r ≡ tail u ++ s
  tail_same t u r s same e = append_cancel_left (word u) (tail t ++ r) (tail u ++ s)
      (ap (λ w. w ++ (tail t ++ r)) (sym same) ∙ sym (cut t r) ∙ e ∙ cut u s)

  -- the first byte, by which more types differ from the bracket that closes
  abbrev starts : List ℕ → ℕ
  starts (a ∷ rest) = a
  starts other = 0

  -- the second byte, by which the two kinds of references differ
  abbrev second : List ℕ → ℕ
  second (a ∷ b ∷ rest) = b
  second other = 0

  -- ---- lists

  others_end : (list : ClosedTypes) (r : List ℕ) → ends (others_text rows list ++ r) ≡ true
  others_end no_types r = refl
  others_end (types one rest) r = refl

  -- the first type stands in front of the others
  front : (mark : List ℕ) (one : ClosedType) (rest : ClosedTypes) (r : List ℕ) →
      (mark ++ text_of rows one ++ others_text rows rest) ++ r ≡ mark
      ++ (text_of rows one ++ (others_text rows rest ++ r))
  front mark one rest r = simp append_assoc

  -- types behind one that is the same
  others_same : (x y : ClosedType) (xs ys : ClosedTypes) (r s : List ℕ) → x ≡ y
      → text_of rows x ++ (others_text rows xs ++ r) ≡ text_of rows y ++ (others_text rows ys ++ s)
      → others_text rows xs ++ r ≡ others_text rows ys ++ s
  others_same x y xs ys r s same e =
      append_cancel_left (text_of rows y) (others_text rows xs ++ r) (others_text rows ys ++ s)
      (ap (λ one. text_of rows one ++ (others_text rows xs ++ r)) (sym same) ∙ e)

  -- ---- types

  mutual
    unfolding word tail lead

    type_same : (t u : ClosedType) (r s : List ℕ) → HasRows rows t → HasRows rows u → ends r ≡ true →
        ends s ≡ true → text_of rows t ++ r ≡ text_of rows u ++ s → t ≡ u
    type_same unit u r s ht hu hr hs e = plain_same unit u (lead_same unit u r s ht hu hr hs e)
    type_same truth u r s ht hu hr hs e = plain_same truth u (lead_same truth u r s ht hu hr hs e)
    type_same (integer kind) u r s ht hu hr hs e =
        plain_same (integer kind) u (lead_same (integer kind) u r s ht hu hr hs e)
    type_same text u r s ht hu hr hs e = plain_same text u (lead_same text u r s ht hu hr hs e)
    type_same (named a xs) (named b ys) r s ht hu hr hs e =
        let same = word_same (named a xs) (named b ys) r s ht hu hr hs e in
        let place : a ≡ b = head_apart a b ht.0 hu.0 same in
        let rest = tail_same (named a xs) (named b ys) r s same e in
        let args : xs ≡ ys = list_same xs ys r s ht.1 hu.1 hr hs rest in
        cc
    type_same (reads a) (reads b) r s ht hu hr hs e =
        let rest = append_cancel_left (codes "&[") ((text_of rows a ++ codes "]") ++ r)
        ((text_of rows b ++ codes "]") ++ s) e in
        ap reads (type_same a b (codes "]" ++ r) (codes "]" ++ s) ht hu refl refl
        (sym (append_assoc (text_of rows a) (codes "]") r) ∙ rest
        ∙ append_assoc (text_of rows b) (codes "]") s))
    type_same (writes a) (writes b) r s ht hu hr hs e =
        let rest = append_cancel_left (codes "&![") ((text_of rows a ++ codes "]") ++ r)
        ((text_of rows b ++ codes "]") ++ s) e in
        ap writes (type_same a b (codes "]" ++ r) (codes "]" ++ s) ht hu refl refl
        (sym (append_assoc (text_of rows a) (codes "]") r) ∙ rest
        ∙ append_assoc (text_of rows b) (codes "]") s))
    type_same (reads a) (writes b) r s ht hu hr hs e = absurd (false≢true (ap (λ text. second text == 33) e))
    type_same (writes a) (reads b) r s ht hu hr hs e = absurd (false≢true (ap (λ text. second text == 91) e))
    type_same t u r s ht hu hr hs e = let same : lead t ≡ lead u = lead_same t u r s ht hu hr hs e in cc

    -- types in brackets, or none
    list_same : (xs ys : ClosedTypes) (r s : List ℕ) → HaveRows rows xs → HaveRows rows ys → ends r ≡ true →
        ends s ≡ true → list_text rows xs ++ r ≡ list_text rows ys ++ s → xs ≡ ys
    list_same no_types no_types r s hx hy hr hs e = refl
    list_same no_types (types y ys) r s hx hy hr hs e =
        absurd (no_bracket r (text_of rows y ++ (others_text rows ys ++ s)) hr (e ∙ front (codes "[") y ys s))
    list_same (types x xs) no_types r s hx hy hr hs e =
        absurd (no_bracket s (text_of rows x ++ (others_text rows xs ++ r)) hs
        (sym e ∙ front (codes "[") x xs r))
    list_same (types x xs) (types y ys) r s hx hy hr hs e =
        let inner = append_cancel_left (codes "[") (text_of rows x ++ (others_text rows xs ++ r))
        (text_of rows y ++ (others_text rows ys ++ s))
        (sym (front (codes "[") x xs r) ∙ e ∙ front (codes "[") y ys s) in
        let first : x ≡ y = type_same x y (others_text rows xs ++ r) (others_text rows ys ++ s) hx.0 hy.0
        (others_end xs r) (others_end ys s) inner in
        let others : xs ≡ ys = others_are xs ys r s hx.1 hy.1 (others_same x y xs ys r s first inner) in
        cc

    -- types behind another one
    others_are : (xs ys : ClosedTypes) (r s : List ℕ) → HaveRows rows xs → HaveRows rows ys →
        others_text rows xs ++ r ≡ others_text rows ys ++ s → xs ≡ ys
    others_are no_types no_types r s hx hy e = refl
    others_are no_types (types y ys) r s hx hy e = absurd (false≢true (ap (λ text. starts text == 44) e))
    others_are (types x xs) no_types r s hx hy e = absurd (false≢true (ap (λ text. starts text == 93) e))
    others_are (types x xs) (types y ys) r s hx hy e =
        let inner = append_cancel_left (codes ", ") (text_of rows x ++ (others_text rows xs ++ r))
        (text_of rows y ++ (others_text rows ys ++ s))
        (sym (front (codes ", ") x xs r) ∙ e ∙ front (codes ", ") y ys s) in
        let first : x ≡ y = type_same x y (others_text rows xs ++ r) (others_text rows ys ++ s) hx.0 hy.0
        (others_end xs r) (others_end ys s) inner in
        let others : xs ≡ ys = others_are xs ys r s hx.1 hy.1 (others_same x y xs ys r s first inner) in
        cc

-- over such rows, two closed types with one text are one type
pub texts_tell : ClosedTextsTell
texts_tell rows told t u ht hu e = type_same rows told t u [] [] ht hu refl refl (ap (λ bytes. bytes ++ []) e)
