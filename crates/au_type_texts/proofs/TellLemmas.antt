-- Two types with one text are one type: a text begins with a word, which tells the form of the type, and
-- what stands behind a type never continues that word.
use Rattle.std.proofs.Common.{◌≡◌, ℕ, Bool, true, false, not, cond, ◌==◌, ◌||◌, List, [], ◌∷◌, ◌++◌, Option}
use Rattle.std.proofs.Common.{None, Some, refl, ap, ◌∙◌, sym, subst, append_assoc, map}
use Rattle.std.specs.Prelude.{codes, is_some, unwrap_or}
use Rattle.std.specs.List.{list_all, list_any}
use Rattle.std.specs.Map.{lookup}
use Rattle.std.specs.Str.{bytes_eq}
use Rattle.std.proofs.lemmas.Bool.{false≢true, and_parts, and_from, or_parts, or_from, or_left, eqb-true}
use Rattle.std.proofs.lemmas.Bool.{not-true, both_ways, cond-true, cond-false, false_from_ne_true}
use Rattle.std.proofs.lemmas.List.{append_cancel_left}
use Rattle.au_base.specs.declared.kinds.IntKind.{IntKind}
use Rattle.au_base.specs.declared.kinds.IntKind.TheVariants as kinds
use Rattle.au_types.specs.declared.headings.Head.{Head}
use Rattle.au_types.specs.declared.parameters.Parameter.{Parameter}
use Rattle.au_types.specs.declared.types.DeclAt.{DeclAt}
use Rattle.au_types.specs.declared.types.Region.{Region}
use Rattle.au_types.specs.declared.types.Region.TheVariants as regions
use Rattle.au_types.specs.Rows.{head_of}
use Rattle.au_types.specs.Types.{Meaning, Argument, Arguments, unit, truth, integer, text, parameter, named}
use Rattle.au_types.specs.Types.{reads, writes, of_type, in_region, no_arguments, arguments}
use Rattle.au_type_texts.specs.Texts.{kind_name, region_text, head_text, text_of, argument_text}
use Rattle.au_type_texts.specs.Texts.{arguments_text, others_text}
use Rattle.au_type_texts.specs.Told.{is_name_byte, is_colon, is_word_byte, is_name_beside, type_names}
use Rattle.au_type_texts.specs.Told.{region_names, is_declared, AreTold, IsRegion, params_of, Stands}
use Rattle.au_type_texts.specs.Told.{FitsArgument, Fit, TextsTell}
use Rattle.au_type_texts.proofs.ClosedTellLemmas.{kind_is_word}

-- ---- words

-- whether what stands behind a word doesn't continue it
abbrev stops : List ℕ → Bool
stops [] = true
stops (byte ∷ bytes) = not (is_word_byte byte)

-- what stops begins with no byte of a word
no_start : (b : ℕ) (w rest x : List ℕ) → list_all is_word_byte (b ∷ w) ≡ true → stops x ≡ true → x ≡ b ∷ rest → ⊥
no_start b w rest x hw hx e = both_ways (is_word_byte b)
    (not-true (is_word_byte b) (subst (λ t. stops t ≡ true) e hx))
    (and_parts (is_word_byte b) (list_all is_word_byte w) hw).0

-- the words with which one text begins are one word
words_agree : (v w x y : List ℕ) → list_all is_word_byte v ≡ true → list_all is_word_byte w ≡ true →
    stops x ≡ true → stops y ≡ true → v ++ x ≡ w ++ y → v ≡ w
words_agree [] [] x y hv hw hx hy e = refl
words_agree [] (b ∷ w) x y hv hw hx hy e = absurd (no_start b w (w ++ y) x hw hx e)
words_agree (a ∷ v) [] x y hv hw hx hy e = absurd (no_start a v (v ++ x) y hv hy (sym e))
words_agree (a ∷ v) (b ∷ w) x y hv hw hx hy e =
    let first : a ≡ b = cc in
    let behind : v ++ x ≡ w ++ y = cc in
    let rest : v ≡ w = words_agree v w x y (and_parts (is_word_byte a) (list_all is_word_byte v) hv).1
    (and_parts (is_word_byte b) (list_all is_word_byte w) hw).1 hx hy behind in
    cc

name_is_word : (w : List ℕ) → list_all is_name_byte w ≡ true → list_all is_word_byte w ≡ true
name_is_word [] h = refl
name_is_word (b ∷ w) h =
    let both = and_parts (is_name_byte b) (list_all is_name_byte w) h in
    and_from (is_word_byte b) (list_all is_word_byte w)
    (or_left (is_name_byte b || b == 46) (is_colon b) (or_left (is_name_byte b) (b == 46) both.0))
    (name_is_word w both.1)

no_colon_byte : (b : ℕ) → is_name_byte b ≡ true → is_colon b ≡ false
no_colon_byte b h = false_from_ne_true (is_colon b)
    (λ e. let n : is_name_byte 58 ≡ true = subst (λ k. is_name_byte k ≡ true) (eqb-true b 58 e) h in absurd cc)

no_colon : (w : List ℕ) → list_all is_name_byte w ≡ true → list_any is_colon w ≡ false
no_colon [] h = refl
no_colon (b ∷ w) h =
    let both = and_parts (is_name_byte b) (list_all is_name_byte w) h in
    or_from (is_colon b) (list_any is_colon w) (no_colon_byte b both.0) (no_colon w both.1)

-- ---- regions

region_word : Region → List ℕ
region_word regions.Static = codes "Static"
region_word (regions.Named name) = name
region_word regions.Anonymous = []

region_tail : Region → List ℕ
region_tail regions.Static = []
region_tail (regions.Named name) = []
region_tail regions.Anonymous = codes "~"

region_cut : (p : Region) (r : List ℕ) → region_text p ++ r ≡ region_word p ++ (region_tail p ++ r)
unfolding region_word region_tail
region_cut regions.Static r = refl
region_cut (regions.Named name) r = refl
region_cut regions.Anonymous r = refl

region_stops : (p : Region) (r : List ℕ) → stops r ≡ true → stops (region_tail p ++ r) ≡ true
unfolding region_tail
region_stops regions.Static r h = h
region_stops (regions.Named name) r h = h
region_stops regions.Anonymous r h = refl

beside_word : (taken : List (List ℕ)) (name : List ℕ) → is_name_beside taken name ≡ true →
    list_all is_word_byte name ≡ true
beside_word taken [] h = refl
beside_word taken (b ∷ w) h = name_is_word (b ∷ w)
    (and_parts (list_all is_name_byte (b ∷ w)) (not (list_any (bytes_eq (b ∷ w)) taken)) h).0

region_is_word : (p : Region) → IsRegion p → list_all is_word_byte (region_word p) ≡ true
unfolding region_word
region_is_word regions.Static h = refl
region_is_word (regions.Named name) h = beside_word region_names name h
region_is_word regions.Anonymous h = refl

-- the region of a word
region_of : List ℕ → Region
region_of [] = regions.Anonymous
region_of (b ∷ w) = cond (bytes_eq (b ∷ w) (codes "Static")) regions.Static (regions.Named (b ∷ w))

region_of_word : (p : Region) → IsRegion p → region_of (region_word p) ≡ p
unfolding region_word region_of
region_of_word regions.Static h = refl
region_of_word (regions.Named []) h = absurd cc
region_of_word (regions.Named (b ∷ w)) h =
    let free = not-true (list_any (bytes_eq (b ∷ w)) region_names)
    (and_parts (list_all is_name_byte (b ∷ w)) (not (list_any (bytes_eq (b ∷ w)) region_names)) h).1 in
    cond-false (bytes_eq (b ∷ w) (codes "Static")) regions.Static (regions.Named (b ∷ w))
    (or_parts (bytes_eq (b ∷ w) (codes "Static")) false free).0
region_of_word regions.Anonymous h = refl

region_same : (p q : Region) (r s : List ℕ) → IsRegion p → IsRegion q → stops r ≡ true → stops s ≡ true →
    region_text p ++ r ≡ region_text q ++ s → p ≡ q
region_same p q r s hp hq hr hs e =
    let cut = sym (region_cut p r) ∙ e ∙ region_cut q s in
    let word = words_agree (region_word p) (region_word q) (region_tail p ++ r) (region_tail q ++ s)
    (region_is_word p hp) (region_is_word q hq) (region_stops p r hr) (region_stops q s hs) cut in
    sym (region_of_word p hp) ∙ ap region_of word ∙ region_of_word q hq

-- ---- types by their words

-- what the word of a type tells: the type, or that it is declared or a reference
data Lead : Type 0 where
  plain : Meaning → Lead
  declared : List ℕ → Lead
  reference : Lead

-- the types that are built in
built_in : List (List ℕ × Meaning)
built_in =
    (codes "Unit", unit)
    ∷ (codes "Bool", truth)
    ∷ (codes "Nat8", integer kinds.Nat8)
    ∷ (codes "Nat16", integer kinds.Nat16)
    ∷ (codes "Nat32", integer kinds.Nat32)
    ∷ (codes "Nat64", integer kinds.Nat64)
    ∷ (codes "Int8", integer kinds.Int8)
    ∷ (codes "Int16", integer kinds.Int16)
    ∷ (codes "Int32", integer kinds.Int32)
    ∷ (codes "Int64", integer kinds.Int64)
    ∷ (codes "Index", integer kinds.Index)
    ∷ (codes "Span", text)
    ∷ []

lead_of : List ℕ → Lead
lead_of [] = reference
lead_of (b ∷ w) = cond (list_any is_colon (b ∷ w)) (declared (b ∷ w))
    (plain (unwrap_or (lookup (bytes_eq (b ∷ w)) built_in) (parameter (b ∷ w))))

declared_lead : (w : List ℕ) → list_any is_colon w ≡ true → lead_of w ≡ declared w
unfolding lead_of
declared_lead [] h = absurd cc
declared_lead (b ∷ w) h = cond-true (list_any is_colon (b ∷ w)) (declared (b ∷ w))
    (plain (unwrap_or (lookup (bytes_eq (b ∷ w)) built_in) (parameter (b ∷ w)))) h

-- a key that no row has
none_found : (p : List ℕ → Bool) (table : List (List ℕ × Meaning)) → list_any p (map (λ row. row.0) table)
    ≡ false → lookup p table ≡ None
none_found p [] h = refl
none_found p (row ∷ rows) h =
    let both = or_parts (p row.0) (list_any p (map (λ one. one.0) rows)) h in
    cond-false (p row.0) (Some row.1) (lookup p rows) both.0 ∙ none_found p rows both.1

parameter_lead : (name : List ℕ) → is_name_beside type_names name ≡ true → lead_of name ≡ plain (parameter name)
unfolding lead_of built_in
parameter_lead [] h = absurd cc
parameter_lead (b ∷ w) h =
    let both = and_parts (list_all is_name_byte (b ∷ w)) (not (list_any (bytes_eq (b ∷ w)) type_names)) h in
    let free = not-true (list_any (bytes_eq (b ∷ w)) type_names) both.1 in
    cond-false (list_any is_colon (b ∷ w)) (declared (b ∷ w))
    (plain (unwrap_or (lookup (bytes_eq (b ∷ w)) built_in) (parameter (b ∷ w)))) (no_colon (b ∷ w) both.0)
    ∙ ap (λ found. plain (unwrap_or found (parameter (b ∷ w)))) (none_found (bytes_eq (b ∷ w)) built_in free)

kind_lead : (kind : IntKind) → lead_of (kind_name kind) ≡ plain (integer kind)
unfolding lead_of built_in
kind_lead kinds.Nat8 = refl
kind_lead kinds.Nat16 = refl
kind_lead kinds.Nat32 = refl
kind_lead kinds.Nat64 = refl
kind_lead kinds.Int8 = refl
kind_lead kinds.Int16 = refl
kind_lead kinds.Int32 = refl
kind_lead kinds.Int64 = refl
kind_lead kinds.Index = refl

module _ (rows : List (DeclAt × Head)) (told : AreTold rows) where
  -- the word with which a type begins
  word : Meaning → List ℕ
  word unit = codes "Unit"
  word truth = codes "Bool"
  word (integer kind) = kind_name kind
  word text = codes "Span"
  word (parameter name) = name
  word (named at args) = head_text (head_of rows at)
  word (reads to region) = []
  word (writes to region) = []

  -- and what is left of it
  tail : Meaning → List ℕ
  tail unit = []
  tail truth = []
  tail (integer kind) = []
  tail text = codes "[Nat8, Static]"
  tail (parameter name) = []
  tail (named at args) = arguments_text rows args
  tail (reads to region) = text_of rows (reads to region)
  tail (writes to region) = text_of rows (writes to region)

  cut : (t : Meaning) (r : List ℕ) → text_of rows t ++ r ≡ word t ++ (tail t ++ r)
  unfolding word tail
  cut unit r = refl
  cut truth r = refl
  cut (integer kind) r = refl
  cut text r = refl
  cut (parameter name) r = refl
  cut (named at args) r = append_assoc (head_text (head_of rows at)) (arguments_text rows args) r
  cut (reads to region) r = refl
  cut (writes to region) r = refl

  tail_stops : (t : Meaning) (r : List ℕ) → stops r ≡ true → stops (tail t ++ r) ≡ true
  unfolding tail
  tail_stops unit r h = h
  tail_stops truth r h = h
  tail_stops (integer kind) r h = h
  tail_stops text r h = refl
  tail_stops (parameter name) r h = h
  tail_stops (named at no_arguments) r h = h
  tail_stops (named at (arguments one rest)) r h = refl
  tail_stops (reads to region) r h = refl
  tail_stops (writes to region) r h = refl

  -- what the rows say of a declaration's text
  head_declared : (at : DeclAt) → is_some (head_of rows at) ≡ true → is_declared (head_text (head_of rows at)) ≡ true
  head_declared at h = by (head_of rows at) refl h
    where
      by : (o : Option Head) → head_of rows at ≡ o → is_some o ≡ true → is_declared (head_text o) ≡ true
      by None e h = absurd cc
      by (Some head) e h = told.declared at head e

  head_apart : (a b : DeclAt) → is_some (head_of rows a) ≡ true → is_some (head_of rows b) ≡ true →
      head_text (head_of rows a) ≡ head_text (head_of rows b) → a ≡ b
  head_apart a b ha hb e = by (head_of rows a) (head_of rows b) refl refl ha hb e
    where
      by : (o p : Option Head) → head_of rows a ≡ o → head_of rows b ≡ p → is_some o ≡ true →
          is_some p ≡ true → head_text o ≡ head_text p → a ≡ b
      by None p ea eb ho hp same = absurd cc
      by (Some head) None ea eb ho hp same = absurd cc
      by (Some head) (Some other) ea eb ho hp same = told.apart a b head other ea eb same

  is_word : (t : Meaning) → Stands rows t → list_all is_word_byte (word t) ≡ true
  unfolding word
  is_word unit h = refl
  is_word truth h = refl
  is_word (integer kind) h = kind_is_word kind
  is_word text h = refl
  is_word (parameter name) h = beside_word type_names name h
  is_word (named at args) h = (and_parts (list_any is_colon (head_text (head_of rows at)))
      (list_all is_word_byte (head_text (head_of rows at))) (head_declared at h.0)).1
  is_word (reads to region) h = refl
  is_word (writes to region) h = refl

  lead : Meaning → Lead
  lead unit = plain unit
  lead truth = plain truth
  lead (integer kind) = plain (integer kind)
  lead text = plain text
  lead (parameter name) = plain (parameter name)
  lead (named at args) = declared (head_text (head_of rows at))
  lead (reads to region) = reference
  lead (writes to region) = reference

  lead_is : (t : Meaning) → Stands rows t → lead_of (word t) ≡ lead t
  unfolding word lead lead_of built_in
  lead_is unit h = refl
  lead_is truth h = refl
  lead_is (integer kind) h = kind_lead kind
  lead_is text h = refl
  lead_is (parameter name) h = parameter_lead name h
  lead_is (named at args) h =
      declared_lead (head_text (head_of rows at))
      (and_parts (list_any is_colon (head_text (head_of rows at)))
      (list_all is_word_byte (head_text (head_of rows at))) (head_declared at h.0)).0
  lead_is (reads to region) h = refl
  lead_is (writes to region) h = refl

  -- types with one text begin with one word
  word_same : (t u : Meaning) (r s : List ℕ) → Stands rows t → Stands rows u → stops r ≡ true →
      stops s ≡ true → text_of rows t ++ r ≡ text_of rows u ++ s → word t ≡ word u
  word_same t u r s ht hu hr hs e =
      words_agree (word t) (word u) (tail t ++ r) (tail u ++ s) (is_word t ht) (is_word u hu)
      (tail_stops t r hr) (tail_stops u s hs) (sym (cut t r) ∙ e ∙ cut u s)

  lead_same : (t u : Meaning) (r s : List ℕ) → Stands rows t → Stands rows u → stops r ≡ true →
      stops s ≡ true → text_of rows t ++ r ≡ text_of rows u ++ s → lead t ≡ lead u
  lead_same t u r s ht hu hr hs e = sym (lead_is t ht) ∙ ap lead_of (word_same t u r s ht hu hr hs e) ∙ lead_is u hu

  -- where the word tells the type, it's that type
  plain_same : (t u : Meaning) → plain t ≡ lead u → t ≡ u
  unfolding lead
  plain_same t unit e = cc
  plain_same t truth e = cc
  plain_same t (integer kind) e = cc
  plain_same t text e = cc
  plain_same t (parameter name) e = cc
  plain_same t (named at args) e = absurd cc
  plain_same t (reads to region) e = absurd cc
  plain_same t (writes to region) e = absurd cc

  -- and go on in one way
  tail_same : (t u : Meaning) (r s : List ℕ) → word t ≡ word u → text_of rows t ++ r ≡ text_of rows u ++ s →
      tail t ++ r ≡ tail u ++ s
  tail_same t u r s same e = append_cancel_left (word u) (tail t ++ r) (tail u ++ s)
      (ap (λ w. w ++ (tail t ++ r)) (sym same) ∙ sym (cut t r) ∙ e ∙ cut u s)

  -- ---- references

  -- the second byte, by which the two kinds of references differ
  abbrev second : List ℕ → ℕ
  second (a ∷ b ∷ rest) = b
  second other = 0

  -- what stands in the brackets of a reference
  inside : (a p r : List ℕ) → (a ++ codes ", " ++ p ++ codes "]") ++ r ≡ a ++ (codes ", " ++ (p ++ (codes "]" ++ r)))
  inside a p r = simp append_assoc

  -- types behind references, where equal texts tell equal types
  reference_same : (a b : Meaning) (p q : Region) (r s : List ℕ)
      → ((x y : List ℕ) → stops x ≡ true → stops y ≡ true → text_of rows a ++ x ≡ text_of rows b ++ y → a ≡ b)
      → IsRegion p → IsRegion q
      → (text_of rows a ++ codes ", " ++ region_text p ++ codes "]")
      ++ r ≡ (text_of rows b ++ codes ", " ++ region_text q ++ codes "]") ++ s
      → (a ≡ b) × (p ≡ q)
  reference_same a b p q r s tells hp hq e =
      let x = region_text p ++ (codes "]" ++ r) in
      let y = region_text q ++ (codes "]" ++ s) in
      let split = sym (inside (text_of rows a) (region_text p) r) ∙ e ∙ inside (text_of rows b) (region_text q) s in
      let same : a ≡ b = tells (codes ", " ++ x) (codes ", " ++ y) refl refl split in
      let rest = append_cancel_left (text_of rows b) (codes ", " ++ x) (codes ", " ++ y)
      (ap (λ t. text_of rows t ++ (codes ", " ++ x)) (sym same) ∙ split) in (
        same,
        region_same p q (codes "]" ++ r) (codes "]" ++ s) hp hq refl refl
            (append_cancel_left (codes ", ") x y rest),
      )

  -- ---- arguments

  -- a mark, an argument and what stands behind it, or the bracket that closes
  behind : List ℕ → Arguments → List ℕ
  behind mark no_arguments = codes "]"
  behind mark (arguments one rest) = mark ++ argument_text rows one ++ others_text rows rest

  others_behind : (args : Arguments) → others_text rows args ≡ behind (codes ", ") args
  unfolding behind
  others_behind no_arguments = refl
  others_behind (arguments one rest) = refl

  others_stop : (args : Arguments) (r : List ℕ) → stops (others_text rows args ++ r) ≡ true
  others_stop no_arguments r = refl
  others_stop (arguments one rest) r = refl

  -- where there are arguments on both sides or on none, what follows a bracket is the same
  bracket_same : (ps : List Parameter) (xs ys : Arguments) (r s : List ℕ) → Fit rows ps xs → Fit rows ps ys
      → arguments_text rows xs ++ r ≡ arguments_text rows ys ++ s → behind (codes "[") xs
      ++ r ≡ behind (codes "[") ys ++ s
  unfolding behind
  bracket_same [] no_arguments no_arguments r s hx hy e = ap (λ t. codes "]" ++ t) e
  bracket_same (p ∷ ps) (arguments x xs) (arguments y ys) r s hx hy e = e
  bracket_same [] no_arguments (arguments y ys) r s hx hy e = absurd hy
  bracket_same [] (arguments x xs) ys r s hx hy e = absurd hx
  bracket_same (p ∷ ps) no_arguments ys r s hx hy e = absurd hx
  bracket_same (p ∷ ps) (arguments x xs) no_arguments r s hx hy e = absurd hy

  -- the first argument stands in front of the others
  front : (mark : List ℕ) (one : Argument) (rest : Arguments) (r : List ℕ) → behind mark (arguments one rest)
      ++ r ≡ mark ++ (argument_text rows one ++ (others_text rows rest ++ r))
  unfolding behind
  front mark one rest r = simp append_assoc

  -- arguments behind one that is the same
  others_same : (x y : Argument) (xs ys : Arguments) (r s : List ℕ) → x ≡ y
      → argument_text rows x ++ (others_text rows xs ++ r) ≡ argument_text rows y ++ (others_text rows ys ++ s)
      → behind (codes ", ") xs ++ r ≡ behind (codes ", ") ys ++ s
  others_same x y xs ys r s same e =
      let rest = append_cancel_left (argument_text rows y) (others_text rows xs ++ r)
      (others_text rows ys ++ s) (ap (λ one. argument_text rows one ++ (others_text rows xs ++ r))
      (sym same) ∙ e) in
      sym (ap (λ t. t ++ r) (others_behind xs)) ∙ rest ∙ ap (λ t. t ++ s) (others_behind ys)

  -- ---- types

  mutual
    unfolding word tail lead behind

    type_same : (t u : Meaning) (r s : List ℕ) → Stands rows t → Stands rows u → stops r ≡ true →
        stops s ≡ true → text_of rows t ++ r ≡ text_of rows u ++ s → t ≡ u
    type_same unit u r s ht hu hr hs e = plain_same unit u (lead_same unit u r s ht hu hr hs e)
    type_same truth u r s ht hu hr hs e = plain_same truth u (lead_same truth u r s ht hu hr hs e)
    type_same (integer kind) u r s ht hu hr hs e =
        plain_same (integer kind) u (lead_same (integer kind) u r s ht hu hr hs e)
    type_same text u r s ht hu hr hs e = plain_same text u (lead_same text u r s ht hu hr hs e)
    type_same (parameter name) u r s ht hu hr hs e =
        plain_same (parameter name) u (lead_same (parameter name) u r s ht hu hr hs e)
    type_same (named a xs) (named b ys) r s ht hu hr hs e =
        let same = word_same (named a xs) (named b ys) r s ht hu hr hs e in
        let place : a ≡ b = head_apart a b ht.0 hu.0 same in
        let rest = tail_same (named a xs) (named b ys) r s same e in
        let fits : Fit rows (params_of (head_of rows a)) ys =
        subst (λ at. Fit rows (params_of (head_of rows at)) ys) (sym place) hu.1 in
        let args : xs ≡ ys = arguments_same (params_of (head_of rows a)) (codes "[") xs ys r s ht.1 fits
        (bracket_same (params_of (head_of rows a)) xs ys r s ht.1 fits rest) in
        cc
    type_same (reads a p) (reads b q) r s ht hu hr hs e =
        let both = reference_same a b p q r s (λ x y hx hy same. type_same a b x y ht.0 hu.0 hx hy same) ht.1
        hu.1 (append_cancel_left (codes "&[") _ _ e) in
        cc (both.0, both.1)
    type_same (writes a p) (writes b q) r s ht hu hr hs e =
        let both = reference_same a b p q r s (λ x y hx hy same. type_same a b x y ht.0 hu.0 hx hy same) ht.1
        hu.1 (append_cancel_left (codes "&![") _ _ e) in
        cc (both.0, both.1)
    type_same (reads a p) (writes b q) r s ht hu hr hs e = absurd (false≢true (ap (λ text. second text == 33) e))
    type_same (writes a p) (reads b q) r s ht hu hr hs e = absurd (false≢true (ap (λ text. second text == 91) e))
    type_same t u r s ht hu hr hs e = let same : lead t ≡ lead u = lead_same t u r s ht hu hr hs e in cc

    argument_same : (p : Parameter) (x y : Argument) (r s : List ℕ) → FitsArgument rows p x →
        FitsArgument rows p y → stops r ≡ true → stops s ≡ true → argument_text rows x
        ++ r ≡ argument_text rows y ++ s → x ≡ y
    argument_same p (of_type t) (of_type u) r s hx hy hr hs e = ap of_type (type_same t u r s hx.1 hy.1 hr hs e)
    argument_same p (in_region a) (in_region b) r s hx hy hr hs e = ap in_region (region_same a b r s hx.1 hy.1 hr hs e)
    argument_same p (of_type t) (in_region b) r s hx hy hr hs e = absurd (hx.0 hy.0)
    argument_same p (in_region a) (of_type u) r s hx hy hr hs e = absurd (hy.0 hx.0)

    arguments_same : (ps : List Parameter) (mark : List ℕ) (xs ys : Arguments) (r s : List ℕ) →
        Fit rows ps xs → Fit rows ps ys → behind mark xs ++ r ≡ behind mark ys ++ s → xs ≡ ys
    arguments_same [] mark no_arguments no_arguments r s hx hy e = refl
    arguments_same (p ∷ ps) mark (arguments x xs) (arguments y ys) r s hx hy e =
        let ends = append_cancel_left mark (argument_text rows x ++ (others_text rows xs ++ r))
        (argument_text rows y ++ (others_text rows ys ++ s))
        (sym (front mark x xs r) ∙ e ∙ front mark y ys s) in
        let first : x ≡ y = argument_same p x y (others_text rows xs ++ r) (others_text rows ys ++ s) hx.0
        hy.0 (others_stop xs r) (others_stop ys s) ends in
        let others : xs ≡ ys = arguments_same ps (codes ", ") xs ys r s hx.1 hy.1
        (others_same x y xs ys r s first ends) in
        cc
    arguments_same [] mark no_arguments (arguments y ys) r s hx hy e = absurd hy
    arguments_same [] mark (arguments x xs) ys r s hx hy e = absurd hx
    arguments_same (p ∷ ps) mark no_arguments ys r s hx hy e = absurd hx
    arguments_same (p ∷ ps) mark (arguments x xs) no_arguments r s hx hy e = absurd hy

-- over such rows, two types with one text are one type
pub texts_tell : TextsTell
texts_tell rows told t u ht hu e = type_same rows told t u [] [] ht hu refl refl (ap (λ bytes. bytes ++ []) e)
