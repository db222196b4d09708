-- The pieces of a layout are its cut.
use Rattle.std.proofs.Common.{◌≡◌, ℕ, zero, suc, ◌+◌, Bool, true, false, not, ◌||◌, cond, nat_lt, List, [], ◌∷◌}
use Rattle.std.proofs.Common.{◌++◌, length, drop, Option, Some, ap, ◌∙◌, sym, refl, subst, inl, inr}
use Rattle.std.specs.List.{list_all, flat_map}
use Rattle.std.proofs.Math.Seq.{drop-append_seam}
use Rattle.std.proofs.lemmas.Bool.{cases_Bool, cond-true, cond-false, and_parts}
use Rattle.au_base.specs.declared.tokens.Sign.{Sign as SignOf}
use Rattle.au_base.specs.declared.tokens.Sign.TheVariants.{Assign, FatArrow, Arrow, WriteBorrow, Reborrow}
use Rattle.au_base.specs.declared.tokens.Sign.TheVariants.{NotEqual, LessEqual, GreaterEqual, LeftParenthesis}
use Rattle.au_base.specs.declared.tokens.Sign.TheVariants.{RightParenthesis, LeftBracket, RightBracket}
use Rattle.au_base.specs.declared.tokens.Sign.TheVariants.{LeftBrace, RightBrace, Comma, Semicolon, Colon}
use Rattle.au_base.specs.declared.tokens.Sign.TheVariants.{Dot, ReadBorrow, Exclamation, Plus, Minus, Star}
use Rattle.au_base.specs.declared.tokens.Sign.TheVariants.{Slash, Equal, Less, Greater}
use Rattle.au_base.specs.Tokens.{keyword_spelling, sign_spelling}
use Rattle.au_base.specs.declared.tokens.What.{What}
use Rattle.au_base.specs.declared.tokens.What.TheVariants.{Word, Sign, Name, Number, Text}
use Rattle.au_base.specs.Places.{is_newline}
use Rattle.au_lexer.specs.Bytes.{is_space}
use Rattle.au_lexer.specs.Cut.{CutsFront}
use Rattle.au_lexer.specs.Pieces.{Piece, blank, comment, docstring, number, token, spelling, what_of, number_of, IsPiece}
use Rattle.au_lexer.specs.Pieces.{IsWord}
use Rattle.au_lexer.proofs.WordLemmas.{keyword_word}
use Rattle.au_format.specs.declared.kinds.Kind.{Kind}
use Rattle.au_format.specs.declared.kinds.Kind.TheVariants as kind
use Rattle.au_format.specs.declared.standings.Previous.{Previous}
use Rattle.au_format.specs.declared.standings.Previous.TheVariants.{Nothing, Token, Docstring, Comment}
use Rattle.au_format.specs.declared.standings.Standing.{Standing}
use Rattle.au_format.specs.Kinds.{kind_of, nearest}
use Rattle.au_format.specs.Standings.{standing}
use Rattle.au_format.specs.Marks.{closes, follows}
use Rattle.au_format.specs.Gaps.{token_gap, remark_gap, line_break, indent, line_levels, token_line, token_blank}
use Rattle.au_format.specs.Layout.{laid_out, next_kind, ended_lines, trimmed}
use Rattle.au_format.proofs.RemarkLemmas.{trimmed_all}
use Rattle.au_format.proofs.AgainLemmas.{Apart, goes_on, goes_with, stands_again}
use Rattle.au_format.proofs.GlueLemmas.{sign_first, BeginsWith, glued_apart, plain_apart, newline_plain, space_plain}
use Rattle.au_format.proofs.WrittenLemmas.{blanks, written, written_spelled}

-- what no byte goes on with
any_apart : (found : Piece) → ((byte : ℕ) → goes_on found byte ≡ false) → (bytes : List ℕ) → Apart found bytes
any_apart found h [] = tt
any_apart found h (byte ∷ bytes) = h byte

-- a line break behind a piece
break_apart : (found : Piece) (lines levels : ℕ) (rest : List ℕ) → goes_on found 10 ≡ false →
    Apart found (line_break lines levels ++ rest)
break_apart found lines levels rest h = elim (cases_Bool (nat_lt 1 lines)) [
  | inl e ↦
      let is : line_break lines levels ≡ 10 ∷ 10 ∷ indent levels = cond-true _ _ _ e in
      subst (λ g. Apart found (g ++ rest)) (sym is) h
  | inr e ↦
      let is : line_break lines levels ≡ 10 ∷ indent levels = cond-false _ _ _ e in
      subst (λ g. Apart found (g ++ rest)) (sym is) h
]

-- behind a comment a line begins
comment_next : (text : List ℕ) (before : List Kind) (lines : ℕ) (pieces : List Piece) →
    Apart (comment text) (laid_out before Comment lines pieces)
comment_next text before lines [] = refl
comment_next text before lines (blank byte ∷ rest) = comment_next text before (lines + ended_lines byte) rest
comment_next text before lines (comment bytes ∷ rest) =
    break_apart (comment text) lines (line_levels (standing before (next_kind rest)) 0) _ refl
comment_next text before lines (docstring inside ∷ rest) =
    break_apart (comment text) lines (line_levels (standing before (next_kind rest)) 0) _ refl
comment_next text before lines (number digits ∷ rest) =
    let s : Standing = standing before (Some kind.Number) in
    break_apart (comment text) lines (line_levels s (closes s.last s.choices kind.Number (next_kind rest))) _ refl
comment_next text before lines (token what ∷ rest) =
    let s : Standing = standing before (Some (kind_of what)) in
    break_apart (comment text) lines (line_levels s (closes s.last s.choices (kind_of what) (next_kind rest))) _ refl

-- a word isn't empty
word_first : (word : List ℕ) → IsWord word → (byte : ℕ) × (rest : List ℕ) × (word ≡ byte ∷ rest)
word_first [] h = absurd h
word_first (byte ∷ rest) h = (byte, rest, refl)

-- the first byte of a sign
sign_begins : (sign : SignOf) → (rest : List ℕ) × (sign_spelling sign ≡ sign_first sign ∷ rest)
sign_begins Assign = (_, refl)
sign_begins FatArrow = (_, refl)
sign_begins Arrow = (_, refl)
sign_begins WriteBorrow = (_, refl)
sign_begins Reborrow = (_, refl)
sign_begins NotEqual = (_, refl)
sign_begins LessEqual = (_, refl)
sign_begins GreaterEqual = (_, refl)
sign_begins LeftParenthesis = (_, refl)
sign_begins RightParenthesis = (_, refl)
sign_begins LeftBracket = (_, refl)
sign_begins RightBracket = (_, refl)
sign_begins LeftBrace = (_, refl)
sign_begins RightBrace = (_, refl)
sign_begins Comma = (_, refl)
sign_begins Semicolon = (_, refl)
sign_begins Colon = (_, refl)
sign_begins Dot = (_, refl)
sign_begins ReadBorrow = (_, refl)
sign_begins Exclamation = (_, refl)
sign_begins Plus = (_, refl)
sign_begins Minus = (_, refl)
sign_begins Star = (_, refl)
sign_begins Slash = (_, refl)
sign_begins Equal = (_, refl)
sign_begins Less = (_, refl)
sign_begins Greater = (_, refl)

-- the first byte of a token
begins_first : (found : Piece) (what : What) → what_of found ≡ Some what → IsPiece found →
    (byte : ℕ) × (rest : List ℕ) × (spelling found ≡ byte ∷ rest) × BeginsWith what byte
begins_first (blank byte) what h known = absurd cc
begins_first (comment bytes) what h known = absurd cc
begins_first (docstring inside) what h known = absurd cc
begins_first (number []) what h known = absurd (known.0 refl)
begins_first (number (digit ∷ digits)) what h known =
    let e : number_of (digit ∷ digits) ≡ what = cc in
    (digit, digits, refl, subst (λ w. BeginsWith w digit) e (and_parts _ _ known.1).0)
begins_first (token what) other h known = let e : what ≡ other = cc in
    subst (λ w. (byte : ℕ) × (rest : List ℕ) × (spelling (token what) ≡ byte ∷ rest) × BeginsWith w byte) e (first what known)
  where
    first : (what : What) → IsPiece (token what) →
        (byte : ℕ) × (rest : List ℕ) × (spelling (token what) ≡ byte ∷ rest) × BeginsWith what byte
    first (Word keyword) known = let some = word_first (keyword_spelling keyword) (keyword_word keyword) in
        (some.0, some.1, some.2, tt)
    first (Sign sign) known = let some = sign_begins sign in (sign_first sign, some.0, some.1, refl)
    first (Name []) known = absurd known.0
    first (Name (byte ∷ name)) known = (byte, name, refl, known.0.0)
    first (Number value digits) known = absurd known
    first (Text text) known = (34, _, refl, tt)

-- behind a token another one
token_next : (what other : What) (spelled rest : List ℕ) (before : List Kind) (lines : ℕ) (next : Option Kind) →
    ((byte : ℕ) × (more : List ℕ) × (spelled ≡ byte ∷ more) × BeginsWith other byte) → (found : Piece) →
    ((byte : ℕ) → goes_on found byte ≡ goes_with what byte) →
    Apart found (token_gap (standing (kind_of what ∷ before) (Some (kind_of other))) Token lines (kind_of other) next
    ++ (spelled ++ rest))
token_next what other spelled rest before lines next first found same =
    let s : Standing = standing (kind_of what ∷ before) (Some (kind_of other)) in
    let k : Kind = kind_of other in
    let levels : ℕ = line_levels s (closes s.last s.choices k next) in
    let test : Bool = s.hugging || follows s.last s.in_import k in
    elim (cases_Bool s.ended) [
      | inl e ↦
          let is : token_gap s Token lines k next ≡ line_break lines levels = cond-true _ _ _ e in
          subst (λ g. Apart found (g ++ (spelled ++ rest))) (sym is)
          (break_apart found lines levels (spelled ++ rest) (same 10 ∙ plain_apart what 10 newline_plain))
      | inr e ↦ elim (cases_Bool test) [
        | inl glued ↦
            let is : token_gap s Token lines k next ≡ [] = cond-false _ _ _ e ∙ cond-true _ _ _ glued in
            subst (λ g. Apart found (g ++ (spelled ++ rest))) (sym is)
            (subst (λ t. Apart found (t ++ rest)) (sym first.2)
            (same first.0 ∙ glued_apart what other first.0 (nearest before) s.in_import glued first.3))
        | inr apart ↦
            let is : token_gap s Token lines k next ≡ 32 ∷ [] = cond-false _ _ _ e ∙ cond-false _ _ _ apart in
            subst (λ g. Apart found (g ++ (spelled ++ rest))) (sym is) (same 32 ∙ plain_apart what 32 space_plain)
      ]
    ]

-- behind a token a remark
remark_next : (found : Piece) (s : Standing) (lines : ℕ) (rest : List ℕ) → goes_on found 10 ≡ false →
    goes_on found 32 ≡ false → Apart found (remark_gap s Token lines ++ rest)
remark_next found s lines rest ten blank_apart = elim (cases_Bool (nat_lt 0 lines)) [
  | inl e ↦
      let is : remark_gap s Token lines ≡ line_break lines (line_levels s 0) = cond-true _ _ _ e in
      subst (λ g. Apart found (g ++ rest)) (sym is) (break_apart found lines (line_levels s 0) rest ten)
  | inr e ↦
      let is : remark_gap s Token lines ≡ 32 ∷ [] = cond-false _ _ _ e in
      subst (λ g. Apart found (g ++ rest)) (sym is) blank_apart
]

-- All of these are pieces.
abbrev pub AreKnown : List Piece → Type 0
AreKnown [] = Unit {0}
AreKnown (found ∷ pieces) = IsPiece found × AreKnown pieces

pub cuts_known : (pieces : List Piece) (bytes rest : List ℕ) → CutsFront pieces bytes rest → AreKnown pieces
cuts_known [] bytes rest cuts = tt
cuts_known (found ∷ pieces) bytes rest cuts =
    (cuts.0.begins.known, cuts_known pieces (drop (length (spelling found)) bytes) rest cuts.1)

-- behind a token whatever stands there
behind_token : (found : Piece) (what : What) → ((byte : ℕ) → goes_on found byte ≡ goes_with what byte) →
    (before : List Kind) (lines : ℕ) (pieces : List Piece) → AreKnown pieces →
    Apart found (laid_out (kind_of what ∷ before) Token lines pieces)
behind_token found what same before lines [] known = same 10 ∙ plain_apart what 10 newline_plain
behind_token found what same before lines (blank byte ∷ rest) known =
    behind_token found what same before (lines + ended_lines byte) rest known.1
behind_token found what same before lines (comment bytes ∷ rest) known =
    remark_next found (standing (kind_of what ∷ before) (next_kind rest)) lines _
    (same 10 ∙ plain_apart what 10 newline_plain) (same 32 ∙ plain_apart what 32 space_plain)
behind_token found what same before lines (docstring inside ∷ rest) known =
    remark_next found (standing (kind_of what ∷ before) (next_kind rest)) lines _
    (same 10 ∙ plain_apart what 10 newline_plain) (same 32 ∙ plain_apart what 32 space_plain)
behind_token found what same before lines (number digits ∷ rest) known =
    token_next what (number_of digits) digits _ before lines (next_kind rest)
    (begins_first (number digits) (number_of digits) refl known.0) found same
behind_token found what same before lines (token other ∷ rest) known =
    token_next what other (spelling (token other)) _ before lines (next_kind rest)
    (begins_first (token other) other refl known.0) found same

-- Each of these is a piece, and what follows doesn't go on with it.
abbrev pub AreApart : List Piece → Type 0
AreApart [] = Unit {0}
AreApart (found ∷ pieces) = IsPiece found × Apart found (flat_map spelling pieces) × AreApart pieces

-- such pieces are the cut of their spelling
pub cuts_again : (pieces : List Piece) → AreApart pieces → CutsFront pieces (flat_map spelling pieces) []
cuts_again [] h = refl
cuts_again (found ∷ pieces) h =
    let rest : List ℕ = flat_map spelling pieces in (
      stands_again found rest h.0 h.1,
      subst (λ b. CutsFront pieces b []) (sym (drop-append_seam (spelling found) rest)) (cuts_again pieces h.2),
    )

-- blanks before such pieces
blanks_apart : (bytes : List ℕ) (pieces : List Piece) → list_all is_space bytes ≡ true → AreApart pieces →
    AreApart (blanks bytes ++ pieces)
blanks_apart [] pieces h apart = apart
blanks_apart (byte ∷ bytes) pieces h apart =
    let parts = and_parts (is_space byte) (list_all is_space bytes) h in (
      parts.0,
      any_apart (blank byte) (λ b. refl) (flat_map spelling (blanks bytes ++ pieces)),
      blanks_apart bytes pieces parts.1 apart,
    )

-- what stands before pieces is blanks
indent_spaces : (levels : ℕ) → list_all is_space (indent levels) ≡ true
indent_spaces zero = refl
indent_spaces (suc levels) = indent_spaces levels

break_spaces : (lines levels : ℕ) → list_all is_space (line_break lines levels) ≡ true
break_spaces lines levels = elim (cases_Bool (nat_lt 1 lines)) [
  | inl e ↦
      let is : line_break lines levels ≡ 10 ∷ 10 ∷ indent levels = cond-true _ _ _ e in
      ap (list_all is_space) is ∙ indent_spaces levels
  | inr e ↦
      let is : line_break lines levels ≡ 10 ∷ indent levels = cond-false _ _ _ e in
      ap (list_all is_space) is ∙ indent_spaces levels
]

either_spaces : (b : Bool) (lines levels : ℕ) → list_all is_space (cond b (line_break lines levels) (32 ∷ [])) ≡ true
either_spaces true lines levels = break_spaces lines levels
either_spaces false lines levels = refl

remark_spaces : (s : Standing) (last : Previous) (lines : ℕ) → list_all is_space (remark_gap s last lines) ≡ true
remark_spaces s Nothing lines = refl
remark_spaces s Comment lines = break_spaces lines (line_levels s 0)
remark_spaces s Token lines = either_spaces (nat_lt 0 lines) lines (line_levels s 0)
remark_spaces s Docstring lines = either_spaces (nat_lt 0 lines) lines (line_levels s 0)

one_or_none : (b : Bool) → list_all is_space (cond b [] (32 ∷ [])) ≡ true
one_or_none true = refl
one_or_none false = refl

token_spaces : (s : Standing) (last : Previous) (lines : ℕ) (k : Kind) (next : Option Kind) →
    list_all is_space (token_gap s last lines k next) ≡ true
token_spaces s Nothing lines k next = refl
token_spaces s Docstring lines k next = break_spaces lines (line_levels s (closes s.last s.choices k next))
token_spaces s Comment lines k next = break_spaces lines (line_levels s (closes s.last s.choices k next))
token_spaces s Token lines k next = elim (cases_Bool s.ended) [
  | inl e ↦
      let is : token_gap s Token lines k next ≡ token_line s lines k next = cond-true _ _ _ e in
      ap (list_all is_space) is ∙ break_spaces lines (line_levels s (closes s.last s.choices k next))
  | inr e ↦
      let is : token_gap s Token lines k next ≡ token_blank s k = cond-false _ _ _ e in
      ap (list_all is_space) is ∙ one_or_none (s.hugging || follows s.last s.in_import k)
]

-- the pieces of a layout are apart
pub written_apart : (before : List Kind) (last : Previous) (lines : ℕ) (pieces : List Piece) → AreKnown pieces →
    AreApart (written before last lines pieces)
written_apart before Nothing lines [] known = tt
written_apart before Token lines [] known = (refl, tt, tt)
written_apart before Docstring lines [] known = (refl, tt, tt)
written_apart before Comment lines [] known = (refl, tt, tt)
written_apart before last lines (blank byte ∷ rest) known =
    written_apart before last (lines + ended_lines byte) rest known.1
written_apart before last lines (comment bytes ∷ rest) known =
    blanks_apart (remark_gap (standing before (next_kind rest)) last lines) _
    (remark_spaces (standing before (next_kind rest)) last lines) (
      trimmed_all (λ byte. not (is_newline byte)) bytes known.0,
      subst (Apart (comment (trimmed bytes))) (sym (written_spelled before Comment 0 rest))
          (comment_next (trimmed bytes) before 0 rest),
      written_apart before Comment 0 rest known.1,
    )
written_apart before last lines (docstring inside ∷ rest) known =
    blanks_apart (remark_gap (standing before (next_kind rest)) last lines) _
    (remark_spaces (standing before (next_kind rest)) last lines) (
      known.0,
      any_apart (docstring inside) (λ b. refl) (flat_map spelling (written before Docstring 0 rest)),
      written_apart before Docstring 0 rest known.1,
    )
written_apart before last lines (number digits ∷ rest) known =
    let s : Standing = standing before (Some kind.Number) in
    blanks_apart (token_gap s last lines kind.Number (next_kind rest)) _
    (token_spaces s last lines kind.Number (next_kind rest)) (
      known.0,
      subst (Apart (number digits)) (sym (written_spelled (kind.Number ∷ before) Token 0 rest))
          (behind_token (number digits) (number_of digits) (λ b. refl) before 0 rest known.1),
      written_apart (kind.Number ∷ before) Token 0 rest known.1,
    )
written_apart before last lines (token what ∷ rest) known =
    let k : Kind = kind_of what in
    let s : Standing = standing before (Some k) in
    blanks_apart (token_gap s last lines k (next_kind rest)) _ (token_spaces s last lines k (next_kind rest)) (
      known.0,
      subst (Apart (token what)) (sym (written_spelled (k ∷ before) Token 0 rest))
          (behind_token (token what) what (λ b. refl) before 0 rest known.1),
      written_apart (k ∷ before) Token 0 rest known.1,
    )
