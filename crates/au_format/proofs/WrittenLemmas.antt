-- The pieces of a layout.
use Rattle.std.proofs.Common.{◌≡◌, ℕ, zero, suc, ◌+◌, Bool, true, false, cond, nat_lt, List, [], ◌∷◌, ◌++◌}
use Rattle.std.proofs.Common.{Option, Some, ap, ◌∙◌, sym, refl, inl, inr, arith}
use Rattle.std.specs.List.{flat_map}
use Rattle.std.proofs.lemmas.Bool.{cases_Bool, cond-true, cond-false}
use Rattle.au_lexer.specs.Pieces.{Piece, blank, comment, docstring, number, token, spelling, number_of}
use Rattle.au_format.specs.declared.kinds.Kind.{Kind}
use Rattle.au_format.specs.declared.kinds.Kind.TheVariants as kind
use Rattle.au_format.specs.declared.standings.Previous.{Previous}
use Rattle.au_format.specs.declared.standings.Previous.TheVariants.{Nothing, Token, Docstring, Comment}
use Rattle.au_format.specs.declared.standings.Standing.{Standing}
use Rattle.au_format.specs.Kinds.{kind_of}
use Rattle.au_format.specs.Standings.{standing}
use Rattle.au_format.specs.Marks.{closes}
use Rattle.au_format.specs.Gaps.{token_gap, remark_gap, line_break, indent, line_levels, token_line}
use Rattle.au_format.specs.Layout.{laid_out, next_kind, ended_lines, file_end, trimmed}
use Rattle.au_format.specs.Places.{whats_among}
use Rattle.au_format.specs.Keeping.{kept_among}
use Rattle.au_format.proofs.RemarkLemmas.{trimmed_again}
use Rattle.au_format.proofs.LayingLemmas.{first_among, first_of_whats}

-- blank bytes as pieces
abbrev pub blanks : List ℕ → List Piece
blanks [] = []
blanks (byte ∷ bytes) = blank byte ∷ blanks bytes

-- the pieces of a layout
abbrev pub written : List Kind → Previous → ℕ → List Piece → List Piece
written before last lines [] = blanks (file_end last)
written before last lines (blank byte ∷ rest) = written before last (lines + ended_lines byte) rest
written before last lines (comment bytes ∷ rest) =
    blanks (remark_gap (standing before (next_kind rest)) last lines) ++ comment (trimmed bytes)
    ∷ written before Comment 0 rest
written before last lines (docstring inside ∷ rest) =
    blanks (remark_gap (standing before (next_kind rest)) last lines) ++ docstring inside
    ∷ written before Docstring 0 rest
written before last lines (number digits ∷ rest) =
    blanks (token_gap (standing before (Some kind.Number)) last lines kind.Number (next_kind rest)) ++ number digits
    ∷ written (kind.Number ∷ before) Token 0 rest
written before last lines (token what ∷ rest) =
    blanks (token_gap (standing before (Some (kind_of what))) last lines (kind_of what) (next_kind rest)) ++ token what
    ∷ written (kind_of what ∷ before) Token 0 rest

-- blanks are spelled as they are
blanks_spelled : (bytes : List ℕ) (pieces : List Piece) →
    flat_map spelling (blanks bytes ++ pieces) ≡ bytes ++ flat_map spelling pieces
blanks_spelled [] pieces = refl
blanks_spelled (byte ∷ bytes) pieces = ap (λ b. byte ∷ b) (blanks_spelled bytes pieces)

blanks_alone : (bytes : List ℕ) → flat_map spelling (blanks bytes) ≡ bytes
blanks_alone [] = refl
blanks_alone (byte ∷ bytes) = ap (λ b. byte ∷ b) (blanks_alone bytes)

-- one piece more behind what stands before it
one_spelled : (gap : List ℕ) (found : Piece) (more : List Piece) (rest : List ℕ) → flat_map spelling more ≡ rest →
    flat_map spelling (blanks gap ++ found ∷ more) ≡ gap ++ (spelling found ++ rest)
one_spelled gap found more rest h = blanks_spelled gap (found ∷ more) ∙ ap (λ r. gap ++ (spelling found ++ r)) h

-- the layout is the spelling of these pieces
pub written_spelled : (before : List Kind) (last : Previous) (lines : ℕ) (pieces : List Piece) →
    flat_map spelling (written before last lines pieces) ≡ laid_out before last lines pieces
written_spelled before last lines [] = blanks_alone (file_end last)
written_spelled before last lines (blank byte ∷ rest) = written_spelled before last (lines + ended_lines byte) rest
written_spelled before last lines (comment bytes ∷ rest) =
    one_spelled (remark_gap (standing before (next_kind rest)) last lines) (comment (trimmed bytes))
    (written before Comment 0 rest) (laid_out before Comment 0 rest) (written_spelled before Comment 0 rest)
written_spelled before last lines (docstring inside ∷ rest) =
    one_spelled (remark_gap (standing before (next_kind rest)) last lines) (docstring inside)
    (written before Docstring 0 rest) (laid_out before Docstring 0 rest) (written_spelled before Docstring 0 rest)
written_spelled before last lines (number digits ∷ rest) =
    one_spelled (token_gap (standing before (Some kind.Number)) last lines kind.Number (next_kind rest)) (number digits)
    (written (kind.Number ∷ before) Token 0 rest) (laid_out (kind.Number ∷ before) Token 0 rest)
    (written_spelled (kind.Number ∷ before) Token 0 rest)
written_spelled before last lines (token what ∷ rest) =
    one_spelled (token_gap (standing before (Some (kind_of what))) last lines (kind_of what) (next_kind rest))
    (token what) (written (kind_of what ∷ before) Token 0 rest) (laid_out (kind_of what ∷ before) Token 0 rest)
    (written_spelled (kind_of what ∷ before) Token 0 rest)

-- blanks are no tokens
blanks_whats : (bytes : List ℕ) (pieces : List Piece) → whats_among (blanks bytes ++ pieces) ≡ whats_among pieces
blanks_whats [] pieces = refl
blanks_whats (byte ∷ bytes) pieces = blanks_whats bytes pieces

no_whats : (bytes : List ℕ) → whats_among (blanks bytes) ≡ []
no_whats [] = refl
no_whats (byte ∷ bytes) = no_whats bytes

-- the layout has the same tokens
pub written_whats : (before : List Kind) (last : Previous) (lines : ℕ) (pieces : List Piece) →
    whats_among (written before last lines pieces) ≡ whats_among pieces
written_whats before last lines [] = no_whats (file_end last)
written_whats before last lines (blank byte ∷ rest) = written_whats before last (lines + ended_lines byte) rest
written_whats before last lines (comment bytes ∷ rest) =
    blanks_whats (remark_gap (standing before (next_kind rest)) last lines)
    (comment (trimmed bytes) ∷ written before Comment 0 rest) ∙ written_whats before Comment 0 rest
written_whats before last lines (docstring inside ∷ rest) =
    blanks_whats (remark_gap (standing before (next_kind rest)) last lines)
    (docstring inside ∷ written before Docstring 0 rest) ∙ written_whats before Docstring 0 rest
written_whats before last lines (number digits ∷ rest) =
    blanks_whats (token_gap (standing before (Some kind.Number)) last lines kind.Number (next_kind rest))
    (number digits ∷ written (kind.Number ∷ before) Token 0 rest)
    ∙ ap (λ ws. number_of digits ∷ ws) (written_whats (kind.Number ∷ before) Token 0 rest)
written_whats before last lines (token what ∷ rest) =
    blanks_whats (token_gap (standing before (Some (kind_of what))) last lines (kind_of what) (next_kind rest))
    (token what ∷ written (kind_of what ∷ before) Token 0 rest)
    ∙ ap (λ ws. what ∷ ws) (written_whats (kind_of what ∷ before) Token 0 rest)

-- so the next token is the same
next_again : (before : List Kind) (last : Previous) (lines : ℕ) (pieces : List Piece) →
    next_kind (written before last lines pieces) ≡ next_kind pieces
next_again before last lines pieces =
    sym (first_among (written before last lines pieces))
    ∙ ap first_of_whats (written_whats before last lines pieces) ∙ first_among pieces

-- blanks are kept by nothing
blanks_kept : (bytes : List ℕ) (pieces : List Piece) → kept_among (blanks bytes ++ pieces) ≡ kept_among pieces
blanks_kept [] pieces = refl
blanks_kept (byte ∷ bytes) pieces = blanks_kept bytes pieces

none_kept : (bytes : List ℕ) → kept_among (blanks bytes) ≡ []
none_kept [] = refl
none_kept (byte ∷ bytes) = none_kept bytes

-- the layout has the same tokens and remarks
pub written_kept : (before : List Kind) (last : Previous) (lines : ℕ) (pieces : List Piece) →
    kept_among (written before last lines pieces) ≡ kept_among pieces
written_kept before last lines [] = none_kept (file_end last)
written_kept before last lines (blank byte ∷ rest) = written_kept before last (lines + ended_lines byte) rest
written_kept before last lines (comment bytes ∷ rest) =
    blanks_kept (remark_gap (standing before (next_kind rest)) last lines)
    (comment (trimmed bytes) ∷ written before Comment 0 rest)
    ∙ ap (λ b. comment b ∷ kept_among (written before Comment 0 rest)) (trimmed_again bytes)
    ∙ ap (λ ps. comment (trimmed bytes) ∷ ps) (written_kept before Comment 0 rest)
written_kept before last lines (docstring inside ∷ rest) =
    blanks_kept (remark_gap (standing before (next_kind rest)) last lines)
    (docstring inside ∷ written before Docstring 0 rest)
    ∙ ap (λ ps. docstring inside ∷ ps) (written_kept before Docstring 0 rest)
written_kept before last lines (number digits ∷ rest) =
    blanks_kept (token_gap (standing before (Some kind.Number)) last lines kind.Number (next_kind rest))
    (number digits ∷ written (kind.Number ∷ before) Token 0 rest)
    ∙ ap (λ ps. number digits ∷ ps) (written_kept (kind.Number ∷ before) Token 0 rest)
written_kept before last lines (token what ∷ rest) =
    blanks_kept (token_gap (standing before (Some (kind_of what))) last lines (kind_of what) (next_kind rest))
    (token what ∷ written (kind_of what ∷ before) Token 0 rest)
    ∙ ap (λ ps. token what ∷ ps) (written_kept (kind_of what ∷ before) Token 0 rest)

-- how many lines bytes end, and so many before them
abbrev lines_with : ℕ → List ℕ → ℕ
lines_with lines [] = lines
lines_with lines (byte ∷ bytes) = lines_with (lines + ended_lines byte) bytes

-- blanks are counted
blanks_counted : (before : List Kind) (last : Previous) (lines : ℕ) (bytes : List ℕ) (pieces : List Piece) →
    laid_out before last lines (blanks bytes ++ pieces) ≡ laid_out before last (lines_with lines bytes) pieces
blanks_counted before last lines [] pieces = refl
blanks_counted before last lines (byte ∷ bytes) pieces =
    blanks_counted before last (lines + ended_lines byte) bytes pieces

-- no line ends in an indent
indent_ends : (lines levels : ℕ) → lines_with lines (indent levels) ≡ lines
indent_ends lines zero = refl
indent_ends lines (suc levels) =
    ap (λ n. lines_with n (indent levels)) (let e : lines + 0 + 0 ≡ lines = omega arith in e) ∙ indent_ends lines levels

-- a line break that is read is the same one
break_again : (lines levels : ℕ) → (nat_lt 0 (lines_with 0 (line_break lines levels)) ≡ true)
    × (line_break (lines_with 0 (line_break lines levels)) levels ≡ line_break lines levels)
break_again lines levels =
    let twice : List ℕ = 10 ∷ 10 ∷ indent levels in
    let once : List ℕ = 10 ∷ indent levels in
    elim (cases_Bool (nat_lt 1 lines)) [
      | inl e ↦
          let is : line_break lines levels ≡ twice = cond-true _ _ _ e in
          let n : lines_with 0 (line_break lines levels) ≡ 2 = ap (lines_with 0) is ∙ indent_ends 2 levels in
          (ap (nat_lt 0) n, ap (λ m. line_break m levels) n ∙ sym is)
      | inr e ↦
          let is : line_break lines levels ≡ once = cond-false _ _ _ e in
          let n : lines_with 0 (line_break lines levels) ≡ 1 = ap (lines_with 0) is ∙ indent_ends 1 levels in
          (ap (nat_lt 0) n, ap (λ m. line_break m levels) n ∙ sym is)
    ]

-- what stands before a remark on a line of its own or behind something
either_again : (lines levels : ℕ) → (gap : ℕ → List ℕ) →
    ((n : ℕ) → gap n ≡ cond (nat_lt 0 n) (line_break n levels) (32 ∷ [])) →
    gap (lines_with 0 (gap lines)) ≡ gap lines
either_again lines levels gap is =
    elim (cases_Bool (nat_lt 0 lines)) [
      | inl e ↦
          let here : gap lines ≡ line_break lines levels = is lines ∙ cond-true _ _ _ e in
          let again = break_again lines levels in
          ap (λ g. gap (lines_with 0 g)) here ∙ is (lines_with 0 (line_break lines levels))
          ∙ cond-true _ _ _ again.0 ∙ again.1 ∙ sym here
      | inr e ↦
          let here : gap lines ≡ 32 ∷ [] = is lines ∙ cond-false _ _ _ e in
          ap (λ g. gap (lines_with 0 g)) here ∙ is 0 ∙ sym here
    ]

remark_again : (s : Standing) (last : Previous) (lines : ℕ) →
    remark_gap s last (lines_with 0 (remark_gap s last lines)) ≡ remark_gap s last lines
remark_again s Nothing lines = refl
remark_again s Comment lines = (break_again lines (line_levels s 0)).1
remark_again s Token lines = either_again lines (line_levels s 0) (remark_gap s Token) (λ n. refl)
remark_again s Docstring lines = either_again lines (line_levels s 0) (remark_gap s Docstring) (λ n. refl)

-- what stands before a token
blank_ends : (s : Standing) (kind : Kind) (b : Bool) → lines_with 0 (cond b [] (32 ∷ [])) ≡ 0
blank_ends s kind true = refl
blank_ends s kind false = refl

token_again : (s : Standing) (last : Previous) (lines : ℕ) (kind : Kind) (next : Option Kind) →
    token_gap s last (lines_with 0 (token_gap s last lines kind next)) kind next ≡ token_gap s last lines kind next
token_again s Nothing lines kind next = refl
token_again s Docstring lines kind next = (break_again lines (line_levels s (closes s.last s.choices kind next))).1
token_again s Comment lines kind next = (break_again lines (line_levels s (closes s.last s.choices kind next))).1
token_again s Token lines kind next = elim (cases_Bool s.ended) [
  | inl e ↦
      let here : token_gap s Token lines kind next ≡ token_line s lines kind next = cond-true _ _ _ e in
      ap (λ g. token_gap s Token (lines_with 0 g) kind next) here ∙ cond-true _ _ _ e
      ∙ (break_again lines (line_levels s (closes s.last s.choices kind next))).1 ∙ sym here
  | inr e ↦ cond-false _ _ _ e ∙ sym (cond-false _ _ _ e)
]

-- the layout of a layout is the same
pub laid_again : (before : List Kind) (last : Previous) (lines : ℕ) (pieces : List Piece) →
    laid_out before last 0 (written before last lines pieces) ≡ laid_out before last lines pieces
laid_again before Nothing lines [] = refl
laid_again before Token lines [] = refl
laid_again before Docstring lines [] = refl
laid_again before Comment lines [] = refl
laid_again before last lines (blank byte ∷ rest) = laid_again before last (lines + ended_lines byte) rest
laid_again before last lines (comment bytes ∷ rest) =
    let gap : List ℕ = remark_gap (standing before (next_kind rest)) last lines in
    let more : List Piece = written before Comment 0 rest in
    blanks_counted before last 0 gap (comment (trimmed bytes) ∷ more)
    ∙ ap (λ n. remark_gap (standing before n) last (lines_with 0 gap) ++ (spelling (comment (trimmed (trimmed bytes)))
    ++ laid_out before Comment 0 more)) (next_again before Comment 0 rest)
    ∙ ap (λ g. g ++ (spelling (comment (trimmed (trimmed bytes))) ++ laid_out before Comment 0 more))
    (remark_again (standing before (next_kind rest)) last lines)
    ∙ ap (λ b. gap ++ (spelling (comment b) ++ laid_out before Comment 0 more)) (trimmed_again bytes)
    ∙ ap (λ r. gap ++ (spelling (comment (trimmed bytes)) ++ r)) (laid_again before Comment 0 rest)
laid_again before last lines (docstring inside ∷ rest) =
    let gap : List ℕ = remark_gap (standing before (next_kind rest)) last lines in
    let more : List Piece = written before Docstring 0 rest in
    let told : List ℕ = spelling (docstring inside) in
    blanks_counted before last 0 gap (docstring inside ∷ more)
    ∙ ap (λ n. remark_gap (standing before n) last (lines_with 0 gap) ++ (told ++ laid_out before Docstring 0 more))
    (next_again before Docstring 0 rest)
    ∙ ap (λ g. g ++ (told ++ laid_out before Docstring 0 more))
    (remark_again (standing before (next_kind rest)) last lines)
    ∙ ap (λ r. gap ++ (told ++ r)) (laid_again before Docstring 0 rest)
laid_again before last lines (number digits ∷ rest) =
    let s : Standing = standing before (Some kind.Number) in
    let gap : List ℕ = token_gap s last lines kind.Number (next_kind rest) in
    let after : List Kind = kind.Number ∷ before in
    let more : List Piece = written after Token 0 rest in
    blanks_counted before last 0 gap (number digits ∷ more)
    ∙ ap (λ n. token_gap s last (lines_with 0 gap) kind.Number n ++ (digits ++ laid_out after Token 0 more))
    (next_again after Token 0 rest)
    ∙ ap (λ g. g ++ (digits ++ laid_out after Token 0 more)) (token_again s last lines kind.Number (next_kind rest))
    ∙ ap (λ r. gap ++ (digits ++ r)) (laid_again after Token 0 rest)
laid_again before last lines (token what ∷ rest) =
    let one : Kind = kind_of what in
    let s : Standing = standing before (Some one) in
    let gap : List ℕ = token_gap s last lines one (next_kind rest) in
    let after : List Kind = one ∷ before in
    let more : List Piece = written after Token 0 rest in
    let told : List ℕ = spelling (token what) in
    blanks_counted before last 0 gap (token what ∷ more)
    ∙ ap (λ n. token_gap s last (lines_with 0 gap) one n ++ (told ++ laid_out after Token 0 more))
    (next_again after Token 0 rest)
    ∙ ap (λ g. g ++ (told ++ laid_out after Token 0 more)) (token_again s last lines one (next_kind rest))
    ∙ ap (λ r. gap ++ (told ++ r)) (laid_again after Token 0 rest)
