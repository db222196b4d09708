-- Each piece lays the file out further.
use Rattle.std.proofs.Common.{◌≡◌, ℕ, ◌+◌, ◌<◌, ◌≤◌, List, [], ◌∷◌, ◌++◌, length, take, drop, Option, Some, None}
use Rattle.std.proofs.Common.{ap, ◌∙◌, sym, refl, subst, ◌⊎◌, inl, inr, arith, append_assoc, length-drop}
use Rattle.std.specs.Prelude.{slice_index}
use Rattle.std.proofs.lemmas.List.{drop-drop}
use Rattle.std.proofs.lemmas.Bool.{cases_Bool, cond-true, cond-false}
use Rattle.au_base.specs.Places.{is_newline}
use Rattle.au_base.specs.declared.tokens.Token.{Token as TokenOf}
use Rattle.au_base.specs.declared.tokens.What.{What}
use Rattle.au_lexer.specs.Cut.{Stands, CutsFront, Cut, tokens_among}
use Rattle.au_lexer.specs.Pieces.{Piece, blank, comment, docstring, number, token, spelling, what_of, number_of}
use Rattle.au_lexer.proofs.CutLemmas.{spelling_some}
use Rattle.au_format.specs.declared.fronts.Front.TheVariants as shown
use Rattle.au_format.specs.declared.kinds.Kind.{Kind}
use Rattle.au_format.specs.declared.places.Place.{Place}
use Rattle.au_format.specs.declared.standings.Previous.{Previous}
use Rattle.au_format.specs.declared.standings.Previous.TheVariants.{Token, Docstring, Comment}
use Rattle.au_format.specs.declared.standings.Standing.{Standing}
use Rattle.au_format.specs.Kinds.{kind_of, kinds_of, kinds_among, nearest, first_kind, spelled_size}
use Rattle.au_format.specs.Standings.{standing, step}
use Rattle.au_format.specs.Gaps.{token_gap, remark_gap}
use Rattle.au_format.specs.Fronts.{front_at, front_of}
use Rattle.au_format.specs.Layout.{laid_out, next_kind, ended_lines, file_end, trimmed, IsLayout}
use Rattle.au_format.specs.Places.{first_size, HasLaid, AddsToken, start, behind_blank, behind_remark, behind_token, whats_of}
use Rattle.au_format.specs.Places.{whats_among, whats}
use Rattle.au_format.proofs.StandLemmas.{begins_some}
use Rattle.au_format.proofs.StandingLemmas.{levels_few, choices_few}
use Rattle.au_format.proofs.PieceLemmas.{front_is, spelled_is, stands_within, stands_spelled}

-- the piece that bytes begin with which are cut into pieces
first_of : (rest : List Piece) (bytes : List ℕ) → CutsFront rest bytes [] → 0 < length bytes →
    (found : Piece) × (more : List Piece) × (rest ≡ found ∷ more) × Stands found bytes
    × CutsFront more (drop (length (spelling found)) bytes) []
first_of [] bytes cuts some = absurd (omega (arith, ap length cuts))
first_of (found ∷ more) bytes cuts some = (found, more, refl, cuts.0, cuts.1)

module _ (bytes : List ℕ) (tokens : List TokenOf) (text : List ℕ) (p : Place) (h : HasLaid bytes tokens text p)
    (further : p.done < length bytes) where
  -- what is left isn't empty
  left_some : 0 < length (drop p.done bytes)
  left_some = omega (arith, length-drop p.done bytes, further)

  -- one piece further
  laid_on : (new : List ℕ) (after : Place) (found : Piece) (more : List Piece) (before : List Kind) →
      h.rest ≡ found ∷ more → Stands found (drop p.done bytes) →
      CutsFront more (drop (length (spelling found)) (drop p.done bytes)) [] →
      after.done ≡ p.done + length (spelling found) → after.tokens ≤ length tokens →
      whats (drop after.tokens tokens) ≡ whats_among more → after.standing ≡ standing before (next_kind more) →
      length before ≤ after.done → after.lines ≤ after.done →
      new ++ laid_out before after.last after.lines more ≡ text ++ laid_out h.before p.last p.lines (found ∷ more) →
      HasLaid bytes tokens new after
  laid_on new after found more before is stands cuts done counted spelled known few lines laid = record {
    within = omega (arith, stands_within (drop p.done bytes) found stands, length-drop p.done bytes, h.within, done);
    pieces = h.pieces;
    cuts = h.cuts;
    rest = more;
    left = subst (λ r. CutsFront more r [])
        (drop-drop (length (spelling found)) p.done bytes ∙ ap (λ n. drop n bytes) (sym done)) cuts;
    counted = counted;
    spelled = spelled;
    before = before;
    known = known;
    few = few;
    few_lines = lines;
    laid = laid ∙ ap (λ r. text ++ laid_out h.before p.last p.lines r) (sym is) ∙ h.laid;
  }

  ended_few : (byte : ℕ) → ended_lines byte ≤ 1
  ended_few byte = elim (cases_Bool (is_newline byte)) [
    | inl e ↦ omega (arith, cond-true {A = ℕ} _ 1 0 e)
    | inr e ↦ omega (arith, cond-false {A = ℕ} _ 1 0 e)
  ]

  -- a blank further
  blank_on : (found : Piece) (more : List Piece) → h.rest ≡ found ∷ more → Stands found (drop p.done bytes) →
      CutsFront more (drop (length (spelling found)) (drop p.done bytes)) [] → front_of found ≡ shown.Blank →
      HasLaid bytes tokens text (behind_blank p (slice_index (drop p.done bytes) 0))
  blank_on (blank byte) more is stands cuts e =
      let first : slice_index (drop p.done bytes) 0 ≡ byte = ap (λ b. slice_index b 0) stands.begins.front.1 in
      subst (λ b. HasLaid bytes tokens text (behind_blank p b)) (sym first)
      (laid_on text (behind_blank p byte) (blank byte) more h.before is stands cuts refl h.counted
      (h.spelled ∙ ap whats_among is) (h.known ∙ ap (λ r. standing h.before (next_kind r)) is)
      (omega (arith, h.few)) (omega (arith, h.few_lines, ended_few byte)) refl)
  blank_on (comment cs) more is stands cuts e = absurd cc
  blank_on (docstring inside) more is stands cuts e = absurd cc
  blank_on (number digits) more is stands cuts e = absurd cc
  blank_on (token what) more is stands cuts e = absurd cc

  pub blank_laid : front_at (drop p.done bytes) ≡ shown.Blank →
      HasLaid bytes tokens text (behind_blank p (slice_index (drop p.done bytes) 0))
  blank_laid shows =
      let f = first_of h.rest (drop p.done bytes) h.left left_some in
      blank_on f.0 f.1 f.2 f.3 f.4 (sym (front_is (drop p.done bytes) f.0 left_some f.3) ∙ shows)

  -- how a text grows by a piece and what stands before it
  grown : (gap spelled rest : List ℕ) → (text ++ (gap ++ spelled)) ++ rest ≡ text ++ (gap ++ (spelled ++ rest))
  grown gap spelled rest =
      append_assoc text (gap ++ spelled) rest ∙ ap (λ t. text ++ t) (append_assoc gap spelled rest)

  -- a remark further
  remark_on : (new : List ℕ) (found : Piece) (more : List Piece) (last : Previous) (size : ℕ) (told : List ℕ) →
      h.rest ≡ found ∷ more → Stands found (drop p.done bytes) →
      CutsFront more (drop (length (spelling found)) (drop p.done bytes)) [] →
      length (spelling found) ≡ size → what_of found ≡ None →
      ((before : List Kind) (l : Previous) (n : ℕ) → laid_out before l n (found ∷ more)
      ≡ remark_gap (standing before (next_kind more)) l n ++ (told ++ laid_out before last 0 more)) →
      new ≡ text ++ (remark_gap p.standing p.last p.lines ++ told) →
      HasLaid bytes tokens new (behind_remark p last size)
  remark_on new found more last size told is stands cuts sized none out added =
      let known : p.standing ≡ standing h.before (next_kind more) =
      h.known ∙ ap (λ r. standing h.before (next_kind r)) is
      ∙ ap (λ o. standing h.before (nearest (kinds_of o ++ kinds_among more))) none in
      let rest : List ℕ = laid_out h.before last 0 more in
      laid_on new (behind_remark p last size) found more h.before is stands cuts
      (ap (λ n. p.done + n) (sym sized)) h.counted
      (h.spelled ∙ ap whats_among is ∙ ap (λ o. whats_of o ++ whats_among more) none) known
      (omega (arith, h.few)) (omega arith)
      (ap (λ t. t ++ rest) added ∙ grown (remark_gap p.standing p.last p.lines) told rest
      ∙ ap (λ (s : Standing). text ++ (remark_gap s p.last p.lines ++ (told ++ rest))) known
      ∙ ap (λ t. text ++ t) (sym (out h.before p.last p.lines)))

  comment_on : (new : List ℕ) (found : Piece) (more : List Piece) (size : ℕ) → h.rest ≡ found ∷ more →
      Stands found (drop p.done bytes) → CutsFront more (drop (length (spelling found)) (drop p.done bytes)) [] →
      front_of found ≡ shown.Comment size →
      new ≡ text ++ (remark_gap p.standing p.last p.lines ++ trimmed (take size (drop p.done bytes))) →
      HasLaid bytes tokens new (behind_remark p Comment size)
  comment_on new (comment cs) more size is stands cuts e added =
      let sized : length (spelling (comment cs)) ≡ size = cc in
      let told : trimmed (take size (drop p.done bytes)) ≡ 45 ∷ 45 ∷ trimmed cs =
      ap (λ n. trimmed (take n (drop p.done bytes))) (sym sized)
      ∙ ap trimmed (stands_spelled (drop p.done bytes) (comment cs) stands) in
      remark_on new (comment cs) more Comment size (spelling (comment (trimmed cs))) is stands cuts sized refl
      (λ before l n. refl) (added ∙ ap (λ t. text ++ (remark_gap p.standing p.last p.lines ++ t)) told)
  comment_on new (blank byte) more size is stands cuts e added = absurd cc
  comment_on new (docstring inside) more size is stands cuts e added = absurd cc
  comment_on new (number digits) more size is stands cuts e added = absurd cc
  comment_on new (token what) more size is stands cuts e added = absurd cc

  pub comment_laid : (new : List ℕ) (size : ℕ) → front_at (drop p.done bytes) ≡ shown.Comment size →
      new ≡ text ++ (remark_gap p.standing p.last p.lines ++ trimmed (take size (drop p.done bytes))) →
      HasLaid bytes tokens new (behind_remark p Comment size)
  comment_laid new size shows added =
      let f = first_of h.rest (drop p.done bytes) h.left left_some in
      comment_on new f.0 f.1 size f.2 f.3 f.4 (sym (front_is (drop p.done bytes) f.0 left_some f.3) ∙ shows) added

  docstring_on : (new : List ℕ) (found : Piece) (more : List Piece) (size : ℕ) → h.rest ≡ found ∷ more →
      Stands found (drop p.done bytes) → CutsFront more (drop (length (spelling found)) (drop p.done bytes)) [] →
      front_of found ≡ shown.Docstring size →
      new ≡ text ++ (remark_gap p.standing p.last p.lines ++ take size (drop p.done bytes)) →
      HasLaid bytes tokens new (behind_remark p Docstring size)
  docstring_on new (docstring inside) more size is stands cuts e added =
      let sized : length (spelling (docstring inside)) ≡ size = cc in
      let told : take size (drop p.done bytes) ≡ spelling (docstring inside) =
      ap (λ n. take n (drop p.done bytes)) (sym sized)
      ∙ stands_spelled (drop p.done bytes) (docstring inside) stands in
      remark_on new (docstring inside) more Docstring size (spelling (docstring inside)) is stands cuts sized refl
      (λ before l n. refl) (added ∙ ap (λ t. text ++ (remark_gap p.standing p.last p.lines ++ t)) told)
  docstring_on new (blank byte) more size is stands cuts e added = absurd cc
  docstring_on new (comment cs) more size is stands cuts e added = absurd cc
  docstring_on new (number digits) more size is stands cuts e added = absurd cc
  docstring_on new (token what) more size is stands cuts e added = absurd cc

  pub docstring_laid : (new : List ℕ) (size : ℕ) → front_at (drop p.done bytes) ≡ shown.Docstring size →
      new ≡ text ++ (remark_gap p.standing p.last p.lines ++ take size (drop p.done bytes)) →
      HasLaid bytes tokens new (behind_remark p Docstring size)
  docstring_laid new size shows added =
      let f = first_of h.rest (drop p.done bytes) h.left left_some in
      docstring_on new f.0 f.1 size f.2 f.3 f.4 (sym (front_is (drop p.done bytes) f.0 left_some f.3) ∙ shows) added

  -- how far a remark goes
  sized_within : (found : Piece) (size : ℕ) → Stands found (drop p.done bytes) →
      (front_of found ≡ shown.Comment size) ⊎ (front_of found ≡ shown.Docstring size) →
      size ≤ length (drop p.done bytes)
  sized_within (blank byte) size stands e = elim e [ inl w ↦ absurd cc | inr w ↦ absurd cc ]
  sized_within (comment cs) size stands e = elim e [
    | inl w ↦
        let sized : length (spelling (comment cs)) ≡ size = cc in
        omega (arith, stands_within (drop p.done bytes) (comment cs) stands, sized)
    | inr w ↦ absurd cc
  ]
  sized_within (docstring inside) size stands e = elim e [
    | inl w ↦ absurd cc
    | inr w ↦
        let sized : length (spelling (docstring inside)) ≡ size = cc in
        omega (arith, stands_within (drop p.done bytes) (docstring inside) stands, sized)
  ]
  sized_within (number digits) size stands e = elim e [ inl w ↦ absurd cc | inr w ↦ absurd cc ]
  sized_within (token what) size stands e = elim e [ inl w ↦ absurd cc | inr w ↦ absurd cc ]

  pub comment_within : (size : ℕ) → front_at (drop p.done bytes) ≡ shown.Comment size →
      size ≤ length (drop p.done bytes)
  comment_within size shows =
      let f = first_of h.rest (drop p.done bytes) h.left left_some in
      sized_within f.0 size f.3 (inl (sym (front_is (drop p.done bytes) f.0 left_some f.3) ∙ shows))

  pub docstring_within : (size : ℕ) → front_at (drop p.done bytes) ≡ shown.Docstring size →
      size ≤ length (drop p.done bytes)
  docstring_within size shows =
      let f = first_of h.rest (drop p.done bytes) h.left left_some in
      sized_within f.0 size f.3 (inr (sym (front_is (drop p.done bytes) f.0 left_some f.3) ∙ shows))

-- how far the numbers of a place go
pub levels_done : (bytes : List ℕ) (tokens : List TokenOf) (text : List ℕ) (p : Place) → HasLaid bytes tokens text p →
    p.standing.levels ≤ p.done
levels_done bytes tokens text p h =
    omega (arith, ap (λ (s : Standing). s.levels) h.known, levels_few h.before (next_kind h.rest), h.few)

pub choices_done : (bytes : List ℕ) (tokens : List TokenOf) (text : List ℕ) (p : Place) → HasLaid bytes tokens text p →
    p.standing.choices ≤ p.done
choices_done bytes tokens text p h =
    omega (arith, ap (λ (s : Standing). s.choices) h.known, choices_few h.before, h.few)

-- the kind of the first token
abbrev pub first_of_whats : List What → Option Kind
first_of_whats [] = None
first_of_whats (what ∷ whats) = Some (kind_of what)

first_of_tokens : (tokens : List TokenOf) → first_kind tokens ≡ first_of_whats (whats tokens)
first_of_tokens [] = refl
first_of_tokens (one ∷ tokens) = refl

pub first_among : (pieces : List Piece) → first_of_whats (whats_among pieces) ≡ next_kind pieces
first_among [] = refl
first_among (blank byte ∷ pieces) = first_among pieces
first_among (comment bytes ∷ pieces) = first_among pieces
first_among (docstring inside ∷ pieces) = first_among pieces
first_among (number digits ∷ pieces) = refl
first_among (token what ∷ pieces) = refl

pub first_is : (pieces : List Piece) (tokens : List TokenOf) → whats tokens ≡ whats_among pieces →
    first_kind tokens ≡ next_kind pieces
first_is pieces tokens h = first_of_tokens tokens ∙ ap first_of_whats h ∙ first_among pieces

-- how a token is laid out
token_out : (found : Piece) (what : What) (more : List Piece) → what_of found ≡ Some what →
    (before : List Kind) (l : Previous) (n : ℕ) → laid_out before l n (found ∷ more)
    ≡ token_gap (standing before (Some (kind_of what))) l n (kind_of what) (next_kind more)
    ++ (spelling found ++ laid_out (kind_of what ∷ before) Token 0 more)
token_out (blank byte) what more h before l n = absurd cc
token_out (comment bytes) what more h before l n = absurd cc
token_out (docstring inside) what more h before l n = absurd cc
token_out (number digits) what more h before l n =
    let e : number_of digits ≡ what = cc in
    subst (λ w. laid_out before l n (number digits ∷ more)
    ≡ token_gap (standing before (Some (kind_of w))) l n (kind_of w) (next_kind more)
    ++ (digits ++ laid_out (kind_of w ∷ before) Token 0 more)) e refl
token_out (token one) what more h before l n =
    let e : one ≡ what = cc in
    subst (λ w. laid_out before l n (token one ∷ more)
    ≡ token_gap (standing before (Some (kind_of w))) l n (kind_of w) (next_kind more)
    ++ (spelling (token one) ++ laid_out (kind_of w ∷ before) Token 0 more)) e refl

-- what a token and those behind it are
one_what : (one : TokenOf) (tokens : List TokenOf) (what : What) (more : List What) →
    whats (one ∷ tokens) ≡ what ∷ more → (one.what ≡ what) × (whats tokens ≡ more)
one_what one tokens what more h =
    let a : one.what ∷ whats tokens ≡ what ∷ more = h in
    let b : one.what ≡ what = cc in
    let c : whats tokens ≡ more = cc in
    (b, c)

module _ (bytes : List ℕ) (tokens : List TokenOf) (text : List ℕ) (p : Place) (h : HasLaid bytes tokens text p)
    (further : p.done < length bytes) where
  -- the tokens that are left begin with the one that stands here
  token_go : (new : List ℕ) (after : Place) (found : Piece) (more : List Piece) (what : What) (left : List TokenOf) →
      h.rest ≡ found ∷ more → Stands found (drop p.done bytes) →
      CutsFront more (drop (length (spelling found)) (drop p.done bytes)) [] → what_of found ≡ Some what →
      drop p.tokens tokens ≡ left → whats left ≡ what ∷ whats_among more →
      AddsToken text new p after (drop p.done bytes) left →
      HasLaid bytes tokens new after × (p.done < after.done)
  token_go new after found more what [] is stands cuts meant e spelled adds = absurd adds
  token_go new after found more what (one ∷ left) is stands cuts meant e spelled adds =
      let rest : List ℕ = drop p.done bytes in
      let kind : Kind = kind_of what in
      let next : Option Kind = next_kind more in
      let same = one_what one left what (whats_among more) spelled in
      let next_is : first_kind left ≡ next = first_is more left same.1 in
      let size : spelled_size what ≡ length (spelling found) = spelled_is found what stands.begins.known meant in
      let known : p.standing ≡ standing h.before (Some kind) =
      h.known ∙ ap (λ r. standing h.before (next_kind r)) is
      ∙ ap (λ o. standing h.before (nearest (kinds_of o ++ kinds_among more))) meant in
      let out : List ℕ = laid_out (kind ∷ h.before) Token 0 more in
      let new_is : new ≡ text ++ (token_gap (standing h.before (Some kind)) p.last p.lines kind next ++ spelling found) =
      adds.0
      ∙ ap (λ w. text ++ (token_gap p.standing p.last p.lines (kind_of w) (first_kind left)
      ++ take (spelled_size w) rest)) same.0
      ∙ ap (λ n. text ++ (token_gap p.standing p.last p.lines kind n ++ take (spelled_size what) rest)) next_is
      ∙ ap (λ (s : Standing). text ++ (token_gap s p.last p.lines kind next ++ take (spelled_size what) rest)) known
      ∙ ap (λ t. text ++ (token_gap (standing h.before (Some kind)) p.last p.lines kind next ++ t))
      (ap (λ n. take n rest) size ∙ stands_spelled rest found stands) in
      let after_is : after ≡ behind_token p kind next (length (spelling found)) =
      adds.1 ∙ ap (λ w. behind_token p (kind_of w) (first_kind left) (spelled_size w)) same.0
      ∙ ap (λ n. behind_token p kind n (spelled_size what)) next_is ∙ ap (behind_token p kind next) size in
      let left_is : drop (p.tokens + 1) tokens ≡ left = sym (drop-drop 1 p.tokens tokens) ∙ ap (drop 1) e in
      let count = ap length e in
      let some = spelling_some found stands.begins.known in (
        subst (HasLaid bytes tokens new) (sym after_is)
            (laid_on bytes tokens text p h further new (behind_token p kind next (length (spelling found))) found more
            (kind ∷ h.before) is stands cuts refl (omega (arith, count, length-drop p.tokens tokens))
            (ap whats left_is ∙ same.1) (ap (λ (s : Standing). step s kind next) known)
            (omega (arith, h.few, some)) (omega arith)
            (ap (λ t. t ++ out) new_is
            ∙ grown bytes tokens text p h further (token_gap (standing h.before (Some kind)) p.last p.lines kind next)
            (spelling found) out
            ∙ ap (λ t. text ++ t) (sym (token_out found what more meant h.before p.last p.lines)))),
        omega (arith, some, ap (λ (q : Place). q.done) after_is),
      )

  token_on : (new : List ℕ) (after : Place) (found : Piece) (more : List Piece) → h.rest ≡ found ∷ more →
      Stands found (drop p.done bytes) → CutsFront more (drop (length (spelling found)) (drop p.done bytes)) [] →
      front_of found ≡ shown.Token → AddsToken text new p after (drop p.done bytes) (drop p.tokens tokens) →
      HasLaid bytes tokens new after × (p.done < after.done)
  token_on new after (blank byte) more is stands cuts e adds = absurd cc
  token_on new after (comment cs) more is stands cuts e adds = absurd cc
  token_on new after (docstring inside) more is stands cuts e adds = absurd cc
  token_on new after (number digits) more is stands cuts e adds =
      token_go new after (number digits) more (number_of digits) (drop p.tokens tokens) is stands cuts refl refl
      (h.spelled ∙ ap whats_among is) adds
  token_on new after (token what) more is stands cuts e adds =
      token_go new after (token what) more what (drop p.tokens tokens) is stands cuts refl refl
      (h.spelled ∙ ap whats_among is) adds

  pub token_laid : (new : List ℕ) (after : Place) → front_at (drop p.done bytes) ≡ shown.Token →
      AddsToken text new p after (drop p.done bytes) (drop p.tokens tokens) →
      HasLaid bytes tokens new after × (p.done < after.done)
  token_laid new after shows adds =
      let f = first_of h.rest (drop p.done bytes) h.left (left_some bytes tokens text p h further) in
      token_on new after f.0 f.1 f.2 f.3 f.4
      (sym (front_is (drop p.done bytes) f.0 (left_some bytes tokens text p h further) f.3) ∙ shows) adds

  -- the first token that is left stands here
  fits_in : (left : List TokenOf) (found : Piece) (what : What) (more : List What) →
      Stands found (drop p.done bytes) → what_of found ≡ Some what → whats left ≡ what ∷ more →
      (0 < length left) × (first_size left ≤ length (drop p.done bytes))
  fits_in [] found what more stands meant e = absurd cc
  fits_in (one ∷ left) found what more stands meant e =
      let same = one_what one left what more e in
      let size : spelled_size one.what ≡ length (spelling found) =
      ap spelled_size same.0 ∙ spelled_is found what stands.begins.known meant in
      (omega arith, omega (arith, size, stands_within (drop p.done bytes) found stands))

  fits_on : (found : Piece) (more : List Piece) → h.rest ≡ found ∷ more → Stands found (drop p.done bytes) →
      front_of found ≡ shown.Token →
      (0 < length (drop p.tokens tokens)) × (first_size (drop p.tokens tokens) ≤ length (drop p.done bytes))
  fits_on (blank byte) more is stands e = absurd cc
  fits_on (comment cs) more is stands e = absurd cc
  fits_on (docstring inside) more is stands e = absurd cc
  fits_on (number digits) more is stands e =
      fits_in (drop p.tokens tokens) (number digits) (number_of digits) (whats_among more) stands refl
      (h.spelled ∙ ap whats_among is)
  fits_on (token what) more is stands e =
      fits_in (drop p.tokens tokens) (token what) what (whats_among more) stands refl (h.spelled ∙ ap whats_among is)

  pub token_fits : front_at (drop p.done bytes) ≡ shown.Token →
      (0 < length (drop p.tokens tokens)) × (first_size (drop p.tokens tokens) ≤ length (drop p.done bytes))
  token_fits shows =
      let f = first_of h.rest (drop p.done bytes) h.left (left_some bytes tokens text p h further) in
      fits_on f.0 f.1 f.2 f.3
      (sym (front_is (drop p.done bytes) f.0 (left_some bytes tokens text p h further) f.3) ∙ shows)

-- the tokens of a file are those among its pieces
pub whats_cut : (file : ℕ) (front : List ℕ) (pieces : List Piece) →
    whats (tokens_among file front pieces) ≡ whats_among pieces
whats_cut file front [] = refl
whats_cut file front (blank byte ∷ pieces) = whats_cut file (front ++ byte ∷ []) pieces
whats_cut file front (comment bytes ∷ pieces) = whats_cut file (front ++ spelling (comment bytes)) pieces
whats_cut file front (docstring inside ∷ pieces) = whats_cut file (front ++ spelling (docstring inside)) pieces
whats_cut file front (number digits ∷ pieces) =
    ap (λ ws. number_of digits ∷ ws) (whats_cut file (front ++ digits) pieces)
whats_cut file front (token what ∷ pieces) =
    ap (λ ws. what ∷ ws) (whats_cut file (front ++ spelling (token what)) pieces)

-- at first nothing is laid out
laid_start : (file : ℕ) (bytes : List ℕ) (tokens : List TokenOf) → Cut file bytes tokens →
    HasLaid bytes tokens [] start
laid_start file bytes tokens cut = record {
  within = omega arith;
  pieces = cut.0;
  cuts = cut.1;
  rest = cut.0;
  left = cut.1;
  counted = omega arith;
  spelled = ap whats cut.2 ∙ whats_cut file [] cut.0;
  before = [];
  known = refl;
  few = omega arith;
  few_lines = omega arith;
  laid = refl;
}

pub laid_begin : (file : ℕ) (bytes : List ℕ) (tokens : List TokenOf) (text : List ℕ) (p : Place) →
    Cut file bytes tokens → text ≡ [] → p ≡ start → HasLaid bytes tokens text p
laid_begin file bytes tokens text p cut none begin =
    subst (λ t. HasLaid bytes tokens t p) (sym none)
    (subst (HasLaid bytes tokens []) (sym begin) (laid_start file bytes tokens cut))

-- nothing is left at the end of a file
nothing_left : (rest : List Piece) → CutsFront rest [] [] → rest ≡ []
nothing_left [] cuts = refl
nothing_left (found ∷ more) cuts = let some = begins_some found [] cuts.0.begins in absurd (omega arith)

-- in the end the whole file is laid out
pub laid_end : (bytes : List ℕ) (tokens : List TokenOf) (text : List ℕ) (p : Place) → HasLaid bytes tokens text p →
    length bytes ≤ p.done → IsLayout bytes (text ++ file_end p.last)
laid_end bytes tokens text p h ended =
    let none : drop p.done bytes ≡ [] = empty (drop p.done bytes) (omega (arith, length-drop p.done bytes)) in
    let rest : h.rest ≡ [] = nothing_left h.rest (subst (λ b. CutsFront h.rest b []) none h.left) in
    (h.pieces, h.cuts, ap (λ r. text ++ laid_out h.before p.last p.lines r) (sym rest) ∙ h.laid)
  where
    empty : (xs : List ℕ) → length xs ≤ 0 → xs ≡ []
    empty [] e = refl
    empty (x ∷ xs) e = absurd (omega arith)
