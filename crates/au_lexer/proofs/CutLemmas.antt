-- How far a file is cut.
use Rattle.std.proofs.Common.{◌≡◌, ℕ, ◌+◌, ◌<◌, ◌≤◌, true, not, IsTrue, List, [], ◌∷◌, ◌++◌, length, take}
use Rattle.std.proofs.Common.{drop, Option, Err, ap, ◌∙◌, sym, refl, subst, arith, append_assoc}
use Rattle.std.proofs.Common.{length-append, length-drop}
use Rattle.std.specs.List.{flat_map}
use Rattle.std.proofs.lemmas.List.{append-nil, take_at, drop-drop}
use Rattle.std.proofs.lemmas.Grind.{flat_map-append}
use Rattle.std.proofs.lemmas.List.Sums.{count_by-le-length, suffix_len-le-length}
use Rattle.au_base.specs.declared.limits.Limit.{Limit}
use Rattle.au_base.specs.declared.places.Pos.{Pos}
use Rattle.au_base.specs.declared.tokens.Token.{Token}
use Rattle.au_base.specs.declared.tokens.What.{What}
use Rattle.au_base.specs.declared.tokens.What.TheVariants.{Word, Sign, Name, Number, Text}
use Rattle.au_base.specs.Places.{place_after, is_newline}
use Rattle.au_base.proofs.OutsideLemmas.{take_split}
use Rattle.au_lexer.specs.declared.lexing.LexFault.TheVariants as fault
use Rattle.au_lexer.specs.declared.pieces.Stop.{Stop}
use Rattle.au_lexer.specs.declared.pieces.Stop.TheVariants.{Stray, Passes, Memory}
use Rattle.au_lexer.specs.Pieces.{Piece, blank, comment, docstring, number, token, spelling, what_of, IsPiece, IsWord}
use Rattle.au_lexer.specs.Cut.{Stands, CutsFront, tokens_among, token_at, StopsAt, PassesLimit}
use Rattle.au_lexer.specs.Passing.{is_within, count_among, are_within, limit_passed}
use Rattle.au_lexer.specs.Faults.{fault_of}
use Rattle.au_lexer.specs.Reading.{IsLongest, FindsPiece, BeginsPassing}
use Rattle.au_lexer.proofs.WordLemmas.{keyword_word}
use Rattle.au_lexer.proofs.SignLemmas.{sign_mark}
use Rattle.au_lexer.proofs.PassingLemmas.{count_is, within_more}

-- The first bytes of a file are cut into pieces with these tokens, and a place is behind them.
pub record HasCut (file : ℕ) (bytes : List ℕ) (done : ℕ) (at : Pos) (tokens : List Token) : Type 0 where
  pub within : done ≤ length bytes
  pub pieces : List Piece
  pub cuts : CutsFront pieces bytes (drop done bytes)
  pub kept : IsTrue (are_within 0 pieces)
  pub spelled : flat_map spelling pieces ≡ take done bytes
  pub listed : tokens ≡ tokens_among file [] pieces
  pub place : at ≡ place_after file (take done bytes)

-- one more piece
cuts_more : (pieces : List Piece) (bytes rest : List ℕ) (piece : Piece) → CutsFront pieces bytes rest →
    Stands piece rest → CutsFront (pieces ++ piece ∷ []) bytes (drop (length (spelling piece)) rest)
cuts_more [] bytes rest piece cuts stands =
    (subst (Stands piece) (sym cuts) stands, ap (drop (length (spelling piece))) cuts)
cuts_more (one ∷ pieces) bytes rest piece cuts stands =
    (cuts.0, cuts_more pieces (drop (length (spelling one)) bytes) rest piece cuts.1 stands)

-- its token
tokens_more : (file : ℕ) (front : List ℕ) (pieces : List Piece) (piece : Piece) →
    tokens_among file front (pieces ++ piece ∷ []) ≡ tokens_among file front pieces
    ++ token_at (place_after file (front ++ flat_map spelling pieces)) (what_of piece)
tokens_more file front [] piece = append-nil _ ∙ ap (λ f. token_at (place_after file f) (what_of piece))
    (sym (append-nil front))
tokens_more file front (one ∷ pieces) piece =
    let here : List Token = token_at (place_after file front) (what_of one) in
    ap (λ ts. here ++ ts) (tokens_more file (front ++ spelling one) pieces piece
    ∙ ap (λ f. tokens_among file (front ++ spelling one) pieces
    ++ token_at (place_after file f) (what_of piece))
    (append_assoc front (spelling one) (flat_map spelling pieces)))
    ∙ sym (append_assoc here (tokens_among file (front ++ spelling one) pieces) _)

-- how the longest piece lies in the bytes
pub longest_within : (bytes : List ℕ) (size : ℕ) (what : Option What) → IsLongest bytes size what → size ≤ length bytes
longest_within bytes size what longest =
    let front = longest.stands.begins.front in
    let total = ap length front.1 in
    let parts = length-append (spelling longest.found) front.0 in
    let sized = longest.sized in
    omega arith

longest_spelled : (bytes : List ℕ) (size : ℕ) (what : Option What) (longest : IsLongest bytes size what) →
    spelling longest.found ≡ take size bytes
longest_spelled bytes size what longest =
    let front = longest.stands.begins.front in
    sym (ap (take size) front.1 ∙ take_at (spelling longest.found) front.0 size longest.sized)

-- No piece is empty.
word_some : (word : List ℕ) → IsWord word → 0 < length word
word_some [] h = absurd h
word_some (first ∷ rest) h = omega arith

pub spelling_some : (piece : Piece) → IsPiece piece → 0 < length (spelling piece)
spelling_some (blank byte) h = omega arith
spelling_some (comment bytes) h = omega arith
spelling_some (docstring inside) h = omega arith
spelling_some (number []) h = absurd (h.0 refl)
spelling_some (number (first ∷ digits)) h = omega arith
spelling_some (token (Number value digits)) h = absurd h
spelling_some (token (Word keyword)) h = word_some _ (keyword_word keyword)
spelling_some (token (Sign sign)) h = let mark = sign_mark sign in let size = ap length mark.is in omega arith
spelling_some (token (Name name)) h = word_some name h.0
spelling_some (token (Text text)) h = omega arith

pub longest_some : (bytes : List ℕ) (size : ℕ) (what : Option What) → IsLongest bytes size what → 0 < size
longest_some bytes size what longest = let sized = longest.sized
    in omega (arith, spelling_some longest.found longest.stands.begins.known)

-- the file is cut one piece further
pub has_more : (file : ℕ) (bytes : List ℕ) (done : ℕ) (at after : Pos) (tokens : List Token) (size : ℕ)
    (what : Option What) →
    HasCut file bytes done at tokens → IsLongest (drop done bytes) size what → is_within (length tokens) what
    ≡ true → after ≡ place_after file (take done bytes ++ take size (drop done bytes)) →
    HasCut file bytes (done + size) after (tokens ++ token_at at what)
has_more file bytes done at after tokens size what cut longest kept is =
    let rest : List ℕ = drop done bytes in
    let found : Piece = longest.found in
    let fits = longest_within rest size what longest in
    let counted : length tokens ≡ count_among cut.pieces = ap length cut.listed ∙ count_is file [] cut.pieces in
    let from_none : 0 + count_among cut.pieces ≡ count_among cut.pieces = omega arith in
    let seam : take (done + size) bytes ≡ take done bytes ++ take size rest = take_split done size bytes cut.within in
    record {
      within = omega (arith, length-drop done bytes);
      pieces = cut.pieces ++ found ∷ [];
      cuts = subst (CutsFront (cut.pieces ++ found ∷ []) bytes)
          (ap (λ n. drop n rest) longest.sized ∙ drop-drop size done bytes)
          (cuts_more cut.pieces bytes rest found cut.cuts longest.stands);
      kept = within_more 0 cut.pieces found cut.kept
          (ap (λ n. is_within n (what_of found)) from_none ∙ ap (is_within (count_among cut.pieces))
          longest.meant ∙ ap (λ n. is_within n what) (sym counted) ∙ kept);
      spelled = flat_map-append spelling cut.pieces (found ∷ []) ∙ ap (λ s. flat_map spelling cut.pieces ++ s)
          (append-nil (spelling found)) ∙ ap (λ s. s ++ spelling found) cut.spelled
          ∙ ap (λ s. take done bytes ++ s) (longest_spelled rest size what longest) ∙ sym seam;
      listed =
          ap (λ ts. ts ++ token_at at what) cut.listed
          ∙ ap (λ p. tokens_among file [] cut.pieces ++ token_at p what)
          (cut.place ∙ ap (place_after file) (sym cut.spelled))
          ∙ ap (λ w. tokens_among file [] cut.pieces
          ++ token_at (place_after file (flat_map spelling cut.pieces)) w) (sym longest.meant)
          ∙ sym (tokens_more file [] cut.pieces found);
      place = is ∙ ap (place_after file) (sym seam);
    }

-- a place lies within the file's bytes
pub place_bounds : (file : ℕ) (front : List ℕ) → ((place_after file front).line ≤ length front + 1)
    × ((place_after file front).column ≤ length front + 1)
place_bounds file front = (
  omega (arith, count_by-le-length is_newline front),
  omega (arith, suffix_len-le-length (λ b. not (is_newline b)) front),
)

-- where a file is cut no further
pub stops_at : (file : ℕ) (bytes : List ℕ) (done : ℕ) (at : Pos) (tokens : List Token) →
    HasCut file bytes done at tokens → StopsAt file bytes (drop done bytes) at
stops_at file bytes done at tokens cut = record {
  pieces = cut.pieces;
  cuts = cut.cuts;
  within = cut.kept;
  place = cut.place ∙ ap (place_after file) (sym cut.spelled);
}

-- where a token passes a limit
passing : (file : ℕ) (bytes : List ℕ) (done : ℕ) (at : Pos) (tokens : List Token) (limit : Limit) →
    HasCut file bytes done at tokens → BeginsPassing (length tokens) (drop done bytes) limit →
    PassesLimit file bytes limit
unfolding stops_at
passing file bytes done at tokens limit cut begins =
    let counted : length tokens ≡ count_among cut.pieces = ap length cut.listed ∙ count_is file [] cut.pieces in
    record {
      rest = drop done bytes;
      at = at;
      stops = stops_at file bytes done at tokens cut;
      found = begins.found;
      stands = begins.stands;
      what = begins.what;
      meant = begins.meant;
      passes = ap (λ n. limit_passed n begins.what) (sym counted) ∙ begins.passes;
    }

-- when the limit is the cause
pub limit_so : (file : ℕ) (bytes : List ℕ) (done : ℕ) (at : Pos) (tokens : List Token) (stop : Stop)
    (limit : Limit) → HasCut file bytes done at tokens →
    FindsPiece (length tokens) (Err stop) (drop done bytes) → fault_of stop at ≡ fault.Limit limit →
    PassesLimit file bytes limit
limit_so file bytes done at tokens Stray limit cut finds e = cc
limit_so file bytes done at tokens (Passes one) limit cut finds e =
    let same : one ≡ limit = cc in passing file bytes done at tokens limit cut
    (subst (BeginsPassing (length tokens) (drop done bytes)) same finds)
limit_so file bytes done at tokens Memory limit cut finds e = cc
