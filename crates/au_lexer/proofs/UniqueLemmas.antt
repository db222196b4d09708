-- A file is cut in one way.
use Rattle.std.proofs.Common.{◌≡◌, ◌≢◌, ℕ, ◌+◌, ◌<◌, Bool, true, ◌&&◌, List, [], ◌∷◌, ◌++◌, length, take}
use Rattle.std.proofs.Common.{drop, Option, Some, Result, Ok, Err, Vec, IfOk, ap, ◌∙◌, sym, refl, subst}
use Rattle.std.proofs.Common.{arith, inl, inr, length-append}
use Rattle.std.specs.Global.{Global}
use Rattle.std.specs.Prelude.{is_none}
use Rattle.std.specs.List.{flat_map}
use Rattle.std.proofs.lemmas.Bool.{and_parts, and_from, both_ways}
use Rattle.std.proofs.lemmas.List.{take_at}
use Rattle.au_base.specs.declared.limits.Limit.{Limit}
use Rattle.au_lexer.specs.Faults.{Answers}
use Rattle.au_lexer.specs.declared.lexing.LexFault.{LexFault}
use Rattle.au_lexer.specs.declared.lexing.LexFault.TheVariants as fault
use Rattle.au_base.specs.declared.places.Pos.{Pos}
use Rattle.au_base.specs.declared.tokens.Token.{Token}
use Rattle.au_base.specs.declared.tokens.What.{What}
use Rattle.au_base.specs.Places.{place_after}
use Rattle.au_lexer.specs.Pieces.{Piece, spelling, what_of}
use Rattle.au_lexer.specs.Cut.{Begins, Stands, CutsFront, Cut, tokens_among, token_at, StopsAt, IsStray}
use Rattle.au_lexer.specs.Cut.{PassesLimit, Lexed, tokens, stray, passes, Lexes}
use Rattle.au_lexer.specs.Passing.{limit_passed, is_within, count_of, count_among, are_within, IsWithinLimits}
use Rattle.au_lexer.specs.Reading.{piece, front}
use Rattle.au_lexer.proofs.CutLemmas.{spelling_some}
use Rattle.au_lexer.proofs.PassingLemmas.{pieces_within}
use Rattle.au_lexer.proofs.FrontLemmas.{begins_found, found_begins, split_first}

-- the bytes where a piece begins aren't empty
begins_some : (found : Piece) (bytes : List ℕ) → Begins found bytes → 0 < length bytes
begins_some found bytes begins =
    let total = ap length begins.front.1 in
    let parts = length-append (spelling found) begins.front.0 in
    omega (arith, spelling_some found begins.known)

-- The piece that stands at the front of bytes is the one that is found there.
from_first : (first : ℕ) (rest : List ℕ) (found : Piece) → Stands found (first ∷ rest) → front (first ∷ rest)
    ≡ piece (length (spelling found)) (what_of found)
from_first first rest found stands =
    let some = begins_found (first ∷ rest) found stands.begins in
    elim some.3 [
      | inl same ↦ some.2 ∙ ap (λ n. piece n some.1) (sym same.0)
          ∙ ap (λ w. piece (length (spelling found)) w) (sym same.1)
      | inr longer ↦
          let other = found_begins first rest some.0 some.1 some.2 in
          let bound = stands.longest other.found other.begins in
          let sized = other.sized in
          absurd (omega arith)
    ]

stands_front : (bytes : List ℕ) (found : Piece) → Stands found bytes →
    front bytes ≡ piece (length (spelling found)) (what_of found)
stands_front bytes found stands =
    let split = split_first bytes (begins_some found bytes stands.begins) in
    let P : List ℕ → Type 0 = λ b. front b ≡ piece (length (spelling found)) (what_of found) in
    subst P (sym split.2) (from_first split.0 split.1 found (subst (Stands found) split.2 stands))

-- two pieces that stand at the front of the same bytes
pub record AreAlike (one other : Piece) : Type 0 where
  pub spelled : spelling one ≡ spelling other
  pub meant : what_of one ≡ what_of other

stands_alike : (bytes : List ℕ) (one other : Piece) → Stands one bytes → Stands other bytes → AreAlike one other
stands_alike bytes one other a b =
    let e : piece (length (spelling one)) (what_of one) ≡ piece (length (spelling other)) (what_of other) =
    sym (stands_front bytes one a) ∙ stands_front bytes other b in
    let size : length (spelling one) ≡ length (spelling other) = cc in
    let meant : what_of one ≡ what_of other = cc in
    let fa = a.begins.front in
    let fb = b.begins.front in
    record {
      spelled = sym (ap (take (length (spelling one))) fa.1
          ∙ take_at (spelling one) fa.0 (length (spelling one)) refl) ∙ ap (λ n. take n bytes) size
          ∙ ap (take (length (spelling other))) fb.1 ∙ take_at (spelling other) fb.0 (length (spelling other))
          refl;
      meant = meant;
    }

module _ (keep : ℕ → Option What → Bool) where
  -- whether each piece is kept, where so many tokens stand before them
  pub kept : ℕ → List Piece → Bool
  kept before [] = true
  kept before (found ∷ pieces) = keep before (what_of found) && kept (before + count_of (what_of found)) pieces

  -- no piece that is kept behind so many tokens stands at the front of the rest
  pub Ends : ℕ → List ℕ → Type 0
  Ends before rest = (found : Piece) → Stands found rest → keep before (what_of found) ≡ true → ⊥

  -- Two ways to cut the front of bytes are the same.
  pub record AreSame (ones others : List Piece) (a b : List ℕ) : Type 0 where
    pub rest : a ≡ b
    pub spelled : flat_map spelling ones ≡ flat_map spelling others
    pub counted : count_among ones ≡ count_among others
    pub listed : (file : ℕ) (front : List ℕ) → tokens_among file front ones ≡ tokens_among file front others

  behind : (before : ℕ) (one : Piece) (ones : List Piece) (rest : List ℕ) →
      Ends (before + count_among (one ∷ ones)) rest → Ends (before + count_of (what_of one) + count_among ones)
      rest
  behind before one ones rest ends =
      subst (λ n. Ends n rest) (let e : before + (count_of (what_of one) + count_among ones) ≡ before + count_of
      (what_of one) + count_among ones = omega arith in e) ends

  none_kept : (before : ℕ) (found : Piece) (pieces : List Piece) (bytes rest : List ℕ) → bytes ≡ rest →
      Stands found bytes → kept before (found ∷ pieces) ≡ true → Ends (before + 0) rest → ⊥
  unfolding Ends kept
  none_kept before found pieces bytes rest e stands k ends =
      ends found (subst (Stands found) e stands)
      (ap (λ n. keep n (what_of found)) (let g : before + 0 ≡ before = omega arith in g)
      ∙ (and_parts (keep before (what_of found)) (kept (before + count_of (what_of found)) pieces) k).0)

  pub cuts_meet : (before : ℕ) (ones others : List Piece) (bytes a b : List ℕ) → CutsFront ones bytes a →
      CutsFront others bytes b → kept before ones ≡ true → kept before others ≡ true →
      Ends (before + count_among ones) a → Ends (before + count_among others) b → AreSame ones others a b
  unfolding kept
  cuts_meet before [] [] bytes a b x y j k ea eb =
      record { rest = sym x ∙ y; spelled = refl; counted = refl; listed = λ file front. refl }
  cuts_meet before [] (other ∷ others) bytes a b x y j k ea eb =
      absurd (none_kept before other others bytes a x y.0 k ea)
  cuts_meet before (one ∷ ones) [] bytes a b x y j k ea eb = absurd (none_kept before one ones bytes b y x.0 j eb)
  cuts_meet before (one ∷ ones) (other ∷ others) bytes a b x y j k ea eb =
      let alike = stands_alike bytes one other x.0 y.0 in
      let after : ℕ = before + count_of (what_of one) in
      let same : before + count_of (what_of other) ≡ after = ap (λ w. before + count_of w) (sym alike.meant) in
      let left : drop (length (spelling other)) bytes ≡ drop (length (spelling one)) bytes =
      ap (λ s. drop (length s) bytes) (sym alike.spelled) in
      let more = cuts_meet after ones others (drop (length (spelling one)) bytes) a b x.1
      (subst (λ r. CutsFront others r b) left y.1)
      (and_parts (keep before (what_of one)) (kept after ones) j).1
      (ap (λ n. kept n others) (sym same)
      ∙ (and_parts (keep before (what_of other)) (kept (before + count_of (what_of other)) others) k).1)
      (behind before one ones a ea)
      (subst (λ n. Ends (n + count_among others) b) same (behind before other others b eb)) in
      record {
        rest = more.rest;
        spelled = ap (λ s. s ++ flat_map spelling ones) alike.spelled ∙ ap (λ s. spelling other ++ s) more.spelled;
        counted = ap (λ w. count_of w + count_among ones) alike.meant ∙ ap (λ n. count_of (what_of other) + n)
            more.counted;
        listed = λ file front.
            ap (λ w. token_at (place_after file front) w ++ tokens_among file (front ++ spelling one) ones) alike.meant
            ∙ ap (λ ts. token_at (place_after file front) (what_of other) ++ ts)
            (more.listed file (front ++ spelling one) ∙ ap (λ s. tokens_among file (front ++ s) others)
            alike.spelled);
      }

-- no piece stands at the end of a file
none_at_end : (found : Piece) → Stands found [] → ⊥
none_at_end found stands = let h = begins_some found [] stands.begins in omega arith

any : ℕ → Option What → Bool
any before what = true

all_any : (before : ℕ) (pieces : List Piece) → kept any before pieces ≡ true
unfolding any kept
all_any before [] = refl
all_any before (found ∷ pieces) = all_any (before + count_of (what_of found)) pieces

-- No file has two cuts.
pub one_cut : (file : ℕ) (bytes : List ℕ) (ones others : List Token) → Cut file bytes ones →
    Cut file bytes others → ones ≡ others
unfolding Ends
one_cut file bytes ones others a b =
    let same = cuts_meet any 0 a.0 b.0 bytes [] [] a.1 b.1 (all_any 0 a.0) (all_any 0 b.0)
    (λ found stands _. none_at_end found stands) (λ found stands _. none_at_end found stands) in
    a.2 ∙ same.listed file [] ∙ sym b.2

-- no piece is kept where one passes a limit
passing_alone : (before : ℕ) (rest : List ℕ) (one : Piece) (what : What) (limit : Limit) → Stands one rest →
    what_of one ≡ Some what → limit_passed before what ≡ Some limit →
    (found : Piece) → Stands found rest → is_within before (what_of found) ≡ true → ⊥
passing_alone before rest one what limit stands meant passed found other within =
    let alike = stands_alike rest found one other stands in
    both_ways _ (ap is_none passed) (sym (ap (is_within before) (alike.meant ∙ meant)) ∙ within)

-- pieces that pass no limit are kept
within_kept : (before : ℕ) (pieces : List Piece) → are_within before pieces ≡ true → kept is_within before pieces ≡ true
unfolding kept
within_kept before [] h = refl
within_kept before (found ∷ pieces) h =
    let parts = and_parts (is_within before (what_of found))
    (are_within (before + count_of (what_of found)) pieces) h in
    and_from _ _ parts.0 (within_kept (before + count_of (what_of found)) pieces parts.1)

-- A file is cut as far as it can be: this place, these tokens and this count of them are behind.
record Reaches (file : ℕ) (bytes rest : List ℕ) (at : Pos) (list : List Token) (count : ℕ) : Type 0 where
  pieces : List Piece
  cuts : CutsFront pieces bytes rest
  within : kept is_within 0 pieces ≡ true
  ends : Ends is_within (0 + count_among pieces) rest
  place : at ≡ place_after file (flat_map spelling pieces)
  listed : list ≡ tokens_among file [] pieces
  counted : count ≡ count_among pieces

-- where a file is cut no further, and why
abbrev Reason : Lexed → List ℕ → Pos → List Token → ℕ → Type 0
Reason (tokens list) rest at among count = (rest ≡ []) × (list ≡ among)
Reason (stray place) rest at among count = (place ≡ at) × (rest ≢ []) × ((found : Piece) → Begins found rest → ⊥)
Reason (passes limit) rest at among count = (one : Piece) × (what : What) × Stands one rest
    × (what_of one ≡ Some what) × (limit_passed count what ≡ Some limit)

record Outcome (file : ℕ) (bytes : List ℕ) (lexed : Lexed) : Type 0 where
  rest : List ℕ
  at : Pos
  among : List Token
  count : ℕ
  reached : Reaches file bytes rest at among count
  reason : Reason lexed rest at among count

from_stop : (file : ℕ) (bytes rest : List ℕ) (at : Pos) (stop : StopsAt file bytes rest at) →
    Ends is_within (count_among stop.pieces) rest →
    Reaches file bytes rest at (tokens_among file [] stop.pieces) (count_among stop.pieces)
from_stop file bytes rest at stop ends = record {
  pieces = stop.pieces;
  cuts = stop.cuts;
  within = within_kept 0 stop.pieces stop.within;
  ends = subst (λ n. Ends is_within n rest) (let e : count_among stop.pieces ≡ 0 + count_among stop.pieces =
      omega arith in e) ends;
  place = stop.place;
  listed = refl;
  counted = refl;
}

outcome : (file : ℕ) (bytes : List ℕ) (lexed : Lexed) → Lexes file bytes lexed → Outcome file bytes lexed
unfolding Ends
outcome file bytes (tokens list) h =
    let cut = h.0 in
    record {
      rest = [];
      at = place_after file (flat_map spelling cut.0);
      among = list;
      count = count_among cut.0;
      reached = record {
        pieces = cut.0;
        cuts = cut.1;
        within = within_kept 0 cut.0 (pieces_within file cut.0 (subst IsWithinLimits cut.2 h.1));
        ends = λ found stands _. none_at_end found stands;
        place = refl;
        listed = cut.2;
        counted = refl;
      };
      reason = (refl, refl);
    }
outcome file bytes (stray at) h = record {
  rest = h.0;
  at = at;
  among = tokens_among file [] h.1.pieces;
  count = count_among h.1.pieces;
  reached = from_stop file bytes h.0 at h.1 (λ found stands _. h.3 found stands.begins);
  reason = (refl, h.2, h.3);
}
outcome file bytes (passes limit) h = record {
  rest = h.rest;
  at = h.at;
  among = tokens_among file [] h.stops.pieces;
  count = count_among h.stops.pieces;
  reached = from_stop file bytes h.rest h.at h.stops
      (passing_alone (count_among h.stops.pieces) h.rest h.found h.what limit h.stands h.meant h.passes);
  reason = (h.found, h.what, h.stands, h.meant, h.passes);
}

-- two limits that are passed at one place are the same
one_limit : (rest : List ℕ) (count : ℕ) (a b : Piece) (one other : What) (x y : Limit) → Stands a rest →
    Stands b rest → what_of a ≡ Some one → what_of b ≡ Some other → limit_passed count one ≡ Some x →
    limit_passed count other ≡ Some y → x ≡ y
one_limit rest count a b one other x y sa sb ma mb pa pb =
    let alike = stands_alike rest a b sa sb in
    let same : Some one ≡ Some other = sym ma ∙ alike.meant ∙ mb in
    let what : one ≡ other = cc in
    let limits : Some x ≡ Some y = sym pa ∙ ap (limit_passed count) what ∙ pb in
    cc

-- two reasons at one place are the same
one_reason : (x y : Lexed) (rest : List ℕ) (at : Pos) (among : List Token) (count : ℕ) →
    Reason x rest at among count → Reason y rest at among count → x ≡ y
one_reason (tokens list) (tokens other) rest at among count a b = ap tokens (a.1 ∙ sym b.1)
one_reason (tokens list) (stray place) rest at among count a b = absurd (b.1 a.0)
one_reason (tokens list) (passes limit) rest at among count a b = absurd (none_at_end b.0 (subst (Stands b.0) a.0 b.2))
one_reason (stray place) (tokens other) rest at among count a b = absurd (a.1 b.0)
one_reason (stray place) (stray other) rest at among count a b = ap stray (a.0 ∙ sym b.0)
one_reason (stray place) (passes limit) rest at among count a b = absurd (a.2 b.0 b.2.begins)
one_reason (passes limit) (tokens other) rest at among count a b = absurd (none_at_end a.0 (subst (Stands a.0) b.0 a.2))
one_reason (passes limit) (stray other) rest at among count a b = absurd (b.2 a.0 a.2.begins)
one_reason (passes limit) (passes other) rest at among count a b =
    ap passes (one_limit rest count a.0 b.0 a.1 b.1 limit other a.2 b.2 a.3 b.3 a.4 b.4)

reason_at : (x : Lexed) (rest rest' : List ℕ) (at at' : Pos) (among among' : List Token) (count count' : ℕ) →
    rest ≡ rest' → at ≡ at' → among ≡ among' → count ≡ count' → Reason x rest at among count →
    Reason x rest' at' among' count'
reason_at x rest rest' at at' among among' count count' e f g n reason =
    subst (λ r. Reason x r at' among' count') e
    (subst (λ p. Reason x rest p among' count') f
    (subst (λ l. Reason x rest at l count') g (subst (Reason x rest at among) n reason)))

-- A file comes to one thing.
pub one_outcome : (file : ℕ) (bytes : List ℕ) (x y : Lexed) → Lexes file bytes x → Lexes file bytes y → x ≡ y
one_outcome file bytes x y a b =
    let p = outcome file bytes x a in
    let q = outcome file bytes y b in
    let same = cuts_meet is_within 0 p.reached.pieces q.reached.pieces bytes p.rest q.rest p.reached.cuts
    q.reached.cuts p.reached.within q.reached.within p.reached.ends q.reached.ends in
    one_reason x y p.rest p.at p.among p.count p.reason
    (reason_at y q.rest p.rest q.at p.at q.among p.among q.count p.count (sym same.rest)
    (q.reached.place ∙ ap (place_after file) (sym same.spelled) ∙ sym p.reached.place)
    (q.reached.listed ∙ sym (same.listed file []) ∙ sym p.reached.listed)
    (q.reached.counted ∙ sym same.counted ∙ sym p.reached.counted)
    q.reason)

-- What is answered by the definitions is what a file comes to.
pub answers_so : (file : ℕ) (bytes : List ℕ) (answer : Result (Vec Token Global) LexFault) →
    IfOk answer (λ list. Cut file bytes list.items) → IfOk answer (λ list. IsWithinLimits list.items) →
    ((at : Pos) → answer ≡ Err (fault.Byte at) → IsStray file bytes at) →
    ((limit : Limit) → answer ≡ Err (fault.Limit limit) → PassesLimit file bytes limit) →
    (other : Lexed) → Lexes file bytes other → Answers answer other
answers_so file bytes (Ok list) cut within byte limit other h =
    one_outcome file bytes other (tokens list.items) h (cut, within)
answers_so file bytes (Err (fault.Byte at)) cut within byte limit other h =
    one_outcome file bytes other (stray at) h (byte at refl)
answers_so file bytes (Err (fault.Limit passed)) cut within byte limit other h =
    one_outcome file bytes other (passes passed) h (limit passed refl)
answers_so file bytes (Err fault.Memory) cut within byte limit other h = tt
