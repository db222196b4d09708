-- Words that measure otherwise, for the same tokens.
use Rattle.std.proofs.Common.{◌≡◌, ℕ, Bool, true, false, List, [], ◌∷◌, ◌++◌, map, Ok, Err, refl, sym, ap}
use Rattle.std.proofs.Common.{◌∙◌, subst}
use Rattle.au_base.specs.declared.tokens.Token.{Token}
use Rattle.au_base.specs.declared.limits.Limit.{Limit}
use Rattle.au_read_expressions.specs.declared.faults.Fault.TheVariants.{Syntax, Passed}
use Rattle.au_read_expressions.specs.Reading.{Read, front}
use Rattle.au_parser.specs.Measures.{Measured, Measures, rooted, raised, known_second, some_level}
use Rattle.au_parser.specs.Measures.{unknown, not_first, known_behind, known_late}
use Rattle.au_parser.specs.Passing.{Keep, KeepOver, PassBehind, SameMeasure, Agree, Excess}
use Rattle.au_parser.proofs.Told.{Passing, AreMeasured, Kind, Is, Tells, Agrees, Honest}
use Rattle.au_read_expressions.specs.TypeStops.{is_name}

-- ---- words that measure otherwise

-- a turn of words into words that stand for the same tokens and pass the same, by another measure
pub record Moves (P Q : Passing) (turn : Measures → Measures) : Type 0 where
  pub are : (ws : Measures) (ts : List Token) → AreMeasured ws ts → AreMeasured (turn ws) ts
  pub keep : (ws : Measures) → Keep P.of ws → Keep Q.of (turn ws)
  pub over : (us : List Token) (ws : Measures) → KeepOver P.of us ws → KeepOver Q.of us (turn ws)
  pub pass : (what : Excess) (us : List Token) (ws : Measures) → PassBehind P.of what us ws →
      PassBehind Q.of what us (turn ws)
  pub told : (l : Limit) (what : Excess) (front back : List Token) (left : ℕ) → P.told l what front back left →
      Q.told l what front back left

-- and with which the same stays known
pub record Turns (P Q : Passing) (turn : Measures → Measures) : Type 0 where
  pub moves : Moves P Q turn
  pub agree : (us : List Token) (a c : Measures) → Agree us a c → Agree us (turn a) (turn c)

abbrev pub turned : {A : Type 0} → (Measures → Measures) → Kind A → Kind A
turned turn kind = record { words = λ x. turn (kind.words x); good = kind.good }

module _ {A : Type 0} (P Q : Passing) (turn : Measures → Measures) (moves : Moves P Q turn) (kind : Kind A) where
  moved_is : (x : A) (us : List Token) → Is kind x us → Is (turned turn kind) x us
  moved_is x us h = record { words = moves.are (kind.words x) us h.words; good = h.good }

  pub moved_tells : (ts : List Token) (r : Read A) → Tells P kind ts r → Tells Q (turned turn kind) ts r
  moved_tells ts (Ok x) h = record {
    front = h.front;
    same = h.same;
    is = moved_is x.0 h.front h.is;
    keeps = moves.keep (kind.words x.0) h.keeps;
  }
  moved_tells ts (Err (Syntax left)) h = record {
    front = h.front;
    back = h.back;
    same = h.same;
    size = h.size;
    rest = h.rest;
    tree = h.tree;
    is = moved_is h.tree (h.front ++ h.rest) h.is;
    keeps = moves.over h.front (kind.words h.tree) h.keeps;
  }
  moved_tells ts (Err (Passed l left)) h = record {
    front = h.front;
    last = h.last;
    back = h.back;
    same = h.same;
    what = h.what;
    told = moves.told l h.what h.front (h.last ∷ h.back) left h.told;
    rest = h.rest;
    tree = h.tree;
    is = moved_is h.tree (h.front ++ h.last ∷ h.rest) h.is;
    passes = moves.pass h.what h.front (kind.words h.tree) h.passes;
  }

pub turned_agrees : {A : Type 0} (turn : Measures → Measures)
    → ((us : List Token) (a c : Measures) → Agree us a c → Agree us (turn a) (turn c)) → (kind : Kind A)
    (p b : List Token) (r s : Read A) → Agrees kind p b r s → Agrees (turned turn kind) p b r s
turned_agrees turn agree kind p b (Err f) s h = tt
turned_agrees turn agree kind p b (Ok x) (Err f) h = tt
turned_agrees turn agree kind p b (Ok x) (Ok y) h = λ short. agree p (kind.words x.0) (kind.words y.0) (h short)

module _ {A : Type 0} (P Q : Passing) (turn : Measures → Measures) (turns : Turns P Q turn) (kind : Kind A)
    (read : List Token → Read A) (honest : Honest P kind read) where
  pub turned_honest : Honest Q (turned turn kind) read
  turned_honest = record {
    example = record {
      tree = honest.example.tree;
      tokens = honest.example.tokens;
      is = moved_is P Q turn turns.moves kind honest.example.tree honest.example.tokens honest.example.is;
    };
    tells = λ ts. moved_tells P Q turn turns.moves kind ts (read ts) (honest.tells ts);
    alike = honest.alike;
    agree = λ p b c. turned_agrees turn turns.agree kind p b (read (p ++ b)) (read (p ++ c)) (honest.agree p b c);
  }

-- each word is turned
module _ (P Q : Passing) (one : Measured → Measured) (word : (w : Measured) → (one w).word ≡ w.word)
    (same : (w : Measured) → Q.of (one w) ≡ P.of w)
    (like : (w v : Measured) → SameMeasure w v → SameMeasure (one w) (one v))
    (told : (l : Limit) (what : Excess) (front back : List Token) (left : ℕ) → P.told l what front back left →
    Q.told l what front back left) where
  map_are : (ws : Measures) (ts : List Token) → AreMeasured ws ts → AreMeasured (map one ws) ts
  map_are [] [] h = tt
  map_are [] (t ∷ ts) h = absurd h
  map_are (w ∷ ws) [] h = absurd h
  map_are (w ∷ ws) (t ∷ ts) h =
      (subst (λ v. Rattle.au_syntax.specs.Words.IsWord v t) (sym (word w)) h.0, map_are ws ts h.1)

  map_keep : (ws : Measures) → Keep P.of ws → Keep Q.of (map one ws)
  map_keep [] h = tt
  map_keep (w ∷ ws) h = (same w ∙ h.0, map_keep ws h.1)

  map_over : (us : List Token) (ws : Measures) → KeepOver P.of us ws → KeepOver Q.of us (map one ws)
  map_over [] ws h = tt
  map_over (u ∷ us) [] h = absurd h
  map_over (u ∷ us) (w ∷ ws) h = (same w ∙ h.0, map_over us ws h.1)

  map_pass : (what : Excess) (us : List Token) (ws : Measures) → PassBehind P.of what us ws →
      PassBehind Q.of what us (map one ws)
  map_pass what us [] h = absurd h
  map_pass what [] (w ∷ ws) h = same w ∙ h
  map_pass what (u ∷ us) (w ∷ ws) h = (same w ∙ h.0, map_pass what us ws h.1)

  map_agree : (us : List Token) (a c : Measures) → Agree us a c → Agree us (map one a) (map one c)
  map_agree [] a c h = tt
  map_agree (u ∷ us) [] c h = absurd h
  map_agree (u ∷ us) (w ∷ a) [] h = absurd h
  map_agree (u ∷ us) (w ∷ a) (v ∷ c) h = (like w v h.0, map_agree us a c h.1)

  pub map_turns : Turns P Q (map one)
  map_turns = record {
    moves = record { are = map_are; keep = map_keep; over = map_over; pass = map_pass; told = told };
    agree = map_agree;
  }

pub root_agree : (us : List Token) (a c : Measures) → Agree us a c → Agree us (rooted a) (rooted c)
root_agree [] a c h = tt
root_agree (u ∷ us) [] c h = absurd h
root_agree (u ∷ us) (w ∷ a) [] h = absurd h
root_agree (u ∷ us) (w ∷ a) (v ∷ c) h = ((ap some_level h.0.0, h.0.1), h.1)

second_agree : (us : List Token) (a c : Measures) → Agree us a c → Agree us (known_second a) (known_second c)
second_agree [] a c h = tt
second_agree (u ∷ us) [] c h = absurd h
second_agree (u ∷ us) (w ∷ a) [] h = absurd h
second_agree (u ∷ us) (w ∷ a) (v ∷ c) h = (h.0, root_agree us a c h.1)

-- the first word alone, or the second alone
module _ (P : Passing) (same : (w : Measured) → P.of (raised w) ≡ P.of w) where
  pub root_turns : Turns P P rooted
  root_turns = record {
    moves = record { are = root_are; keep = root_keep; over = root_over; pass = root_pass; told = λ l what front back left h. h };
    agree = root_agree;
  }
    where
      root_are : (ws : Measures) (ts : List Token) → AreMeasured ws ts → AreMeasured (rooted ws) ts
      root_are [] ts h = h
      root_are (w ∷ ws) [] h = h
      root_are (w ∷ ws) (t ∷ ts) h = h

      root_keep : (ws : Measures) → Keep P.of ws → Keep P.of (rooted ws)
      root_keep [] h = h
      root_keep (w ∷ ws) h = (same w ∙ h.0, h.1)

      root_over : (us : List Token) (ws : Measures) → KeepOver P.of us ws → KeepOver P.of us (rooted ws)
      root_over [] ws h = tt
      root_over (u ∷ us) [] h = h
      root_over (u ∷ us) (w ∷ ws) h = (same w ∙ h.0, h.1)

      root_pass : (what : Excess) (us : List Token) (ws : Measures) → PassBehind P.of what us ws →
          PassBehind P.of what us (rooted ws)
      root_pass what us [] h = h
      root_pass what [] (w ∷ ws) h = same w ∙ h
      root_pass what (u ∷ us) (w ∷ ws) h = (same w ∙ h.0, h.1)

  pub second_turns : Turns P P known_second
  second_turns = record {
    moves = record {
      are = second_are;
      keep = second_keep;
      over = second_over;
      pass = second_pass;
      told = λ l what front back left h. h;
    };
    agree = second_agree;
  }
    where
      second_are : (ws : Measures) (ts : List Token) → AreMeasured ws ts → AreMeasured (known_second ws) ts
      second_are [] ts h = h
      second_are (w ∷ ws) [] h = h
      second_are (w ∷ ws) (t ∷ ts) h = (h.0, root_turns.moves.are ws ts h.1)

      second_keep : (ws : Measures) → Keep P.of ws → Keep P.of (known_second ws)
      second_keep [] h = h
      second_keep (w ∷ ws) h = (h.0, root_turns.moves.keep ws h.1)

      second_over : (us : List Token) (ws : Measures) → KeepOver P.of us ws → KeepOver P.of us (known_second ws)
      second_over [] ws h = tt
      second_over (u ∷ us) [] h = h
      second_over (u ∷ us) (w ∷ ws) h = (h.0, root_turns.moves.over us ws h.1)

      second_pass : (what : Excess) (us : List Token) (ws : Measures) → PassBehind P.of what us ws →
          PassBehind P.of what us (known_second ws)
      second_pass what us [] h = h
      second_pass what [] (w ∷ ws) h = h
      second_pass what (u ∷ us) (w ∷ ws) h = (h.0, root_turns.moves.pass what us ws h.1)

-- the first word alone where it is a name, and then the second
module _ (P : Passing) (raise : (w : Measured) → P.of (raised w) ≡ P.of w)
    (hide : (w : Measured) → P.of (unknown w) ≡ P.of w) where
  pub late_moves : Moves P P known_late
  late_moves = record { are = late_are; keep = late_keep; over = late_over; pass = late_pass; told = λ l what front back left h. h }
    where
      roots : Moves P P rooted
      roots = (root_turns P raise).moves

      behind_are : (v : Bool) (w : Measured) (ws : Measures) (ts : List Token) → AreMeasured (w ∷ ws) ts →
          AreMeasured (known_behind v w ws) ts
      behind_are true w ws [] h = h
      behind_are true w ws (t ∷ ts) h = (h.0, roots.are ws ts h.1)
      behind_are false w ws ts h = h

      late_are : (ws : Measures) (ts : List Token) → AreMeasured ws ts → AreMeasured (known_late ws) ts
      late_are [] ts h = h
      late_are (w ∷ ws) ts h = behind_are (is_name w.word.what) w ws ts h

      behind_keep : (v : Bool) (w : Measured) (ws : Measures) → Keep P.of (w ∷ ws) → Keep P.of (known_behind v w ws)
      behind_keep true w ws h = (hide w ∙ h.0, roots.keep ws h.1)
      behind_keep false w ws h = h

      late_keep : (ws : Measures) → Keep P.of ws → Keep P.of (known_late ws)
      late_keep [] h = h
      late_keep (w ∷ ws) h = behind_keep (is_name w.word.what) w ws h

      behind_over : (v : Bool) (us : List Token) (w : Measured) (ws : Measures) → KeepOver P.of us (w ∷ ws) →
          KeepOver P.of us (known_behind v w ws)
      behind_over v [] w ws h = tt
      behind_over true (u ∷ us) w ws h = (hide w ∙ h.0, roots.over us ws h.1)
      behind_over false (u ∷ us) w ws h = h

      late_over : (us : List Token) (ws : Measures) → KeepOver P.of us ws → KeepOver P.of us (known_late ws)
      late_over [] ws h = tt
      late_over (u ∷ us) [] h = h
      late_over (u ∷ us) (w ∷ ws) h = behind_over (is_name w.word.what) (u ∷ us) w ws h

      behind_pass : (v : Bool) (what : Excess) (us : List Token) (w : Measured) (ws : Measures) →
          PassBehind P.of what us (w ∷ ws) → PassBehind P.of what us (known_behind v w ws)
      behind_pass true what [] w ws h = hide w ∙ h
      behind_pass true what (u ∷ us) w ws h = (hide w ∙ h.0, roots.pass what us ws h.1)
      behind_pass false what us w ws h = h

      late_pass : (what : Excess) (us : List Token) (ws : Measures) → PassBehind P.of what us ws →
          PassBehind P.of what us (known_late ws)
      late_pass what us [] h = h
      late_pass what us (w ∷ ws) h = behind_pass (is_name w.word.what) what us w ws h

-- with the same first token the same stays known
pub late_agree : (t : Token) (us fa fc : List Token) (a c : Measures) → ((u : Token) (vs : List Token) → fa ≡ u ∷ vs → t ≡ u) →
    ((u : Token) (vs : List Token) → fc ≡ u ∷ vs → t ≡ u) → AreMeasured a fa → AreMeasured c fc → Agree (t ∷ us) a c →
    Agree (t ∷ us) (known_late a) (known_late c)
late_agree t us fa fc [] c ea ec h k agree = absurd agree
late_agree t us fa fc (w ∷ a) [] ea ec h k agree = absurd agree
late_agree t us [] fc (w ∷ a) (v ∷ c) ea ec h k agree = absurd h
late_agree t us (x ∷ fa) [] (w ∷ a) (v ∷ c) ea ec h k agree = absurd k
late_agree t us (x ∷ fa) (y ∷ fc) (w ∷ a) (v ∷ c) ea ec h k agree =
    let same : is_name v.word.what ≡ is_name w.word.what =
    ap is_name (sym k.0.0 ∙ ap (λ (z : Token). z.what) (sym (ec y fc refl) ∙ ea x fa refl) ∙ h.0.0) in
    subst (λ n. Agree (t ∷ us) (known_late (w ∷ a)) (known_behind n v c)) (sym same) (by (is_name w.word.what))
  where
    by : (n : Bool) → Agree (t ∷ us) (known_behind n w a) (known_behind n v c)
    by true = ((ap not_first agree.0.0, agree.0.1), root_agree us a c agree.1)
    by false = agree
