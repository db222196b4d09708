-- The ways to put readers together: each keeps what is told of reading.
use Rattle.std.proofs.Common.{◌≡◌, Bool, true, false, ◌&&◌, List, [], ◌∷◌, ◌++◌, length, Option, Some, None}
use Rattle.std.proofs.Common.{Ok, Err, refl, sym, ap, ◌∙◌, subst, arith, inl, inr, cond, Result, append_assoc}
use Rattle.std.proofs.Common.{length-append}
use Rattle.std.proofs.lemmas.Bool.{and_from}
use Rattle.std.proofs.lemmas.List.{append-nil}
use Rattle.au_base.specs.declared.places.Pos.{Pos}
use Rattle.au_base.specs.declared.tokens.Token.{Token}
use Rattle.au_base.specs.declared.tokens.What.{What}
use Rattle.au_syntax.specs.Words.{Words}
use Rattle.au_read_expressions.specs.declared.faults.Fault.TheVariants.{Syntax, Passed}
use Rattle.au_read_expressions.specs.Reading.{Read, ◌>>=◌, no, front, place_of, same_what, tokens_at, read_of}
use Rattle.au_read_expressions.specs.Reading.{behind_tokens, closed, closed_at, pair, joined_at, joined_with}
use Rattle.au_read_expressions.specs.Reading.{shaped, built_at, built, value_at, value_or_no}
use Rattle.au_parser.specs.Measures.{plains, begun}
use Rattle.au_parser.specs.Passing.{Keep, KeepOver, PassBehind, Agree}
use Rattle.au_parser.proofs.Told.{Passing, AreMeasured, signs, Kind, Is, Example, Fronts, Begun, Tells}
use Rattle.au_parser.proofs.Told.{over_begun, over_more, Agrees, Extends, agrees_empty, agrees_same}
use Rattle.au_parser.proofs.Told.{agree_begun, bind_agrees, built_agrees, built_extends, tells_good}
use Rattle.au_parser.proofs.Told.{tells_cut, Past, Alike, Honest, Carries, keep_plains, keep_join}
use Rattle.au_parser.proofs.Told.{keep_over, keep_begun, pass_begun, fault_of, are_join, begun_are}
use Rattle.au_parser.proofs.Told.{tokens_of, fixed_are, behind_tells, built_tells, bind_tells}
use Rattle.au_parser.proofs.Told.{tells_past, bind_past, past_alike, bind_alike, built_alike}
use Rattle.au_parser.proofs.Told.{tokens_tell, tokens_past, tokens_alike}
use Rattle.au_read_expressions.specs.declared.faults.Fault.{Fault}

-- a tree that always has its form, and tells of no limit
abbrev pub light : {A : Type 0} → (A → Words) → Kind A
light words = record { words = λ x. plains (words x); good = λ x. true }

pub light_keeps : {A : Type 0} (P : Passing) (words : A → Words) (x : A) → (light words).good x ≡ true →
    Keep P.of ((light words).words x)
light_keeps P words x g = keep_plains P (words x)

module _ {A : Type 0} (P : Passing) (kind : Kind A) (read : List Token → Read A) (honest : Honest P kind read) where
  pub honest_past : (ts : List Token) → Past (length ts) (read ts)
  honest_past ts = tells_past P kind ts (read ts) (honest.tells ts)

-- readers that read the same
pub same_honest : {A : Type 0} (P : Passing) (kind : Kind A) (read other : List Token → Read A)
    → ((ts : List Token) → read ts ≡ other ts) → Honest P kind read → Honest P kind other
same_honest P kind read other same h = record {
  example = h.example;
  tells = λ ts. subst (Tells P kind ts) (same ts) (h.tells ts);
  alike = λ p b c. subst (λ r. Alike b c r (other (p ++ c))) (same (p ++ b))
      (subst (λ r. Alike b c (read (p ++ b)) r) (same (p ++ c)) (h.alike p b c));
  agree = λ p b c. subst (λ r. Agrees kind p b r (other (p ++ c))) (same (p ++ b))
      (subst (λ r. Agrees kind p b (read (p ++ b)) r) (same (p ++ c)) (h.agree p b c));
}

-- where readings agree on one kind, they do on another
pub kind_agrees : {A : Type 0} (P : Passing) (kind other : Kind A) (p b : List Token) (ts us : List Token)
    (r s : Read A) → Carries kind other [] (λ x. x) → Tells P kind ts r → Tells P kind us s → Agrees kind p b r s →
    Agrees other p b r s
kind_agrees P kind other p b ts us (Err f) s carries h k agree = tt
kind_agrees P kind other p b ts us (Ok x) (Err f) carries h k agree = tt
kind_agrees P kind other p b ts us (Ok x) (Ok y) carries h k agree =
    λ short. subst (λ ws. Agree p ws (other.words y.0)) (sym (carries.words x.0 h.is.good))
    (subst (λ ws. Agree p (kind.words x.0) ws) (sym (carries.words y.0 k.is.good)) (agree short))

-- what is a tree of one kind is one of another
pub kind_honest : {A : Type 0} (P : Passing) (kind other : Kind A) (read : List Token → Read A) → Honest P kind read
    → Carries kind other [] (λ x. x) → Honest P other read
kind_honest P kind other read h carries = record {
  example = record {
    tree = h.example.tree;
    tokens = h.example.tokens;
    is = record {
      words = subst (λ ws. AreMeasured ws h.example.tokens) (sym (carries.words h.example.tree h.example.is.good))
          h.example.is.words;
      good = carries.good h.example.tree h.example.is.good;
    };
  };
  tells = λ ts. behind_tells P kind other [] ts ts refl [] tt tt carries (read ts) (h.tells ts);
  alike = h.alike;
  agree = λ p b c. kind_agrees P kind other p b (p ++ b) (p ++ c) (read (p ++ b)) (read (p ++ c)) carries
      (h.tells (p ++ b)) (h.tells (p ++ c)) (h.agree p b c);
}

-- no tree stands here
pub no_tells : {A : Type 0} (P : Passing) (kind : Kind A) → Example kind → (ts : List Token) →
    Begun P kind ts (length ts)
no_tells P kind example ts = record {
  front = [];
  back = ts;
  same = refl;
  size = refl;
  rest = example.tokens;
  tree = example.tree;
  is = example.is;
  keeps = tt;
}

pub no_alike : {A : Type 0} (p b c : List Token) → Alike {A = A} b c (no (p ++ b)) (no (p ++ c))
no_alike p b c =
    let lb = length-append p b in let lc = length-append p c in
    inr (length p, lb, ap (λ n. fault_of (Syntax n)) lc)

pub no_honest : {A : Type 0} (P : Passing) (kind : Kind A) → Example kind → Honest P kind no
no_honest P kind example = record {
  example = example;
  tells = no_tells P kind example;
  alike = no_alike;
  agree = λ p b c. tt;
}

-- nothing is read
pub none_honest : {A : Type 0} (P : Passing) (kind : Kind A) (x : A) → Is kind x [] → Keep P.of (kind.words x) →
    Honest P kind (read_of x)
none_honest P kind x is keep = record {
  example = record { tree = x; tokens = []; is = is };
  tells = λ ts. record { front = []; same = refl; is = is; keeps = keep };
  alike = λ p b c. inr (record { between = p; same = refl; there = refl });
  agree = λ p b c. agrees_same P kind p b x (p ++ b) (p ++ c)
      (record { front = []; same = refl; is = is; keeps = keep });
}

-- ---- one token

module _ {A : Type 0} (P : Passing) (kind : Kind A) (example : Example kind) (value : Token → Option A)
    (means : (t : Token) (x : A) → value t ≡ Some x → Is kind x (t ∷ []))
    (keeps : (x : A) → kind.good x ≡ true → Keep P.of (kind.words x)) where
  value_tells : (t : Token) (ts : List Token) (v : Option A) → value t ≡ v → Tells P kind (t ∷ ts)
      (value_or_no (t ∷ ts) v)
  value_tells t ts (Some x) e = let is = means t x e in
      record { front = t ∷ []; same = refl; is = is; keeps = keeps x is.good }
  value_tells t ts None e = no_tells P kind example (t ∷ ts)

  tells_value : (ts : List Token) → Tells P kind ts (value_at value ts)
  tells_value [] = no_tells P kind example []
  tells_value (t ∷ ts) = value_tells t ts (value t) refl

  alike_value : (t : Token) (p b c : List Token) (v : Option A) → Alike b c (value_or_no (t ∷ p ++ b) v)
      (value_or_no (t ∷ p ++ c) v)
  alike_value t p b c (Some x) = inr (record { between = p; same = refl; there = refl })
  alike_value t p b c None = no_alike (t ∷ p) b c

  value_alike : (p b c : List Token) → Alike b c (value_at value (p ++ b)) (value_at value (p ++ c))
  value_alike [] b c = past_alike b c (value_at value c) (value_at value b)
      (tells_past P kind b (value_at value b) (tells_value b))
  value_alike (t ∷ p) b c = alike_value t p b c (value t)

  agree_value : (t : Token) (p b c : List Token) (v : Option A) → value t ≡ v →
      Agrees kind (t ∷ p) b (value_or_no (t ∷ p ++ b) v) (value_or_no (t ∷ p ++ c) v)
  agree_value t p b c (Some x) e = agrees_same P kind (t ∷ p) b x (p ++ b) (p ++ c) (value_tells t (p ++ b) (Some x) e)
  agree_value t p b c None e = tt

  value_agree : (p b c : List Token) → Agrees kind p b (value_at value (p ++ b)) (value_at value (p ++ c))
  value_agree [] b c = agrees_empty kind b (value_at value b) (value_at value c)
  value_agree (t ∷ p) b c = agree_value t p b c (value t) refl

  pub value_honest : Honest P kind (value_at value)
  value_honest = record { example = example; tells = tells_value; alike = value_alike; agree = value_agree }

-- ---- tokens before and behind

module _ {A : Type 0} (kind : Kind A) where
  abbrev pub behind_kind : List What → Kind A
  behind_kind whats = record { words = λ x. signs whats ++ kind.words x; good = kind.good }

  abbrev pub closed_kind : List What → Kind A
  closed_kind whats = record { words = λ x. kind.words x ++ signs whats; good = kind.good }

-- one token more before what is read
cons_agrees : {A : Type 0} (kind : Kind A) (w : What) (ws : List What) (t : Token) (p b : List Token) (r s : Read A) →
    Agrees (behind_kind kind ws) p b r s → Agrees (behind_kind kind (w ∷ ws)) (t ∷ p) b r s
cons_agrees kind w ws t p b (Err f) s h = tt
cons_agrees kind w ws t p b (Ok x) (Err f) h = tt
cons_agrees kind w ws t p b (Ok x) (Ok y) h = λ short. ((refl, (refl, (refl, (refl, refl)))), h short)

module _ {A : Type 0} (kind : Kind A) (b c : List Token) (g h : List Token → Read A)
    (on : (q : List Token) → Agrees kind q b (g (q ++ b)) (h (q ++ c))) where
  tokens_by : (w : What) (ws : List What) (t : Token) (p : List Token)
      → Agrees (behind_kind kind ws) p b (tokens_at ws (p ++ b) >>= g) (tokens_at ws (p ++ c) >>= h) → (v : Bool)
      → Agrees (behind_kind kind (w ∷ ws)) (t ∷ p) b
      ((cond v (Ok (p ++ b)) (no (t ∷ p ++ b)) >>= tokens_at ws) >>= g)
      ((cond v (Ok (p ++ c)) (no (t ∷ p ++ c)) >>= tokens_at ws) >>= h)
  tokens_by w ws t p k true =
      cons_agrees kind w ws t p b (tokens_at ws (p ++ b) >>= g) (tokens_at ws (p ++ c) >>= h) k
  tokens_by w ws t p k false = tt

  pub tokens_agree : (whats : List What) (p : List Token) → Agrees (behind_kind kind whats) p b
      (tokens_at whats (p ++ b) >>= g) (tokens_at whats (p ++ c) >>= h)
  tokens_agree [] p = on p
  tokens_agree (w ∷ ws) [] = agrees_empty (behind_kind kind (w ∷ ws)) b (tokens_at (w ∷ ws) b >>= g)
      (tokens_at (w ∷ ws) c >>= h)
  tokens_agree (w ∷ ws) (t ∷ p) = tokens_by w ws t p (tokens_agree ws p) (same_what t.what w)

-- one tree, behind which tokens are expected
same_tree : {A : Type 0} (P : Passing) (kind : Kind A) (p b : List Token) (x : A) (r s : Result (List Token) Fault) →
    Tells P kind (p ++ b) (r >>= read_of x) → Agrees kind p b (r >>= read_of x) (s >>= read_of x)
same_tree P kind p b x (Err f) s h = tt
same_tree P kind p b x (Ok u) (Err f) h = tt
same_tree P kind p b x (Ok u) (Ok v) h = agrees_same P kind p b x u v h

-- what is closed extends what was before
closed_extends : {A : Type 0} (kind : Kind A) (whats : List What) (x : A) (r : Result (List Token) Fault)
    (z : A × List Token) → (r >>= read_of x) ≡ Ok z → Extends (kind.words x) ((closed_kind kind whats).words z.0)
closed_extends kind whats x (Ok u) z e =
    let same : x ≡ z.0 = cc in
    subst (λ t. Extends (kind.words x) ((closed_kind kind whats).words t)) same (signs whats, inl refl)
closed_extends kind whats x (Err f) z e = absurd cc

module _ {A : Type 0} (P : Passing) (kind : Kind A) (whats : List What) where
  is_behind : (x : A) (mid us : List Token) → AreMeasured (signs whats) mid → Is kind x us → Is
      (behind_kind kind whats) x (mid ++ us)
  is_behind x mid us are h = record {
    words = are_join (signs whats) (kind.words x) mid us are h.words;
    good = h.good;
  }

  is_closed : (x : A) (us mid : List Token) → Is kind x us → AreMeasured (signs whats) mid → Is
      (closed_kind kind whats) x (us ++ mid)
  is_closed x us mid h are = record {
    words = are_join (kind.words x) (signs whats) us mid h.words are;
    good = h.good;
  }

  signs_keep : Keep P.of (signs whats)
  signs_keep = keep_plains P _

  module _ (read : List Token → Read A) (honest : Honest P kind read) where
    behind_front : (us : List Token) → AreMeasured (signs whats) us → Fronts P (behind_kind kind whats) us
    behind_front us are = record {
      rest = honest.example.tokens;
      tree = honest.example.tree;
      is = is_behind honest.example.tree us honest.example.tokens are honest.example.is;
      keeps = over_more P.of us (signs whats) (kind.words honest.example.tree)
          (keep_over P.of us (signs whats) are signs_keep);
    }

    pub behind_honest : Honest P (behind_kind kind whats) (behind_tokens whats read)
    behind_honest = record {
      example = record {
        tree = honest.example.tree;
        tokens = tokens_of whats ++ honest.example.tokens;
        is = is_behind honest.example.tree (tokens_of whats) honest.example.tokens (fixed_are whats)
            honest.example.is;
      };
      tells = λ ts. tokens_tell P (behind_kind kind whats) read whats ts [] ts refl
          (λ mid rest same are. behind_tells P kind (behind_kind kind whats) mid ts rest same (signs whats) are
          signs_keep (record { words = λ y g. refl; good = λ y g. g }) (read rest) (honest.tells rest))
          behind_front;
      alike = λ p b c. tokens_alike read (honest_past P kind read honest) b c read (λ q. honest.alike q b c) whats p;
      agree = λ p b c. tokens_agree kind b c read read (λ q. honest.agree q b c) whats p;
    }

    closed_front : (x : A) (front us : List Token) → Is kind x front → Keep P.of (kind.words x) →
        AreMeasured (signs whats) us → Fronts P (closed_kind kind whats) (front ++ us)
    closed_front x front us is keep are = record {
      rest = [];
      tree = x;
      is = subst (Is (closed_kind kind whats) x) (sym (append-nil (front ++ us))) (is_closed x front us is are);
      keeps = keep_over P.of (front ++ us) (kind.words x ++ signs whats) (is_closed x front us is are).words
          (keep_join P.of (kind.words x) (signs whats) keep signs_keep);
    }

    closed_tells : (ts : List Token) → Tells P (closed_kind kind whats) ts (closed whats read ts)
    closed_tells ts = bind_tells P kind (closed_kind kind whats) ts (closed_at whats)
        (λ x front rest same is keep. tokens_tell P (closed_kind kind whats) (read_of x) whats ts front rest same
        (λ mid behind e are. record {
          front = front ++ mid;
          same = same ∙ ap (λ r. front ++ r) e ∙ sym (append_assoc front mid behind);
          is = is_closed x front mid is are;
          keeps = keep_join P.of (kind.words x) (signs whats) keep signs_keep;
        })
        (λ us are. closed_front x front us is keep are))
        (λ x us is. record {
          rest = tokens_of whats;
          tree = x;
          is = is_closed x us (tokens_of whats) is (fixed_are whats);
          words = (signs whats, inl refl);
        })
        (read ts) (honest.tells ts)

    closed_alike : (p b c : List Token) → Alike b c (closed whats read (p ++ b)) (closed whats read (p ++ c))
    closed_alike p b c = bind_alike b c (read (p ++ c)) (closed_at whats) (closed_at whats)
        (λ x. tokens_past (read_of x.0) (λ rest. omega arith) whats x.1)
        (read (p ++ b))
        (λ x q e. tokens_alike (read_of x) (λ rest. omega arith) b c (read_of x)
        (λ r. inr (record { between = r; same = refl; there = refl })) whats q)
        (honest.alike p b c)

    closed_agree : (p b c : List Token) → Agrees (closed_kind kind whats) p b (closed whats read (p ++ b))
        (closed whats read (p ++ c))
    closed_agree p b c =
        bind_agrees kind (closed_kind kind whats) p b c (closed_at whats) (closed_at whats)
        (λ x z e. closed_extends kind whats x.0 (tokens_at whats x.1) z e)
        (λ x z e. closed_extends kind whats x.0 (tokens_at whats x.1) z e)
        (read (p ++ b)) (read (p ++ c)) (honest.alike p b c) (honest.agree p b c)
        (λ x q e. same_tree P (closed_kind kind whats) p b x (tokens_at whats (q ++ b)) (tokens_at whats (q ++ c))
        (subst (λ r. Tells P (closed_kind kind whats) (p ++ b) (r >>= closed_at whats)) e (closed_tells (p ++ b))))

    pub closed_honest : Honest P (closed_kind kind whats) (closed whats read)
    closed_honest = record {
      example = record {
        tree = honest.example.tree;
        tokens = honest.example.tokens ++ tokens_of whats;
        is = is_closed honest.example.tree honest.example.tokens (tokens_of whats) honest.example.is
            (fixed_are whats);
      };
      tells = closed_tells;
      alike = closed_alike;
      agree = closed_agree;
    }

-- ---- one behind another

abbrev pub pair_kind : {A B : Type 0} → Kind A → Kind B → Kind (A × B)
pair_kind kind other = record {
  words = λ x. kind.words x.0 ++ other.words x.1;
  good = λ x. kind.good x.0 && other.good x.1;
}

module _ {A B : Type 0} (P : Passing) (kind : Kind A) (other : Kind B) where
  is_pair : (x : A) (y : B) (us vs : List Token) → Is kind x us → Is other y vs →
      Is (pair_kind kind other) (x, y) (us ++ vs)
  is_pair x y us vs h k = record {
    words = are_join (kind.words x) (other.words y) us vs h.words k.words;
    good = and_from (kind.good x) (other.good y) h.good k.good;
  }

  module _ (read : List Token → Read A) (first : Honest P kind read) (after : List Token → Read B)
      (second : Honest P other after) where
    pair_tells : (ts : List Token) → Tells P (pair_kind kind other) ts (pair read after ts)
    pair_tells ts = bind_tells P kind (pair_kind kind other) ts (joined_at after)
        (λ x front rest same is keep. built_tells P other (pair_kind kind other) front ts rest same (kind.words x)
        is.words keep (λ y. (x, y))
        (record { words = λ y g. refl; good = λ y g. and_from (kind.good x) (other.good y) is.good g })
        (after rest) (second.tells rest))
        (λ x us is. record {
          rest = second.example.tokens;
          tree = (x, second.example.tree);
          is = is_pair x second.example.tree us second.example.tokens is second.example.is;
          words = (other.words second.example.tree, inl refl);
        })
        (read ts) (first.tells ts)

    joined_past : (x : A × List Token) → Past (length x.1) (joined_at after x)
    joined_past x = bind_past (length x.1) (joined_with x.0) (λ y. omega arith) (after x.1)
        (honest_past P other after second x.1)

    pair_alike : (p b c : List Token) → Alike b c (pair read after (p ++ b)) (pair read after (p ++ c))
    pair_alike p b c = bind_alike b c (read (p ++ c)) (joined_at after) (joined_at after) joined_past (read (p ++ b))
        (λ x q e. built_alike b c (λ y. (x, y)) (after (q ++ b)) (after (q ++ c)) (second.alike q b c))
        (first.alike p b c)

    pair_extends : (x : A × List Token) (z : (A × B) × List Token) → joined_at after x ≡ Ok z →
        Extends (kind.words x.0) ((pair_kind kind other).words z.0)
    pair_extends x z e = built_extends other (pair_kind kind other) (kind.words x.0) (λ y. (x.0, y))
        (λ y. (other.words y, inl refl)) (after x.1) z e

    pair_agree : (p b c : List Token) → Agrees (pair_kind kind other) p b (pair read after (p ++ b))
        (pair read after (p ++ c))
    pair_agree p b c = bind_agrees kind (pair_kind kind other) p b c (joined_at after) (joined_at after)
        pair_extends pair_extends (read (p ++ b)) (read (p ++ c)) (first.alike p b c) (first.agree p b c)
        (λ x q e. let w = tells_cut P kind p b (read (p ++ b)) (first.tells (p ++ b)) x q e in
        built_agrees other (pair_kind kind other) w.0 q p b w.1 (kind.words x) w.2.words (λ y. (x, y))
        (record { words = λ y g. refl; good = λ y g. and_from (kind.good x) (other.good y) w.2.good g })
        (after (q ++ b)) (after (q ++ c))
        (tells_good P other (q ++ b) (after (q ++ b)) (second.tells (q ++ b)))
        (tells_good P other (q ++ c) (after (q ++ c)) (second.tells (q ++ c)))
        (second.agree q b c))

    pub pair_honest : Honest P (pair_kind kind other) (pair read after)
    pair_honest = record {
      example = record {
        tree = (first.example.tree, second.example.tree);
        tokens = first.example.tokens ++ second.example.tokens;
        is = is_pair first.example.tree second.example.tree first.example.tokens second.example.tokens
            first.example.is second.example.is;
      };
      tells = pair_tells;
      alike = pair_alike;
      agree = pair_agree;
    }

-- ---- trees built of what is read

-- a tree is built of its place and another with the same words
pub record Builds {A B : Type 0} (kind : Kind A) (other : Kind B) (build : Pos → A → B) : Type 0 where
  pub words : (at : Pos) (x : A) → other.words (build at x) ≡ begun at (kind.words x)
  pub good : (at : Pos) (x : A) → kind.good x ≡ true → other.good (build at x) ≡ true

module _ {A B : Type 0} (P : Passing) (kind : Kind A) (other : Kind B) (read : List Token → Read A)
    (honest : Honest P kind read) where
  module _ (build : A → B) (carries : Carries kind other [] build) where
    pub shaped_honest : Honest P other (shaped build read)
    shaped_honest = record {
      example = record {
        tree = build honest.example.tree;
        tokens = honest.example.tokens;
        is = record {
          words = subst (λ ws. AreMeasured ws honest.example.tokens)
              (sym (carries.words honest.example.tree honest.example.is.good)) honest.example.is.words;
          good = carries.good honest.example.tree honest.example.is.good;
        };
      };
      tells = λ ts. built_tells P kind other [] ts ts refl [] tt tt build carries (read ts) (honest.tells ts);
      alike = λ p b c. built_alike b c build (read (p ++ b)) (read (p ++ c)) (honest.alike p b c);
      agree = λ p b c. built_agrees kind other [] p p b refl [] tt build carries (read (p ++ b)) (read (p ++ c))
          (tells_good P kind (p ++ b) (read (p ++ b)) (honest.tells (p ++ b)))
          (tells_good P kind (p ++ c) (read (p ++ c)) (honest.tells (p ++ c))) (honest.agree p b c);
    }

  module _ (build : Pos → A → B) (builds : Builds kind other build) where
    is_built : (x : A) (us behind : List Token) → Is kind x us → Is other (build (place_of (us ++ behind)) x) us
    is_built x us behind h = record {
      words = subst (λ ws. AreMeasured ws us) (sym (builds.words (place_of (us ++ behind)) x))
          (begun_are (kind.words x) us behind h.words);
      good = builds.good (place_of (us ++ behind)) x h.good;
    }

    is_here : (x : A) (us : List Token) → Is kind x us → Is other (build (place_of us) x) us
    is_here x us h = subst (λ vs. Is other (build (place_of vs) x) us) (append-nil us) (is_built x us [] h)

    tells_built : (ts : List Token) (r : Read A) → Tells P kind ts r → Tells P other ts
        (r >>= built_at (build (place_of ts)))
    tells_built ts (Ok x) h = record {
      front = h.front;
      same = h.same;
      is = subst (λ vs. Is other (build (place_of vs) x.0) h.front) (sym h.same) (is_built x.0 h.front x.1 h.is);
      keeps = subst (Keep P.of) (sym (builds.words (place_of ts) x.0))
          (keep_begun P (place_of ts) (kind.words x.0) h.keeps);
    }
    tells_built ts (Err (Syntax left)) h = record {
      front = h.front;
      back = h.back;
      same = h.same;
      size = h.size;
      rest = h.rest;
      tree = build (place_of (h.front ++ h.rest)) h.tree;
      is = is_here h.tree (h.front ++ h.rest) h.is;
      keeps = subst (KeepOver P.of h.front) (sym (builds.words (place_of (h.front ++ h.rest)) h.tree))
          (over_begun P (place_of (h.front ++ h.rest)) h.front (kind.words h.tree) h.keeps);
    }
    tells_built ts (Err (Passed l left)) h =
        let at : Pos = place_of (h.front ++ h.last ∷ h.rest) in
        record {
          front = h.front;
          last = h.last;
          back = h.back;
          same = h.same;
          what = h.what;
          told = h.told;
          rest = h.rest;
          tree = build at h.tree;
          is = is_here h.tree (h.front ++ h.last ∷ h.rest) h.is;
          passes = subst (PassBehind P.of h.what h.front) (sym (builds.words at h.tree))
              (pass_begun P at h.what h.front (kind.words h.tree) h.passes);
        }

    alike_built : (p b c : List Token) → Alike b c (built build read (p ++ b)) (built build read (p ++ c))
    alike_built [] b c = past_alike b c (built build read c) (built build read b)
        (tells_past P other b (built build read b) (tells_built b (read b) (honest.tells b)))
    alike_built (t ∷ p) b c = built_alike b c (build t.at) (read (t ∷ p ++ b)) (read (t ∷ p ++ c))
        (honest.alike (t ∷ p) b c)

    agrees_built : (at be : Pos) (p b : List Token) (r s : Read A) → Agrees kind p b r s →
        Agrees other p b (r >>= built_at (build at)) (s >>= built_at (build be))
    agrees_built at be p b (Err f) s h = tt
    agrees_built at be p b (Ok x) (Err f) h = tt
    agrees_built at be p b (Ok x) (Ok y) h =
        λ short. subst (λ ws. Agree p ws (other.words (build be y.0))) (sym (builds.words at x.0))
        (subst (λ ws. Agree p (begun at (kind.words x.0)) ws) (sym (builds.words be y.0))
        (agree_begun at be p (kind.words x.0) (kind.words y.0) (h short)))

    pub built_honest : Honest P other (built build read)
    built_honest = record {
      example = record {
        tree = build (place_of honest.example.tokens) honest.example.tree;
        tokens = honest.example.tokens;
        is = is_here honest.example.tree honest.example.tokens honest.example.is;
      };
      tells = λ ts. tells_built ts (read ts) (honest.tells ts);
      alike = alike_built;
      agree = λ p b c. agrees_built (place_of (p ++ b)) (place_of (p ++ c)) p b (read (p ++ b)) (read (p ++ c))
          (honest.agree p b c);
    }
