-- Readers that the first tokens choose.
use Rattle.std.proofs.Common.{◌≡◌, ℕ, ◌≤◌, Bool, true, false, List, [], ◌∷◌, ◌++◌, length, drop, Option, Some}
use Rattle.std.proofs.Common.{None, Ok, Err, refl, sym, ap, ◌∙◌, subst, arith, cond}
use Rattle.std.proofs.lemmas.Bool.{cond-false}
use Rattle.au_base.specs.declared.places.Pos.{Pos}
use Rattle.au_base.specs.declared.tokens.Token.{Token}
use Rattle.au_base.specs.declared.tokens.What.{What}
use Rattle.au_base.specs.declared.limits.Limit.{Limit}
use Rattle.au_read_expressions.specs.declared.faults.Fault.TheVariants.{Passed}
use Rattle.au_read_expressions.specs.Reading.{Read, ◌>>=◌, no, front, place_of, same_what, tokens_at, read_of}
use Rattle.au_read_expressions.specs.Reading.{behind_tokens, closed, closed_at, pair, joined_at, joined_with}
use Rattle.au_read_expressions.specs.Reading.{shaped, built_at, built, value_at, value_or_no}
use Rattle.au_parser.specs.Measures.{Measured, Measures}
use Rattle.au_parser.specs.Passing.{PassBehind, SameMeasure, Agree, Excess}
use Rattle.au_parser.proofs.Told.{Passing, Kind, Is, Example, Tells, Agrees, agrees_empty, Past, Alike}
use Rattle.au_parser.proofs.Told.{Honest, fault_of, tells_past, bind_past, past_alike, tokens_past}
use Rattle.au_parser.proofs.Told.{tokens_take}
use Rattle.au_parser.proofs.Ways.{honest_past, no_alike, no_tells}

-- ---- by the first token

module _ {A : Type 0} (P : Passing) (kind : Kind A) (by : Option What → List Token → Read A)
    (each : (w : Option What) → Honest P kind (by w)) where
  first_alike : (p b c : List Token) → Alike b c (by (front (p ++ b)) (p ++ b)) (by (front (p ++ c)) (p ++ c))
  first_alike [] b c = past_alike b c (by (front c) c) (by (front b) b)
      (honest_past P kind (by (front b)) (each (front b)) b)
  first_alike (t ∷ p) b c = (each (Some t.what)).alike (t ∷ p) b c

  first_agree : (p b c : List Token) → Agrees kind p b (by (front (p ++ b)) (p ++ b)) (by (front (p ++ c)) (p ++ c))
  first_agree [] b c = agrees_empty kind b (by (front b) b) (by (front c) c)
  first_agree (t ∷ p) b c = (each (Some t.what)).agree (t ∷ p) b c

  pub first_honest : Honest P kind (λ ts. by (front ts) ts)
  first_honest = record {
    example = (each None).example;
    tells = λ ts. (each (front ts)).tells ts;
    alike = first_alike;
    agree = first_agree;
  }

-- by a test of the first token
module _ {A : Type 0} (P : Passing) (kind : Kind A) (test : Option What → Bool) (yes other : List Token → Read A)
    (if_so : Honest P kind yes) (else : Honest P kind other) where
  each_test : (v : Bool) → Honest P kind (λ ts. cond v (yes ts) (other ts))
  each_test true = if_so
  each_test false = else

  pub test_honest : Honest P kind (λ ts. cond (test (front ts)) (yes ts) (other ts))
  test_honest = first_honest P kind (λ w ts. cond (test w) (yes ts) (other ts)) (λ w. each_test (test w))

-- ---- by the first two tokens

-- a reader takes a first token of some kind, and else stops there
pub record Opens {A : Type 0} (opens : What → Bool) (read : List Token → Read A) : Type 0 where
  pub takes : (t : Token) (ts : List Token) → opens t.what ≡ true → Past (length ts) (read (t ∷ ts))
  pub stops : (t : Token) (ts : List Token) → opens t.what ≡ false → read (t ∷ ts) ≡ no (t ∷ ts)

pub value_opens : {A : Type 0} (value : Token → Option A) (opens : What → Bool)
    → ((t : Token) → opens t.what ≡ true → (x : A) × (value t ≡ Some x))
    → ((t : Token) → opens t.what ≡ false → value t ≡ None) → Opens opens (value_at value)
value_opens value opens there none = record {
  takes = λ t ts is. let w = there t is in
      subst (λ v. Past (length ts) (value_or_no (t ∷ ts) v)) (sym w.1)
      (let r : length ts ≤ length ts = omega arith in r);
  stops = λ t ts is. ap (value_or_no (t ∷ ts)) (none t is);
}

pub behind_opens : {A : Type 0} (w : What) (ws : List What) (part : List Token → Read A)
    → ((ts : List Token) → Past (length ts) (part ts)) → Opens (λ what. same_what what w) (behind_tokens (w ∷ ws) part)
behind_opens w ws part past = record {
  takes = λ t ts is. tokens_take part past w ws t ts is;
  stops = λ t ts is. ap (λ r. (r >>= tokens_at ws) >>= part) (cond-false (same_what t.what w) (Ok ts) (no (t ∷ ts)) is);
}

pub bind_opens : {A B : Type 0} (opens : What → Bool) (read : List Token → Read A)
    (f : List Token → A × List Token → Read B)
    → ((ts : List Token) (x : A × List Token) → Past (length x.1) (f ts x)) → Opens opens read
    → Opens opens (λ ts. read ts >>= f ts)
bind_opens opens read f past o = record {
  takes = λ t ts is. bind_past (length ts) (f (t ∷ ts)) (past (t ∷ ts)) (read (t ∷ ts)) (o.takes t ts is);
  stops = λ t ts is. ap (λ r. r >>= f (t ∷ ts)) (o.stops t ts is);
}

-- two readers that take the same first tokens are alike where only that is known
open_by : {A : Type 0} (opens : What → Bool) (read other : List Token → Read A) → Opens opens read → Opens opens other
    → (t : Token) (b c : List Token) (v : Bool) → opens t.what ≡ v → Alike b c (read (t ∷ b)) (other (t ∷ c))
open_by opens read other o k t b c true is = past_alike b c (other (t ∷ c)) (read (t ∷ b)) (o.takes t b is)
open_by opens read other o k t b c false is =
    subst (λ r. Alike b c r (other (t ∷ c))) (sym (o.stops t b is))
    (subst (λ r. Alike b c (no (t ∷ b)) r) (sym (k.stops t c is)) (no_alike (t ∷ []) b c))

pub open_alike : {A : Type 0} (opens : What → Bool) (read other : List Token → Read A) → Opens opens read →
    Opens opens other
    → (t : Token) (b c : List Token) → Alike b c (read (t ∷ b)) (other (t ∷ c))
open_alike opens read other o k t b c = open_by opens read other o k t b c (opens t.what) refl

-- the first word of every tree measures the same
abbrev pub First : Measured → Measures → Type 0
First m [] = ⊥
First m (w ∷ ws) = SameMeasure m w

abbrev pub Heads : {A : Type 0} → Kind A → Measured → Type 0
Heads kind m = (x : _) → kind.good x ≡ true → First m (kind.words x)

pub firsts_agree : (m : Measured) (t : Token) (a c : Measures) → First m a → First m c → Agree (t ∷ []) a c
firsts_agree m t [] c h k = absurd h
firsts_agree m t (w ∷ a) [] h k = absurd k
firsts_agree m t (w ∷ a) (v ∷ c) h k =
    ((sym h.0 ∙ k.0, (sym h.1.0 ∙ k.1.0, (sym h.1.1.0 ∙ k.1.1.0, (sym h.1.1.1.0 ∙ k.1.1.1.0, sym h.1.1.1.1 ∙ k.1.1.1.1)))), tt)

pub heads_agree : {A : Type 0} (P : Passing) (kind : Kind A) (m : Measured) → Heads kind m → (t : Token)
    (b ts us : List Token) (r s : Read A) → Tells P kind ts r → Tells P kind us s → Agrees kind (t ∷ []) b r s
heads_agree P kind m heads t b ts us (Err f) s h k = tt
heads_agree P kind m heads t b ts us (Ok x) (Err f) h k = tt
heads_agree P kind m heads t b ts us (Ok x) (Ok y) h k =
    λ short. firsts_agree m t (kind.words x.0) (kind.words y.0) (heads x.0 h.is.good) (heads y.0 k.is.good)

-- by the second token: what is read takes the same first tokens, whatever the second is
module _ {A : Type 0} (P : Passing) (kind : Kind A) (by : Option What → List Token → Read A)
    (each : (w : Option What) → Honest P kind (by w)) (opens : What → Bool)
    (all : (w : Option What) → Opens opens (by w)) (m : Measured) (heads : Heads kind m) where
  second_alike : (p b c : List Token)
      → Alike b c (by (front (drop 1 (p ++ b))) (p ++ b)) (by (front (drop 1 (p ++ c))) (p ++ c))
  second_alike [] b c = past_alike b c (by (front (drop 1 c)) c) (by (front (drop 1 b)) b)
      (honest_past P kind (by (front (drop 1 b))) (each (front (drop 1 b))) b)
  second_alike (t ∷ []) b c = open_alike opens (by (front b)) (by (front c)) (all (front b)) (all (front c)) t b c
  second_alike (t ∷ u ∷ p) b c = (each (Some u.what)).alike (t ∷ u ∷ p) b c

  abbrev by_second : List Token → Read A
  by_second ts = by (front (drop 1 ts)) ts

  seconds_agree : (p b c : List Token) → Agrees kind p b (by_second (p ++ b)) (by_second (p ++ c))
  seconds_agree [] b c = agrees_empty kind b (by_second b) (by_second c)
  seconds_agree (t ∷ []) b c = heads_agree P kind m heads t b (t ∷ b) (t ∷ c) (by (front b) (t ∷ b)) (by (front c) (t ∷ c))
      ((each (front b)).tells (t ∷ b)) ((each (front c)).tells (t ∷ c))
  seconds_agree (t ∷ u ∷ p) b c = (each (Some u.what)).agree (t ∷ u ∷ p) b c

  pub second_honest : Honest P kind (λ ts. by (front (drop 1 ts)) ts)
  second_honest = record {
    example = (each None).example;
    tells = λ ts. (each (front (drop 1 ts))).tells ts;
    alike = second_alike;
    agree = seconds_agree;
  }

-- by the first two tokens
module _ {A : Type 0} (P : Passing) (kind : Kind A) (by : Option What → Option What → List Token → Read A)
    (each : (w v : Option What) → Honest P kind (by w v))
    (one : (w : What) (u v : Option What) (t : Token) (b c : List Token) → t.what ≡ w →
    Alike b c (by (Some w) u (t ∷ b)) (by (Some w) v (t ∷ c)))
    (m : Measured) (heads : Heads kind m) where
  two_alike : (p b c : List Token) → Alike b c (by (front (p ++ b)) (front (drop 1 (p ++ b))) (p ++ b))
      (by (front (p ++ c)) (front (drop 1 (p ++ c))) (p ++ c))
  two_alike [] b c =
      past_alike b c (by (front c) (front (drop 1 c)) c) (by (front b) (front (drop 1 b)) b)
      (honest_past P kind (by (front b) (front (drop 1 b))) (each (front b) (front (drop 1 b))) b)
  two_alike (t ∷ []) b c = one t.what (front b) (front c) t b c refl
  two_alike (t ∷ u ∷ p) b c = (each (Some t.what) (Some u.what)).alike (t ∷ u ∷ p) b c

  abbrev by_two : List Token → Read A
  by_two ts = by (front ts) (front (drop 1 ts)) ts

  two_agree : (p b c : List Token) → Agrees kind p b (by_two (p ++ b)) (by_two (p ++ c))
  two_agree [] b c = agrees_empty kind b (by_two b) (by_two c)
  two_agree (t ∷ []) b c = heads_agree P kind m heads t b (t ∷ b) (t ∷ c) (by_two (t ∷ b)) (by_two (t ∷ c))
      ((each (Some t.what) (front b)).tells (t ∷ b)) ((each (Some t.what) (front c)).tells (t ∷ c))
  two_agree (t ∷ u ∷ p) b c = (each (Some t.what) (Some u.what)).agree (t ∷ u ∷ p) b c

  pub two_honest : Honest P kind (λ ts. by (front ts) (front (drop 1 ts)) ts)
  two_honest = record {
    example = (each None None).example;
    tells = λ ts. (each (front ts) (front (drop 1 ts))).tells ts;
    alike = two_alike;
    agree = two_agree;
  }

-- ---- readers of two steps open as the first does

module _ {A B : Type 0} (opens : What → Bool) (read : List Token → Read A) (o : Opens opens read) where
  pub pair_opens : (after : List Token → Read B) → ((ts : List Token) → Past (length ts) (after ts)) →
      Opens opens (pair read after)
  pair_opens after past = bind_opens opens read (λ ts. joined_at after)
      (λ ts x. bind_past (length x.1) (joined_with x.0) (λ y. omega arith) (after x.1) (past x.1)) o

  pub shaped_opens : (build : A → B) → Opens opens (shaped build read)
  shaped_opens build = bind_opens opens read (λ ts. built_at build) (λ ts x. omega arith) o

  pub built_opens : (build : Pos → A → B) → Opens opens (built build read)
  built_opens build = bind_opens opens read (λ ts. built_at (build (place_of ts))) (λ ts x. omega arith) o

module _ {A : Type 0} (opens : What → Bool) (read : List Token → Read A) (o : Opens opens read) where
  pub closed_opens : (whats : List What) → Opens opens (closed whats read)
  closed_opens whats = bind_opens opens read (λ ts. closed_at whats)
      (λ ts x. tokens_past (read_of x.0) (λ rest. omega arith) whats x.1) o

-- ---- a limit is passed here

-- a tree begins with this token, and passes a limit with it
pub record Starts {A : Type 0} (P : Passing) (kind : Kind A) (what : Excess) (t : Token) : Type 0 where
  pub rest : List Token
  pub tree : A
  pub is : Is kind tree (t ∷ rest)
  pub passes : PassBehind P.of what [] (kind.words tree)

-- trees that begin here pass a limit
module _ {A : Type 0} (P : Passing) (kind : Kind A) (example : Example kind) (begins : Option What → Bool) (limit : Limit) (what : Excess)
    (none : begins None ≡ false) (told : (ts : List Token) → P.told limit what [] ts (length ts))
    (starts : (t : Token) → begins (Some t.what) ≡ true → Starts P kind what t) where
  abbrev deep_at : Bool → List Token → Read A
  deep_at v ts = cond v (Err (Passed limit (length ts))) (no ts)

  deep_one : (t : Token) (ts : List Token) (v : Bool) → begins (Some t.what) ≡ v → Tells P kind (t ∷ ts)
      (deep_at v (t ∷ ts))
  deep_one t ts true e =
      let s = starts t e in
      record {
        front = [];
        last = t;
        back = ts;
        same = refl;
        what = what;
        told = told (t ∷ ts);
        rest = s.rest;
        tree = s.tree;
        is = s.is;
        passes = s.passes;
      }
  deep_one t ts false e = no_tells P kind example (t ∷ ts)

  pub deep_tells : (ts : List Token) → Tells P kind ts (deep_at (begins (front ts)) ts)
  deep_tells [] = subst (λ v. Tells P kind [] (deep_at v [])) (sym none) (no_tells P kind example [])
  deep_tells (t ∷ ts) = deep_one t ts (begins (Some t.what)) refl

  pub deep_alike_by : (p b c : List Token) (v : Bool) → Alike b c (deep_at v (p ++ b)) (deep_at v (p ++ c))
  deep_alike_by p b c true = tt
  deep_alike_by p b c false = no_alike p b c

  deep_alike : (p b c : List Token) → Alike b c (deep_at (begins (front (p ++ b))) (p ++ b))
      (deep_at (begins (front (p ++ c))) (p ++ c))
  deep_alike [] b c = past_alike b c (deep_at (begins (front c)) c) (deep_at (begins (front b)) b)
      (tells_past P kind b (deep_at (begins (front b)) b) (deep_tells b))
  deep_alike (t ∷ p) b c = deep_alike_by (t ∷ p) b c (begins (Some t.what))

  pub deep_agree_by : (p b : List Token) (v : Bool) (ts : List Token) (s : Read A) → Agrees kind p b (deep_at v ts) s
  deep_agree_by p b true ts s = tt
  deep_agree_by p b false ts s = tt

  pub deep_honest : Honest P kind (λ ts. deep_at (begins (front ts)) ts)
  deep_honest = record {
    example = example;
    tells = deep_tells;
    alike = deep_alike;
    agree = λ p b c. deep_agree_by p b (begins (front (p ++ b))) (p ++ b) (deep_at (begins (front (p ++ c))) (p ++ c));
  }

pub or_passed_past : {A : Type 0} (n left : ℕ) (l : Limit) (r : Read A) → Past n r → (v : Bool) →
    Past n (cond v r (fault_of (Passed l left)))
or_passed_past n left l r h true = h
or_passed_past n left l r h false = tt

pub or_passed_alike : {A : Type 0} (b c : List Token) (l k : Limit) (m n : ℕ) (r s : Read A) → Alike b c r s →
    (v : Bool) →
    Alike b c (cond v r (fault_of (Passed l m))) (cond v s (fault_of (Passed k n)))
or_passed_alike b c l k m n r s h true = h
or_passed_alike b c l k m n r s h false = tt
