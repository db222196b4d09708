-- What is told of reading, whatever it ends with. A tree that is read has the words before what is behind it, and these
-- pass no limit; the tokens before a fault begin some tree, and pass none in it; and where a limit is told, some tree
-- passes it first with the token behind them. What is read before some tokens doesn't depend on these.
use Rattle.std.proofs.Common.{◌≡◌, ℕ, suc, ◌+◌, ◌≤◌, Bool, true, false, List, [], ◌∷◌, ◌++◌, length, map}
use Rattle.std.proofs.Common.{None, Ok, Err, refl, sym, ap, ◌∙◌, subst, arith, inl, inr, ◌⊎◌, cond}
use Rattle.std.proofs.Common.{append_assoc, length-append}
use Rattle.std.proofs.lemmas.Bool.{cond-true}
use Rattle.au_base.specs.declared.limits.Limit.{Limit}
use Rattle.au_base.specs.declared.places.Pos.{Pos}
use Rattle.au_base.specs.declared.tokens.Token.{Token}
use Rattle.au_base.specs.declared.tokens.What.{What}
use Rattle.au_syntax.specs.Words.{Printed, Words, IsWord}
use Rattle.au_read_expressions.specs.declared.faults.Fault.{Fault}
use Rattle.au_read_expressions.specs.declared.faults.Fault.TheVariants.{Syntax, Passed}
use Rattle.au_read_expressions.specs.Reading.{Read, ◌>>=◌, no, place_of, same_what, tokens_at, built_at}
use Rattle.au_read_expressions.specs.Reading.{read_of}
use Rattle.au_read_expressions.specs.Spelling.{fixed}
use Rattle.au_read_expressions.proofs.Steps.{same_is, given}
use Rattle.au_parser.specs.Measures.{Measured, Measures, plain, plains, placed_at, begun}
use Rattle.au_parser.specs.Passing.{Passes, Keep, KeepOver, PassBehind, SameMeasure, Agree, Excess}

-- faults and what is read, with their type
abbrev pub fault_of : {A : Type 0} → Fault → Read A
fault_of f = Err f

-- what words pass, where those that tell of no limit pass none
pub record Passing : Type 1 where
  pub of : Passes
  pub plain : (w : Printed) → of (plain w) ≡ None
  pub placed : (at : Pos) (w : Measured) → of (placed_at at w) ≡ of w
  -- what is told of the limit that is passed with the first of these tokens, with others in front, and so many left
  pub told : Limit → Excess → List Token → List Token → ℕ → Type 0
  pub more : (l : Limit) (what : Excess) (us front back : List Token) (left : ℕ) → told l what front back left →
      told l what (us ++ front) back left

-- the tokens are these words
abbrev pub AreMeasured : Measures → List Token → Type 0
AreMeasured [] [] = Unit {0}
AreMeasured [] (t ∷ ts) = ⊥
AreMeasured (w ∷ ws) [] = ⊥
AreMeasured (w ∷ ws) (t ∷ ts) = IsWord w.word t × AreMeasured ws ts

-- tokens that a tree says nothing of
abbrev pub signs : List What → Measures
signs whats = plains (fixed whats)

-- What is said of a kind of tree: its words, and whether it has its form.
pub record Kind (A : Type 0) : Type 0 where
  pub words : A → Measures
  pub good : A → Bool

-- these tokens, all of them, are the words of a tree that has its form
pub record Is {A : Type 0} (kind : Kind A) (x : A) (ts : List Token) : Type 0 where
  pub words : AreMeasured (kind.words x) ts
  pub good : kind.good x ≡ true

-- some tree
pub record Example {A : Type 0} (kind : Kind A) : Type 0 where
  pub tree : A
  pub tokens : List Token
  pub is : Is kind tree tokens

-- with some tokens behind, these are the words of some tree, in which they pass no limit
pub record Fronts {A : Type 0} (P : Passing) (kind : Kind A) (ts : List Token) : Type 0 where
  pub rest : List Token
  pub tree : A
  pub is : Is kind tree (ts ++ rest)
  pub keeps : KeepOver P.of ts (kind.words tree)

-- a tree that was read, which passes no limit, and what is behind it
pub record Whole {A : Type 0} (P : Passing) (kind : Kind A) (x : A) (ts behind : List Token) : Type 0 where
  pub front : List Token
  pub same : ts ≡ front ++ behind
  pub is : Is kind x front
  pub keeps : Keep P.of (kind.words x)

-- the tokens before the last ones, of which there are so many, begin some tree, and pass no limit in it
pub record Begun {A : Type 0} (P : Passing) (kind : Kind A) (ts : List Token) (left : ℕ) : Type 0 where
  pub front : List Token
  pub back : List Token
  pub same : ts ≡ front ++ back
  pub size : length back ≡ left
  pub rest : List Token
  pub tree : A
  pub is : Is kind tree (front ++ rest)
  pub keeps : KeepOver P.of front (kind.words tree)

-- the tokens through one begin some tree, which passes this limit first with that token
pub record Stopped {A : Type 0} (P : Passing) (kind : Kind A) (ts : List Token) (l : Limit) (left : ℕ) : Type 0 where
  pub front : List Token
  pub last : Token
  pub back : List Token
  pub same : ts ≡ front ++ last ∷ back
  pub what : Excess
  pub told : P.told l what front (last ∷ back) left
  pub rest : List Token
  pub tree : A
  pub is : Is kind tree (front ++ last ∷ rest)
  pub passes : PassBehind P.of what front (kind.words tree)

abbrev pub Tells : {A : Type 0} → Passing → Kind A → List Token → Read A → Type 0
Tells P kind ts (Ok x) = Whole P kind x.0 ts x.1
Tells P kind ts (Err (Syntax left)) = Begun P kind ts left
Tells P kind ts (Err (Passed l left)) = Stopped P kind ts l left

-- where no limit is passed, no more than so many tokens are left
abbrev pub Past : {A : Type 0} → ℕ → Read A → Type 0
Past n (Ok x) = length x.1 ≤ n
Past n (Err (Syntax left)) = left ≤ n
Past n (Err (Passed l left)) = Unit {0}

-- what is read before `b` is read before `c`
pub record On {A : Type 0} (b c : List Token) (x : A) (behind : List Token) (other : Read A) : Type 0 where
  pub between : List Token
  pub same : behind ≡ between ++ b
  pub there : other ≡ Ok (x, between ++ c)

-- A reading of tokens with `b` behind, beside one of the same tokens with `c` behind: they are alike, unless the
-- first one has come to `b`, or has met a limit.
abbrev pub Alike : {A : Type 0} → List Token → List Token → Read A → Read A → Type 0
Alike b c (Ok x) other = (length x.1 ≤ length b) ⊎ On b c x.0 x.1 other
Alike b c (Err (Syntax left)) other =
    (left ≤ length b) ⊎ ((k : ℕ) × (left ≡ k + length b) × (other ≡ Err (Syntax (k + length c))))
Alike b c (Err (Passed l left)) other = Unit {0}

-- what is known of the limits with tokens `p` is the same in two trees that are read, where the first one was read beyond
-- them, with `b` behind
abbrev pub Agrees : {A : Type 0} → Kind A → List Token → List Token → Read A → Read A → Type 0
Agrees kind p b (Err f) s = Unit {0}
Agrees kind p b (Ok x) (Err f) = Unit {0}
Agrees kind p b (Ok x) (Ok y) = length x.1 ≤ length b → Agree p (kind.words x.0) (kind.words y.0)

-- A reader tells trees of a kind, and never looks back: a fault depends on the tokens through its place alone, and what
-- is known of the limits with a token on no token behind it.
pub record Honest {A : Type 0} (P : Passing) (kind : Kind A) (read : List Token → Read A) : Type 0 where
  pub example : Example kind
  pub tells : (ts : List Token) → Tells P kind ts (read ts)
  pub alike : (p b c : List Token) → Alike b c (read (p ++ b)) (read (p ++ c))
  pub agree : (p b c : List Token) → Agrees kind p b (read (p ++ b)) (read (p ++ c))

-- ---- words and tokens

pub are_join : (a b : Measures) (xs ys : List Token) → AreMeasured a xs → AreMeasured b ys →
    AreMeasured (a ++ b) (xs ++ ys)
are_join [] b [] ys h k = k
are_join [] b (x ∷ xs) ys h k = absurd h
are_join (w ∷ a) b [] ys h k = absurd h
are_join (w ∷ a) b (x ∷ xs) ys h k = (h.0, are_join a b xs ys h.1 k)

pub are_size : (a : Measures) (xs : List Token) → AreMeasured a xs → length a ≡ length xs
are_size [] [] h = refl
are_size [] (x ∷ xs) h = absurd h
are_size (w ∷ a) [] h = absurd h
are_size (w ∷ a) (x ∷ xs) h = let e = are_size a xs h.1 in let r : length (w ∷ a) ≡ length (x ∷ xs) = omega
    (arith, e) in r

-- words with the place of the first token
pub begun_are : (ws : Measures) (front behind : List Token) → AreMeasured ws front →
    AreMeasured (begun (place_of (front ++ behind)) ws) front
begun_are [] [] behind h = tt
begun_are [] (x ∷ xs) behind h = absurd h
begun_are (w ∷ ws) [] behind h = absurd h
begun_are (w ∷ ws) (x ∷ xs) behind h = ((h.0.0, (refl, h.0.1)), h.1)

-- tokens of fixed words
abbrev pub token_of : What → Token
token_of what = record { what = what; at = record { file = 0; line = 0; column = 0 } }

abbrev pub tokens_of : List What → List Token
tokens_of whats = map token_of whats

pub fixed_are : (whats : List What) → AreMeasured (signs whats) (tokens_of whats)
fixed_are [] = tt
fixed_are (what ∷ whats) = ((refl, tt), fixed_are whats)

-- ---- words that pass no limit

pub keep_plains : (P : Passing) (ws : Words) → Keep P.of (plains ws)
keep_plains P [] = tt
keep_plains P (w ∷ ws) = (P.plain w, keep_plains P ws)

pub keep_join : (p : Passes) (a b : Measures) → Keep p a → Keep p b → Keep p (a ++ b)
keep_join p [] b h k = k
keep_join p (w ∷ a) b h k = (h.0, keep_join p a b h.1 k)

pub over_join : (p : Passes) (a b : Measures) (us vs : List Token) → AreMeasured a us → Keep p a → KeepOver p vs b →
    KeepOver p (us ++ vs) (a ++ b)
over_join p [] b [] vs are h k = k
over_join p [] b (u ∷ us) vs are h k = absurd are
over_join p (w ∷ a) b [] vs are h k = absurd are
over_join p (w ∷ a) b (u ∷ us) vs are h k = (h.0, over_join p a b us vs are.1 h.1 k)

pub over_more : (p : Passes) (us : List Token) (a b : Measures) → KeepOver p us a → KeepOver p us (a ++ b)
over_more p [] a b h = tt
over_more p (u ∷ us) [] b h = absurd h
over_more p (u ∷ us) (w ∷ a) b h = (h.0, over_more p us a b h.1)

pub over_fewer : (p : Passes) (us vs : List Token) (a : Measures) → KeepOver p (us ++ vs) a → KeepOver p us a
over_fewer p [] vs a h = tt
over_fewer p (u ∷ us) vs [] h = absurd h
over_fewer p (u ∷ us) vs (w ∷ a) h = (h.0, over_fewer p us vs a h.1)

pub keep_over : (p : Passes) (us : List Token) (a : Measures) → AreMeasured a us → Keep p a → KeepOver p us a
keep_over p [] a are h = tt
keep_over p (u ∷ us) [] are h = absurd are
keep_over p (u ∷ us) (w ∷ a) are h = (h.0, keep_over p us a are.1 h.1)

pub pass_join : (p : Passes) (what : Excess) (a b : Measures) (us vs : List Token) → AreMeasured a us → Keep p a →
    PassBehind p what vs b → PassBehind p what (us ++ vs) (a ++ b)
pass_join p what [] b [] vs are h k = k
pass_join p what [] b (u ∷ us) vs are h k = absurd are
pass_join p what (w ∷ a) b [] vs are h k = absurd are
pass_join p what (w ∷ a) b (u ∷ us) vs are h k = (h.0, pass_join p what a b us vs are.1 h.1 k)

pub pass_more : (p : Passes) (what : Excess) (us : List Token) (a b : Measures) → PassBehind p what us a →
    PassBehind p what us (a ++ b)
pass_more p what us [] b h = absurd h
pass_more p what [] (w ∷ a) b h = h
pass_more p what (u ∷ us) (w ∷ a) b h = (h.0, pass_more p what us a b h.1)

pub keep_begun : (P : Passing) (at : Pos) (a : Measures) → Keep P.of a → Keep P.of (begun at a)
keep_begun P at [] h = h
keep_begun P at (w ∷ a) h = (P.placed at w ∙ h.0, h.1)

pub over_begun : (P : Passing) (at : Pos) (us : List Token) (a : Measures) → KeepOver P.of us a →
    KeepOver P.of us (begun at a)
over_begun P at [] a h = tt
over_begun P at (u ∷ us) [] h = absurd h
over_begun P at (u ∷ us) (w ∷ a) h = (P.placed at w ∙ h.0, h.1)

pub pass_begun : (P : Passing) (at : Pos) (what : Excess) (us : List Token) (a : Measures) →
    PassBehind P.of what us a → PassBehind P.of what us (begun at a)
pass_begun P at what us [] h = absurd h
pass_begun P at what [] (w ∷ a) h = P.placed at w ∙ h
pass_begun P at what (u ∷ us) (w ∷ a) h = (P.placed at w ∙ h.0, h.1)

-- ---- what was read, with others before it, and built of it

-- the words of what is built are these, and then those of what it is built of
pub record Carries {B C : Type 0} (kind : Kind B) (other : Kind C) (pre : Measures) (build : B → C) : Type 0 where
  pub words : (y : B) → kind.good y ≡ true → other.words (build y) ≡ pre ++ kind.words y
  pub good : (y : B) → kind.good y ≡ true → other.good (build y) ≡ true

module _ {B C : Type 0} (P : Passing) (kind : Kind B) (other : Kind C) (front ts rest : List Token)
    (same : ts ≡ front ++ rest)
    (pre : Measures) (are : AreMeasured pre front) (keep : Keep P.of pre) (build : B → C)
    (carries : Carries kind other pre build) where
  front_join : (mid behind : List Token) → rest ≡ mid ++ behind → ts ≡ (front ++ mid) ++ behind
  front_join mid behind e = same ∙ ap (λ r. front ++ r) e ∙ sym (append_assoc front mid behind)

  is_join : (y : B) (us : List Token) → Is kind y us → Is other (build y) (front ++ us)
  is_join y us h = record {
    words = subst (λ ws. AreMeasured ws (front ++ us)) (sym (carries.words y h.good))
        (are_join pre (kind.words y) front us are h.words);
    good = carries.good y h.good;
  }

  begun_join : (left : ℕ) → Begun P kind rest left → Begun P other ts left
  begun_join left h = record {
    front = front ++ h.front;
    back = h.back;
    same = front_join h.front h.back h.same;
    size = h.size;
    rest = h.rest;
    tree = build h.tree;
    is = subst (Is other (build h.tree)) (sym (append_assoc front h.front h.rest))
        (is_join h.tree (h.front ++ h.rest) h.is);
    keeps = subst (KeepOver P.of (front ++ h.front)) (sym (carries.words h.tree h.is.good))
        (over_join P.of pre (kind.words h.tree) front h.front are keep h.keeps);
  }

  stopped_join : (l : Limit) (left : ℕ) → Stopped P kind rest l left → Stopped P other ts l left
  stopped_join l left h = record {
    front = front ++ h.front;
    last = h.last;
    back = h.back;
    same = front_join h.front (h.last ∷ h.back) h.same;
    what = h.what;
    told = P.more l h.what front h.front (h.last ∷ h.back) left h.told;
    rest = h.rest;
    tree = build h.tree;
    is = subst (Is other (build h.tree)) (sym (append_assoc front h.front (h.last ∷ h.rest)))
        (is_join h.tree (h.front ++ h.last ∷ h.rest) h.is);
    passes = subst (PassBehind P.of h.what (front ++ h.front)) (sym (carries.words h.tree h.is.good))
        (pass_join P.of h.what pre (kind.words h.tree) front h.front are keep h.passes);
  }

  whole_join : (y : B) (behind : List Token) → Whole P kind y rest behind → Whole P other (build y) ts behind
  whole_join y behind h = record {
    front = front ++ h.front;
    same = front_join h.front behind h.same;
    is = is_join y h.front h.is;
    keeps = subst (Keep P.of) (sym (carries.words y h.is.good)) (keep_join P.of pre (kind.words y) keep h.keeps);
  }

  pub built_tells : (r : Read B) → Tells P kind rest r → Tells P other ts (r >>= built_at build)
  built_tells (Ok y) h = whole_join y.0 y.1 h
  built_tells (Err (Syntax left)) h = begun_join left h
  built_tells (Err (Passed l left)) h = stopped_join l left h

-- with others before it
pub behind_tells : {B : Type 0} (P : Passing) (kind other : Kind B) (front ts rest : List Token) → ts ≡ front ++ rest →
    (pre : Measures) → AreMeasured pre front → Keep P.of pre → Carries kind other pre (λ y. y)
    → (r : Read B) → Tells P kind rest r → Tells P other ts r
behind_tells P kind other front ts rest same pre are keep carries (Ok y) h =
    whole_join P kind other front ts rest same pre are keep (λ x. x) carries y.0 y.1 h
behind_tells P kind other front ts rest same pre are keep carries (Err (Syntax left)) h =
    begun_join P kind other front ts rest same pre are keep (λ x. x) carries left h
behind_tells P kind other front ts rest same pre are keep carries (Err (Passed l left)) h =
    stopped_join P kind other front ts rest same pre are keep (λ x. x) carries l left h

-- ---- two steps

-- words that begin with these, but for the place of the first
abbrev pub Extends : Measures → Measures → Type 0
Extends a c = (more : Measures) × ((c ≡ a ++ more) ⊎ ((at : Pos) × (c ≡ begun at (a ++ more))))

extends_over : (P : Passing) (us : List Token) (a c : Measures) → Extends a c → KeepOver P.of us a → KeepOver P.of us c
extends_over P us a c (more, inl e) h = subst (KeepOver P.of us) (sym e) (over_more P.of us a more h)
extends_over P us a c (more, inr w) h =
    subst (KeepOver P.of us) (sym w.1) (over_begun P w.0 us (a ++ more) (over_more P.of us a more h))

extends_pass : (P : Passing) (what : Excess) (us : List Token) (a c : Measures) → Extends a c →
    PassBehind P.of what us a → PassBehind P.of what us c
extends_pass P what us a c (more, inl e) h = subst (PassBehind P.of what us) (sym e) (pass_more P.of what us a more h)
extends_pass P what us a c (more, inr w) h =
    subst (PassBehind P.of what us) (sym w.1) (pass_begun P w.0 what us (a ++ more) (pass_more P.of what us a more h))

-- a tree is the beginning of one of another kind
pub record Grows {A B : Type 0} (kind : Kind A) (other : Kind B) (x : A) (us : List Token) : Type 0 where
  pub rest : List Token
  pub tree : B
  pub is : Is other tree (us ++ rest)
  pub words : Extends (kind.words x) (other.words tree)

pub bind_tells : {A B : Type 0} (P : Passing) (kind : Kind A) (other : Kind B) (ts : List Token)
    (f : A × List Token → Read B)
    → ((x : A) (front rest : List Token) → ts ≡ front ++ rest → Is kind x front → Keep P.of (kind.words x)
    → Tells P other ts (f (x, rest)))
    → ((x : A) (us : List Token) → Is kind x us → Grows kind other x us)
    → (r : Read A) → Tells P kind ts r → Tells P other ts (r >>= f)
bind_tells P kind other ts f on goes (Ok x) h = on x.0 h.front x.1 h.same h.is h.keeps
bind_tells P kind other ts f on goes (Err (Syntax left)) h =
    let more = goes h.tree (h.front ++ h.rest) h.is in
    record {
      front = h.front;
      back = h.back;
      same = h.same;
      size = h.size;
      rest = h.rest ++ more.rest;
      tree = more.tree;
      is = subst (Is other more.tree) (append_assoc h.front h.rest more.rest) more.is;
      keeps = extends_over P h.front (kind.words h.tree) (other.words more.tree) more.words h.keeps;
    }
bind_tells P kind other ts f on goes (Err (Passed l left)) h =
    let more = goes h.tree (h.front ++ h.last ∷ h.rest) h.is in
    record {
      front = h.front;
      last = h.last;
      back = h.back;
      same = h.same;
      what = h.what;
      told = h.told;
      rest = h.rest ++ more.rest;
      tree = more.tree;
      is = subst (Is other more.tree) (append_assoc h.front (h.last ∷ h.rest) more.rest) more.is;
      passes = extends_pass P h.what h.front (kind.words h.tree) (other.words more.tree) more.words h.passes;
    }

pub past_more : {A : Type 0} (m n : ℕ) (r : Read A) → m ≤ n → Past m r → Past n r
past_more m n (Ok x) h k = omega (arith, h, k)
past_more m n (Err (Syntax left)) h k = omega (arith, h, k)
past_more m n (Err (Passed l left)) h k = tt

pub tells_past : {A : Type 0} (P : Passing) (kind : Kind A) (ts : List Token) (r : Read A) → Tells P kind ts r →
    Past (length ts) r
tells_past P kind ts (Ok x) h =
    let e = ap length h.same ∙ length-append h.front x.1 in omega (arith, e)
tells_past P kind ts (Err (Syntax left)) h =
    let e = ap length h.same ∙ length-append h.front h.back in omega (arith, e, h.size)
tells_past P kind ts (Err (Passed l left)) h = tt

pub bind_past : {A B : Type 0} (n : ℕ) (f : A × List Token → Read B) → ((x : A × List Token) → Past (length x.1) (f x))
    → (r : Read A) → Past n r → Past n (r >>= f)
bind_past n f on (Ok x) h = past_more (length x.1) n (f x) h (on x)
bind_past n f on (Err (Syntax left)) h = h
bind_past n f on (Err (Passed l left)) h = tt

pub past_alike : {A : Type 0} (b c : List Token) (other : Read A) (r : Read A) → Past (length b) r → Alike b c r other
past_alike b c other (Ok x) h = inl h
past_alike b c other (Err (Syntax left)) h = inl h
past_alike b c other (Err (Passed l left)) h = tt

pub bind_alike : {A B : Type 0} (b c : List Token) (s : Read A) (f g : A × List Token → Read B)
    → ((x : A × List Token) → Past (length x.1) (f x))
    → (r : Read A) → ((x : A) (q : List Token) → r ≡ Ok (x, q ++ b) → Alike b c (f (x, q ++ b)) (g (x, q ++ c)))
    → Alike b c r s → Alike b c (r >>= f) (s >>= g)
bind_alike b c s f g past (Ok x) on h =
    elim h [
      | inl short ↦ past_alike b c (s >>= g) (f x) (past_more (length x.1) (length b) (f x) short (past x))
      | inr w ↦
          subst (λ t. Alike b c (f (x.0, t)) (s >>= g)) (sym w.same)
          (subst (λ v. Alike b c (f (x.0, w.between ++ b)) (v >>= g)) (sym w.there)
          (on x.0 w.between (ap (λ t. read_of x.0 t) w.same)))
    ]
bind_alike b c s f g past (Err (Syntax left)) on h =
    elim h [ inl short ↦ inl short | inr w ↦ inr (w.0, w.1, ap (λ v. v >>= g) w.2) ]
bind_alike b c s f g past (Err (Passed l left)) on h = tt

-- a tree is built of what is read
pub built_alike : {A B : Type 0} (b c : List Token) (build : A → B) (r s : Read A) → Alike b c r s →
    Alike b c (r >>= built_at build) (s >>= built_at build)
built_alike b c build r s h =
    bind_alike b c s (built_at build) (built_at build) (λ x. omega arith) r
    (λ x q e. inr (record { between = q; same = refl; there = refl })) h

-- ---- tokens

module _ {B : Type 0} (P : Passing) (kind : Kind B) (g : List Token → Read B) where
  token_stops : (whats : List What) (all front ts : List Token) → all ≡ front ++ ts
      → ((us : List Token) → AreMeasured (signs whats) us → Fronts P kind (front ++ us)) → Begun P kind all (length ts)
  token_stops whats all front ts same goes =
      let more = goes (tokens_of whats) (fixed_are whats) in
      record {
        front = front;
        back = ts;
        same = same;
        size = refl;
        rest = tokens_of whats ++ more.rest;
        tree = more.tree;
        is = subst (Is kind more.tree) (append_assoc front (tokens_of whats) more.rest) more.is;
        keeps = (over_fewer P.of front (tokens_of whats) (kind.words more.tree) more.keeps);
      }

  token_by : (w : What) (ws : List What) (all front : List Token) (t : Token) (ts : List Token)
      → all ≡ front ++ t ∷ ts
      → ((us : List Token) → AreMeasured (signs (w ∷ ws)) us → Fronts P kind (front ++ us))
      → (v : Bool) → (v ≡ true → Tells P kind all (tokens_at ws ts >>= g))
      → Tells P kind all ((cond v (Ok ts) (no (t ∷ ts)) >>= tokens_at ws) >>= g)
  token_by w ws all front t ts same goes true on = on refl
  token_by w ws all front t ts same goes false on = token_stops (w ∷ ws) all front (t ∷ ts) same goes

  -- tokens that are expected, behind others
  pub tokens_tell : (whats : List What) (all front ts : List Token) → all ≡ front ++ ts
      → ((mid rest : List Token) → ts ≡ mid ++ rest → AreMeasured (signs whats) mid → Tells P kind all (g rest))
      → ((us : List Token) → AreMeasured (signs whats) us → Fronts P kind (front ++ us))
      → Tells P kind all (tokens_at whats ts >>= g)
  tokens_tell [] all front ts same on goes = on [] ts refl tt
  tokens_tell (w ∷ ws) all front [] same on goes = token_stops (w ∷ ws) all front [] same goes
  tokens_tell (w ∷ ws) all front (t ∷ ts) same on goes =
      token_by w ws all front t ts same goes (same_what t.what w) (λ is.
      tokens_tell ws all (front ++ t ∷ []) ts (same ∙ sym (append_assoc front (t ∷ []) ts))
      (λ mid rest e are. on (t ∷ mid) rest (ap (λ r. t ∷ r) e) ((same_is t.what w is, tt), are))
      (λ us are. subst (Fronts P kind) (sym (append_assoc front (t ∷ []) us))
      (goes (t ∷ us) ((same_is t.what w is, tt), are))))

module _ {B : Type 0} (g : List Token → Read B) (past : (rest : List Token) → Past (length rest) (g rest)) where
  past_by : (w : What) (ws : List What) (t : Token) (ts : List Token) → Past (length ts) (tokens_at ws ts >>= g)
      → (v : Bool) → Past (suc (length ts)) ((cond v (Ok ts) (no (t ∷ ts)) >>= tokens_at ws) >>= g)
  past_by w ws t ts h true = past_more (length ts) (suc (length ts)) (tokens_at ws ts >>= g) (omega arith) h
  past_by w ws t ts h false = omega arith

  pub tokens_past : (whats : List What) (ts : List Token) → Past (length ts) (tokens_at whats ts >>= g)
  tokens_past [] ts = past ts
  tokens_past (w ∷ ws) [] = omega arith
  tokens_past (w ∷ ws) (t ∷ ts) = past_by w ws t ts (tokens_past ws ts) (same_what t.what w)

  -- the first token is taken
  pub tokens_take : (w : What) (ws : List What) (t : Token) (ts : List Token) → same_what t.what w ≡ true →
      Past (length ts) (tokens_at (w ∷ ws) (t ∷ ts) >>= g)
  tokens_take w ws t ts is =
      subst (λ r. Past (length ts) ((r >>= tokens_at ws) >>= g))
      (sym (cond-true (same_what t.what w) (given ts) (no (t ∷ ts)) is)) (tokens_past ws ts)

  alike_by : (p b c : List Token) (w : What) (ws : List What) (t : Token) (h : List Token → Read B)
      → Alike b c (tokens_at ws (p ++ b) >>= g) (tokens_at ws (p ++ c) >>= h)
      → (v : Bool) → Alike b c ((cond v (Ok (p ++ b)) (no (t ∷ p ++ b)) >>= tokens_at ws) >>= g)
      ((cond v (Ok (p ++ c)) (no (t ∷ p ++ c)) >>= tokens_at ws) >>= h)
  alike_by p b c w ws t h on true = on
  alike_by p b c w ws t h on false =
      let lb = length-append p b in let lc = length-append p c in
      let e : suc (length (p ++ b)) ≡ suc (length p) + length b = omega (arith, lb) in
      let d : suc (length (p ++ c)) ≡ suc (length p) + length c = omega (arith, lc) in
      inr (suc (length p), e, ap (λ n. fault_of (Syntax n)) d)

  pub tokens_alike : (b c : List Token) (h : List Token → Read B)
      → ((q : List Token) → Alike b c (g (q ++ b)) (h (q ++ c)))
      → (whats : List What) (p : List Token) → Alike b c (tokens_at whats (p ++ b) >>= g)
      (tokens_at whats (p ++ c) >>= h)
  tokens_alike b c h on [] p = on p
  tokens_alike b c h on (w ∷ ws) [] = past_alike b c (tokens_at (w ∷ ws) c >>= h) (tokens_at (w ∷ ws) b >>= g)
      (tokens_past (w ∷ ws) b)
  tokens_alike b c h on (w ∷ ws) (t ∷ p) = alike_by p b c w ws t h (tokens_alike b c h on ws p) (same_what t.what w)

-- ---- what is known with tokens

pub same_measure : (w : Measured) → SameMeasure w w
same_measure w = (refl, (refl, (refl, (refl, refl))))

pub agree_same : (us vs : List Token) (a : Measures) → AreMeasured a (us ++ vs) → Agree us a a
agree_same [] vs a h = tt
agree_same (u ∷ us) vs [] h = absurd h
agree_same (u ∷ us) vs (w ∷ a) h = (same_measure w, agree_same us vs a h.1)

pub agree_more : (us : List Token) (a b x y : Measures) → Agree us a b → Agree us (a ++ x) (b ++ y)
agree_more [] a b x y h = tt
agree_more (u ∷ us) [] b x y h = absurd h
agree_more (u ∷ us) (w ∷ a) [] x y h = absurd h
agree_more (u ∷ us) (w ∷ a) (v ∷ b) x y h = (h.0, agree_more us a b x y h.1)

pub agree_join : (a x y : Measures) (us vs : List Token) → AreMeasured a us → Agree vs x y →
    Agree (us ++ vs) (a ++ x) (a ++ y)
agree_join [] x y [] vs are h = h
agree_join [] x y (u ∷ us) vs are h = absurd are
agree_join (w ∷ a) x y [] vs are h = absurd are
agree_join (w ∷ a) x y (u ∷ us) vs are h = (same_measure w, agree_join a x y us vs are.1 h)

pub agree_begun : (at be : Pos) (us : List Token) (a b : Measures) → Agree us a b → Agree us (begun at a) (begun be b)
agree_begun at be [] a b h = tt
agree_begun at be (u ∷ us) [] b h = absurd h
agree_begun at be (u ∷ us) (w ∷ a) [] h = absurd h
agree_begun at be (u ∷ us) (w ∷ a) (v ∷ b) h = h

agree_begun_left : (at : Pos) (us : List Token) (a b : Measures) → Agree us a b → Agree us (begun at a) b
agree_begun_left at [] a b h = tt
agree_begun_left at (u ∷ us) [] b h = absurd h
agree_begun_left at (u ∷ us) (w ∷ a) [] h = absurd h
agree_begun_left at (u ∷ us) (w ∷ a) (v ∷ b) h = h

agree_begun_right : (at : Pos) (us : List Token) (a b : Measures) → Agree us a b → Agree us a (begun at b)
agree_begun_right at [] a b h = tt
agree_begun_right at (u ∷ us) [] b h = absurd h
agree_begun_right at (u ∷ us) (w ∷ a) [] h = absurd h
agree_begun_right at (u ∷ us) (w ∷ a) (v ∷ b) h = h

-- with no tokens nothing is known
pub agrees_empty : {A : Type 0} (kind : Kind A) (b : List Token) (r s : Read A) → Agrees kind [] b r s
agrees_empty kind b (Err f) s = tt
agrees_empty kind b (Ok x) (Err f) = tt
agrees_empty kind b (Ok x) (Ok y) = λ h. tt

pub agrees_fault : {A : Type 0} (kind : Kind A) (p b : List Token) (f : Fault) (r : Read A) →
    Agrees kind p b r (fault_of f)
agrees_fault kind p b f (Err g) = tt
agrees_fault kind p b f (Ok x) = tt

-- what is in front of tokens, and no shorter than these
pub covered : (p b front behind : List Token) → p ++ b ≡ front ++ behind → length behind ≤ length b →
    (m : List Token) × (front ≡ p ++ m)
covered [] b front behind e h = (front, refl)
covered (t ∷ p) b [] behind e h =
    let l = ap length e in let n = length-append p b in
    absurd (let wrong : ⊥ = omega (arith, l, n, h) in wrong)
covered (t ∷ p) b (u ∷ front) behind e h =
    let rest : p ++ b ≡ front ++ behind = cc in let first : t ≡ u = cc in
    let m = covered p b front behind rest h in
    (m.0, subst (λ v. u ∷ front ≡ v ∷ p ++ m.0) (sym first) (ap (λ ts. u ∷ ts) m.1))

-- what is in front of tokens behind which some of them are left
pub cut : (p b front q : List Token) → p ++ b ≡ front ++ (q ++ b) → p ≡ front ++ q
cut p b [] q e = same_front p q b e
  where
    same_front : (p q b : List Token) → p ++ b ≡ q ++ b → p ≡ q
    same_front [] [] b e = refl
    same_front [] (u ∷ q) b e =
        let l = ap length e in let n = length-append q b in
        absurd (let wrong : ⊥ = omega (arith, l, n) in wrong)
    same_front (t ∷ p) [] b e =
        let l = ap length e in let n = length-append p b in
        absurd (let wrong : ⊥ = omega (arith, l, n) in wrong)
    same_front (t ∷ p) (u ∷ q) b e =
        let rest : p ++ b ≡ q ++ b = cc in let first : t ≡ u = cc in
        subst (λ v. t ∷ p ≡ v ∷ q) first (ap (λ ts. t ∷ ts) (same_front p q b rest))
cut [] b (u ∷ front) q e =
    let l = ap length e in let n = length-append front (q ++ b) in let m = length-append q b in
    absurd (let wrong : ⊥ = omega (arith, l, n, m) in wrong)
cut (t ∷ p) b (u ∷ front) q e =
    let rest : p ++ b ≡ front ++ (q ++ b) = cc in let first : t ≡ u = cc in
    subst (λ v. t ∷ p ≡ v ∷ front ++ q) first (ap (λ ts. t ∷ ts) (cut p b front q rest))

-- the same tree
pub agrees_same : {A : Type 0} (P : Passing) (kind : Kind A) (p b : List Token) (x : A) (behind other : List Token) →
    Whole P kind x (p ++ b) behind → Agrees kind p b (read_of x behind) (read_of x other)
agrees_same P kind p b x behind other w =
    λ h. let m = covered p b w.front behind w.same h in
    agree_same p m.0 (kind.words x) (subst (AreMeasured (kind.words x)) m.1 w.is.words)

pub agrees_is : {A : Type 0} (kind : Kind A) (p b : List Token) (x : A) (front behind other : List Token) →
    p ++ b ≡ front ++ behind → AreMeasured (kind.words x) front → Agrees kind p b (read_of x behind) (read_of x other)
agrees_is kind p b x front behind other same are =
    λ h. let m = covered p b front behind same h in
    agree_same p m.0 (kind.words x) (subst (AreMeasured (kind.words x)) m.1 are)

-- ---- trees that begin alike

extends_agree : (us : List Token) (a b c d : Measures) → Agree us a b → Extends a c → Extends b d → Agree us c d
extends_agree us a b c d h (x, inl e) (y, inl f) =
    subst (λ ws. Agree us ws d) (sym e) (subst (Agree us (a ++ x)) (sym f) (agree_more us a b x y h))
extends_agree us a b c d h (x, inr w) (y, inl f) =
    subst (λ ws. Agree us ws d) (sym w.1) (subst (Agree us (begun w.0 (a ++ x))) (sym f)
    (agree_begun_left w.0 us (a ++ x) (b ++ y) (agree_more us a b x y h)))
extends_agree us a b c d h (x, inl e) (y, inr v) =
    subst (λ ws. Agree us ws d) (sym e) (subst (Agree us (a ++ x)) (sym v.1)
    (agree_begun_right v.0 us (a ++ x) (b ++ y) (agree_more us a b x y h)))
extends_agree us a b c d h (x, inr w) (y, inr v) =
    subst (λ ws. Agree us ws d) (sym w.1) (subst (Agree us (begun w.0 (a ++ x))) (sym v.1)
    (agree_begun w.0 v.0 us (a ++ x) (b ++ y) (agree_more us a b x y h)))

pub agrees_longer : {B : Type 0} (other : Kind B) (p b : List Token) (u v : Measures) → Agree p u v → (r s : Read B)
    → ((z : B × List Token) → r ≡ Ok z → Extends u (other.words z.0))
    → ((z : B × List Token) → s ≡ Ok z → Extends v (other.words z.0)) → Agrees other p b r s
agrees_longer other p b u v h (Err f) s one two = tt
agrees_longer other p b u v h (Ok x) (Err f) one two = tt
agrees_longer other p b u v h (Ok x) (Ok y) one two =
    λ short. let k = one x refl in let l = two y refl in
    extends_agree p u v (other.words x.0) (other.words y.0) h k l

pub bind_agrees : {A B : Type 0} (kind : Kind A) (other : Kind B) (p b c : List Token) (f g : A × List Token → Read B)
    → ((x : A × List Token) (z : B × List Token) → f x ≡ Ok z → Extends (kind.words x.0) (other.words z.0))
    → ((x : A × List Token) (z : B × List Token) → g x ≡ Ok z → Extends (kind.words x.0) (other.words z.0))
    → (r s : Read A) → Alike b c r s → Agrees kind p b r s
    → ((x : A) (q : List Token) → r ≡ Ok (x, q ++ b) → Agrees other p b (f (x, q ++ b)) (g (x, q ++ c)))
    → Agrees other p b (r >>= f) (s >>= g)
bind_agrees kind other p b c f g grow more (Err h) s alike agree on = tt
bind_agrees kind other p b c f g grow more (Ok x) (Err h) alike agree on = agrees_fault other p b h (f x)
bind_agrees kind other p b c f g grow more (Ok x) (Ok y) alike agree on =
    elim alike [
      | inl short ↦ agrees_longer other p b (kind.words x.0) (kind.words y.0) (agree short) (f x) (g y) (grow x) (more y)
      | inr w ↦
          subst (λ t. Agrees other p b (f (x.0, t)) (g y)) (sym w.same)
          (subst (λ v. Agrees other p b (f (x.0, w.between ++ b)) (v >>= g)) (sym w.there)
          (on x.0 w.between (ap (λ t. read_of x.0 t) w.same)))
    ]

-- a tree is built of what is read, with others before it
pub built_agrees : {B C : Type 0} (kind : Kind B) (other : Kind C) (front q p b : List Token) → p ≡ front ++ q
    → (pre : Measures) → AreMeasured pre front → (build : B → C) → Carries kind other pre build → (r s : Read B)
    → ((y : B × List Token) → r ≡ Ok y → kind.good y.0 ≡ true)
    → ((y : B × List Token) → s ≡ Ok y → kind.good y.0 ≡ true)
    → Agrees kind q b r s → Agrees other p b (r >>= built_at build) (s >>= built_at build)
built_agrees kind other front q p b same pre are build carries (Err f) s one two agree = tt
built_agrees kind other front q p b same pre are build carries (Ok x) (Err f) one two agree = tt
built_agrees kind other front q p b same pre are build carries (Ok x) (Ok y) one two agree =
    λ short.
    subst (λ ts. Agree ts (other.words (build x.0)) (other.words (build y.0))) (sym same)
    (subst (λ ws. Agree (front ++ q) ws (other.words (build y.0))) (sym (carries.words x.0 (one x refl)))
    (subst (λ ws. Agree (front ++ q) (pre ++ kind.words x.0) ws) (sym (carries.words y.0 (two y refl)))
    (agree_join pre (kind.words x.0) (kind.words y.0) front q are (agree short))))

-- what is read has its form
pub tells_good : {A : Type 0} (P : Passing) (kind : Kind A) (ts : List Token) (r : Read A) → Tells P kind ts r →
    (y : A × List Token) → r ≡ Ok y → kind.good y.0 ≡ true
tells_good P kind ts r h y e = let w = subst (Tells P kind ts) e h in w.is.good

-- what is read stands in front
pub tells_cut : {A : Type 0} (P : Passing) (kind : Kind A) (p b : List Token) (r : Read A) → Tells P kind (p ++ b) r →
    (x : A) (q : List Token) → r ≡ Ok (x, q ++ b) → (front : List Token) × (p ≡ front ++ q) × Is kind x front
tells_cut P kind p b r h x q e =
    let w = subst (Tells P kind (p ++ b)) e h in
    (w.front, cut p b w.front q w.same, w.is)

-- what is built extends what is before it
pub built_extends : {B C : Type 0} (kind : Kind B) (other : Kind C) (pre : Measures) (build : B → C) →
    ((y : B) → Extends pre (other.words (build y))) → (r : Read B) (z : C × List Token) → (r >>= built_at build) ≡ Ok z →
    Extends pre (other.words z.0)
built_extends kind other pre build on (Ok y) z e =
    let same : build y.0 ≡ z.0 = cc in subst (λ t. Extends pre (other.words t)) same (on y.0)
built_extends kind other pre build on (Err f) z e = absurd cc
